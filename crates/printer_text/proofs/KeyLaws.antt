-- Of keys that ascend the first is the least.
use Rattle.std.proofs.Common.{◌≡◌, ℕ, Bool, true, false, cond, List, [], ◌∷◌, Option, Some, None, String, Global, Less, Greater, refl, ap, ◌∙◌, subst, string_bytes}
use Rattle.std.proofs.lemmas.Cmp.{nat_list_cmp_total}
use Rattle.std.specs.Cmp.Lexicographic.{slice_cmp}
use Rattle.std.specs.List.{AllByRecursion}
use Rattle.std.specs.List.Sorted.{IsStrictlySortedBy}
use Rattle.std.specs.Map.{keys_of}
use Rattle.std.specs.Ordering.{nat_cmp, is_lt, ordering_reverse}
use Rattle.std.specs.String.{string_cmp}
use Rattle.toml.specs.View.{members_view}
use Rattle.toml.specs.declared.value.Value.{Value}
use Rattle.printer_text.specs.declared.Key.{Key}
use Rattle.printer_text.specs.Tables.{is_named, lesser, first_other, next_other}

abbrev Entry : Type 0
Entry = String Global × Value

abbrev IsBelow : List ℕ → List ℕ → Type 0
IsBelow a b = slice_cmp nat_cmp a b ≡ Less

-- what is below both is below the lesser of them
below_lesser : (k text : List ℕ) (o : Option (List ℕ)) → IsBelow k text → ((other : List ℕ) → o ≡ Some other → IsBelow k other) → IsBelow k (lesser text o)
below_lesser k text None h all = h
below_lesser k text (Some other) h all = by (is_lt (slice_cmp nat_cmp other text))
  where
    by : (b : Bool) → IsBelow k (cond b other text)
    by true = all other refl
    by false = h

-- an other key is above what all keys are above
above : (keys : List Key) (k : String Global) (es : List Entry) → AllByRecursion (λ y. string_cmp k y ≡ Less) (keys_of es) → (other : List ℕ)
    → first_other keys (members_view es) ≡ Some other → IsBelow (string_bytes k) other
above keys k [] h other e = absurd cc
above keys k (x ∷ es) h other e = by (above keys k es h.1) (is_named keys (string_bytes x.0)) e
  where
    by : ((o : List ℕ) → first_other keys (members_view es) ≡ Some o → IsBelow (string_bytes k) o) → (b : Bool) → cond {A = Option (List ℕ)} b (first_other keys (members_view es)) (Some (lesser (string_bytes x.0) (first_other keys (members_view es)))) ≡ Some other → IsBelow (string_bytes k) other
    by rest true f = rest other f
    by rest false f =
        let same : lesser (string_bytes x.0) (first_other keys (members_view es)) ≡ other = cc in
        subst (IsBelow (string_bytes k)) same (below_lesser (string_bytes k) (string_bytes x.0) (first_other keys (members_view es)) h.0 rest)

-- a text below the other one is the lesser
lesser_is : (text : List ℕ) (o : Option (List ℕ)) → ((other : List ℕ) → o ≡ Some other → IsBelow text other) → lesser text o ≡ text
lesser_is text None h = refl
lesser_is text (Some other) h =
    let turned : slice_cmp nat_cmp other text ≡ Greater = nat_list_cmp_total.antisymm other text ∙ ap ordering_reverse (h other refl) in
    rw turned refl

pub first_is_next : (keys : List Key) (es : List Entry) → IsStrictlySortedBy string_cmp (keys_of es) → first_other keys (members_view es) ≡ next_other keys (members_view es)
unfolding IsStrictlySortedBy
first_is_next keys [] h = refl
first_is_next keys (x ∷ es) h = by (first_is_next keys es h.1) (is_named keys (string_bytes x.0))
  where
    by : first_other keys (members_view es) ≡ next_other keys (members_view es) → (b : Bool)
        → cond {A = Option (List ℕ)} b (first_other keys (members_view es)) (Some (lesser (string_bytes x.0) (first_other keys (members_view es)))) ≡ cond {A = Option (List ℕ)} b (next_other keys (members_view es)) (Some (string_bytes x.0))
    by rest true = rest
    by rest false = ap Some (lesser_is (string_bytes x.0) (first_other keys (members_view es)) (above keys x.0 es h.0))
