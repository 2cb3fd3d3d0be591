-- First places: where on a path an order stands first, kept beside the path and never undone.
use Rattle.std.proofs.Common.{◌≡◌, ◌≢◌, ◌↔◌, ℕ, ◌+◌, ◌*◌, ◌≤◌, ◌<◌, List, [], ◌∷◌, ◌++◌, ◌⊎◌, inl, inr, length, get_or, set, take, Bool, true, false, ltb, Contains, refl, sym, ap, subst, ◌∙◌, arith, length-append}
use Rattle.std.proofs.lemmas.Bool.Decides.{nat_tests}
use Rattle.std.proofs.lemmas.List.{length-take, get_or-take, get_or_append_left, get_or_default, get_or-set_same, get_or-set_other}
use Rattle.seq_model.specs.declared.tree.Choice.{Choice}
use Rattle.seq_model.specs.declared.tree.Choice.TheVariants as Choices
use Rattle.seq_model.specs.declared.tree.Contact.{Contact}
use Rattle.seq_model.specs.declared.tree.Dir.{Dir}
use Rattle.cert_checker.specs.Trails.{IsStamped, stamp_at}

-- the test, and what it says
pub there : (path : List Choice) (stamps : List ℕ) (i j : ℕ) (d : Choice) → i < 16 → j < 16 → IsStamped path stamps → Contains path (Choices.Before i j)
    → (stamp_at stamps i j < length path) × (get_or path (stamp_at stamps i j) d ≡ Choices.Before i j)
there path stamps i j d k l s c =
    let r = s i j c.0 d k l c.1 (get_or_default path c.0 d (Choices.Before i j) c.1 ∙ c.2) in
    (omega (arith, r.0, c.1), r.1)

pub is_there : (path : List Choice) (stamps : List ℕ) (i j : ℕ) (d : Choice) → stamp_at stamps i j < length path → get_or path (stamp_at stamps i j) d ≡ Choices.Before i j → Contains path (Choices.Before i j)
is_there path stamps i j d h e = (stamp_at stamps i j, h, get_or_default path (stamp_at stamps i j) (Choices.Before i j) d h ∙ e)

-- a path that is cut back needs no other stamps
pub cut_back : (path : List Choice) (stamps : List ℕ) (k : ℕ) → IsStamped path stamps → IsStamped (take k path) stamps
cut_back path stamps k s i j q d a b within at =
    let len = length-take k path in
    let below : q < k = omega (arith, within, len) in
    let inside : q < length path = omega (arith, within, len) in
    let r = s i j q d a b inside (sym (get_or-take k path q d below) ∙ at) in
    (r.0, get_or-take k path (stamp_at stamps i j) d (omega (arith, r.0, below)) ∙ r.1)

-- ---- one choice more
pair_of : (a b i j : ℕ) → Choices.Before a b ≡ Choices.Before i j → (a ≡ i) × (b ≡ j)
pair_of a b i j e = (cc, cc)

last_or_before : (path : List Choice) (x : Choice) (q : ℕ) (b : Bool) → ltb q (length path) ≡ b → q < length (path ++ x ∷ []) → (q < length path) ⊎ (q ≡ length path)
last_or_before path x q true e within = inl (grind (arith, nat_tests, e))
last_or_before path x q false e within =
    let len = length-append path (x ∷ []) in
    let above : length path ≤ q = grind (arith, nat_tests, e) in
    inr (omega (arith, within, len, above))

at_last : (path : List Choice) (x d : Choice) → get_or (path ++ x ∷ []) (length path) d ≡ x
at_last [] x d = refl
at_last (y ∷ path) x d = at_last path x d

-- any choice that is no order of such objects, or an order that stands on the path already, needs no stamp
pub same_stamps : (path : List Choice) (stamps : List ℕ) (x : Choice) → IsStamped path stamps
    → ((i j : ℕ) → i < 16 → j < 16 → x ≡ Choices.Before i j → Contains path (Choices.Before i j)) → IsStamped (path ++ x ∷ []) stamps
same_stamps path stamps x s old i j q d a b within at = by (last_or_before path x q (ltb q (length path)) refl within)
  where
    by : ((q < length path) ⊎ (q ≡ length path)) → (stamp_at stamps i j ≤ q) × (get_or (path ++ x ∷ []) (stamp_at stamps i j) d ≡ Choices.Before i j)
    by (inl h) =
        let r = s i j q d a b h (sym (get_or_append_left path (x ∷ []) d q h) ∙ at) in
        (r.0, get_or_append_left path (x ∷ []) d (stamp_at stamps i j) (omega (arith, r.0, h)) ∙ r.1)
    by (inr e) =
        let is : x ≡ Choices.Before i j = sym (at_last path x d) ∙ ap (λ n. get_or (path ++ x ∷ []) n d) (sym e) ∙ at in
        let r = there path stamps i j d a b s (old i j a b is) in
        (omega (arith, r.0, e), get_or_append_left path (x ∷ []) d (stamp_at stamps i j) r.0 ∙ r.1)

-- another order has another place among the stamps
other_place : (i j a b : ℕ) → i < 16 → j < 16 → a < 16 → b < 16 → (Choices.Before i j ≡ Choices.Before a b → ⊥) → 16 * i + j ≢ 16 * a + b
other_place i j a b k l m n other e =
    let first : i ≡ a = omega (arith, e, l, n) in
    let second : j ≡ b = omega (arith, e, l, n) in
    other (ap (λ x. Choices.Before x j) first ∙ ap (Choices.Before a) second)

-- an order that doesn't stand there yet is stamped with its place
pub new_stamp : (path : List Choice) (stamps now : List ℕ) (a b : ℕ) → a < 16 → b < 16 → length stamps ≡ 256 → IsStamped path stamps → (Contains path (Choices.Before a b) → ⊥)
    → now ≡ set stamps (16 * a + b) (length path) → IsStamped (path ++ Choices.Before a b ∷ []) now
new_stamp path stamps now a b m n long s none is i j q d k l within at = by (last_or_before path (Choices.Before a b) q (ltb q (length path)) refl within)
  where
    by : ((q < length path) ⊎ (q ≡ length path)) → (stamp_at now i j ≤ q) × (get_or (path ++ Choices.Before a b ∷ []) (stamp_at now i j) d ≡ Choices.Before i j)
    by (inl h) =
        let old : get_or path q d ≡ Choices.Before i j = sym (get_or_append_left path (Choices.Before a b ∷ []) d q h) ∙ at in
        let r = s i j q d k l h old in
        let other = other_place i j a b k l m n (λ e. none (q, h, get_or_default path q (Choices.Before a b) d h ∙ old ∙ e)) in
        let same : stamp_at now i j ≡ stamp_at stamps i j = ap (λ t. get_or t (16 * i + j) 0) is ∙ get_or-set_other stamps (16 * a + b) (16 * i + j) (length path) 0 other in
        (omega (arith, r.0, same), ap (λ n. get_or (path ++ Choices.Before a b ∷ []) n d) same ∙ get_or_append_left path (Choices.Before a b ∷ []) d (stamp_at stamps i j) (omega (arith, r.0, h)) ∙ r.1)
    by (inr e) =
        let is_it : Choices.Before a b ≡ Choices.Before i j = sym (at_last path (Choices.Before a b) d) ∙ ap (λ n. get_or (path ++ Choices.Before a b ∷ []) n d) (sym e) ∙ at in
        let numbers = pair_of a b i j is_it in
        let here : stamp_at now a b ≡ length path = ap (λ t. get_or t (16 * a + b) 0) is ∙ get_or-set_same stamps (16 * a + b) (length path) 0 (omega (arith, long, m, n)) in
        let place : stamp_at now i j ≡ length path = ap (λ n. stamp_at now n j) (sym numbers.0) ∙ ap (λ n. stamp_at now a n) (sym numbers.1) ∙ here in
        (omega (arith, place, e), ap (λ n. get_or (path ++ Choices.Before a b ∷ []) n d) place ∙ at_last path (Choices.Before a b) d ∙ is_it)

pub side_stamps : (path : List Choice) (stamps : List ℕ) (contact : Contact) (dir : Dir) → IsStamped path stamps → IsStamped (path ++ Choices.Side contact dir ∷ []) stamps
side_stamps path stamps contact dir s = same_stamps path stamps (Choices.Side contact dir) s (λ i j k l e. absurd cc)

pub far_stamps_i : (path : List Choice) (stamps : List ℕ) (i j : ℕ) → 16 ≤ i → IsStamped path stamps → IsStamped (path ++ Choices.Before i j ∷ []) stamps
far_stamps_i path stamps i j far s = same_stamps path stamps (Choices.Before i j) s (λ a b k l e. absurd (omega (arith, far, k, (pair_of i j a b e).0)))

pub far_stamps_j : (path : List Choice) (stamps : List ℕ) (i j : ℕ) → 16 ≤ j → IsStamped path stamps → IsStamped (path ++ Choices.Before i j ∷ []) stamps
far_stamps_j path stamps i j far s = same_stamps path stamps (Choices.Before i j) s (λ a b k l e. absurd (omega (arith, far, l, (pair_of i j a b e).1)))

pub known_stamps : (path : List Choice) (stamps : List ℕ) (i j : ℕ) → Contains path (Choices.Before i j) → IsStamped path stamps → IsStamped (path ++ Choices.Before i j ∷ []) stamps
known_stamps path stamps i j c s = same_stamps path stamps (Choices.Before i j) s (λ a b k l e. subst (Contains path) e c)

-- ---- as the test finds it
pub stamp_over : (path : List Choice) (stamps : List ℕ) (i j place : ℕ) → i < 16 → j < 16 → IsStamped path stamps → place ≡ stamp_at stamps i j → length path ≤ place → Contains path (Choices.Before i j) → ⊥
stamp_over path stamps i j place k l s is over c = let r = there path stamps i j (Choices.Before i j) k l s c in omega (arith, r.0, is, over)

pub stamp_decides : (path : List Choice) (stamps : List ℕ) (i j place : ℕ) (d : Choice) (P : Type 0) → i < 16 → j < 16 → IsStamped path stamps → place ≡ stamp_at stamps i j → place < length path
    → (P ↔ (get_or path place d ≡ Choices.Before i j)) → P ↔ Contains path (Choices.Before i j)
stamp_decides path stamps i j place d P k l s is within test = (
  λ p. is_there path stamps i j d (subst (λ n. n < length path) is within) (subst (λ n. get_or path n d ≡ Choices.Before i j) is (test.0 p)),
  λ c. test.1 (subst (λ n. get_or path n d ≡ Choices.Before i j) (sym is) (there path stamps i j d k l s c).1),
)
