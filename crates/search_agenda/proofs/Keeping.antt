-- One key more, or less.
use Rattle.std.proofs.Common.{◌≡◌, ℕ, List, [], ◌∷◌, ◌++◌, reverse, Option, Some, None, refl, sym, ap, subst, ◌∙◌, inl, inr}
use Rattle.std.specs.Prelude.{IsSome, MatchOption}
use Rattle.std.proofs.lemmas.List.{reverse-append}
use Rattle.integer_laws.specs.Members.{In}
use Rattle.slab.specs.Slab.{Slab, get, Updates}
use Rattle.search_agenda.specs.Kept.{value_or, values_at, AreKept}
use Rattle.search_agenda.specs.declared.agenda.Waiting.{Waiting}

abbrev nothing : Option Waiting
nothing = None

same_kept : (s t : Slab Waiting) (key : ℕ) (slot : Option Waiting) (keys : List ℕ) → Updates s t key slot → (In key keys → ⊥) → AreKept s keys → AreKept t keys
same_kept s t key slot [] u never kept = tt
same_kept s t key slot (k ∷ keys) u never kept = (
  subst IsSome (sym (u.others k (λ e. never (inl (sym e))))) kept.0,
  kept.1,
  same_kept s t key slot keys u (λ i. never (inr i)) kept.2,
)

same_values : (s t : Slab Waiting) (key : ℕ) (slot : Option Waiting) (keys : List ℕ) → Updates s t key slot → (In key keys → ⊥) → values_at t keys ≡ values_at s keys
same_values s t key slot [] u never = refl
same_values s t key slot (k ∷ keys) u never =
    ap (λ o. value_or o ∷ values_at t keys) (u.others k (λ e. never (inl (sym e)))) ∙ ap (λ l. value_or (get s k) ∷ l) (same_values s t key slot keys u (λ i. never (inr i)))

vacant : (s : Slab Waiting) (key : ℕ) (keys : List ℕ) → get s key ≡ None → AreKept s keys → In key keys → ⊥
vacant s key [] none kept i = i
vacant s key (k ∷ keys) none kept (inl e) = empty (get s k) kept.0 (ap (get s) (sym e) ∙ none)
  where
    empty : (o : Option Waiting) → IsSome o → o ≡ None → ⊥
    empty o some e = never (subst IsSome e some)
      where
        never : IsSome nothing → ⊥
        never h = cc
vacant s key (k ∷ keys) none kept (inr i) = vacant s key keys none kept.2 i

pub record Pushed (t : Slab Waiting) (keys new : List ℕ) (w : Waiting) (s : Slab Waiting) : Type 0 where
  pub kept : AreKept t (reverse new)
  pub values : values_at t (reverse new) ≡ w ∷ values_at s (reverse keys)

pub pushed : (s t : Slab Waiting) (key : ℕ) (w : Waiting) (keys new : List ℕ) → Updates s t key (Some w) → get s key ≡ None → AreKept s (reverse keys) → new ≡ keys ++ key ∷ [] → Pushed t keys new w s
pushed s t key w keys new u none kept e = record {
  kept = subst (AreKept t) (sym (turned e)) (subst IsSome (sym u.changed) yes, never, same_kept s t key (Some w) (reverse keys) u never kept);
  values = ap (values_at t) (turned e) ∙ (ap (λ o. value_or o ∷ values_at t (reverse keys)) u.changed ∙ ap (λ l. w ∷ l) (same_values s t key (Some w) (reverse keys) u never));
}
  where
    turned : new ≡ keys ++ key ∷ [] → reverse new ≡ key ∷ reverse keys
    turned e = ap reverse e ∙ reverse-append keys (key ∷ [])

    never : In key (reverse keys) → ⊥
    never = vacant s key (reverse keys) none kept

    yes : IsSome (Some w)
    yes = refl

pub record Taken (s t : Slab Waiting) (keys left : List ℕ) (found : Option Waiting) : Type 0 where
  pub kept : AreKept t (reverse left)
  pub some : IsSome found
  pub values : MatchOption found (values_at s (reverse keys) ≡ []) (λ w. values_at s (reverse keys) ≡ w ∷ values_at t (reverse left))

pub taken : (s t : Slab Waiting) (key : ℕ) (found : Option Waiting) (keys left : List ℕ) → Updates s t key None → found ≡ get s key → AreKept s (reverse keys) → keys ≡ left ++ key ∷ [] → Taken s t keys left found
taken s t key found keys left u is kept e = record {
  kept = same_kept s t key None (reverse left) u both.1 both.2;
  some = subst IsSome (sym is) both.0;
  values = by found is (subst IsSome (sym is) both.0);
}
  where
    turned : reverse keys ≡ key ∷ reverse left
    turned = ap reverse e ∙ reverse-append left (key ∷ [])

    both : IsSome (get s key) × (In key (reverse left) → ⊥) × AreKept s (reverse left)
    both = subst (AreKept s) turned kept

    by : (o : Option Waiting) → o ≡ get s key → IsSome o → MatchOption o (values_at s (reverse keys) ≡ []) (λ w. values_at s (reverse keys) ≡ w ∷ values_at t (reverse left))
    by None o some = absurd (never some)
      where
        never : IsSome nothing → ⊥
        never h = cc
    by (Some w) o some = ap (values_at s) turned ∙ (ap (λ x. value_or x ∷ values_at s (reverse left)) (sym o) ∙ ap (λ l. w ∷ l) (sym (same_values s t key None (reverse left) u both.1)))

pub same_slots : (s : Slab Waiting) (capacity : ℕ) (keys : List ℕ) → AreKept s keys → AreKept (record s { capacity = capacity }) keys
same_slots s capacity [] kept = tt
same_slots s capacity (k ∷ keys) kept = (kept.0, kept.1, same_slots s capacity keys kept.2)

pub not_none : (found : Option Waiting) (A : Type 0) → IsSome found → MatchOption found A (λ w. Unit {0})
not_none (Some w) A some = tt
not_none None A some = absurd (never some)
  where
    never : IsSome nothing → ⊥
    never h = cc
