-- The trail goes back to what the next open node needs, and no other one misses what is cut off.
use Rattle.std.proofs.Common.{◌≡◌, ℕ, ◌≤◌, List, [], ◌∷◌, ◌++◌, length, map, take, refl, sym, ap, subst, ◌∙◌, arith, length-append}
use Rattle.std.proofs.lemmas.List.{take-append-le, take-take, length-take-le}
use Rattle.std.specs.Option.{option_to_list}
use Rattle.search_agenda.specs.Kept.{open_of, AreNested}
use Rattle.search_agenda.specs.declared.agenda.Waiting.{Waiting}
use Rattle.seq_model.specs.declared.tree.Choice.{Choice}

nested_weaker : (a b : ℕ) (waiting : List Waiting) → a ≤ b → AreNested a waiting → AreNested b waiting
nested_weaker a b [] h n = tt
nested_weaker a b (w ∷ waiting) h n = (omega (arith, h, n.0), n.1)

same_paths : (trail more : List Choice) (d : ℕ) (waiting : List Waiting) → d ≤ length trail → AreNested d waiting → map (open_of trail) waiting ≡ map (open_of (take d trail ++ more)) waiting
same_paths trail more d [] h n = refl
same_paths trail more d (w ∷ waiting) h n =
    let front : take w.depth (take d trail ++ more) ≡ take w.depth trail = take-append-le w.depth (take d trail) more (omega (arith, n.0, length-take-le d trail h)) ∙ take-take w.depth d trail n.0 in
    let here : open_of trail w ≡ open_of (take d trail ++ more) w = ap (λ p. record { number = w.number; path = p ++ option_to_list w.choice }) (sym front) in
    ap (λ o. o ∷ map (open_of trail) waiting) here
    ∙ ap (λ t. open_of (take d trail ++ more) w ∷ t) (same_paths trail more d waiting h (nested_weaker w.depth d waiting n.0 n.1))

pub record Popped (trail now : List Choice) (waiting left : List Waiting) (w : Waiting) : Type 0 where
  pub nested : AreNested (length now) left
  pub open_nodes : map (open_of trail) waiting ≡ record { number = w.number; path = now } ∷ map (open_of now) left

pub popped : (trail now : List Choice) (waiting left : List Waiting) (w : Waiting) → waiting ≡ w ∷ left → now ≡ take w.depth trail ++ option_to_list w.choice
    → AreNested (length trail) waiting → Popped trail now waiting left w
popped trail now waiting left w e new n = record {
  nested = nested_weaker w.depth (length now) left (omega (arith, ap length new, length-append (take w.depth trail) (option_to_list w.choice), length-take-le w.depth trail both.0)) both.1;
  open_nodes = ap (map (open_of trail)) e
      ∙ (ap (λ p. record { number = w.number; path = p } ∷ map (open_of trail) left) (sym new)
      ∙ ap (λ t. record { number = w.number; path = now } ∷ t) (same_paths trail (option_to_list w.choice) w.depth left both.0 both.1 ∙ ap (λ p. map (open_of p) left) (sym new)));
}
  where
    both : (w.depth ≤ length trail) × AreNested w.depth left
    both = subst (AreNested (length trail)) e n
