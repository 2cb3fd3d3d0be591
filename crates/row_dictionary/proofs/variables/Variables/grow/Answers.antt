use Rattle.std.proofs.Common.{rules, ◌≡◌, ◌∙◌, ◌+◌, ◌++◌, ◌∷◌, [], ap, ap₂, sym, subst, length, List, ℕ}
use Rattle.row_dictionary.specs.Seen.{IsPlaced}
use Rattle.row_dictionary.proofs.Seats.{grown_places}
use Rattle.row_dictionary.proofs.variables.Variables.grow.Goals as goal

pub invariant_of-self-2 : goal.invariant_of-self-2
invariant_of-self-2 c =
    let basic = c.self.inside.basic.items in
    let free = c.self.inside.free.items in
    let places = c.self.inside.places.items in
    let ps : c.push.new.self.items ≡ places ++ length basic ∷ [] = c.in_ok-push.ensures.items ∙ ap (λ (n : ℕ). places ++ n ∷ []) (search rules) in
    let bs : c.push-2.new.self.items ≡ basic ++ (length basic + length free) ∷ [] = c.in_ok-push-2.ensures.items ∙ ap₂ (λ (b : List ℕ) (n : ℕ). b ++ n ∷ []) c.reserve.ensures.items (search rules) in
    subst (λ (t : List ℕ). IsPlaced t c.push-2.new.self.items free) (sym ps)
    (subst (λ (t : List ℕ). IsPlaced (places ++ length basic ∷ []) t free) (sym bs) (grown_places places basic free c.self.invariant))
