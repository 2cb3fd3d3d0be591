-- Trees that are whole, by the counts of their children alone.
--
--   Counts todo nodes left   read from the left, the nodes stand for `todo` that are to come, and `left` are then still to come
use Rattle.std.proofs.Common.{◌≡◌, ℕ, zero, suc, ◌+◌, List, [], ◌∷◌, ◌++◌, length, replicate, ap, subst, ◌∙◌, length-append}
use Rattle.std.proofs.lemmas.List.{length-replicate}
use Rattle.seq_model.specs.Trees.{arity, Fills}
use Rattle.seq_model.specs.declared.tree.Node.{Node}

abbrev pub Counts : ℕ → List Node → ℕ → Type 0
Counts todo [] left = todo ≡ left
Counts zero (node ∷ nodes) left = ⊥
Counts (suc todo) (node ∷ nodes) left = Counts (arity node + todo) nodes left

pub counts_of_fills : (most : ℕ) (todo : List ℕ) (nodes : List Node) (left : List ℕ) → Fills most todo nodes left → Counts (length todo) nodes (length left)
counts_of_fills most todo [] left f = ap length f
counts_of_fills most [] (n ∷ nodes) left f = absurd f
counts_of_fills most (d ∷ todo) (n ∷ nodes) left f =
    let many : length (replicate (arity n) (d + 1) ++ todo) ≡ arity n + length todo = length-append (replicate (arity n) (d + 1)) todo ∙ ap (λ k. k + length todo) (length-replicate (arity n) (d + 1)) in
    subst (λ k. Counts k nodes (length left)) many (counts_of_fills most (replicate (arity n) (d + 1) ++ todo) nodes left f.1)
