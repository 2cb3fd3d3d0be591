use Rattle.std.proofs.Common.{[], ◌∷◌, pos, negsuc, ◌≤ℤ◌, ◌<◌, arith, lit<}
use Rattle.std.proofs.lemmas.Int.{ints}
use Rattle.std.proofs.lemmas.List.Elements.{All-get_or}
use Rattle.examples_model.proofs.systems.two_cubes_at_45.Goals as goal

pub returns-clause-without_row_2 : goal.returns-clause-without_row_2
returns-clause-without_row_2 c = λ k. absurd (omega (arith, ints, All-get_or (λ a. a ≤ℤ pos 0) (negsuc 0 ∷ pos 0 ∷ pos 1 ∷ pos 0 ∷ []) 2 (pos 0) (lit< tt) k.coefficients))

pub returns-clause-no_row_5 : goal.returns-clause-no_row_5
returns-clause-no_row_5 c = λ k. (let taken : 5 < 5 = (k.each 0 (record { row = 5; times = pos 1 }) (lit< tt)).row in absurd (omega (arith, taken)))
