-- What is answered comes just where its case is so.
use Rattle.std.proofs.Common.{ℕ, List}
use Rattle.model_laws.specs.Laws.Farkas.{no_point}
use Rattle.feasible_point.specs.Answering.{Solves}
use Rattle.feasible_point.specs.Exactly.{Exactly}
use Rattle.feasible_point.specs.declared.Solved.{Solved}
use Rattle.feasible_point.specs.declared.Solved.TheVariants as Solveds
use Rattle.seq_model.specs.declared.row.Row.{Row}

pub exactly : (vars : ℕ) (rows : List Row) (solved : Solved) → Solves vars rows solved → Exactly vars rows solved
exactly vars rows (Solveds.Point den list) s = record {
  point = (λ i. ((den, list.items, s.0), s.2), λ k. tt);
  contradiction = (λ i. absurd i, λ k. k.0 den list.items s.0);
  wide = (λ i. absurd i, λ k. s.2 k.0 k.1 k.2);
}
exactly vars rows (Solveds.Contradiction list) s = record {
  point = (λ i. absurd i, λ k. no_point rows list.items s.0 k.0.0 k.0.1 k.0.2);
  contradiction = (λ i. (no_point rows list.items s.0, s.5), λ k. tt);
  wide = (λ i. absurd i, λ k. s.5 k.0 k.1 k.2);
}
exactly vars rows (Solveds.Wide basis row) s = record {
  point = (λ i. absurd i, λ k. k.1 basis.items row s);
  contradiction = (λ i. absurd i, λ k. k.1 basis.items row s);
  wide = (λ i. (basis.items, row, s), λ k. tt);
}
