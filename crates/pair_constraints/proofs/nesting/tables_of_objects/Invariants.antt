use Rattle.std.proofs.Common.{◌≡◌, length, get_or}
use Rattle.seq_model.specs.Jobs.{no_object}
use Rattle.pair_constraints.specs.Laws.Nesting.{IsTableOf, corners_of_zones}
use Rattle.pair_constraints.specs.Laws.Numbered.{AreBy}
use Rattle.pair_constraints.proofs.nesting.tables_of_objects.Given as goal

abbrev pub invariant-loop-object : goal.invariant-loop-object
invariant-loop-object l = record {
  many : length l.tables ≡ l.object-index;
  each : AreBy (λ i table. IsTableOf (corners_of_zones (get_or l.objects i no_object).zones) table) l.tables;
}
