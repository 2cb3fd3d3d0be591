use Rattle.std.proofs.Common.{◌*◌, List, length, sym, subst}
use Rattle.feasible_point.specs.Answering.{Solves}
use Rattle.feasible_point.specs.Shortening.{IsShortest}
use Rattle.feasible_point.specs.declared.Solved.{Solved}
use Rattle.node_looks.proofs.LeafLaws.{bound_closes}
use Rattle.node_looks.specs.Looks.{ClosesBy}
use Rattle.seq_model.specs.Systems.{system}
use Rattle.seq_model.specs.declared.tree.Mult.{Mult}
use Rattle.seq_model.specs.declared.tree.Node.TheVariants as Nodes
use Rattle.node_looks.proofs.looking.look_anew.Goals as goal

pub returns-in-Contradiction-clause-look : goal.returns-in-Contradiction-clause-look
returns-in-Contradiction-clause-look c =
    let job = c.args.asked.now.job.now in
    let path = c.args.asked.now.path.now in
    let s = subst (λ (v : Solved). Solves (2 * length job.objects) (system job c.args.asked.now.extent path) v) c.in-Contradiction.is c.in_ok-den.ensures.is in
    let t = subst IsShortest c.in-Contradiction.is c.in_ok-den.ensures.shortest in
    subst (λ (ms : List Mult). ClosesBy job c.args.asked.now.extent path (Nodes.Bound ms)) (sym c.from_vec.ensures)
    (bound_closes job c.args.asked.now.extent path c.in-Contradiction.mults.items c.requires.short s.0 s.1 s.2 s.3 s.4 t)
