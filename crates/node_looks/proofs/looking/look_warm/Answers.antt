use Rattle.std.proofs.Common.{List, ◌*◌, ◌∙◌, length, refl, sym, subst, rules, FitsSigned}
use Rattle.std.proofs.lemmas.Int.{to_z-of_z}
use Rattle.node_looks.proofs.LeafLaws.{bound_closes, zero_meets}
use Rattle.node_looks.specs.Looks.{ClosesBy}
use Rattle.node_looks.specs.Trails.{IsWarmed}
use Rattle.seq_model.specs.Systems.{system}
use Rattle.seq_model.specs.declared.tree.Mult.{Mult}
use Rattle.seq_model.specs.declared.tree.Node.TheVariants as Nodes
use Rattle.warm_rows.specs.Warming.{IsZeroPoint}
use Rattle.node_looks.proofs.looking.look_warm.Goals as goal

pub returns-in_ok-look_at_point-in-Point-clause-zero : goal.returns-in_ok-look_at_point-in-Point-clause-zero
returns-in_ok-look_at_point-in-Point-clause-zero c = λ q unmoved.
    let job = c.args.asked.now.job.now in
    let e = c.args.asked.now.extent in
    let path = c.args.asked.now.path.now in
    let z = subst (IsZeroPoint (2 * length job.objects)) c.in-Point.is (c.in_ok-den.ensures.zero unmoved (zero_meets job e path (system job e path) refl q.0 q.1)) in
    let s = subst (IsWarmed (2 * length job.objects) (system job e path)) c.in-Point.is c.in_ok-den.ensures.is in
    let fits : FitsSigned mir.Syntax.w64 c.in-Point.den = search rules in
    c.in_ok-look_at_point-in-Point.ensures.zero q (to_z-of_z mir.Syntax.w64 c.in-Point.den fits ∙ z.0) (c.deref.ensures.value ∙ z.1)

pub returns-in-Contradiction-clause-look : goal.returns-in-Contradiction-clause-look
returns-in-Contradiction-clause-look c =
    let job = c.args.asked.now.job.now in
    let e = c.args.asked.now.extent in
    let path = c.args.asked.now.path.now in
    let s = subst (IsWarmed (2 * length job.objects) (system job e path)) c.in-Contradiction.is c.in_ok-den.ensures.is in
    subst (λ (ms : List Mult). ClosesBy job e path (Nodes.Bound ms)) (sym c.from_vec.ensures) (bound_closes job e path c.in-Contradiction.mults.items c.requires.asked.short s.0 s.1 s.2 s.3 s.4 s.5)

pub returns-in-Contradiction-clause-zero : goal.returns-in-Contradiction-clause-zero
returns-in-Contradiction-clause-zero c = λ q unmoved.
    let job = c.args.asked.now.job.now in
    let e = c.args.asked.now.extent in
    let path = c.args.asked.now.path.now in
    subst (IsZeroPoint (2 * length job.objects)) c.in-Contradiction.is (c.in_ok-den.ensures.zero unmoved (zero_meets job e path (system job e path) refl q.0 q.1))
