use Rattle.std.proofs.Common.{ℕ, ap, length, sym, subst, ◌∙◌, arith}
use Rattle.node_looks.proofs.SplitLaws.{few_limits, opens, many_choices}
use Rattle.node_looks.specs.Looks.{IsVisit}
use Rattle.node_looks.proofs.splits.open_contact.Goals as goal

pub visit_of-requires : goal.visit_of-requires
visit_of-requires c =
    let l = few_limits c.args.site.now.job.now c.args.kept.now c.requires.openable.kept in
    omega (arith, l)

pub overflow_cast-result : goal.overflow_cast-result
overflow_cast-result c =
    let l = few_limits c.args.site.now.job.now c.args.kept.now c.requires.openable.kept in
    omega (arith, l, c.len.ensures)

pub returns : goal.returns
returns c =
    let kept = c.args.kept.now in (
      opens c.args.site.now kept _ c.in_ok-choices.choices c.requires.site c.requires.openable c.len.ensures c.in_ok-choices.ensures,
      subst (λ (n : ℕ). IsVisit n c.in_ok-visit.visit) (sym (ap length c.in_ok-choices.ensures ∙ many_choices kept)) c.in_ok-visit.ensures,
    )
