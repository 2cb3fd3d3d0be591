use Rattle.std.proofs.Math.Path.{subst₂}
use Rattle.std.proofs.Common.{◌≡◌, ◌++◌, ◌∷◌, [], length, arith, refl, sym, ap, subst, ◌∙◌}
use Rattle.seq_model.specs.declared.tree.Choice.TheVariants as Choices
use Rattle.cert_checker.specs.Trails.{IsStamped}
use Rattle.cert_checker.proofs.Trails.{fit_order, rows_by_order}
use Rattle.cert_checker.proofs.trail.Trail.go_order.Goals as goal

pub stamp-requires-clause-stamped : goal.stamp-requires-clause-stamped
stamp-requires-clause-stamped c = subst₂ IsStamped (sym c.as_slice.ensures.value) refl c.requires.fit.stamped

pub returns-clause-fit : goal.returns-clause-fit
returns-clause-fit c =
    let many : c.len.result ≡ length c.args.self.now.rows.items = omega arith in
    fit_order c.args.self.now _ _ _ c.requires.fit c.put-2.ensures.items (c.put.ensures.items ∙ ap (λ n. c.args.self.now.marks.items ++ n ∷ []) many) refl c.stamp.ensures.many
    (subst (λ p. IsStamped (p ++ Choices.Before c.args.i c.args.j ∷ []) c.stamp.new.stamps.items) c.as_slice.ensures.value c.stamp.ensures.stamped)

pub returns-clause-rows : goal.returns-clause-rows
returns-clause-rows c = λ job has. rows_by_order job c.args.self.now.path.items _ c.args.self.now.rows.items _ _ _ c.put-2.ensures.items refl has
