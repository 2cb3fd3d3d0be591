use Rattle.std.proofs.Common.{◌≡◌, ◌++◌, length, map, ap, ◌∙◌, arith}
use Rattle.seq_model.specs.declared.tree.Choice.TheVariants as Choices
use Rattle.cert_checker.proofs.Tables.{met_grown, new_sides_at}
use Rattle.cert_checker.proofs.kept.Table.new_sides.Goals as goal

pub returns-clause-range : goal.returns-clause-range
returns-clause-range c =
    let from : c.len-from.result ≡ length c.args.self.now.choices.items = omega (arith, c.len-from.ensures) in
    let to : c.len.result ≡ length c.push_sides.new.self.choices.items = omega (arith, c.len.ensures) in
    new_sides_at c.args.job.now c.args.contact.now c.in_ok-dirs.dirs.items c.args.self.now.choices.items _ _ _ c.in_ok-dirs.ensures.sides
    (c.in_ok-push_sides.ensures.choices ∙ ap (λ l. c.args.self.now.choices.items ++ map (Choices.Side c.args.contact.now) l) c.as_slice.ensures.value) from to

pub returns-clause-met : goal.returns-clause-met
returns-clause-met c =
    let from : c.len-from.result ≡ length c.args.self.now.choices.items = omega (arith, c.len-from.ensures) in
    let to : c.len.result ≡ length c.push_sides.new.self.choices.items = omega (arith, c.len.ensures) in
    c.in_ok-remember.ensures c.args.job.now c.push_sides.new.self.choices.items (met_grown c.args.job.now _ _ _ (_, c.in_ok-push_sides.ensures.choices) c.requires.met)
    (new_sides_at c.args.job.now c.args.contact.now c.in_ok-dirs.dirs.items c.args.self.now.choices.items _ _ _ c.in_ok-dirs.ensures.sides
    (c.in_ok-push_sides.ensures.choices ∙ ap (λ l. c.args.self.now.choices.items ++ map (Choices.Side c.args.contact.now) l) c.as_slice.ensures.value) from to)
