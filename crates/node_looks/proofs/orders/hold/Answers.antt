use Rattle.std.proofs.Common.{sym, ◌∙◌}
use Rattle.std.proofs.lemmas.Result.{on_ok_weaker, IfErr-weaker}
use Rattle.node_looks.proofs.OrderLaws.{holds_more, holds_same, closes_on_path, on_path, not_on}
use Rattle.node_looks.proofs.orders.hold.Goals as goal

pub returns-then-i-j-clause-held : goal.returns-then-i-j-clause-held
returns-then-i-j-clause-held c = holds_same _ _ c.args.i c.args.j c.args.graph.now c.requires.held (λ apart on. absurd (apart c.if-i-j.true))

pub returns-then-is_before-clause-held : goal.returns-then-is_before-clause-held
returns-then-is_before-clause-held c =
    let path = c.args.site.now.path.now in
    let on = on_path path c.args.i c.args.j (sym c.is_before.ensures ∙ c.if-is_before.true) in
    on_ok_weaker c.add.result (λ e. holds_more path _ c.args.i c.args.j c.args.graph.now c.add.new.self c.requires.held (c.requires.i, c.requires.j, c.if-i-j.false) on e) c.add.ensures.held

pub returns-then-is_before-clause-cycle : goal.returns-then-is_before-clause-cycle
returns-then-is_before-clause-cycle c =
    let path = c.args.site.now.path.now in
    let on = on_path path c.args.i c.args.j (sym c.is_before.ensures ∙ c.if-is_before.true) in
    IfErr-weaker c.add.result _ _ (λ cycle closes. closes_on_path path _ c.args.i c.args.j c.args.graph.now.held cycle c.requires.held.only (c.requires.i, c.requires.j, c.if-i-j.false) on closes) c.add.ensures.cycle

pub returns-clause-held : goal.returns-clause-held
returns-clause-held c =
    let path = c.args.site.now.path.now in
    holds_same path _ c.args.i c.args.j c.args.graph.now c.requires.held (λ apart on. not_on path c.args.i c.args.j (sym c.is_before.ensures ∙ c.if-is_before.false) on)
