use Rattle.std.proofs.Common.{◌∷◌, [], length, take, refl, sym, ap, subst, ◌∙◌, arith}
use Rattle.node_looks.proofs.TrailLaws.{side_addable, side_entered, side_there, stands_rows}
use Rattle.row_dictionary.specs.Scans.{IsSmallRow}
use Rattle.seq_model.specs.declared.row.Row.{Row}
use Rattle.warm_rows.specs.Warming.{Warmth}
use Rattle.node_looks.proofs.trail.Trail.enter_side.Goals as goal

pub row_of_side-requires-clause-contact : goal.row_of_side-requires-clause-contact
row_of_side-requires-clause-contact c = (side_there c.args.job.now c.args.path.now c.args.k c.args.contact.now c.args.dir.now c.requires.path c.requires.choice).0

pub row_of_side-requires-clause-side : goal.row_of_side-requires-clause-side
row_of_side-requires-clause-side c = (side_there c.args.job.now c.args.path.now c.args.k c.args.contact.now c.args.dir.now c.requires.path c.requires.choice).1

pub add-requires-clause-long : goal.add-requires-clause-long
add-requires-clause-long c =
    let e = c.args.self.now.extent in
    let a = side_addable c.args.job.now e c.args.k c.args.path.now c.args.contact.now c.args.dir.now c.requires.path c.requires.short c.requires.high c.requires.choice in
    ap (λ (r : Row). length r.a) (c.in_ok-row.ensures e) ∙ a.long ∙ sym c.requires.at.trail.vars

pub add-requires-clause-small : goal.add-requires-clause-small
add-requires-clause-small c =
    let e = c.args.self.now.extent in
    let a = side_addable c.args.job.now e c.args.k c.args.path.now c.args.contact.now c.args.dir.now c.requires.path c.requires.short c.requires.high c.requires.choice in
    subst IsSmallRow (sym (c.in_ok-row.ensures e)) a.small

pub add-requires-clause-count : goal.add-requires-clause-count
add-requires-clause-count c =
    let t = c.args.self.now in
    let a = side_addable c.args.job.now t.extent c.args.k c.args.path.now c.args.contact.now c.args.dir.now c.requires.path c.requires.short c.requires.high c.requires.choice in
    omega (arith, a.count, c.requires.at.trail.vars, ap length (stands_rows c.args.job.now t.extent (take c.args.k c.args.path.now) t c.requires.at))

pub returns-clause-is : goal.returns-clause-is
returns-clause-is c =
    let adds = rw c.in-Held.is at c.in_ok-add.ensures.is in
    side_entered c.args.job.now c.args.k c.args.path.now c.args.self.now _ _ c.add.new.self c.in_ok-row.row c.requires.at c.requires.choice (ap (λ (r : Row). r ∷ []) (c.in_ok-row.ensures c.args.self.now.extent)) refl
    (ap (λ (w : Warmth). w.vars) adds.1) (ap (λ (w : Warmth). w.steps) adds.1) c.mark-before.ensures.is c.push.ensures.extent c.push.ensures.warm c.push.ensures.graph c.push.ensures.orders c.in_ok-push-in-Held.ensures.levels

pub returns-clause-stays : goal.returns-clause-stays
returns-clause-stays c =
    let adds = rw c.in-Held.is at c.in_ok-add.ensures.is in
    (side_entered c.args.job.now c.args.k c.args.path.now c.args.self.now _ _ c.add.new.self c.in_ok-row.row c.requires.at c.requires.choice (ap (λ (r : Row). r ∷ []) (c.in_ok-row.ensures c.args.self.now.extent)) refl
    (ap (λ (w : Warmth). w.vars) adds.1) (ap (λ (w : Warmth). w.steps) adds.1) c.mark-before.ensures.is c.push.ensures.extent c.push.ensures.warm c.push.ensures.graph c.push.ensures.orders c.in_ok-push-in-Held.ensures.levels).trail
