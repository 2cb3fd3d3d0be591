use Rattle.std.proofs.Common.{◌≡◌, pos, neg_ℤ, ◌*ℤ◌, Ok, IfOk, rules, FitsSigned, to_z-of_z}
use Rattle.std.specs.Int.{w64}
use Rattle.printer_text.specs.declared.Key.TheVariants as key
use Rattle.printer_text.specs.Values.{key_at, corners_in}
use Rattle.toml.specs.View.{table_view}
use Rattle.printer_text.proofs.OutlineLaws.{corners_near, if_ok}
use Rattle.printer_text.proofs.part.outline.Goals as goal

pub returns-in-None-clause-outline : goal.returns-in-None-clause-outline
returns-in-None-clause-outline c =
    let g = c.args.sizes.now.grain in
    let fits : FitsSigned w64 c.args.sizes.now.grain = search rules in
    let ok : IfOk c.corners_at.result (λ spots. key_at key.Corners (corners_in 1 32 g (g *ℤ neg_ℤ (pos 100_000)) (g *ℤ pos 100_000)) (table_view c.args.table.now) ≡ Ok spots.items) = simp to_z-of_z at c.corners_at.ensures.ok in
    if_ok c.corners_at.result _ _ (λ spots h. corners_near key.Corners g spots.items (table_view c.args.table.now) (record { low = search rules; high = search rules }) h) ok
