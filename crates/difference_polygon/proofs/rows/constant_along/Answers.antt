use Rattle.std.proofs.Common.{◌≡◌, ◌+ℤ◌, ◌-ℤ◌, ◌*ℤ◌, ◌∙◌, arith, rules, FitsSigned, w64, to_z-of_z, ℤ}
use Rattle.std.proofs.lemmas.Int.{ints}
use Rattle.integer_laws.specs.Laws.Ring.{expand}
use Rattle.integer_laws.specs.Laws.Steps.{steps}
use Rattle.seq_model.specs.Contacts.{points_of}
use Rattle.seq_model.specs.Jobs.{object_at}
use Rattle.seq_model.specs.Sides.{along, greatest_along}
use Rattle.seq_model.specs.declared.printer.Spot.{Spot}
use Rattle.seq_model.specs.declared.tree.Dir.{Dir}
use Rattle.difference_polygon.proofs.rows.constant_along.Goals as goal

apart : {a b g i j k : ℤ} → a ≡ i → b ≡ j → g ≡ k → (a -ℤ b) -ℤ g ≡ (i -ℤ j) -ℤ k
apart p q r = omega (arith, ints)

spread : (dir : Dir) (i j : Spot) (g : ℤ) → (along dir i -ℤ along dir j) -ℤ g ≡ (dir.x *ℤ (i.x -ℤ j.x) +ℤ dir.y *ℤ (i.y -ℤ j.y)) -ℤ g
spread dir i j g = simp expand (omega (arith, ints))

pub returns-clause-value : goal.returns-clause-value
returns-clause-value c =
    let job = c.args.job.now in
    let value : c.constant_of.result ≡ (c.low_of.result -ℤ c.low_of-2.result) -ℤ c.support_of.result = grind (arith, steps) in
    let fits : FitsSigned w64 c.constant_of.result = search rules in
    λ e. to_z-of_z fits ∙ value ∙ apart c.low_of.ensures.value c.low_of-2.ensures.value c.support_of.ensures.value ∙ spread c.args.dir.now (object_at job c.args.contact.now.i).low (object_at job c.args.contact.now.j).low (greatest_along c.args.dir.now (points_of job c.args.contact.now))
