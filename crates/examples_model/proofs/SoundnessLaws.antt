-- What no job holds.
use Rattle.std.proofs.Common.{◌≡◌, ◌≤◌, List, [], ◌∷◌, length, get_or, refl, ap, arith, pos}
use Rattle.seq_model.specs.Contacts.{IsContact}
use Rattle.seq_model.specs.Parts.{tip, AreParts}
use Rattle.seq_model.specs.Soundness.{IsSoundZone}
use Rattle.seq_model.specs.declared.printer.Part.{Part}
use Rattle.examples_model.specs.Cubes.{spot}
use Rattle.examples_model.specs.Jobs.{two_cubes, nozzle_part}

pub no_tip : AreParts (nozzle_part ∷ []) → ⊥
no_tip a = (let e : 4 ≡ 1 = ap (λ (ps : List Part). length (get_or ps 0 tip).corners) a.tip_first in absurd (omega (arith, e)))

pub flat : IsSoundZone (record { corners = spot (pos 0) (pos 0) ∷ spot (pos 2) (pos 0) ∷ []; first = 0; last = 0 }) → ⊥
flat z = (let h : 3 ≤ 2 = z.area in absurd (omega (arith, h)))

pub itself : IsContact two_cubes (record { i = 0; zi = 0; part = 1; zj = 0; j = 0 }) → ⊥
itself c = absurd (c.apart refl)
