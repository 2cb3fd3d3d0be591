-- Six times the signed volume of facets.
--
-- Of a closed mesh it is six times the volume that it encloses, where parts that are turned inside out count negative.
-- Of an open one it depends on where the mesh lies.
--
--   cross b c             the cross product b × c
--   dot a b               the inner product a · b
--   six_volume facets     the sum of a · (b × c) over the facets
use Rattle.std.specs.Prelude.{ℤ, pos, ◌+ℤ◌, ◌-ℤ◌, ◌*ℤ◌, List, fold}
use Rattle.seq_model.specs.declared.mesh.Facet.{Facet}
use Rattle.seq_model.specs.declared.mesh.Point3.{Point3}

-- the cross product
abbrev pub cross : Point3 → Point3 → Point3
cross b c = record { x = b.y *ℤ c.z -ℤ b.z *ℤ c.y; y = b.z *ℤ c.x -ℤ b.x *ℤ c.z; z = b.x *ℤ c.y -ℤ b.y *ℤ c.x }

-- the inner product
abbrev pub dot : Point3 → Point3 → ℤ
dot a b = a.x *ℤ b.x +ℤ a.y *ℤ b.y +ℤ a.z *ℤ b.z

-- the sum of a · (b × c), which is six times the signed volume of the tetrahedron from the origin to the facet
abbrev pub six_volume : List Facet → ℤ
six_volume facets = fold (λ sum (f : Facet). sum +ℤ dot f.a (cross f.b f.c)) (pos 0) facets
