-- The tests of points and edges tell what is equal.
use Rattle.std.proofs.Common.{◌≡◌, refl, ap, ◌∙◌, arith, ℤ, Bool, true, false}
use Rattle.std.specs.Ordering.{int_eq}
use Rattle.std.proofs.lemmas.Int.{ints}
use Rattle.std.proofs.lemmas.Bool.{and_parts, and_from, false_from_ne_true}
use Rattle.std.proofs.lemmas.Bool.Decides.{nat_tests}
use Rattle.seq_model.specs.declared.mesh.Point3.{Point3}
use Rattle.mesh_checks.specs.Edges.{Edge, edge, same_point, same_edge}

same_number : (x y : ℤ) → int_eq x y ≡ true → x ≡ y
same_number x y e = grind (arith, ints, nat_tests)

number_itself : (x : ℤ) → int_eq x x ≡ true
number_itself x = grind (arith, ints, nat_tests)

abbrev point : ℤ → ℤ → ℤ → Point3
point x y z = record { x = x; y = y; z = z }

pub points_same : (p q : Point3) → p.x ≡ q.x → p.y ≡ q.y → p.z ≡ q.z → p ≡ q
points_same p q x y z = ap (λ t. point t p.y p.z) x ∙ ap (λ t. point q.x t p.z) y ∙ ap (λ t. point q.x q.y t) z

same_point_is : (p q : Point3) → same_point p q ≡ true → p ≡ q
same_point_is p q e =
    let both = and_parts (int_eq p.x q.x) _ e in
    let rest = and_parts (int_eq p.y q.y) (int_eq p.z q.z) both.1 in
    points_same p q (same_number p.x q.x both.0) (same_number p.y q.y rest.0) (same_number p.z q.z rest.1)

point_itself : (p : Point3) → same_point p p ≡ true
point_itself p = and_from _ _ (number_itself p.x) (and_from _ _ (number_itself p.y) (number_itself p.z))

pub edges_same : (d e : Edge) → d.from ≡ e.from → d.to ≡ e.to → d ≡ e
edges_same d e from to = ap (λ t. edge t d.to) from ∙ ap (λ t. edge e.from t) to

pub same_edge_is : (d e : Edge) → same_edge d e ≡ true → d ≡ e
same_edge_is d e s =
    let both = and_parts (same_point d.from e.from) (same_point d.to e.to) s in
    edges_same d e (same_point_is d.from e.from both.0) (same_point_is d.to e.to both.1)

pub edge_itself : (e : Edge) → same_edge e e ≡ true
edge_itself e = and_from _ _ (point_itself e.from) (point_itself e.to)

pub other_edge : (d e : Edge) → (d ≡ e → ⊥) → same_edge d e ≡ false
other_edge d e other = false_from_ne_true (same_edge d e) (λ s. other (same_edge_is d e s))

pub differ : (d e : Edge) → same_edge d e ≡ false → d ≡ e → ⊥
differ d e s q = cc (edge_itself e, ap (λ t. same_edge t e) q, s)

-- an edge is another one, or the same
pub edge_cases : {G : Type 0} (d e : Edge) → (d ≡ e → G) → ((d ≡ e → ⊥) → G) → G
edge_cases {G} d e same other = by (same_edge d e) refl
  where
    by : (b : Bool) → same_edge d e ≡ b → G
    by true s = same (same_edge_is d e s)
    by false s = other (differ d e s)
