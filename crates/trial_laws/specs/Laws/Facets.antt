-- Facets of a made file.
--
--   point_of v, facet_of a b c    a corner and a facet in micrometres
--   vertex_at, facet_at           the lines of a vertex, and those of a facet behind its first word, are read as these
use Rattle.std.proofs.Common.{◌≡◌, ℕ, ◌*◌, ◌≤◌, pos, List, [], ◌∷◌, ◌++◌, drop, refl, ap, ◌∙◌, arith, append_assoc, codes, Ok}
use Rattle.seq_model.specs.declared.mesh.Facet.{Facet}
use Rattle.seq_model.specs.declared.mesh.Point3.{Point3}
use Rattle.seq_num.specs.Spelling.{spelling}
use Rattle.seq_trial.specs.Towers.{facet_text, vertex_line}
use Rattle.seq_trial.specs.declared.facets.Vertex.{Vertex}
use Rattle.stl_text.specs.Grammar.{facet, normal, vertex}
use Rattle.stl_text.specs.Reading.{passes}
use Rattle.stl_text.specs.declared.Keyword.TheVariants as Keywords
use Rattle.trial_laws.specs.Laws.Numbers.{number_at}
use Rattle.trial_laws.specs.Laws.Words.{any_word_at, keyword_at}

abbrev pub point_of : Vertex → Point3
point_of v = record { x = pos (1_000 * v.x); y = pos (1_000 * v.y); z = pos (1_000 * v.z) }

abbrev pub facet_of : Vertex → Vertex → Vertex → Facet
facet_of a b c = record { a = point_of a; b = point_of b; c = point_of c }

pub record IsSmall (v : Vertex) : Type 0 where
  pub x : v.x ≤ 10_000
  pub y : v.y ≤ 10_000
  pub z : v.z ≤ 100

-- the line of a vertex in front of more, one piece after the other
abbrev numbers_front : Vertex → List ℕ → List ℕ
numbers_front v tail = 32 ∷ (spelling (pos v.x) ++ (32 ∷ (spelling (pos v.y) ++ (32 ∷ (spelling (pos v.z) ++ (10 ∷ tail))))))

abbrev vertex_front : Vertex → List ℕ → List ℕ
vertex_front v tail = codes "vertex" ++ numbers_front v tail

line_pieces : (x m y n z l tail : List ℕ) → (x ++ (m ++ (y ++ (n ++ (z ++ l))))) ++ tail ≡ x ++ (m ++ (y ++ (n ++ (z ++ (l ++ tail)))))
line_pieces x m y n z l tail = simp append_assoc refl

vertex_pieces : (v : Vertex) (tail : List ℕ) → vertex_line v ++ tail ≡ vertex_front v tail
vertex_pieces v tail = ap (λ t. codes "vertex " ++ t) (line_pieces (spelling (pos v.x)) (codes " ") (spelling (pos v.y)) (codes " ") (spelling (pos v.z)) (codes "\n") tail)

abbrev ends_front : List ℕ → List ℕ
ends_front tail = codes "endloop\nendfacet\n" ++ tail

-- the lines of a facet behind its first word, in front of more
abbrev pub facet_front : Vertex → Vertex → Vertex → List ℕ → List ℕ
facet_front a b c tail = codes " normal 0 0 0\nouter loop\n" ++ vertex_front a (vertex_front b (vertex_front c (ends_front tail)))

facet_lines : (a b c e tail : List ℕ) → (a ++ (b ++ (c ++ e))) ++ tail ≡ a ++ (b ++ (c ++ (e ++ tail)))
facet_lines a b c e tail = simp append_assoc refl

pub facet_pieces : (a b c : Vertex) (tail : List ℕ) → facet_text a b c ++ tail ≡ codes "facet" ++ facet_front a b c tail
unfolding facet_text
facet_pieces a b c tail =
    let to_c : vertex_line c ++ ends_front tail ≡ vertex_front c (ends_front tail) = vertex_pieces c (ends_front tail) in
    let to_b : vertex_line b ++ (vertex_line c ++ ends_front tail) ≡ vertex_front b (vertex_front c (ends_front tail)) = ap (λ t. vertex_line b ++ t) to_c ∙ vertex_pieces b (vertex_front c (ends_front tail)) in
    let to_a : vertex_line a ++ (vertex_line b ++ (vertex_line c ++ ends_front tail)) ≡ vertex_front a (vertex_front b (vertex_front c (ends_front tail))) = ap (λ t. vertex_line a ++ t) to_b ∙ vertex_pieces a (vertex_front b (vertex_front c (ends_front tail))) in
    ap (λ t. codes "facet normal 0 0 0\nouter loop\n" ++ t) (facet_lines (vertex_line a) (vertex_line b) (vertex_line c) (codes "endloop\nendfacet\n") tail ∙ to_a)

pub record VertexAt (bytes : List ℕ) (at : ℕ) (v : Vertex) (tail : List ℕ) : Type 0 where
  pub to : ℕ
  pub reads : vertex bytes at (Ok (point_of v, to))
  pub behind : drop to bytes ≡ tail

vertex_at : (bytes : List ℕ) (at : ℕ) (v : Vertex) (tail : List ℕ) → IsSmall v → drop at bytes ≡ 10 ∷ vertex_front v tail → VertexAt bytes at v (10 ∷ tail)
vertex_at bytes at v tail small e =
    let z_front = spelling (pos v.z) ++ (10 ∷ tail) in
    let y_front = spelling (pos v.y) ++ (32 ∷ z_front) in
    let k = keyword_at bytes at Keywords.Vertex (10 ∷ []) 32 (spelling (pos v.x) ++ (32 ∷ y_front)) e refl refl (omega arith) refl in
    let x = number_at bytes k.to (32 ∷ []) v.x 32 y_front small.x k.behind refl refl in
    let y = number_at bytes x.to (32 ∷ []) v.y 32 z_front small.y x.behind refl refl in
    let z = number_at bytes y.to (32 ∷ []) v.z 10 tail (omega (arith, small.z)) y.behind refl refl in
    record { to = z.to; reads = passes k.to k.reads (passes (pos (1_000 * v.x), x.to) x.reads (passes (pos (1_000 * v.y), y.to) y.reads (passes (pos (1_000 * v.z), z.to) z.reads refl))); behind = z.behind }

record NormalAt (bytes : List ℕ) (at : ℕ) (tail : List ℕ) : Type 0 where
  to : ℕ
  reads : normal bytes at (Ok to)
  behind : drop to bytes ≡ tail

normal_at : (bytes : List ℕ) (at : ℕ) (tail : List ℕ) → drop at bytes ≡ codes " normal 0 0 0\n" ++ tail → NormalAt bytes at (10 ∷ tail)
normal_at bytes at tail e =
    let n = keyword_at bytes at Keywords.Normal (32 ∷ []) 32 (codes "0 0 0\n" ++ tail) e refl refl (omega arith) refl in
    let x = any_word_at bytes n.to (32 ∷ []) (48 ∷ []) 32 (codes "0 0\n" ++ tail) n.behind refl refl (omega arith) refl in
    let y = any_word_at bytes x.to (32 ∷ []) (48 ∷ []) 32 (codes "0\n" ++ tail) x.behind refl refl (omega arith) refl in
    let z = any_word_at bytes y.to (32 ∷ []) (48 ∷ []) 10 tail y.behind refl refl (omega arith) refl in
    record { to = z.to; reads = passes n.to n.reads (passes x.to x.reads (passes y.to y.reads z.reads)); behind = z.behind }

pub record FacetAt (bytes : List ℕ) (at : ℕ) (f : Facet) (tail : List ℕ) : Type 0 where
  pub to : ℕ
  pub reads : facet bytes at (Ok (f, to))
  pub behind : drop to bytes ≡ tail

pub facet_at : (bytes : List ℕ) (at : ℕ) (a b c : Vertex) (tail : List ℕ) → IsSmall a → IsSmall b → IsSmall c → drop at bytes ≡ facet_front a b c tail → FacetAt bytes at (facet_of a b c) (10 ∷ tail)
facet_at bytes at a b c tail small_a small_b small_c e =
    let front_c = vertex_front c (ends_front tail) in
    let front_b = vertex_front b front_c in
    let front_a = vertex_front a front_b in
    let n = normal_at bytes at (codes "outer loop\n" ++ front_a) e in
    let o = keyword_at bytes n.to Keywords.Outer (10 ∷ []) 32 (codes "loop\n" ++ front_a) n.behind refl refl (omega arith) refl in
    let l = keyword_at bytes o.to Keywords.Loop (32 ∷ []) 10 front_a o.behind refl refl (omega arith) refl in
    let p = vertex_at bytes l.to a front_b small_a l.behind in
    let q = vertex_at bytes p.to b front_c small_b p.behind in
    let r = vertex_at bytes q.to c (ends_front tail) small_c q.behind in
    let s = keyword_at bytes r.to Keywords.Endloop (10 ∷ []) 10 (codes "endfacet\n" ++ tail) r.behind refl refl (omega arith) refl in
    let t = keyword_at bytes s.to Keywords.Endfacet (10 ∷ []) 10 tail s.behind refl refl (omega arith) refl in
    record {
      to = t.to;
      reads = passes n.to n.reads (passes o.to o.reads (passes l.to l.reads (passes (point_of a, p.to) p.reads (passes (point_of b, q.to) q.reads (passes (point_of c, r.to) r.reads (passes s.to s.reads (passes t.to t.reads refl)))))));
      behind = t.behind;
    }
