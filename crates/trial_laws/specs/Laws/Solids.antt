-- Texts of facets, one behind the other.
--
--   IsLow z, AreLow facets     from 0 to 100 mm high, and so is each corner
--   ReadsAs text facets        behind whatever was found before, a text that begins so gives these facets first; it is short and has no byte 0
--   IsSolidText text n         a text of n such facets
--   solid_facet, solid_both    a facet with three corners is one; two of them, one behind the other, are one
use Rattle.std.proofs.Common.{◌≡◌, ℕ, ◌+◌, ◌*◌, ◌≤◌, ℤ, pos, ◌≤ℤ◌, Bool, true, false, ◌&&◌, List, [], ◌∷◌, ◌++◌, length, length-append, drop, map, codes, refl, sym, ap, ◌∙◌, subst, arith, append_assoc, Ok, Result}
use Rattle.std.proofs.lemmas.Int.{ints}
use Rattle.std.proofs.lemmas.List.{append-nil}
use Rattle.std.proofs.lemmas.List.Folds.{list_all-append}
use Rattle.std.specs.Char.{to_ascii_lowercase}
use Rattle.std.specs.List.{list_all}
use Rattle.seq_model.specs.declared.mesh.Facet.{Facet}
use Rattle.seq_model.specs.declared.mesh.Point3.{Point3}
use Rattle.seq_num.specs.Spelling.{spelling}
use Rattle.seq_trial.specs.Towers.{facet_text, vertex_line}
use Rattle.seq_trial.specs.declared.facets.Vertex.{Vertex}
use Rattle.stl_text.specs.Grammar.{part}
use Rattle.stl_text.specs.Meshes.{Body, HasThreeCorners, count, facet, keeps}
use Rattle.stl_text.specs.Reading.{passes, yes}
use Rattle.stl_text.specs.Words.{is_black}
use Rattle.stl_text.specs.declared.Stl.{Stl}
use Rattle.stl_text.specs.declared.found.Found.{Found}
use Rattle.stl_text.specs.declared.parts.Part.TheVariants as Parts
use Rattle.trial_laws.specs.Laws.Facets.{IsSmall, facet_at, facet_front, facet_of, facet_pieces, point_of}
use Rattle.trial_laws.specs.Laws.Numbers.{is_plain, spelled_plain, spelled_short}
use Rattle.trial_laws.specs.Laws.Words.{passes_none, word_at}

-- ---- heights
abbrev pub IsLow : ℤ → Type 0
IsLow z = (pos 0 ≤ℤ z) × (z ≤ℤ pos 100_000)

abbrev pub IsLowFacet : Facet → Type 0
IsLowFacet f = IsLow f.a.z × IsLow f.b.z × IsLow f.c.z

abbrev pub AreLow : List Facet → Type 0
AreLow [] = Unit {0}
AreLow (f ∷ fs) = IsLowFacet f × AreLow fs

low_both : (fs gs : List Facet) → AreLow fs → AreLow gs → AreLow (fs ++ gs)
low_both [] gs x y = y
low_both (f ∷ fs) gs x y = (x.0, low_both fs gs x.1 y)

-- ---- texts
abbrev pub found_of : List Facet → Found
found_of facets = record { facets = facets; dropped = 0 }

-- what the text behind some facets reads
abbrev pub Then : List ℕ → List ℕ → List Facet → Result Found Stl → Type 0
Then bytes tail found r = (to : ℕ) (sp : List ℕ) → passes_none is_black sp ≡ true → drop to bytes ≡ sp ++ tail → Body bytes to (found_of found) r

pub record ReadsAs (text : List ℕ) (facets : List Facet) : Type 0 where
  pub reads : (bytes : List ℕ) (at : ℕ) (sp tail : List ℕ) (before : List Facet) (r : Result Found Stl) → passes_none is_black sp ≡ true → drop at bytes ≡ sp ++ (text ++ tail)
      → length before + length facets ≤ 200_000 → Then bytes tail (before ++ facets) r → Body bytes at (found_of before) r
  pub plain : list_all is_plain text ≡ true
  pub short : length text ≤ 200 * length facets
  pub low : AreLow facets

pub record IsSolidText (text : List ℕ) (n : ℕ) : Type 0 where
  pub facets : List Facet
  pub are : ReadsAs text facets
  pub count : length facets ≡ n

both_true : (a b c : Bool) → c ≡ (a && b) → a ≡ true → b ≡ true → c ≡ true
both_true true b c e f g = e ∙ g
both_true false b c e f g = absurd cc

pub plain_both : (t u : List ℕ) → list_all is_plain t ≡ true → list_all is_plain u ≡ true → list_all is_plain (t ++ u) ≡ true
plain_both t u x y = both_true (list_all is_plain t) (list_all is_plain u) (list_all is_plain (t ++ u)) (list_all-append is_plain t u) x y

pub solid_none : IsSolidText [] 0
solid_none = record {
  facets = [];
  are = record {
    reads = λ bytes at sp tail before r white e room next. subst (λ fs. Body bytes at (found_of fs) r) (append-nil before) (next at sp white e);
    plain = refl;
    short = omega arith;
    low = tt;
  };
  count = refl;
}

reads_both : (t u : List ℕ) (fs gs : List Facet) → ReadsAs t fs → ReadsAs u gs → ReadsAs (t ++ u) (fs ++ gs)
reads_both t u fs gs x y = record {
  reads = λ bytes at sp tail before r white e room next.
      x.reads bytes at sp (u ++ tail) before r white (e ∙ ap (λ l. sp ++ l) (append_assoc t u tail)) (omega (arith, room, length-append fs gs))
      (λ to sp' white' e'.
      y.reads bytes to sp' tail (before ++ fs) r white' e' (omega (arith, room, length-append fs gs, length-append before fs))
      (λ to2 sp2 white2 e2. subst (λ l. Body bytes to2 (found_of l) r) (sym (append_assoc before fs gs)) (next to2 sp2 white2 e2)));
  plain = plain_both t u x.plain y.plain;
  short = omega (arith, x.short, y.short, length-append t u, length-append fs gs);
  low = low_both fs gs x.low y.low;
}

pub solid_both : (t u : List ℕ) (m n : ℕ) → IsSolidText t m → IsSolidText u n → IsSolidText (t ++ u) (m + n)
solid_both t u m n x y = record {
  facets = x.facets ++ y.facets;
  are = reads_both t u x.facets y.facets x.are y.are;
  count = omega (arith, length-append x.facets y.facets, x.count, y.count);
}

-- ---- one facet
pub data Apart (a b : Vertex) : Type 0 where
  in_x : ¬ (a.x ≡ b.x) → Apart a b
  in_y : ¬ (a.y ≡ b.y) → Apart a b
  in_z : ¬ (a.z ≡ b.z) → Apart a b

points_apart : (a b : Vertex) → Apart a b → ¬ (point_of a ≡ point_of b)
points_apart a b (in_x h) e = (let same : pos (1_000 * a.x) ≡ pos (1_000 * b.x) = ap (λ (p : Point3). p.x) e in h (omega (arith, ints, same)))
points_apart a b (in_y h) e = (let same : pos (1_000 * a.y) ≡ pos (1_000 * b.y) = ap (λ (p : Point3). p.y) e in h (omega (arith, ints, same)))
points_apart a b (in_z h) e = (let same : pos (1_000 * a.z) ≡ pos (1_000 * b.z) = ap (λ (p : Point3). p.z) e in h (omega (arith, ints, same)))

five_lengths : (a b c d e : List ℕ) → length (a ++ (b ++ (c ++ (d ++ e)))) ≡ length a + (length b + (length c + (length d + length e)))
five_lengths a b c d e = omega (arith, length-append a (b ++ (c ++ (d ++ e))), length-append b (c ++ (d ++ e)), length-append c (d ++ e), length-append d e)

seven_lengths : (a b c d e f g : List ℕ) → length (a ++ (b ++ (c ++ (d ++ (e ++ (f ++ g)))))) ≡ length a + (length b + (length c + (length d + (length e + (length f + length g)))))
seven_lengths a b c d e f g = omega (arith, five_lengths a b c d (e ++ (f ++ g)), length-append e (f ++ g), length-append f g)

line_short : (v : Vertex) → IsSmall v → length (vertex_line v) ≤ 25
line_short v s =
    omega (
      arith,
      seven_lengths (codes "vertex ") (spelling (pos v.x)) (codes " ") (spelling (pos v.y)) (codes " ") (spelling (pos v.z)) (codes "\n"),
      spelled_short v.x s.x,
      spelled_short v.y s.y,
      spelled_short v.z (omega (arith, s.z)),
    )

line_plain : (v : Vertex) → IsSmall v → list_all is_plain (vertex_line v) ≡ true
line_plain v s =
    plain_both (codes "vertex ") (spelling (pos v.x) ++ (codes " " ++ (spelling (pos v.y) ++ (codes " " ++ (spelling (pos v.z) ++ codes "\n"))))) refl
    (plain_both (spelling (pos v.x)) (codes " " ++ (spelling (pos v.y) ++ (codes " " ++ (spelling (pos v.z) ++ codes "\n")))) (spelled_plain v.x s.x)
    (plain_both (codes " ") (spelling (pos v.y) ++ (codes " " ++ (spelling (pos v.z) ++ codes "\n"))) refl
    (plain_both (spelling (pos v.y)) (codes " " ++ (spelling (pos v.z) ++ codes "\n")) (spelled_plain v.y s.y)
    (plain_both (codes " ") (spelling (pos v.z) ++ codes "\n") refl
    (plain_both (spelling (pos v.z)) (codes "\n") (spelled_plain v.z (omega (arith, s.z))) refl)))))

facet_short : (a b c : Vertex) → IsSmall a → IsSmall b → IsSmall c → length (facet_text a b c) ≤ 200
unfolding facet_text
facet_short a b c p q r =
    omega (
      arith,
      five_lengths (codes "facet normal 0 0 0\nouter loop\n") (vertex_line a) (vertex_line b) (vertex_line c) (codes "endloop\nendfacet\n"),
      line_short a p,
      line_short b q,
      line_short c r,
    )

facet_plain : (a b c : Vertex) → IsSmall a → IsSmall b → IsSmall c → list_all is_plain (facet_text a b c) ≡ true
unfolding facet_text
facet_plain a b c p q r =
    plain_both (codes "facet normal 0 0 0\nouter loop\n") (vertex_line a ++ (vertex_line b ++ (vertex_line c ++ codes "endloop\nendfacet\n"))) refl
    (plain_both (vertex_line a) (vertex_line b ++ (vertex_line c ++ codes "endloop\nendfacet\n")) (line_plain a p)
    (plain_both (vertex_line b) (vertex_line c ++ codes "endloop\nendfacet\n") (line_plain b q)
    (plain_both (vertex_line c) (codes "endloop\nendfacet\n") (line_plain c r) refl)))

low_corner : (v : Vertex) → IsSmall v → IsLow (point_of v).z
low_corner v s = (omega (arith, ints, s.z), omega (arith, ints, s.z))

pub solid_facet : (a b c : Vertex) → IsSmall a → IsSmall b → IsSmall c → Apart a b → Apart b c → Apart c a → IsSolidText (facet_text a b c) 1
solid_facet a b c small_a small_b small_c a_b b_c c_a =
    let f = facet_of a b c in
    let three : HasThreeCorners f = record { a_b = points_apart a b a_b; b_c = points_apart b c b_c; c_a = points_apart c a c_a } in
    record {
      facets = f ∷ [];
      are = record {
        reads = λ bytes at sp tail before r white e room next. one three bytes at sp tail before r white e room next;
        plain = facet_plain a b c small_a small_b small_c;
        short = facet_short a b c small_a small_b small_c;
        low = ((low_corner a small_a, low_corner b small_b, low_corner c small_c), tt);
      };
      count = refl;
    }
  where
    one : HasThreeCorners (facet_of a b c) → (bytes : List ℕ) (at : ℕ) (sp tail : List ℕ) (before : List Facet) (r : Result Found Stl) → passes_none is_black sp ≡ true → drop at bytes ≡ sp ++ (facet_text a b c ++ tail)
        → length before + 1 ≤ 200_000 → Then bytes tail (before ++ facet_of a b c ∷ []) r → Body bytes at (found_of before) r
    one three bytes at sp tail before r white e room next =
        let there : drop at bytes ≡ sp ++ (codes "facet" ++ facet_front a b c tail) = e ∙ ap (λ l. sp ++ l) (facet_pieces a b c tail) in
        let w = word_at bytes at sp (codes "facet") 32 _ there white refl (omega arith) refl in
        let f = facet_at bytes w.word.to a b c tail small_a small_b small_c w.behind in
        let stands : part bytes at (count (found_of before)) (Ok (Parts.Facet (facet_of a b c) f.to)) =
        passes w.word (record { word = w.word; is = w.is; given = refl })
        (yes (ap (map to_ascii_lowercase) w.spelled) (yes (omega (arith, room)) (passes (facet_of a b c, f.to) f.reads refl))) in
        facet stands (keeps three refl) (next f.to (10 ∷ []) refl f.behind)
