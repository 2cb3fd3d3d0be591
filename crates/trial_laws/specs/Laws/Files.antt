-- A made file is read as a mesh.
--
--   not_binary      a short text without a byte 0 isn't taken for a binary mesh
--   ended           behind the last line of a mesh nothing is left to read
--   mesh_made       the text of a made mesh is read as the facets of its tower
use Rattle.std.proofs.Common.{◌≡◌, ℕ, zero, suc, ◌<◌, ◌≤◌, true, nat_le, List, [], ◌∷◌, ◌++◌, length, length-append, length-drop, get_or, drop, map, codes, refl, sym, ap, ◌∙◌, subst, arith, None, Ok}
use Rattle.std.proofs.lemmas.Bool.Decides.{nat_tests}
use Rattle.std.specs.Char.{to_ascii_lowercase}
use Rattle.std.specs.List.{list_all}
use Rattle.std.proofs.lemmas.Bool.{and_parts}
use Rattle.seq_model.specs.declared.mesh.Facet.{Facet}
use Rattle.seq_trial.specs.Draws.{later}
use Rattle.seq_trial.specs.Towers.{mesh_text, name_of, tower_at, tower_text}
use Rattle.stl_text.specs.Grammar.{closing, opening, part}
use Rattle.stl_text.specs.Meshes.{Body, IsBinary, count, end, nothing}
use Rattle.stl_text.specs.Reading.{no, passes, yes}
use Rattle.stl_text.specs.Words.{ends_line, is_black, is_white, IsFirst}
use Rattle.stl_text.specs.declared.Keyword.TheVariants as Keywords
use Rattle.stl_text.specs.declared.parts.Part.TheVariants as Parts
use Rattle.trial_laws.specs.Laws.Bands.{ten_bands}
use Rattle.trial_laws.specs.Laws.Layers.{few_higher, tower_solid}
use Rattle.trial_laws.specs.Laws.Numbers.{is_plain, spelled_in_line, spelled_plain, spelled_short}
use Rattle.trial_laws.specs.Laws.Solids.{found_of, plain_both}
use Rattle.trial_laws.specs.Made.{IsMadeMesh, facets_at}
use Rattle.trial_laws.specs.Laws.Words.{first_at_end, keyword_at, passes_none, rest_at, word_at}

plain_at : (bytes : List ℕ) (k : ℕ) → list_all is_plain bytes ≡ true → k < length bytes → 1 ≤ get_or bytes k 0
plain_at [] k plain within = absurd (omega (arith, within))
plain_at (c ∷ cs) zero plain within = (let first = (and_parts (nat_le 1 c) (list_all is_plain cs) plain).0 in grind (arith, nat_tests))
plain_at (c ∷ cs) (suc k) plain within = plain_at cs k (and_parts (nat_le 1 c) (list_all is_plain cs) plain).1 (omega (arith, within))

not_binary : (bytes : List ℕ) → list_all is_plain bytes ≡ true → length bytes ≤ 100_000 → ¬ IsBinary bytes
not_binary bytes plain short b =
    let last = plain_at bytes 83 plain (omega (arith, b.header)) in
    absurd (omega (arith, b.facets, short, last))

-- ---- the name of a solid
name_in_line : (o : ℕ) → o ≤ 10_000 → passes_none ends_line (32 ∷ name_of o) ≡ true
unfolding name_of
name_in_line o small = spelled_in_line o small

name_plain : (o : ℕ) → o ≤ 10_000 → list_all is_plain (name_of o) ≡ true
unfolding name_of
name_plain o small = spelled_plain o small

name_short : (o : ℕ) → o ≤ 10_000 → length (name_of o) ≤ 6
unfolding name_of
name_short o small = omega (arith, spelled_short o small)

-- ---- the end of a file

abbrev last_line : ℕ → List ℕ
last_line o = codes "endsolid " ++ (name_of o ++ codes "\n")

not_facet : ¬ (map to_ascii_lowercase (codes "endsolid") ≡ map to_ascii_lowercase (codes "facet"))
not_facet e = absurd (omega (arith, ap (λ l. get_or l 0 0) e))

ended : (bytes : List ℕ) (at : ℕ) (sp : List ℕ) (o n : ℕ) → o ≤ 10_000 → passes_none is_black sp ≡ true → drop at bytes ≡ sp ++ last_line o → part bytes at n (Ok (Parts.Ending None))
ended bytes at sp o n small white e =
    let w = word_at bytes at sp (codes "endsolid") 32 (name_of o ++ codes "\n") e white refl (omega arith) refl in
    let r = rest_at bytes w.word.to (32 ∷ name_of o) [] w.behind (name_in_line o small) in
    let left : length (drop r.to bytes) ≡ 0 = ap length r.behind in
    let at_end : length bytes ≡ r.to = omega (arith, r.within, left, length-drop r.to bytes) in
    let black : IsFirst is_black bytes r.to r.to = subst (λ k. IsFirst is_black bytes k k) at_end (first_at_end is_black bytes) in
    let blank : IsFirst is_white bytes r.to r.to = subst (λ k. IsFirst is_white bytes k k) at_end (first_at_end is_white bytes) in
    let none : closing bytes w.word.to (Ok None) =
    passes r.to r.reads (passes (record { from = r.to; to = r.to }) (record { word = record { from = r.to; to = r.to }; is = record { starts = black; ends = blank }; given = refl }) (no (λ h. absurd (omega (arith, h))) refl)) in
    passes w.word (record { word = w.word; is = w.is; given = refl })
    (no (λ h. not_facet (sym (ap (map to_ascii_lowercase) w.spelled) ∙ h))
    (yes (ap (map to_ascii_lowercase) w.spelled) (passes None none refl)))

-- ---- the whole file
not_empty : (fs : List Facet) (n : ℕ) → length fs ≡ n → 0 < n → ¬ (fs ≡ [])
not_empty fs n count some e = absurd (omega (arith, count, some, ap length e))

text_short : (o s : ℕ) → o ≤ 10_000 → length (mesh_text o s) ≤ 100_000
text_short o s small =
    let t = tower_solid s (later 3 s) in
    let name = name_short o small in
    let tower = tower_text (tower_at s) (later 3 s) in
    let first = length-append (name_of o) (codes "\n" ++ (tower ++ last_line o)) in
    let middle = length-append tower (last_line o) in
    let last = length-append (name_of o) (codes "\n") in
    omega (arith, first, middle, last, name, t.are.short, t.count, few_higher s)

text_plain : (o s : ℕ) → o ≤ 10_000 → list_all is_plain (mesh_text o s) ≡ true
text_plain o s small =
    let t = tower_solid s (later 3 s) in
    let tower = tower_text (tower_at s) (later 3 s) in
    plain_both (codes "solid ") (name_of o ++ (codes "\n" ++ (tower ++ last_line o))) refl
    (plain_both (name_of o) (codes "\n" ++ (tower ++ last_line o)) (name_plain o small)
    (plain_both (codes "\n") (tower ++ last_line o) refl
    (plain_both tower (last_line o) t.are.plain
    (plain_both (codes "endsolid ") (name_of o ++ codes "\n") refl
    (plain_both (name_of o) (codes "\n") (name_plain o small) refl)))))

pub mesh_made : (o s : ℕ) → o ≤ 10_000 → IsMadeMesh (mesh_text o s) (facets_at s)
mesh_made o s small =
    let bytes = mesh_text o s in
    let tower = tower_text (tower_at s) (later 3 s) in
    let t = tower_solid s (later 3 s) in
    let k = keyword_at bytes 0 Keywords.Solid [] 32 (name_of o ++ (10 ∷ (tower ++ last_line o))) refl refl refl (omega arith) refl in
    let r = rest_at bytes k.to (32 ∷ name_of o) (tower ++ last_line o) k.behind (name_in_line o small) in
    let opened : opening bytes 0 (Ok r.to) = passes k.to k.reads r.reads in
    let few : length t.facets ≤ 240 = omega (arith, t.count, few_higher s) in
    let body : Body bytes r.to nothing (Ok (found_of t.facets)) =
    t.are.reads bytes r.to [] (last_line o) [] (Ok (found_of t.facets)) refl r.behind (omega (arith, few))
    (λ to sp white e. end (ended bytes to sp o (count (found_of t.facets)) small white e) refl) in
    let some : 0 < count (found_of t.facets) = omega (arith, t.count) in
    record {
      facets = t.facets;
      read = no (not_binary bytes (text_plain o s small) (text_short o s small)) (passes r.to opened (passes (found_of t.facets) body (yes some refl)));
      some = not_empty t.facets (facets_at s) t.count (omega arith);
      count = t.count;
      few_bands = ten_bands t.facets t.are.low;
    }
