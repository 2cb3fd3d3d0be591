-- The body of a file, one part at a time.
--
--   SoFar bytes first at found   these facets were found between first and at, and what the rest reads then, the body
--                                from first on reads
use Rattle.std.proofs.Common.{◌≡◌, ◌∙◌, ℕ, ◌+◌, ◌≤◌, List, [], ◌∷◌, length, length-append, sym, refl, subst, arith, Ok, Err, Result, Some, None, All, ◌⊎◌, inl, inr}
use Rattle.std.proofs.lemmas.List.Elements.{All-nil, All-cons, All-append}
use Rattle.seq_model.specs.declared.mesh.Facet.{Facet}
use Rattle.seq_model.specs.Bounds.{IsNearFacet}
use Rattle.stl_text.specs.declared.Stl.{Stl}
use Rattle.stl_text.specs.declared.Stl.TheVariants.{NoMemory, NoFacet}
use Rattle.stl_text.specs.declared.found.Found.{Found}
use Rattle.stl_text.specs.declared.parts.Part.{Part}
use Rattle.stl_text.specs.declared.parts.Part.TheVariants as Parts
use Rattle.stl_text.specs.Reading.{ReadsOnly}
use Rattle.stl_text.specs.Grammar.{opening, part}
use Rattle.stl_text.specs.Progress.{PartFits}
use Rattle.stl_text.proofs.Pieces.{gives_reads, refuses_reads, passes_reads, stops_reads, yes_reads, no_reads}
use Rattle.stl_text.specs.Meshes.{IsBinary, MeshOf, IsRefused, WithFacet, keeps, drops, Body, facet, solid, end, refused, body, nothing, count}

one_with : (f : Facet) (before x y : Found) → WithFacet f before x → WithFacet f before y → x ≡ y
one_with f before x y (keeps h e) (keeps k g) = e ∙ sym g
one_with f before x y (keeps h e) (drops k g) = absurd (k h)
one_with f before x y (drops h e) (keeps k g) = absurd (h k)
one_with f before x y (drops h e) (drops k g) = e ∙ sym g

count_with : (f : Facet) (before after : Found) → WithFacet f before after → count after ≡ count before + 1
count_with f before after (keeps h e) = rw e (omega (arith, length-append before.facets (f ∷ [])))
count_with f before after (drops h e) = rw e (omega arith)

near_with : (f : Facet) (before after : Found) → WithFacet f before after → IsNearFacet f → All IsNearFacet before.facets → All IsNearFacet after.facets
near_with f before after (keeps h e) near all = rw e (All-append IsNearFacet before.facets (f ∷ []) all (All-cons IsNearFacet f [] near (All-nil IsNearFacet)))
near_with f before after (drops h e) near all = rw e all

-- ---- a part decides what the body reads
module _ (bytes : List ℕ) where
  only_facet : (at to : ℕ) (f : Facet) (before after : Found) (r s : Result Found Stl) → Body bytes at before s → ReadsOnly (part bytes at (count before)) (Ok (Parts.Facet f to)) → WithFacet f before after → ReadsOnly (body bytes to after) r → s ≡ r
  only_facet at to f before after r s (facet {to = to'} {f = f'} {after = after'} p w b) reads with_f rest =
      let e = reads.only (Ok (Parts.Facet f' to')) p in
      let to_is : to' ≡ to = cc in
      let f_is : f' ≡ f = cc in
      let W : Facet → Type 0 = λ g. WithFacet g before after' in
      let after_is = one_with f before after' after (subst W f_is w) with_f in
      let B : ℕ → Type 0 = λ n. Body bytes n after' s in
      let C : Found → Type 0 = λ n. Body bytes to n s in
      rest.only s (subst C after_is (subst B to_is b))
  only_facet at to f before after r s (solid {to = to'} p b) reads with_f rest = let e = reads.only (Ok (Parts.Ending (Some to'))) p in absurd cc
  only_facet at to f before after r s (end p g) reads with_f rest = let e = reads.only (Ok (Parts.Ending None)) p in absurd cc
  only_facet at to f before after r s (refused {e = e'} p g) reads with_f rest = let e = reads.only (Err e') p in absurd cc

  only_solid : (at to : ℕ) (before : Found) (r s : Result Found Stl) → Body bytes at before s → ReadsOnly (part bytes at (count before)) (Ok (Parts.Ending (Some to))) → ReadsOnly (body bytes to before) r → s ≡ r
  only_solid at to before r s (facet {to = to'} {f = f'} p w b) reads rest = let e = reads.only (Ok (Parts.Facet f' to')) p in absurd cc
  only_solid at to before r s (solid {to = to'} p b) reads rest =
      let e = reads.only (Ok (Parts.Ending (Some to'))) p in
      let to_is : to' ≡ to = cc in
      let B : ℕ → Type 0 = λ n. Body bytes n before s in
      rest.only s (subst B to_is b)
  only_solid at to before r s (end p g) reads rest = let e = reads.only (Ok (Parts.Ending None)) p in absurd cc
  only_solid at to before r s (refused {e = e'} p g) reads rest = let e = reads.only (Err e') p in absurd cc

  only_end : (at : ℕ) (before : Found) (s : Result Found Stl) → Body bytes at before s → ReadsOnly (part bytes at (count before)) (Ok (Parts.Ending None)) → s ≡ Ok before
  only_end at before s (facet {to = to'} {f = f'} p w b) reads = let e = reads.only (Ok (Parts.Facet f' to')) p in absurd cc
  only_end at before s (solid {to = to'} p b) reads = let e = reads.only (Ok (Parts.Ending (Some to'))) p in absurd cc
  only_end at before s (end p g) reads = g
  only_end at before s (refused {e = e'} p g) reads = let e = reads.only (Err e') p in absurd cc

  only_refused : (at : ℕ) (before : Found) (why : Stl) (s : Result Found Stl) → Body bytes at before s → ReadsOnly (part bytes at (count before)) (Err why) → s ≡ Err why
  only_refused at before why s (facet {to = to'} {f = f'} p w b) reads = let e = reads.only (Ok (Parts.Facet f' to')) p in absurd cc
  only_refused at before why s (solid {to = to'} p b) reads = let e = reads.only (Ok (Parts.Ending (Some to'))) p in absurd cc
  only_refused at before why s (end p g) reads = let e = reads.only (Ok (Parts.Ending None)) p in absurd cc
  only_refused at before why s (refused {e = e'} p g) reads = let e = reads.only (Err e') p in cc

-- ---- the loop over the parts
pub record SoFar (bytes : List ℕ) (first at : ℕ) (found : Found) : Type 0 where
  pub within : at ≤ length bytes
  pub few : count found ≤ 200_000
  pub near : All IsNearFacet found.facets
  pub comes : (r : Result Found Stl) → ReadsOnly (body bytes at found) r → ReadsOnly (body bytes first nothing) r

-- `n` and `next` are what the code holds: the count, and the part that it was given
module _ (bytes : List ℕ) (first at n : ℕ) (found : Found) (so_far : SoFar bytes first at found) (counted : n ≡ count found) where
  reads_at : (r : Result Part Stl) → ReadsOnly (part bytes at n) r → ReadsOnly (part bytes at (count found)) r
  reads_at r reads =
      let P : ℕ → Type 0 = λ k. ReadsOnly (part bytes at k) r in
      subst P counted reads

  pub so_far_facet : (to : ℕ) (f : Facet) (after : Found) (next : Part) → next ≡ Parts.Facet f to → ReadsOnly (part bytes at n) (Ok next) → PartFits bytes at n next → WithFacet f found after → SoFar bytes first to after
  so_far_facet to f after next is reads fits with_f =
      let here = reads_at (Ok (Parts.Facet f to)) (rw is at reads) in
      let near = rw is at fits in
      record {
        within = near.0.comes_on.within;
        few = omega (arith, near.0.room, count_with f found after with_f);
        near = near_with f found after with_f near.1 so_far.near;
        comes = λ r rest.
            so_far.comes r (record {
              stands = facet here.stands with_f rest.stands;
              only = λ s b. only_facet bytes at to f found after r s b here with_f rest;
            });
      }

  pub so_far_solid : (to : ℕ) (next : Part) → next ≡ Parts.Ending (Some to) → ReadsOnly (part bytes at n) (Ok next) → PartFits bytes at n next → SoFar bytes first to found
  so_far_solid to next is reads fits =
      let here = reads_at (Ok (Parts.Ending (Some to))) (rw is at reads) in
      let ahead = rw is at fits in
      record {
        within = ahead.within;
        few = so_far.few;
        near = so_far.near;
        comes = λ r rest.
            so_far.comes r (record {
              stands = solid here.stands rest.stands;
              only = λ s b. only_solid bytes at to found r s b here rest;
            });
      }

  pub body_ends : (next : Part) → next ≡ Parts.Ending None → ReadsOnly (part bytes at n) (Ok next) → ReadsOnly (body bytes first nothing) (Ok found)
  body_ends next is reads =
      let here = reads_at (Ok (Parts.Ending None)) (rw is at reads) in
      so_far.comes (Ok found) (record { stands = end here.stands refl; only = λ s b. only_end bytes at found s b here })

  pub body_refused : (why : Stl) → ReadsOnly (part bytes at n) (Err why) → ReadsOnly (body bytes first nothing) (Err why)
  body_refused why reads =
      let here = reads_at (Err why) reads in
      so_far.comes (Err why) (record { stands = refused here.stands refl; only = λ s b. only_refused bytes at found why s b here })

-- ---- the whole file
module _ (bytes : List ℕ) (first : ℕ) (text : ¬ IsBinary bytes) (opened : ReadsOnly (opening bytes 0) (Ok first)) where
  pub file_refused : (e : Stl) → (e ≡ NoMemory) ⊎ ReadsOnly (body bytes first nothing) (Err e) → (e ≡ NoMemory) ⊎ IsRefused bytes e
  file_refused e (inl memory) = inl memory
  file_refused e (inr reads) = inr (no_reads _ _ _ _ text (passes_reads _ _ _ _ opened (stops_reads _ _ _ reads)))

  pub file_empty : (found : Found) → ReadsOnly (body bytes first nothing) (Ok found) → count found ≡ 0 → IsRefused bytes NoFacet
  file_empty found reads none = no_reads _ _ _ _ text (passes_reads _ _ _ _ opened (passes_reads _ _ _ _ reads (no_reads _ _ _ _ (λ h. omega (arith, h, none)) (refuses_reads _))))

  pub file_read : (found : Found) → ReadsOnly (body bytes first nothing) (Ok found) → ¬ (count found ≡ 0) → MeshOf bytes found.facets found.dropped
  file_read found reads some = no_reads _ _ _ _ text (passes_reads _ _ _ _ opened (passes_reads _ _ _ _ reads (yes_reads _ _ _ _ (omega (arith, some)) (gives_reads _))))
