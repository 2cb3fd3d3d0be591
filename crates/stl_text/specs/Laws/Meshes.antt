-- Bytes are read in one way only.
--
--   one_result        a reading has one result
--   one_mesh          bytes are a mesh of one list of facets, and of one number of dropped ones
--   one_refusal       bytes are refused for one cause
--   refused_no_mesh   bytes that are refused are no mesh
use Rattle.std.proofs.Common.{◌≡◌, ℕ, List, Result, Ok, Err, refl, ap}
use Rattle.seq_model.specs.declared.mesh.Facet.{Facet}
use Rattle.stl_text.specs.declared.Stl.{Stl}
use Rattle.stl_text.specs.declared.found.Found.{Found}
use Rattle.stl_text.specs.Reading.{Reading, ReadsOnly}
use Rattle.stl_text.specs.Meshes.{File, MeshOf, IsRefused}

pub one_result : {A : Type 0} (m : Reading A) (r s : Result A Stl) → ReadsOnly m r → ReadsOnly m s → r ≡ s
one_result m r s f g = g.only r f.stands

same_found : (r : Result Found Stl) (x y : Found) → r ≡ Ok x → r ≡ Ok y → (x.facets ≡ y.facets) × (x.dropped ≡ y.dropped)
same_found r x y e f = let same : x ≡ y = cc in (ap (λ (z : Found). z.facets) same, ap (λ (z : Found). z.dropped) same)

pub one_mesh : (bytes : List ℕ) (fs gs : List Facet) (d e : ℕ) → MeshOf bytes fs d → MeshOf bytes gs e → (fs ≡ gs) × (d ≡ e)
one_mesh bytes fs gs d e f g =
    let x : Found = record { facets = fs; dropped = d } in
    let y : Found = record { facets = gs; dropped = e } in
    same_found (Ok x) x y refl (one_result (File bytes) (Ok x) (Ok y) f g)

pub one_refusal : (bytes : List ℕ) (why other : Stl) → IsRefused bytes why → IsRefused bytes other → why ≡ other
one_refusal bytes why other f g = let e = one_result (File bytes) (Err why) (Err other) f g in cc

pub refused_no_mesh : (bytes : List ℕ) (why : Stl) (fs : List Facet) (d : ℕ) → IsRefused bytes why → MeshOf bytes fs d → ⊥
refused_no_mesh bytes why fs d f g =
    let x : Found = record { facets = fs; dropped = d } in
    let e = one_result (File bytes) (Err why) (Ok x) f g in
    absurd cc
