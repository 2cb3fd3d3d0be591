use Rattle.std.proofs.Common.{◌≡◌, ◌≤◌, ◌∙◌, sym, subst, arith, rules, FitsSigned, w64}
use Rattle.std.proofs.Math.Facts.{to_z-of_z}
use Rattle.seq_model.specs.Bands.{height_of, band_count}
use Rattle.seq_model.specs.Scenes.{Spans}
use Rattle.mesh_slices.specs.Objects.{spots_in}
use Rattle.mesh_slices.specs.Runs.{AreRunsOf}
use Rattle.mesh_slices.specs.Laws.AgreeingJobs.{zones_of}
use Rattle.mesh_slices.specs.Laws.CoveringMeshes.{zones_cover}
use Rattle.mesh_slices.proofs.Assembled.{object_is}
use Rattle.mesh_slices.proofs.objects.object.Goals as goal

pub returns-clause-object : goal.returns-clause-object
returns-clause-object c =
    let p = c.args.printer.now in
    let v = c.as_slice-facets.ensures in
    let m = c.measure_of-measure.result in
    let e = c.measure_of-measure.ensures in
    let n = c.few_bands-bands.result in
    let same = c.few_bands-bands.ensures in
    let not_more = c.if-measure-from.false in
    let few : n ≤ 200 = omega arith in
    let fits : FitsSigned w64 m.height = search rules in
    object_is p c.args.mesh.now.facets c.args.name.now _ c.args.mesh.now.near c.in_ok-from_str.ensures
    (to_z-of_z fits ∙ subst (λ fs. m.height ≡ height_of fs) v e.height)
    (same ∙ subst (λ fs. m.bands ≡ band_count fs p.step) v e.bands)
    few
    (subst (AreRunsOf (spots_in p c.args.mesh.now.facets) n) (sym c.from_vec.ensures) (subst (λ fs. AreRunsOf (spots_in p fs) n c.in_ok-zones.zones.items) v c.in_ok-zones.ensures))
    (subst (λ n. Spans n (spots_in p c.args.mesh.now.facets) m.low m.high) (sym (same ∙ subst (λ fs. m.bands ≡ band_count fs p.step) v e.bands)) (subst (λ fs. Spans (band_count fs p.step) (spots_in p fs) m.low m.high) v e.spans))

pub returns-clause-covers : goal.returns-clause-covers
returns-clause-covers c = zones_cover c.args.printer.now c.args.mesh.now.facets _ (zones_of c.args.name.now _ _ _ (returns-clause-object c))
