use Rattle.std.proofs.Common.{◌≡◌, ◌∙◌, sym, ap, inr, false, Result, Ok, Err, IfOk}
use Rattle.std.specs.Result.{is_err}
use Rattle.std.proofs.lemmas.Result.{err_from_is_err_and}
use Rattle.stl_text.specs.declared.parts.Part.TheVariants as Parts
use Rattle.stl_text.proofs.Bodies.{so_far_facet, so_far_solid, body_ends, body_refused}
use Rattle.stl_text.proofs.mesh.body.Goals as goal

if_ok : {A E : Type 0} (r : Result A E) (P : Type 0) → IfOk r (λ _. P) → is_err r ≡ false → P
if_ok (Ok a) P h e = h
if_ok (Err x) P h e = absurd cc

pub returns-in_err-triangle-clause-refused : goal.returns-in_err-triangle-clause-refused
returns-in_err-triangle-clause-refused c =
    let p = err_from_is_err_and c.from_residual.result c.from_residual.ensures.1 in
    rw (p.1, p.2) (inr (body_refused c.args.bytes.now c.args.first c.loop-found.at c.count.result c.loop-found.found c.loop-found.invariant c.count.ensures _ c.in_err-triangle.ensures.reads))

pub loop-found-preserved-in-Facet : goal.loop-found-preserved-in-Facet
loop-found-preserved-in-Facet c =
    let part = c.in_ok-triangle in
    so_far_facet c.args.bytes.now c.args.first c.loop-found.at c.count.result c.loop-found.found c.loop-found.invariant c.count.ensures c.in-Facet.to c.in-Facet.triangle c.add.new.self part.field-0 c.in-Facet.is part.ensures.reads part.ensures.fits (if_ok c.add.result _ c.add.ensures (sym c.is_err.ensures.value ∙ c.if-is_err.false))

pub loop-found-preserved : goal.loop-found-preserved
loop-found-preserved c =
    let part = c.in_ok-triangle in
    so_far_solid c.args.bytes.now c.args.first c.loop-found.at c.count.result c.loop-found.found c.loop-found.invariant c.count.ensures c.in-Ending-Some.to part.field-0 (c.in-Ending-Some.is ∙ ap Parts.Ending c.in-Ending-Some.field-0-is) part.ensures.reads part.ensures.fits

pub returns-in-Ending-None-clause-found : goal.returns-in-Ending-None-clause-found
returns-in-Ending-None-clause-found c =
    let part = c.in_ok-triangle in
    body_ends c.args.bytes.now c.args.first c.loop-found.at c.count.result c.loop-found.found c.loop-found.invariant c.count.ensures part.field-0 (c.in-Ending-None.is ∙ ap Parts.Ending c.in-Ending-None.field-0-is) part.ensures.reads
