use Rattle.std.proofs.Common.{◌≡◌, ◌∙◌, ap, sym, true, false, Err, Ok, eqb, pos, FitsSigned, arith, rules}
use Rattle.std.proofs.lemmas.Int.{to_z-of_z}
use Rattle.plan_text.specs.declared.file.PlanFile.{PlanFile}
use Rattle.plan_text.specs.declared.reading.PlanRead.TheVariants as refused
use Rattle.std.proofs.lemmas.Bool.Decides.{nat_tests}
use Rattle.plan_text.specs.Reading.{divisor_of}
use Rattle.text_lines.specs.Laws.Results.{mapped_ok, mapped_err, answered_ok, answered_err, handed_on}
use Rattle.plan_text.proofs.Bodies.{no_extent, no_scale, no_places, divided, whole_body, made}
use Rattle.plan_text.proofs.reading.body.Goals as goal

pub returns-in_err-extent : goal.returns-in_err-extent
returns-in_err-extent c = λ _.
    (let is : c.from_residual.result ≡ Err c.in_err-extent.field-0.0 = search rules in
    let grid : c.from.result ≡ c.args.grid = search rules in
    handed_on _ _ _ _ is (no_extent c.args.state c.args.grid c.args.bytes.now _ (rw grid at (mapped_err _ _ _ _ c.due.ensures.value c.in_err-extent.was))))

pub returns-in_err-scale : goal.returns-in_err-scale
returns-in_err-scale c = λ _.
    (let is : c.from_residual-in_err-scale.result ≡ Err c.in_err-scale.field-0.0 = search rules in
    let grid : c.from.result ≡ c.args.grid = search rules in
    handed_on _ _ _ _ is (no_scale c.args.state c.args.grid c.in_ok-extent.extent c.args.bytes.now c.in_ok-extent.rest.now _
    (rw grid at (mapped_ok _ _ _ _ c.due.ensures.value c.in_ok-extent.was))
    (mapped_err _ _ _ _ c.due-2.ensures.value c.in_err-scale.was)))

pub returns-in_err-places : goal.returns-in_err-places
returns-in_err-places c = λ some.
    (let is : c.from_residual-in_err-places.result ≡ Err c.in_err-places.field-0.0 = search rules in
    let grid : c.from.result ≡ c.args.grid = search rules in
    handed_on _ _ _ _ is (no_places c.args.state c.args.grid c.in_ok-extent.extent c.in_ok-scale.scale c.args.bytes.now c.in_ok-extent.rest.now c.in_ok-scale.rest.now _
    (rw grid at (mapped_ok _ _ _ _ c.due.ensures.value c.in_ok-extent.was))
    (mapped_ok _ _ _ _ c.due-2.ensures.value c.in_ok-scale.was)
    (answered_err refused.NoMemory _ _ _ _ c.places.ensures.answer c.in_err-places.was (λ wanting. some (is ∙ ap Err wanting)))))

pub returns-then-divisor_of-ne1 : goal.returns-then-divisor_of-ne1
returns-then-divisor_of-ne1 c = λ _.
    (let grid : c.from.result ≡ c.args.grid = search rules in
    let divisor : c.divisor_of.result ≡ divisor_of c.in_ok-scale.scale c.in_ok-places.places.items = c.divisor_of.ensures ∙ ap (divisor_of c.in_ok-scale.scale) c.deref.ensures.value in
    let not_one : eqb (divisor_of c.in_ok-scale.scale c.in_ok-places.places.items) 1 ≡ false = grind (arith, nat_tests, divisor) in
    sym (divided c.args.state c.args.grid c.in_ok-extent.extent c.in_ok-scale.scale c.in_ok-places.places.items c.args.bytes.now c.in_ok-extent.rest.now c.in_ok-scale.rest.now c.in_ok-places.rest.now
    (rw grid at (mapped_ok _ _ _ _ c.due.ensures.value c.in_ok-extent.was))
    (mapped_ok _ _ _ _ c.due-2.ensures.value c.in_ok-scale.was)
    (answered_ok refused.NoMemory _ _ _ _ c.places.ensures.answer c.in_ok-places.was)
    not_one))

pub returns : goal.returns
returns c = λ _.
    (let grid : c.from.result ≡ c.args.grid = search rules in
    let divisor : c.divisor_of.result ≡ divisor_of c.in_ok-scale.scale c.in_ok-places.places.items = c.divisor_of.ensures ∙ ap (divisor_of c.in_ok-scale.scale) c.deref.ensures.value in
    let one : eqb (divisor_of c.in_ok-scale.scale c.in_ok-places.places.items) 1 ≡ true = grind (arith, nat_tests, divisor) in
    let value : c.from-2.result ≡ pos c.in_ok-scale.scale = search rules in
    let fits : FitsSigned mir.Syntax.w128 c.from-2.result = search rules in
    ap (λ (f : PlanFile). Ok (f, c.in_ok-places.rest.now)) (made c.args.state c.args.grid c.in_ok-extent.extent c.in_ok-scale.scale _ _ _ (to_z-of_z mir.Syntax.w128 c.from-2.result fits ∙ value) c.from_vec.ensures)
    ∙ sym (whole_body c.args.state c.args.grid c.in_ok-extent.extent c.in_ok-scale.scale c.in_ok-places.places.items c.args.bytes.now c.in_ok-extent.rest.now c.in_ok-scale.rest.now c.in_ok-places.rest.now
    (rw grid at (mapped_ok _ _ _ _ c.due.ensures.value c.in_ok-extent.was))
    (mapped_ok _ _ _ _ c.due-2.ensures.value c.in_ok-scale.was)
    (answered_ok refused.NoMemory _ _ _ _ c.places.ensures.answer c.in_ok-places.was)
    one))
