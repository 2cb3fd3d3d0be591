use Rattle.std.proofs.Common.{◌≡◌, ◌+◌, ◌<◌, ◌∙◌, ap, sym, Some, None, Err, length, length-append, All, [], ◌∷◌, ◌++◌, subst, arith, rules}
use Rattle.std.proofs.lemmas.List.Elements.{All-push}
use Rattle.std.specs.Option.{option_map}
use Rattle.seq_model.specs.declared.what.What.TheVariants as what
use Rattle.plan_text.specs.PlanText.{IsPlace}
use Rattle.plan_text.specs.Lines.{place_at}
use Rattle.plan_text.specs.Reading.{refusal}
use Rattle.text_lines.specs.Laws.Reading.{mapped_some}
use Rattle.plan_text.proofs.Placing.{loop_more, loop_none, loop_full, step_end, smaller_rest}
use Rattle.plan_text.proofs.reading.places.Goals as goal

pub returns-then-len-eq-MOST_OBJECTS-clause-answer : goal.returns-then-len-eq-MOST_OBJECTS-clause-answer
returns-then-len-eq-MOST_OBJECTS-clause-answer c = λ _.
    (let found = c.loop-found.found.items in
    let count : c.len.result ≡ length found = omega arith in
    let refused : c.refusal.result ≡ refusal (length found + 6) what.Place c.loop-found.rest.now = c.refusal.ensures ∙ ap (λ n. refusal (n + 6) what.Place c.loop-found.rest.now) count in
    ap Err refused ∙ loop_full _ found c.loop-found.rest.now (omega arith) (sym c.begins_place.ensures ∙ c.loop-found-test.true) c.loop-found.invariant.answer)

pub returns-in_default-clause-answer : goal.returns-in_default-clause-answer
returns-in_default-clause-answer c = λ _.
    (let found = c.loop-found.found.items in
    let count : c.len.result ≡ length found = omega arith in
    let few : length found < 16 = omega arith in
    let none : place_at c.loop-found.rest.now ≡ None = sym c.place_line.ensures.value ∙ ap (option_map _) c.in_default.is in
    let refused : c.refusal-in_default.result ≡ refusal (length found + 6) what.Place c.loop-found.rest.now = c.refusal-in_default.ensures ∙ ap (λ n. refusal (n + 6) what.Place c.loop-found.rest.now) count in
    ap Err refused ∙ loop_none _ found c.loop-found.rest.now few (sym c.begins_place.ensures ∙ c.loop-found-test.true) none c.loop-found.invariant.answer)

pub loop-found-smaller : goal.loop-found-smaller
loop-found-smaller c = smaller_rest c.loop-found.rest.now c.in-Some.after.now c.in-Some.place (mapped_some _ _ _ _ c.place_line.ensures.value c.in-Some.is)

pub loop-found-preserved : goal.loop-found-preserved
loop-found-preserved c =
    let read : place_at c.loop-found.rest.now ≡ Some (c.in-Some.place, c.in-Some.after.now) = mapped_some _ _ _ _ c.place_line.ensures.value c.in-Some.is in
    let found = c.loop-found.found.items in
    let pushed : c.push.new.self.items ≡ found ++ c.in-Some.place ∷ [] = search rules in
    let small : IsPlace c.in-Some.place = search rules in
    record {
      answer = loop_more _ found c.push.new.self.items c.loop-found.rest.now c.in-Some.after.now c.in-Some.place (omega arith) pushed (sym c.begins_place.ensures ∙ c.loop-found-test.true) read c.loop-found.invariant.answer;
      few = omega (arith, ap length pushed, length-append found (c.in-Some.place ∷ []));
      small = subst (All IsPlace) (sym pushed) (All-push IsPlace found c.in-Some.place c.loop-found.invariant.small small);
    }

pub returns-clause-answer : goal.returns-clause-answer
returns-clause-answer c = λ _. sym (step_end _ c.loop-found.found.items c.loop-found.rest.now (sym c.begins_place.ensures ∙ c.loop-found-test.false)) ∙ c.loop-found.invariant.answer
