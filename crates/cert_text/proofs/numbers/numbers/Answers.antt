use Rattle.std.proofs.Common.{◌≡◌, ◌∷◌, ◌++◌, [], ◌∙◌, ◌<◌, ap, sym, length, length-append, refl, arith, rules, FitsSigned}
use Rattle.std.proofs.lemmas.Int.{to_z-of_z}
use Rattle.std.specs.Option.{option_map}
use Rattle.cert_text.specs.Laws.Numbers.{loop_more, loop_none, loop_full, loop_ended, shorter_rest, with_found}
use Rattle.text_lines.specs.Laws.Reading.{mapped_some}
use Rattle.cert_text.proofs.numbers.numbers.Goals as goal

pub returns-then-len-room : goal.returns-then-len-room
returns-then-len-room c = loop_full c.args.separator.now c.args.room _ c.loop-found.found.items c.loop-found.rest.now (omega (arith, c.len.ensures, c.if-len-room.true)) (sym c.ends_line.ensures ∙ c.loop-found-test.true) c.loop-found.invariant.answer

pub returns-in_default : goal.returns-in_default
returns-in_default c =
    loop_none c.args.separator.now c.args.room _ c.loop-found.found.items c.loop-found.rest.now (omega (arith, c.len.ensures, c.if-len-room.false, c.loop-found.invariant.few)) (sym c.ends_line.ensures ∙ c.loop-found-test.true)
    (sym c.number.ensures ∙ ap (option_map _) c.in_default.is) c.loop-found.invariant.answer

pub loop-found-smaller : goal.loop-found-smaller
loop-found-smaller c = shorter_rest c.args.separator.now c.loop-found.rest.now c.in-Some.after.now c.in-Some.n (mapped_some _ _ _ _ c.number.ensures c.in-Some.is)

pub loop-found-preserved : goal.loop-found-preserved
loop-found-preserved c =
    let found = c.loop-found.found.items in
    let few : length found < c.args.room = omega (arith, c.len.ensures, c.if-len-room.false, c.loop-found.invariant.few) in
    let fits : FitsSigned mir.Syntax.w128 c.in-Some.n = search rules in
    let pushed : c.push.new.self.items ≡ found ++ c.in-Some.n ∷ [] = simp to_z-of_z at c.in_ok-push.ensures.items in
    record {
      answer = loop_more c.args.separator.now c.args.room _ found c.push.new.self.items c.loop-found.rest.now c.in-Some.after.now c.in-Some.n few pushed (sym c.ends_line.ensures ∙ c.loop-found-test.true) (mapped_some _ _ _ _ c.number.ensures c.in-Some.is) c.loop-found.invariant.answer;
      few = omega (arith, few, ap length pushed, length-append found (c.in-Some.n ∷ []));
    }

pub returns : goal.returns
returns c =
    with_found c.loop-found.found.items (λ x. x.now) _ _ c.line_end.ensures
    ∙ loop_ended c.args.separator.now c.args.room _ c.loop-found.found.items c.loop-found.rest.now _ (sym c.ends_line.ensures ∙ c.loop-found-test.false) refl c.loop-found.invariant.answer
