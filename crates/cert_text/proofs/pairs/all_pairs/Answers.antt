use Rattle.std.proofs.Common.{◌≡◌, ◌∷◌, ◌++◌, [], ◌∙◌, ◌<◌, ap, sym, length, length-append, refl, arith, rules}
use Rattle.std.specs.Option.{option_map}
use Rattle.cert_text.specs.Laws.Pairs.{loop_more, loop_none, loop_full, loop_ended, smaller_rest, with_found}
use Rattle.text_lines.specs.Laws.Reading.{mapped_some}
use Rattle.cert_text.proofs.pairs.all_pairs.Goals as goal

pub returns-then-len-eq-MOST_PAIRS : goal.returns-then-len-eq-MOST_PAIRS
returns-then-len-eq-MOST_PAIRS c = loop_full _ c.loop-found.found.items c.loop-found.rest.now (omega arith) (sym c.ends_line.ensures ∙ c.loop-found-test.true) c.loop-found.invariant.answer

pub returns-in_default : goal.returns-in_default
returns-in_default c = loop_none _ c.loop-found.found.items c.loop-found.rest.now (omega arith) (sym c.ends_line.ensures ∙ c.loop-found-test.true) (sym c.pair_line.ensures ∙ ap (option_map _) c.in_default.is) c.loop-found.invariant.answer

pub loop-found-smaller : goal.loop-found-smaller
loop-found-smaller c = smaller_rest c.loop-found.rest.now c.in-Some.after.now c.in-Some.pair (mapped_some _ _ _ _ c.pair_line.ensures c.in-Some.is)

pub loop-found-preserved : goal.loop-found-preserved
loop-found-preserved c =
    let found = c.loop-found.found.items in
    let pushed : c.push.new.self.items ≡ found ++ c.in-Some.pair ∷ [] = search rules in
    let few : length found < 33 = omega arith in
    record {
      answer = loop_more _ found c.push.new.self.items c.loop-found.rest.now c.in-Some.after.now c.in-Some.pair few pushed (sym c.ends_line.ensures ∙ c.loop-found-test.true) (mapped_some _ _ _ _ c.pair_line.ensures c.in-Some.is) c.loop-found.invariant.answer;
      few = omega (arith, ap length pushed, length-append found (c.in-Some.pair ∷ []));
    }

pub returns : goal.returns
returns c = with_found c.loop-found.found.items (λ x. x.now) _ _ c.line_end.ensures ∙ loop_ended _ c.loop-found.found.items c.loop-found.rest.now _ (sym c.ends_line.ensures ∙ c.loop-found-test.false) refl c.loop-found.invariant.answer
