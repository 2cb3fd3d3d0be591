use Rattle.std.proofs.Common.{rules, ◌≡◌, ◌∙◌, sym, ap, Some, None, option_map, map}
use Rattle.clap.specs.Words.{rows_of, found_of, all_of}
use Rattle.clap.proofs.WalkLemmas.{raw_values-rows}
use Rattle.seq_words.proofs.found.several.Goals as goal

pub returns-in-Some-clause-ok : goal.returns-in-Some-clause-ok
returns-in-Some-clause-ok c =
    let found : all_of c.label.result.now (rows_of (found_of c.args.matches.now)) ≡ Some (map (λ s. s.now) c.in-Some.list.now) =
    sym (raw_values-rows (found_of c.args.matches.now) c.label.result.now) ∙ sym c.get_raw.ensures ∙ ap (option_map (λ s. map (λ v. v.now) s.now)) c.in-Some.is in
    rw (← c.label.ensures, found) c.copies.ensures.ok

pub returns-in-None-clause-ok : goal.returns-in-None-clause-ok
returns-in-None-clause-ok c =
    let found : all_of c.label.result.now (rows_of (found_of c.args.matches.now)) ≡ None =
    sym (raw_values-rows (found_of c.args.matches.now) c.label.result.now) ∙ sym c.get_raw.ensures ∙ ap (option_map (λ s. map (λ v. v.now) s.now)) c.in-None.is in
    rw (← c.label.ensures, found) (search rules)
