use Rattle.std.proofs.Common.{◌≡◌, ◌≢◌, ◌-◌, ◌∙◌, ap, sym, Result, Err, Ok, ℕ, length, arith, rules}
use Rattle.plan_text.specs.declared.file.PlanFile.{PlanFile}
use Rattle.plan_text.specs.declared.reading.PlanRead.{PlanRead}
use Rattle.plan_text.specs.declared.reading.PlanRead.TheVariants as refused
use Rattle.plan_text.specs.Reading.{file_at, ended, plan_answer}
use Rattle.text_lines.specs.Laws.Results.{answered_ok, answered_err}
use Rattle.plan_text.proofs.Answering.{no_file, no_end, whole, within, answer_is, all_of}
use Rattle.plan_text.proofs.reading.read_plan.Goals as goal

pub returns-in_err-file : goal.returns-in_err-file
returns-in_err-file c =
    let is : c.from_residual.result ≡ Err c.in_err-file.field-0.0 = search rules in
    let answer : c.from_residual.result ≢ Err refused.NoMemory → c.from_residual.result ≡ plan_answer c.args.bytes.now =
    λ some. is ∙ sym (no_file _ _ (answered_err refused.NoMemory _ _ _ _ c.file.ensures c.in_err-file.was (λ wanting. some (is ∙ ap Err wanting)))) in
    record { answer = answer; read = search rules; all = all_of _ _ answer }

pub returns-in_err-end : goal.returns-in_err-end
returns-in_err-end c =
    let is : c.from_residual-in_err-end.result ≡ Err c.in_err-end.field-0.0 = search rules in
    let read : file_at c.args.bytes.now ≡ Ok (c.in_ok-file.file, c.in_ok-file.rest.now) = answered_ok refused.NoMemory _ _ _ _ c.file.ensures c.in_ok-file.was in
    let answer : c.from_residual-in_err-end.result ≢ Err refused.NoMemory → c.from_residual-in_err-end.result ≡ plan_answer c.args.bytes.now =
    λ some. is ∙ sym (no_end _ _ _ _ read (sym c.end.ensures ∙ c.in_err-end.was)) in
    record { answer = answer; read = search rules; all = all_of _ _ answer }

pub overflow_sub-result : goal.overflow_sub-result
overflow_sub-result c =
    let read : file_at c.args.bytes.now ≡ Ok (c.in_ok-file.file, c.in_ok-file.rest.now) = answered_ok refused.NoMemory _ _ _ _ c.file.ensures c.in_ok-file.was in
    omega (arith, within _ _ _ read)

pub returns : goal.returns
returns c =
    let read : file_at c.args.bytes.now ≡ Ok (c.in_ok-file.file, c.in_ok-file.rest.now) = answered_ok refused.NoMemory _ _ _ _ c.file.ensures c.in_ok-file.was in
    let end : ended c.in_ok-file.file c.in_ok-file.rest.now ≡ Ok tt = sym c.end.ensures ∙ c.in_ok-end.was in
    let place = length c.args.bytes.now - length c.in_ok-file.rest.now in
    let result : Result (PlanFile × ℕ) PlanRead = Ok (c.in_ok-file.file, place) in
    let answer : result ≢ Err refused.NoMemory → result ≡ plan_answer c.args.bytes.now = λ _. sym (whole _ _ _ read end) in
    record { answer = answer; read = answer_is _ _ _ read end; all = all_of _ _ answer }
