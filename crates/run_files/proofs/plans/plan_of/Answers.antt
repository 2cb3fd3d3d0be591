use Rattle.std.proofs.Common.{rules, ◌≡◌, ◌≢◌, ℕ, ◌-◌, List, length, take, drop, arith, length-drop, subst}
use Rattle.std.proofs.lemmas.List.{take_all}
use Rattle.cert_text.specs.Heads.{IsRefusedTree}
use Rattle.cert_text.specs.declared.block.CertRead.TheVariants.{NoMemory}
use Rattle.cert_text.specs.declared.block.Kind.TheVariants.{Certificate}
use Rattle.run_files.specs.Causes.{HasNoBlock}
use Rattle.run_files.specs.Plans.{IsBlockOf, reads_block}
use Rattle.run_files.proofs.Stated.{no_block, one_file, only_stated}
use Rattle.run_files.proofs.plans.plan_of.Goals as goal

all_behind : (bytes : List ℕ) (place : ℕ) → take (length bytes - place) (drop place bytes) ≡ drop place bytes
all_behind bytes place = take_all (length bytes - place) (drop place bytes) (omega (arith, length-drop place bytes))

pub returns-in-Ok-block_of-clause-only : goal.returns-in-Ok-block_of-clause-only
returns-in-Ok-block_of-clause-only c =
    let bytes = c.args.bytes.now in
    let file = c.in-Ok.read.0 in
    let place = c.in-Ok.read.1 in
    let block = c.in-Ok-block_of.block in
    let is = subst (λ rest. IsBlockOf (reads_block c.args.task file) rest block) (all_behind bytes place) c.in-Ok-block_of.ensures.is in
    only_stated c.args.task bytes file place block (one_file bytes c.read_plan.result file place c.in-Ok.is c.read_plan.ensures.all) is

pub returns : goal.returns
returns c =
    let bytes = c.args.bytes.now in
    let file = c.in-Ok.read.0 in
    let place = c.in-Ok.read.1 in
    let e = c.in-Err-block_of.e in
    let other : e ≢ NoMemory = search rules in
    let refused = subst (λ rest. IsRefusedTree rest Certificate e) (all_behind bytes place) (c.in-Err-block_of.ensures.refused other) in
    let cause : HasNoBlock c.args.task bytes e = record { file = file; place = place; is = c.in-Ok.ensures.read; due = c.in-Err-block_of.ensures.due; refused = refused } in
    record {
      is = tt;
      only = tt;
      why = record {
        cause = cause;
        none = no_block c.args.task bytes e cause (one_file bytes c.read_plan.result file place c.in-Ok.is c.read_plan.ensures.all);
      };
    }
