use Rattle.std.proofs.Common.{◌≡◌, drop}
use Rattle.clap.specs.Words.{app_of, new_app}
use Rattle.seq_words.specs.Usages.{with_arguments}
use Rattle.seq_words.proofs.usage.parser.Given as goal

abbrev pub invariant-loop-argument : goal.invariant-loop-argument
invariant-loop-argument l = with_arguments (app_of l.command) (drop l.argument-index l.usage) ≡ with_arguments (new_app l.fn.name) l.fn.usage
