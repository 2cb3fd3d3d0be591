-- No command has a rule between arguments, so clap states exactly which words it refuses.
use Rattle.std.proofs.Common.{◌≡◌, codes, refl, true}
use Rattle.clap.specs.Words.{is_simple_and_free}
use Rattle.clap.proofs.OnLiterals.{clap_on_literals}
use Rattle.seq_words.specs.Usages.{simple_command}
use Rattle.seq_words.specs.declared.usage.TheConstants.{ARRANGE, CHECK, AUDIT, SLICES, TRIAL}

pub arrange_is_free : is_simple_and_free (simple_command (codes "arrange") ARRANGE.now) ≡ true
unfolding clap_on_literals simple_command
arrange_is_free = refl

pub check_is_free : is_simple_and_free (simple_command (codes "check") CHECK.now) ≡ true
unfolding clap_on_literals simple_command
check_is_free = refl

pub audit_is_free : is_simple_and_free (simple_command (codes "audit") AUDIT.now) ≡ true
unfolding clap_on_literals simple_command
audit_is_free = refl

pub slices_is_free : is_simple_and_free (simple_command (codes "slices") SLICES.now) ≡ true
unfolding clap_on_literals simple_command
slices_is_free = refl

pub trial_is_free : is_simple_and_free (simple_command (codes "trial") TRIAL.now) ≡ true
unfolding clap_on_literals simple_command
trial_is_free = refl
