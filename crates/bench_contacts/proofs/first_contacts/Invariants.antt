use Rattle.std.proofs.Common.{All}
use Rattle.seq_model.specs.Contacts.{IsContact}
use Rattle.bench_contacts.proofs.first_contacts.Given as goal

abbrev pub invariant-loop-n : goal.invariant-loop-n
invariant-loop-n l = All (IsContact l.job) l.contacts.items
