use Rattle.std.proofs.Common.{◌-◌, ◌≤◌, All, AllPairs, length}
use Rattle.std.specs.List.{AllWithin}
use Rattle.integer_laws.specs.Members.{In}
use Rattle.pair_constraints.specs.Maximal.{AreApart, contacts_of}
use Rattle.pair_constraints.specs.declared.kept.Kept.{Kept}
use Rattle.pair_constraints.specs.Laws.Parting.{AreKeptOf, IsFree}
use Rattle.pair_constraints.specs.Laws.Settling.{LeavesOut}
use Rattle.pair_constraints.proofs.maximal.leave_covered.Given as goal

abbrev pub invariant-loop-k : goal.invariant-loop-k
invariant-loop-k l = record {
  within : l.k ≤ length l.kept.items;
  kept : All (AreKeptOf l.job l.by.contact.i l.by.contact.j) l.kept.items;
  apart : AllPairs (AreApart l.job) l.kept.items;
  leaves : LeavesOut l.job l.by.contact (contacts_of l.fn.kept.items) (contacts_of l.kept.items);
  only : (k : Kept) → In k l.kept.items → In k l.fn.kept.items;
  free : AllWithin (IsFree l.job l.by.contact) l.kept.items 0 l.k;
}

abbrev pub decreases-loop-k : goal.decreases-loop-k
decreases-loop-k l = length l.kept.items - l.k
