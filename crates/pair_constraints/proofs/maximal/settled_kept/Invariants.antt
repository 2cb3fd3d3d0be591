use Rattle.std.proofs.Common.{All, AllPairs, take}
use Rattle.search_laws.specs.Covering.{IsCovered}
use Rattle.pair_constraints.specs.Maximal.{AreApart, contacts_of}
use Rattle.pair_constraints.specs.Laws.Parting.{AreKeptOf}
use Rattle.pair_constraints.proofs.maximal.settled_kept.Given as goal

abbrev pub invariant-loop-contact : goal.invariant-loop-contact
invariant-loop-contact l = record {
  kept : All (AreKeptOf l.job l.i l.j) l.kept.items;
  apart : AllPairs (AreApart l.job) l.kept.items;
  enough : All (IsCovered l.job (contacts_of l.kept.items)) (take l.contact-index l.contacts);
}
