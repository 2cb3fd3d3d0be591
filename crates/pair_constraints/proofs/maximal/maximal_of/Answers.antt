use Rattle.std.proofs.Common.{All, subst, sym}
use Rattle.search_laws.specs.Covering.{IsCovered}
use Rattle.pair_constraints.specs.Maximal.{IsPair, contacts_of}
use Rattle.pair_constraints.specs.Laws.Parting.{pair_of}
use Rattle.pair_constraints.proofs.maximal.maximal_of.Goals as goal

pub returns : goal.returns
returns c =
    subst (IsPair c.args.job.now c.args.i c.args.j) (sym c.from_vec.ensures)
    (pair_of c.args.job.now c.args.i c.args.j c.in_ok-contacts.contacts.items c.in_ok-kept.kept.items c.in_ok-kept.ensures.kept c.in_ok-kept.ensures.apart c.in_ok-contacts.ensures.enough
    (subst (All (IsCovered c.args.job.now (contacts_of c.in_ok-kept.kept.items))) c.as_slice.ensures.value c.in_ok-kept.ensures.enough))
