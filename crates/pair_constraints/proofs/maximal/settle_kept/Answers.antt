use Rattle.std.proofs.Common.{◌≡◌, All, AllPairs, List, subst, sym}
use Rattle.pair_constraints.specs.Maximal.{AreApart, contacts_of}
use Rattle.pair_constraints.specs.Laws.Parting.{AreKeptOf, IsShort, apart_pushed, kept_pushed, settles_new}
use Rattle.pair_constraints.specs.Laws.Settling.{Settles}
use Rattle.pair_constraints.specs.declared.kept.Kept.{Kept}
use Rattle.pair_constraints.proofs.maximal.settle_kept.Goals as goal

pub returns-clause-kept : goal.returns-clause-kept
returns-clause-kept c =
    let x = c.in_ok-new.new in
    subst (All (AreKeptOf c.args.job.now c.args.contact.now.i c.args.contact.now.j)) (sym c.in_ok-put.ensures)
    (kept_pushed c.args.job.now x c.args.contact.now c.leave_covered.new.kept.items c.in_ok-new.ensures.same c.requires.contact c.in_ok-new.ensures.kept c.leave_covered.ensures.kept)

pub returns-clause-apart : goal.returns-clause-apart
returns-clause-apart c =
    let x = c.in_ok-new.new in
    subst (AllPairs (AreApart c.args.job.now)) (sym c.in_ok-put.ensures)
    (apart_pushed c.args.job.now x c.args.contact.now c.args.kept.now.items c.leave_covered.new.kept.items c.in_ok-new.ensures.same c.leave_covered.ensures.apart c.leave_covered.ensures.only
    (subst (All (IsShort c.args.job.now c.args.contact.now)) c.deref.ensures.value (c.is_covered.ensures.none c.if-is_covered.false)) c.leave_covered.ensures.none)

pub returns-clause-settles : goal.returns-clause-settles
returns-clause-settles c =
    let x = c.in_ok-new.new in
    subst (λ (xs : List Kept). Settles c.args.job.now (λ d. d ≡ c.args.contact.now) (contacts_of c.args.kept.now.items) (contacts_of xs)) (sym c.in_ok-put.ensures)
    (settles_new c.args.job.now x c.args.contact.now c.args.kept.now.items c.leave_covered.new.kept.items c.in_ok-new.ensures.same c.requires.contact c.requires.kept c.leave_covered.ensures.leaves)
