use Rattle.std.proofs.Common.{◌<◌, ◌≤◌, List, All, AllPairs, arith, length, subst, sym}
use Rattle.std.specs.List.{AllWithin}
use Rattle.std.proofs.lemmas.List.Edits.{length-remove}
use Rattle.std.proofs.lemmas.List.Quantifiers.{all_pairs_remove}
use Rattle.integer_laws.specs.Members.{In}
use Rattle.search_laws.specs.Covering.{Covers}
use Rattle.seq_model.specs.Contacts.{points_of}
use Rattle.pair_constraints.specs.Maximal.{AreApart, contacts_of}
use Rattle.pair_constraints.specs.Laws.Parting.{AreKeptOf, IsFree, free-remove, leaves_kept, within_more}
use Rattle.pair_constraints.specs.Laws.Settling.{All-remove, In-remove, LeavesOut}
use Rattle.pair_constraints.specs.declared.kept.Kept.{Kept}
use Rattle.pair_constraints.proofs.maximal.leave_covered.Goals as goal

pub loop-k-preserved-then-covers : goal.loop-k-preserved-then-covers
loop-k-preserved-then-covers c =
    let items = c.loop-k.kept.items in
    let k = c.loop-k.k in
    let job = c.args.job.now in
    let by = c.args.by.now.contact in
    let l : k < length items = omega arith in
    let shorter = length-remove items k l in
    let inv = c.loop-k.invariant in
    let same = sym c.remove.ensures.items in
    let covers = subst (λ (x : Kept). Covers (points_of job by) (points_of job x.contact)) c.index.ensures (c.covers.ensures.0 c.if-covers.true) in
    record {
      within = subst (λ (xs : List Kept). k ≤ length xs) same (omega (arith, shorter));
      kept = subst (All (AreKeptOf job by.i by.j)) same (All-remove (AreKeptOf job by.i by.j) items k inv.kept);
      apart = subst (AllPairs (AreApart job)) same (all_pairs_remove (AreApart job) items k l inv.apart);
      leaves = subst (λ (xs : List Kept). LeavesOut job by (contacts_of c.args.kept.now.items) (contacts_of xs)) same (leaves_kept job by c.args.kept.now.items items k c.index.result.now inv.leaves covers);
      only = subst (λ (xs : List Kept). (x : Kept) → In x xs → In x c.args.kept.now.items) same (λ x i. inv.only x (In-remove items k x i));
      free = subst (λ (xs : List Kept). AllWithin (IsFree job by) xs 0 k) same (free-remove job by items k l inv.free);
    }

pub loop-k-preserved : goal.loop-k-preserved
loop-k-preserved c =
    let items = c.loop-k.kept.items in
    let k = c.loop-k.k in
    let l : k < length items = omega arith in
    let inv = c.loop-k.invariant in
    let free : IsFree c.args.job.now c.args.by.now.contact c.index.result.now = λ m. (let t = c.covers.ensures.1 m in cc) in
    record {
      within = omega arith;
      kept = inv.kept;
      apart = inv.apart;
      leaves = inv.leaves;
      only = inv.only;
      free = within_more (IsFree c.args.job.now c.args.by.now.contact) items k c.index.result.now l c.index.ensures inv.free free;
    }

pub returns-clause-none : goal.returns-clause-none
returns-clause-none c = λ k d l. c.loop-k.invariant.free k d (omega arith) (omega (arith, l))
