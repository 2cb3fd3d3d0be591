use Rattle.std.proofs.Common.{◌<◌, ◌≤◌, All, arith, length, refl}
use Rattle.std.proofs.lemmas.List.Elements.{All-get_or, All-weaker}
use Rattle.search_laws.specs.Covering.{IsCovered}
use Rattle.seq_model.specs.Contacts.{IsContact}
use Rattle.seq_model.specs.declared.tree.Contact.{Contact}
use Rattle.pair_constraints.specs.Maximal.{IsOf, contacts_of}
use Rattle.pair_constraints.specs.Laws.Parting.{all_taken, covered_more, kept_of_pair}
use Rattle.pair_constraints.proofs.maximal.settled_kept.Goals as goal

pub loop-contact-preserved : goal.loop-contact-preserved
loop-contact-preserved c =
    let job = c.args.job.now in
    let xs = c.args.contacts.now in
    let k = c.loop-contact.contact-index in
    let l : k < length xs = omega arith in
    let are : All (IsContact job) xs = All-weaker (IsOf job c.args.i c.args.j) (IsContact job) (λ (x : Contact) of. of.is) xs c.requires.contacts in
    record {
      kept = kept_of_pair job c.args.i c.args.j _ c.settle_kept.new.kept.items (All-get_or (IsOf job c.args.i c.args.j) xs k _ l c.requires.contacts) c.in_ok-settle_kept.ensures.kept;
      apart = c.in_ok-settle_kept.ensures.apart;
      enough = covered_more job (contacts_of c.loop-contact.kept.items) (contacts_of c.settle_kept.new.kept.items) _ xs k _ l refl are c.in_ok-settle_kept.ensures.settles c.loop-contact.invariant.enough;
    }

pub returns-clause-enough : goal.returns-clause-enough
returns-clause-enough c =
    let l : length c.args.contacts.now ≤ c.loop-contact.contact-index = omega arith in
    all_taken (IsCovered c.args.job.now (contacts_of c.loop-contact.kept.items)) c.args.contacts.now c.loop-contact.contact-index l c.loop-contact.invariant.enough
