use Rattle.std.proofs.Common.{◌≡◌, All, refl, subst, sym}
use Rattle.std.proofs.lemmas.List.Elements.{All-push}
use Rattle.seq_model.specs.Contacts.{IsContact}
use Rattle.seq_model.specs.declared.job.Job.{Job}
use Rattle.seq_model.specs.declared.tree.Contact.{Contact}
use Rattle.pair_constraints.specs.Maximal.{IsOf}
use Rattle.pair_constraints.specs.Laws.Settling.{Settles, settles_pushed}
use Rattle.pair_constraints.proofs.settling.settle.Goals as goal

of : (job : Job) (x : Contact) → IsContact job x → IsOf job x.i x.j x
of job x is = record { is = is; earlier = refl; later = refl }

pub returns-clause-kept : goal.returns-clause-kept
returns-clause-kept c =
    let job = c.args.job.now in
    let x = c.args.contact in
    subst (All (IsOf job x.i x.j)) (sym c.in_ok-put.ensures) (All-push (IsOf job x.i x.j) c.leave_inside.new.kept.items x c.leave_inside.ensures.kept (of job x c.requires.contact))

pub returns-clause-settles : goal.returns-clause-settles
returns-clause-settles c =
    let job = c.args.job.now in
    let x = c.args.contact in
    subst (Settles job (λ (d : Contact). d ≡ x) c.args.kept.now.items) (sym c.in_ok-put.ensures)
    (settles_pushed job x.i x.j x c.args.kept.now.items c.leave_inside.new.kept.items (of job x c.requires.contact) c.requires.kept c.leave_inside.ensures.leaves)
