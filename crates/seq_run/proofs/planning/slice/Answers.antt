use Rattle.std.proofs.Common.{rules, ◌≡◌, ◌∷◌, [], List, ℕ}
use Rattle.seq_model.specs.declared.job.Object.{Object}
use Rattle.slice_text.specs.SlicesText.{slices_text}
use Rattle.seq_run.proofs.Planned.{one_object, slices_for}
use Rattle.seq_run.proofs.planning.slice.Goals as goal

pub returns : goal.returns
returns c = λ plan.
    (let job = c.args.job.now in
    let object : Object = c.index-as_slice-0.result in
    let one : job.objects ≡ object ∷ [] = one_object job.objects c.as_slice.result.now object c.as_slice.ensures c.requires c.index-as_slice-0.is in
    let text : List ℕ = c.from_vec.result in
    let is : text ≡ slices_text object = search rules in
    slices_for plan job object text one is)
