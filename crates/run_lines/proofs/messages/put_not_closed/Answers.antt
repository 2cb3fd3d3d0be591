use Rattle.std.proofs.Common.{◌≡◌, ℕ, List, ◌++◌, codes, rules, OnOk, ap, ◌∙◌, append_assoc}
use Rattle.std.proofs.lemmas.Result.{on_ok_weaker}
use Rattle.mesh_notes.specs.Notes.{looks_text}
use Rattle.run_lines.proofs.messages.put_not_closed.Goals as goal

joined : (before middle text after end : List ℕ) → middle ≡ before ++ text → after ≡ middle ++ end → after ≡ before ++ (text ++ end)
joined before middle text after end e f = f ∙ ap (λ m. m ++ end) e ∙ append_assoc before text end

pub returns : goal.returns
returns c =
    let added : OnOk c.put_looks.result (c.put_looks.new.to.items ≡ c.extend_from_slice.new.self.items ++ looks_text c.args.open_edges c.args.six_volume) = search rules in
    on_ok_weaker c.put_looks.result (joined c.args.to.now.items c.extend_from_slice.new.self.items (codes "not a closed outward mesh: ") c.put_looks.new.to.items (looks_text c.args.open_edges c.args.six_volume) c.in_ok-extend_from_slice.ensures.items) added
