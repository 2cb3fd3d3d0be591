use Rattle.std.proofs.Common.{◌≡◌, ◌<◌, ℕ, List, length, Result, Ok, Err, IfOk}
use Rattle.seq_model.specs.declared.tree.Node.{Node}
use Rattle.cert_text.specs.Lines.{line_at}
use Rattle.cert_text.specs.Laws.Nodes.{line_shorter}
use Rattle.cert_text.proofs.nodes.line.Goals as goal

shorter : {A E : Type 0} (now : A → List ℕ) (bytes : List ℕ) (r : Result (Node × A) E) → IfOk r (λ x. line_at bytes ≡ Ok (x.0, now x.1)) → IfOk r (λ x. length (now x.1) < length bytes)
shorter now bytes (Ok x) h = line_shorter bytes (now x.1) x.0 h
shorter now bytes (Err e) h = tt

pub returns-clause-shorter : goal.returns-clause-shorter
returns-clause-shorter c = shorter (λ x. x.now) c.args.bytes.now c.node_line.result c.node_line.ensures.read
