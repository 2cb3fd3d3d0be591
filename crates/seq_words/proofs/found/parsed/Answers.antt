use Rattle.std.proofs.Common.{◌∙◌, inl, inr}
use Rattle.std.proofs.lemmas.Bool.{and_parts}
use Rattle.seq_words.proofs.Faults.{rows_of_clean, rows_of_fault}
use Rattle.seq_words.proofs.found.parsed.Goals as goal

pub returns-in-Ok-clause-ok : goal.returns-in-Ok-clause-ok
returns-in-Ok-clause-ok c = rows_of_clean _ _ _ (c.in-Ok.ensures.kinds c.requires) (c.in-Ok.ensures.matches (and_parts _ _ c.requires).0).0

pub returns-in-Err-clause-err : goal.returns-in-Err-clause-err
returns-in-Err-clause-err c =
    elim (c.in-Err.ensures.kinds c.requires) [
      | inl memory ↦ inl (c.refusal.ensures.memory (c.kind.ensures ∙ memory))
      | inr among ↦ elim c.refusal.ensures.two [
        | inl memory ↦ inl memory
        | inr usage ↦ inr (usage, rows_of_fault _ _ _ among)
      ]
    ]
