use Rattle.std.proofs.Common.{◌≡◌, ◌+◌, List, [], ◌∷◌, arith, length, subst, sym}
use Rattle.std.proofs.lemmas.List.{length-append}
use Rattle.pair_constraints.specs.Laws.Rows.{IsRow}
use Rattle.pair_constraints.specs.Laws.Numbered.{AreBy, by-push}
use Rattle.pair_constraints.specs.declared.kept.Kept.{Kept}
use Rattle.pair_constraints.proofs.contacts.rows_of.Goals as goal

pub loop-i-preserved : goal.loop-i-preserved
loop-i-preserved c =
    let xs = c.loop-i.rows in
    let x = c.in_ok-row.row in
    let inv = c.loop-i.invariant in
    let more = length-append xs (x ∷ []) in
    let same = sym c.in_ok-push.ensures.ok in
    record {
      many = subst (λ (t : List (List (List Kept))). length t ≡ c.loop-i.i + 1) same (omega (arith, more, inv.many));
      each = subst (AreBy (IsRow c.args.job.now)) same (by-push (IsRow c.args.job.now) xs x inv.each (subst (λ n. IsRow c.args.job.now n x) (sym inv.many) c.in_ok-row.ensures));
    }
