use Rattle.std.proofs.Common.{◌≡◌, ◌+◌, List, [], ◌∷◌, arith, length, subst, sym}
use Rattle.std.proofs.lemmas.List.{length-append}
use Rattle.pair_constraints.specs.Maximal.{IsPair}
use Rattle.pair_constraints.specs.Laws.Numbered.{AreBy, by-push}
use Rattle.pair_constraints.specs.declared.kept.Kept.{Kept}
use Rattle.pair_constraints.proofs.contacts.row_of.Goals as goal

pub loop-j-preserved : goal.loop-j-preserved
loop-j-preserved c =
    let xs = c.loop-j.row in
    let x = c.in_ok-pair.pair in
    let inv = c.loop-j.invariant in
    let more = length-append xs (x ∷ []) in
    let same = sym c.in_ok-push.ensures.ok in
    record {
      many = subst (λ (t : List (List Kept)). length t ≡ c.loop-j.j + 1) same (omega (arith, more, inv.many));
      each = subst (AreBy (IsPair c.args.job.now c.args.i)) same (by-push (IsPair c.args.job.now c.args.i) xs x inv.each (subst (λ n. IsPair c.args.job.now c.args.i n x) (sym inv.many) c.in_ok-pair.ensures));
    }
