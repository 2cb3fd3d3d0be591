-- A line that is written in pieces, one after another.
use Rattle.std.proofs.Common.{◌≡◌, ℕ, zero, suc, ◌+◌, ◌<◌, List, [], ◌∷◌, ◌++◌, length, take, Option, Some, None, append_assoc, length-append, zero-add, refl, sym, ap, ◌∙◌, subst, arith, true}
use Rattle.std.proofs.lemmas.List.{take-append-le}
use Rattle.seq_io.specs.Counts.{raised}
use Rattle.seq_io.specs.Taken.{BrokeIn, Grew, Wrote}
use Rattle.seq_io.specs.Views.{SinkView}

take-append : (a b : List ℕ) (n k : ℕ) → n ≡ length a + k → take n (a ++ b) ≡ a ++ take k b
take-append [] b n k e = ap (λ m. take m b) (e ∙ zero-add k)
take-append (x ∷ a) b zero k e = absurd (omega arith)
take-append (x ∷ a) b (suc n) k e = ap (λ t. x ∷ t) (take-append a b n k (omega arith))

Grew-append : (x y z : Option (List ℕ)) (a b : List ℕ) → Grew x y a → Grew y z b → Grew x z (a ++ b)
Grew-append x y None a b p q = tt
Grew-append x None (Some z) a b p q = absurd q
Grew-append None (Some y) (Some z) a b p q = absurd p
Grew-append (Some x) (Some y) (Some z) a b p q = q ∙ ap (λ l. l ++ b) p ∙ append_assoc x a b

pub BrokeIn-append : (a b : List ℕ) (u v w : SinkView) → Wrote a u v → BrokeIn b v w → BrokeIn (a ++ b) u w
BrokeIn-append a b u v w p q =
    let n = q.part.0 in
    let short : length a + n < length (a ++ b) = omega (arith, q.part.1, length-append a b) in
    let taken : Grew u.taken w.taken (a ++ take n b) = Grew-append u.taken v.taken w.taken a (take n b) p.all q.part.2 in
    record {
      part = (length a + n, short, subst (Grew u.taken w.taken) (sym (take-append a b (length a + n) n refl)) taken);
      failed = q.failed ∙ ap (raised true) p.calm;
    }

pub BrokeIn-front : (a b : List ℕ) (u v : SinkView) → BrokeIn a u v → BrokeIn (a ++ b) u v
BrokeIn-front a b u v q =
    let n = q.part.0 in
    let short : n < length (a ++ b) = omega (arith, q.part.1, length-append a b) in
    record {
      part = (n, short, subst (Grew u.taken v.taken) (sym (take-append-le n a b (omega (arith, q.part.1)))) q.part.2);
      failed = q.failed;
    }
