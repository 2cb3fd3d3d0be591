-- Pieces of bytes, one after another.
use Rattle.std.proofs.Common.{◌≡◌, ◌↔◌, ℕ, ◌+◌, List, ◌++◌, take, drop, Bool, true, false, IsTrue, Option, Some, None, Ok, Err, append_assoc, refl, sym, ap, subst, ◌∙◌}
use Rattle.std.proofs.Math.Seq.{take-add}
use Rattle.std.specs.Io.KnownBytes.{Consumes}
use Rattle.seq_io.specs.Counts.{Counted}
use Rattle.seq_io.specs.Taken.{Grew}

-- a sink that took one piece and then the next
pub grew_more : (first before now : Option (List ℕ)) (bytes : List ℕ) (i n : ℕ) → Grew first before (take i bytes) → Grew before now (take n (drop i bytes)) → Grew first now (take (i + n) bytes)
grew_more first before None bytes i n p q = tt
grew_more first None (Some c) bytes i n p q = absurd q
grew_more None (Some b) (Some c) bytes i n p q = absurd p
grew_more (Some a) (Some b) (Some c) bytes i n p q =
    q ∙ ap (λ l. l ++ take n (drop i bytes)) p ∙ append_assoc a (take i bytes) (take n (drop i bytes)) ∙ ap (λ l. a ++ l) (sym (take-add i n bytes))

-- a shelf that gave one piece and then the next
pub consumes_more : (first before now : Option (List ℕ)) (was is : List ℕ) (i n : ℕ) → Consumes first before (take i was) → take i is ≡ take i was → Consumes before now (take n (drop i is)) → Consumes first now (take (i + n) is)
consumes_more None before now was is i n p front q = tt
consumes_more (Some a) None now was is i n p front q = absurd p
consumes_more (Some a) (Some b) None was is i n p front q = absurd q
consumes_more (Some a) (Some b) (Some c) was is i n p front q =
    p ∙ ap (λ l. l ++ b) (sym front) ∙ ap (λ l. take i is ++ l) q ∙ sym (append_assoc (take i is) (take n (drop i is)) c) ∙ ap (λ l. l ++ c) (sym (take-add i n is))

-- a call that gave something wasn't answered as a fault
pub not_broken : {T E : Type 0} (broken : Bool) (x : T) (e : E) → IsTrue broken ↔ (Ok x ≡ Err e) → broken ≡ false
not_broken false x e h = refl
not_broken true x e h = (let fault : Ok x ≡ Err e = h.0 refl in absurd cc)

-- where no call failed the count is as it was
pub counted_none : (fails : Bool) (first before now : ℕ) → fails ≡ false → Counted fails before now → before ≡ first → now ≡ first
counted_none fails first before now none c same = (subst (λ b. Counted b before now) none c).count ∙ same
