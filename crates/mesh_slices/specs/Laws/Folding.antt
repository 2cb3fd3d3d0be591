-- Spots that stand for a longer list: few of its members, with all others within them.
--
--   stands_itself, stands_trans   a list stands for itself, and for what is stood for by what it stands for
--   stands_joined                 joined with more spots, it stands for the longer list joined with them
--   means_move                    what is a mean of some spots is one of those that they are within
--   within_trans                  what is within spots that are within others is within those
--   inner_stands                  the inner points are the same
use Rattle.std.proofs.Common.{◌≡◌, List, [], ◌∷◌, ◌++◌, refl, arith, ℤ, pos, ◌+ℤ◌, ◌*ℤ◌, ◌≤ℤ◌, ◌⊎◌, inl, inr}
use Rattle.std.proofs.lemmas.Int.{ints}
use Rattle.integer_laws.specs.Members.{In}
use Rattle.integer_laws.specs.Laws.Members.{In-append_left, In-append_right, In-append_cases}
use Rattle.integer_laws.specs.Laws.Order.{one_le, lt_from, same_from, add_same, mul_same, mul_positive, mul_le}
use Rattle.integer_laws.specs.Laws.Ring.{expand}
use Rattle.integer_laws.specs.Vectors.{plus, scale}
use Rattle.integer_laws.specs.Weights.{AreWeights, weigh, total}
use Rattle.integer_laws.specs.Laws.Weights.{weigh_joined, weigh-plus, weigh-scale, weights_joined, weights_plus, weights_scale, weights_weaker, length-weights, total_nonneg}
use Rattle.seq_model.specs.declared.printer.Spot.{Spot}
use Rattle.seq_model.specs.Points.{Point, at_spot}
use Rattle.seq_model.specs.Outlines.{IsMean, Inner, Within}
use Rattle.outline_laws.specs.Laws.Means.{within_more, member_within, same_members, inner_of_corners, zeros, weights_zeros, weigh_zeros}
use Rattle.mesh_slices.specs.Folding.{StandsFor}

-- ---- the weight of a spot goes to those that it is within
moved : (d x k sx X V T U : ℤ) → d *ℤ (k *ℤ sx +ℤ X) ≡ x *ℤ (k *ℤ pos 1 +ℤ T) → pos 1 *ℤ U ≡ sx *ℤ V → d *ℤ (V *ℤ X +ℤ k *ℤ U) ≡ x *ℤ (V *ℤ T +ℤ k *ℤ V)
moved d x k sx X V T U e f = same_from (add_same (mul_same V e) (mul_same (d *ℤ k) f)) (simp expand (omega (arith, ints)))

some_left : (k V T : ℤ) → pos 1 ≤ℤ V → pos 1 ≤ℤ (k *ℤ pos 1 +ℤ T) → pos 1 ≤ℤ (V *ℤ T +ℤ k *ℤ V)
some_left k V T p h = one_le (lt_from (mul_positive V (k *ℤ pos 1 +ℤ T) (omega (arith, ints)) (omega (arith, ints))) (simp expand (omega (arith, ints))))

at_least : (least k V : ℤ) → pos 0 ≤ℤ least → pos 1 ≤ℤ V → least ≤ℤ (V *ℤ least +ℤ k *ℤ pos 0)
at_least least k V p h = let m = mul_le least p h in let e : V *ℤ least +ℤ k *ℤ pos 0 ≡ least *ℤ V = simp expand (omega (arith, ints)) in let f : least *ℤ pos 1 ≡ least = omega (arith, ints) in rw e (omega (arith, ints, m, f))

drop_member : (least : ℤ) (R : List Spot) (s : Spot) (q : Point) → pos 0 ≤ℤ least → Within R (at_spot s) → IsMean least (s ∷ R) q → IsMean least R q
drop_member least R s q p h m = by m.w m.weights m.some m.x m.y
  where
    by : (w : List ℤ) → AreWeights least (s ∷ R) w → pos 1 ≤ℤ total (s ∷ R) w → q.d *ℤ weigh (λ t. t.x) (s ∷ R) w ≡ q.x *ℤ total (s ∷ R) w → q.d *ℤ weigh (λ t. t.y) (s ∷ R) w ≡ q.y *ℤ total (s ∷ R) w → IsMean least R q
    by [] a n ex ey = absurd a
    by (k ∷ w) a n ex ey =
        let v = h.w in
        let V = total R v in
        let low = a.0 in
        let list = plus (scale V w) (scale k v) in
        let V_least : pos 0 ≤ℤ V = total_nonneg R v h.weights in
        let k_least : pos 0 ≤ℤ k = omega (arith, ints) in
        record {
          point = m.point;
          w = list;
          weights = weights_weaker least (V *ℤ least +ℤ k *ℤ pos 0) R list (at_least least k V p h.some) (weights_plus (V *ℤ least) (k *ℤ pos 0) R (scale V w) (scale k v) (weights_scale V least R w V_least a.1) (weights_scale k (pos 0) R v k_least h.weights));
          some = rw (sum (λ t. pos 1)) (some_left k V (total R w) h.some n);
          x = rw (sum (λ t. t.x), sum (λ t. pos 1)) (moved q.d q.x k s.x (weigh (λ t. t.x) R w) V (total R w) (weigh (λ t. t.x) R v) ex h.x);
          y = rw (sum (λ t. t.y), sum (λ t. pos 1)) (moved q.d q.y k s.y (weigh (λ t. t.y) R w) V (total R w) (weigh (λ t. t.y) R v) ey h.y);
        }
      where
        sum : (f : Spot → ℤ) → weigh f R (plus (scale (total R h.w) w) (scale k h.w)) ≡ total R h.w *ℤ weigh f R w +ℤ k *ℤ weigh f R h.w
        sum f = let e = weigh-plus f R (scale (total R h.w) w) (scale k h.w) in let a = weigh-scale f (total R h.w) R w in let b = weigh-scale f k R h.w in omega (arith, ints)

-- ---- all of them
within_front : (A B : List Spot) (q : Point) → Within B q → Within (A ++ B) q
within_front [] B q m = m
within_front (a ∷ A) B q m = within_more (A ++ B) a q (within_front A B q m)

within_longer : (A B : List Spot) (q : Point) → Within A q → Within (A ++ B) q
within_longer A B q m = record {
  point = m.point;
  w = m.w ++ zeros B;
  weights = weights_joined (pos 0) A B m.w (zeros B) m.weights (weights_zeros B);
  some = rw (same (λ t. pos 1)) m.some;
  x = rw (same (λ t. t.x), same (λ t. pos 1)) m.x;
  y = rw (same (λ t. t.y), same (λ t. pos 1)) m.y;
}
  where
    same : (f : Spot → ℤ) → weigh f (A ++ B) (m.w ++ zeros B) ≡ weigh f A m.w
    same f = let e = weigh_joined f A B m.w (zeros B) (length-weights (pos 0) A m.w m.weights) in let z = weigh_zeros f B in omega (arith, ints)

drop_members : (least : ℤ) (A B : List Spot) (q : Point) → pos 0 ≤ℤ least → ((s : Spot) → In s A → Within B (at_spot s)) → IsMean least (A ++ B) q → IsMean least B q
drop_members least [] B q p h m = m
drop_members least (a ∷ A) B q p h m =
    drop_members least A B q p (λ s i. h s (inr i)) (drop_member least (A ++ B) a q p (within_front A B (at_spot a) (h a (inl refl))) m)

-- what is within spots that are within others is within those
pub within_trans : (A B : List Spot) (q : Point) → ((s : Spot) → In s A → Within B (at_spot s)) → Within A q → Within B q
within_trans A B q h m = drop_members (pos 0) A B q (omega (arith, ints)) h (within_longer A B q m)

-- ---- lists that stand for lists
pub stands_itself : (S : List Spot) → StandsFor S S
stands_itself S = record { members = λ s i. i; within = λ s i. member_within s S i }

pub stands_trans : (S B C : List Spot) → StandsFor S B → StandsFor B C → StandsFor S C
stands_trans S B C b c = record { members = λ s i. b.members s (c.members s i); within = λ s i. within_trans B C (at_spot s) c.within (b.within s i) }

pub stands_joined : (S B T : List Spot) → StandsFor S B → StandsFor (S ++ T) (B ++ T)
stands_joined S B T b = record { members = members; within = within }
  where
    members : (s : Spot) → In s (B ++ T) → In s (S ++ T)
    members s i = pick (In-append_cases B T s i)
      where
        pick : In s B ⊎ In s T → In s (S ++ T)
        pick (inl j) = In-append_left S T s (b.members s j)
        pick (inr j) = In-append_right S T s j

    within : (s : Spot) → In s (S ++ T) → Within (B ++ T) (at_spot s)
    within s i = pick (In-append_cases S T s i)
      where
        pick : In s S ⊎ In s T → Within (B ++ T) (at_spot s)
        pick (inl j) = within_longer B T (at_spot s) (b.within s j)
        pick (inr j) = within_front B T (at_spot s) (member_within s T j)

-- the inner points are the same
pub inner_stands : (S B : List Spot) (q : Point) → StandsFor S B → Inner S q → Inner B q
inner_stands S B q b m = drop_members (pos 1) S B q (omega (arith, ints)) b.within (same_members S (S ++ B) q (λ s i. In-append_left S B s i) both m)
  where
    both : (s : Spot) → In s (S ++ B) → In s S
    both s i = pick (In-append_cases S B s i)
      where
        pick : In s S ⊎ In s B → In s S
        pick (inl j) = j
        pick (inr j) = b.members s j

pub inner_back : (S B : List Spot) (q : Point) → StandsFor S B → Inner B q → Inner S q
inner_back S B q b m = inner_of_corners B S q b.members b.within m
