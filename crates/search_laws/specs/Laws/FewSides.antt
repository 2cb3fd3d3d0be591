-- A contact has few sides: at most 8,008,036.
--
--   times v ks         how often v stands in the list
--   few_numbers        numbers below n of which none stands more than b times are at most b * n
--   corners_few        corners at most m in size are at most 2 * (2m + 1): no three on one upright line
--   sides_few          a difference has no more sides than its three outlines have corners
--   few_at_contact     so a contact has at most 8,008,036
use Rattle.std.proofs.Common.{◌≡◌, ℕ, zero, suc, ◌+◌, ◌*◌, ◌<◌, ◌≤◌, List, [], ◌∷◌, ◌++◌, length, length-append, map, get_or, refl, sym, subst, ap, ◌∙◌, arith, ℤ, pos, ◌+ℤ◌, ◌-ℤ◌, ◌*ℤ◌, ◌<ℤ◌, unsigned_abs, Bool, true, false, cond, eqb, All, AllPairs, inl, inr}
use Rattle.std.proofs.lemmas.Bool.{eqb-true, eq-eqb}
use Rattle.std.proofs.lemmas.Int.{ints}
use Rattle.std.proofs.lemmas.List.{length-map, get_or_default}
use Rattle.std.proofs.lemmas.List.Elements.{All-head, All-tail}
use Rattle.outline_laws.specs.Edges.{last_of, all_edges, raws, edges_of, Across, back}
use Rattle.outline_laws.specs.Outlines.{AreOutlines}
use Rattle.outline_laws.specs.Laws.Around.{sides_are}
use Rattle.integer_laws.specs.Divisors.{Reduces}
use Rattle.integer_laws.specs.Laws.Divisors.{reduced_unique}
use Rattle.integer_laws.specs.Members.{In}
use Rattle.integer_laws.specs.Laws.Members.{Contains-from_in}
use Rattle.integer_laws.specs.Laws.Ring.{expand}
use Rattle.model_laws.specs.Turning.{LeftAbout, TurnsLeft}
use Rattle.model_laws.specs.Laws.Turning.{left_by_list}
use Rattle.outline_laws.specs.Laws.Angles.{lesser_not_back}
use Rattle.model_laws.specs.Laws.Collisions.{sound_zone}
use Rattle.search_laws.specs.Laws.Gaps.{outlines_of}
use Rattle.search_laws.specs.Laws.RowSizes.{zone_near, part_of}
use Rattle.seq_model.specs.Budgets.{HasSides}
use Rattle.seq_model.specs.Contacts.{difference}
use Rattle.seq_model.specs.Corners.{turn, AreCorners}
use Rattle.seq_model.specs.Jobs.{zone_at, part_at}
use Rattle.seq_model.specs.Sides.{AreSides, HasLesserAngle}
use Rattle.seq_model.specs.declared.job.Job.{Job}
use Rattle.seq_model.specs.declared.printer.Spot.{Spot}
use Rattle.seq_model.specs.declared.tree.Contact.{Contact}
use Rattle.seq_model.specs.declared.tree.Dir.{Dir}

-- ---- numbers
abbrev times : ℕ → List ℕ → ℕ
times v [] = 0
times v (k ∷ ks) = cond (eqb k v) (suc (times v ks)) (times v ks)

abbrev without : ℕ → List ℕ → List ℕ
without v [] = []
without v (k ∷ ks) = cond (eqb k v) (without v ks) (k ∷ without v ks)

clash : true ≡ false → ⊥
clash e = cc

split_length : (v : ℕ) (ks : List ℕ) → length ks ≡ times v ks + length (without v ks)
split_length v [] = refl
split_length v (k ∷ ks) = by (eqb k v) (split_length v ks)
  where
    by : (b : Bool) → length ks ≡ times v ks + length (without v ks) → suc (length ks) ≡ cond b (suc (times v ks)) (times v ks) + length (cond b (without v ks) (k ∷ without v ks))
    by true h = omega (arith, h)
    by false h = omega (arith, h)

fewer_times : (v w : ℕ) (ks : List ℕ) → times w (without v ks) ≤ times w ks
fewer_times v w [] = omega arith
fewer_times v w (k ∷ ks) = by (eqb k v) (eqb k w) refl (fewer_times v w ks)
  where
    by : (b c : Bool) → eqb k w ≡ c → times w (without v ks) ≤ times w ks → times w (cond b (without v ks) (k ∷ without v ks)) ≤ cond c (suc (times w ks)) (times w ks)
    by true true e h = omega (arith, h)
    by true false e h = h
    by false true e h = subst (λ t. cond t (suc (times w (without v ks))) (times w (without v ks)) ≤ suc (times w ks)) (sym e) (omega (arith, h))
    by false false e h = subst (λ t. cond t (suc (times w (without v ks))) (times w (without v ks)) ≤ times w ks) (sym e) h

below_without : (n : ℕ) (ks : List ℕ) → ((k : ℕ) → In k ks → k < suc n) → (k : ℕ) → In k (without n ks) → k < n
below_without n [] h k i = absurd i
below_without n (m ∷ ks) h k i = by (eqb m n) refl i (λ j. below_without n ks (λ x y. h x (inr y)) k j)
  where
    by : (b : Bool) → eqb m n ≡ b → In k (cond b (without n ks) (m ∷ without n ks)) → (In k (without n ks) → k < n) → k < n
    by true e j rest = rest j
    by false e (inl same) rest = lower (h m (inl refl)) (λ q. clash (sym (eq-eqb m n q) ∙ e)) same
      where
        lower : m < suc n → (m ≡ n → ⊥) → k ≡ m → k < n
        lower l ne s = omega (arith, l, ne, s)
    by false e (inr j) rest = rest j

few_numbers : (b n : ℕ) (ks : List ℕ) → ((k : ℕ) → In k ks → k < n) → ((v : ℕ) → times v ks ≤ b) → length ks ≤ b * n
few_numbers b zero [] h c = omega arith
few_numbers b zero (k ∷ ks) h c = absurd (omega (arith, h k (inl refl)))
few_numbers b (suc n) ks h c =
    let rest = few_numbers b n (without n ks) (below_without n ks h) (λ v. le_trans (fewer_times n v ks) (c v)) in
    let here = c n in
    let s = split_length n ks in
    more (length ks) (times n ks) (length (without n ks)) b n s here rest
  where
    le_trans : {x y z : ℕ} → x ≤ y → y ≤ z → x ≤ z
    le_trans p q = omega (arith, p, q)

    more : (l t w b n : ℕ) → l ≡ t + w → t ≤ b → w ≤ b * n → l ≤ b * suc n
    more l t w b n s p q = omega (arith, s, p, q)

-- ---- corners
key : ℕ → Spot → ℕ
key m s = unsigned_abs (s.x +ℤ pos m)

abbrev keys : ℕ → List Spot → List ℕ
keys m S = map (key m) S

same_x : (m : ℕ) (a b : Spot) → unsigned_abs a.x ≤ m → unsigned_abs b.x ≤ m → key m a ≡ key m b → a.x ≡ b.x
unfolding key
same_x m a b p q e = omega (arith, ints, p, q, e)

upright : (ax ay bx by cx cy : ℤ) → ax ≡ bx → ax ≡ cx → pos 0 <ℤ ((bx -ℤ ax) *ℤ (cy -ℤ ay) -ℤ (by -ℤ ay) *ℤ (cx -ℤ ax)) → ⊥
upright ax ay bx by cx cy e f t =
    let z : (bx -ℤ ax) *ℤ (cy -ℤ ay) -ℤ (by -ℤ ay) *ℤ (cx -ℤ ax) ≡ pos 0 = subst (λ b. (b -ℤ ax) *ℤ (cy -ℤ ay) -ℤ (by -ℤ ay) *ℤ (cx -ℤ ax) ≡ pos 0) e (subst (λ c. (ax -ℤ ax) *ℤ (cy -ℤ ay) -ℤ (by -ℤ ay) *ℤ (c -ℤ ax) ≡ pos 0) f (simp expand (omega (arith, ints)))) in
    omega (arith, ints, z, t)

abbrev IsNarrow : ℕ → List Spot → Type 0
IsNarrow m S = (s : Spot) → In s S → unsigned_abs s.x ≤ m

none_third : (m v : ℕ) (a b : Spot) (cs : List Spot) → unsigned_abs a.x ≤ m → unsigned_abs b.x ≤ m → IsNarrow m cs → key m a ≡ v → key m b ≡ v → All (λ c. pos 0 <ℤ turn a b c) cs → times v (keys m cs) ≤ 0
none_third m v a b [] p q near ea eb all = omega arith
none_third m v a b (c ∷ cs) p q near ea eb all =
    by (eqb (key m c) v) refl (none_third m v a b cs p q (λ s i. near s (inr i)) ea eb (All-tail (λ c. pos 0 <ℤ turn a b c) c cs all))
  where
    by : (t : Bool) → eqb (key m c) v ≡ t → times v (keys m cs) ≤ 0 → cond t (suc (times v (keys m cs))) (times v (keys m cs)) ≤ 0
    by false e h = h
    by true e h =
        let ec = eqb-true (key m c) v e in
        absurd (upright a.x a.y b.x b.y c.x c.y (same_x m a b p q (ea ∙ sym eb)) (same_x m a c p (near c (inl refl)) (ea ∙ sym ec)) (All-head (λ c. pos 0 <ℤ turn a b c) c cs all))

one_second : (m v : ℕ) (a : Spot) (bs : List Spot) → unsigned_abs a.x ≤ m → IsNarrow m bs → key m a ≡ v → LeftAbout a bs → times v (keys m bs) ≤ 1
one_second m v a [] p near ea left = omega arith
one_second m v a (b ∷ bs) p near ea left =
    by (eqb (key m b) v) refl (one_second m v a bs p (λ s i. near s (inr i)) ea left.1)
  where
    by : (t : Bool) → eqb (key m b) v ≡ t → times v (keys m bs) ≤ 1 → cond t (suc (times v (keys m bs))) (times v (keys m bs)) ≤ 1
    by false e h = h
    by true e h = let n = none_third m v a b bs p (near b (inl refl)) (λ s i. near s (inr i)) ea (eqb-true (key m b) v e) left.0 in omega (arith, n)

two_at_most : (m v : ℕ) (C : List Spot) → IsNarrow m C → TurnsLeft C → times v (keys m C) ≤ 2
two_at_most m v [] near left = omega arith
two_at_most m v (a ∷ bs) near left = by (eqb (key m a) v) refl (two_at_most m v bs (λ s i. near s (inr i)) left.1)
  where
    by : (t : Bool) → eqb (key m a) v ≡ t → times v (keys m bs) ≤ 2 → cond t (suc (times v (keys m bs))) (times v (keys m bs)) ≤ 2
    by false e h = h
    by true e h = let n = one_second m v a bs (near a (inl refl)) (λ s i. near s (inr i)) (eqb-true (key m a) v e) left.0 in omega (arith, n)

key_below : (m : ℕ) (C : List Spot) → IsNarrow m C → (k : ℕ) → In k (keys m C) → k < m + m + 1
unfolding key
key_below m [] near k i = absurd i
key_below m (s ∷ C) near k (inl e) = let n = near s (inl refl) in omega (arith, ints, n, e)
key_below m (s ∷ C) near k (inr i) = key_below m C (λ t j. near t (inr j)) k i

pub corners_few : (m : ℕ) (C : List Spot) → AreCorners C → IsNarrow m C → length C ≤ 2 * (m + m + 1)
corners_few m C are near =
    subst (λ n. n ≤ 2 * (m + m + 1)) (length-map C (key m)) (few_numbers 2 (m + m + 1) (keys m C) (key_below m C near) (λ v. two_at_most m v C near (left_by_list C are)))

-- ---- sides
index_of : (es : List Dir) (d : Dir) → Across es d → ℕ
index_of es d x = (Contains-from_in es x.long x.member).0

index_below : (es : List Dir) (d : Dir) (x : Across es d) → index_of es d x < length es
unfolding index_of
index_below es d x = (Contains-from_in es x.long x.member).1

one_index : (es : List Dir) (d e : Dir) (x : Across es d) (y : Across es e) → index_of es d x ≡ index_of es e y → d ≡ e
unfolding index_of
one_index es d e x y same =
    let a = Contains-from_in es x.long x.member in
    let b = Contains-from_in es y.long y.member in
    let long : x.long ≡ y.long = sym a.2 ∙ get_or_default es a.0 x.long y.long a.1 ∙ ap (λ n. get_or es n y.long) same ∙ b.2 in
    let r = reduced_unique x.long.x x.long.y d.x d.y e.x e.y x.reduces (subst (λ (l : Dir). Reduces l.x l.y e.x e.y) (sym long) y.reduces) in
    both r.0 r.1
  where
    dir : ℤ → ℤ → Dir
    dir x y = record { x = x; y = y }

    both : d.x ≡ e.x → d.y ≡ e.y → d ≡ e
    both p q = ap (λ x. dir x d.y) p ∙ ap (λ y. dir e.x y) q

abbrev indexes : (es ds : List Dir) → ((d : Dir) → In d ds → Across es d) → List ℕ
indexes es [] h = []
indexes es (d ∷ ds) h = index_of es d (h d (inl refl)) ∷ indexes es ds (λ e i. h e (inr i))

length-indexes : (es ds : List Dir) (h : (d : Dir) → In d ds → Across es d) → length (indexes es ds h) ≡ length ds
length-indexes es [] h = refl
length-indexes es (d ∷ ds) h = ap (λ n. suc n) (length-indexes es ds (λ e i. h e (inr i)))

indexes_below : (es ds : List Dir) (h : (d : Dir) → In d ds → Across es d) (k : ℕ) → In k (indexes es ds h) → k < length es
indexes_below es [] h k i = absurd i
indexes_below es (d ∷ ds) h k (inl e) = subst (λ n. n < length es) (sym e) (index_below es d (h d (inl refl)))
indexes_below es (d ∷ ds) h k (inr i) = indexes_below es ds (λ e i. h e (inr i)) k i

none_again : (es ds : List Dir) (h : (d : Dir) → In d ds → Across es d) (d : Dir) (x : Across es d) (v : ℕ) → ((e : Dir) → In e ds → d ≡ e → ⊥) → index_of es d x ≡ v → times v (indexes es ds h) ≤ 0
none_again es [] h d x v apart same = omega arith
none_again es (e ∷ ds) h d x v apart same =
    by (eqb (index_of es e (h e (inl refl))) v) refl (none_again es ds (λ f i. h f (inr i)) d x v (λ f i. apart f (inr i)) same)
  where
    by : (t : Bool) → eqb (index_of es e (h e (inl refl))) v ≡ t → times v (indexes es ds (λ f i. h f (inr i))) ≤ 0
        → cond t (suc (times v (indexes es ds (λ f i. h f (inr i))))) (times v (indexes es ds (λ f i. h f (inr i)))) ≤ 0
    by false q k = k
    by true q k = absurd (apart e (inl refl) (one_index es d e x (h e (inl refl)) (same ∙ sym (eqb-true (index_of es e (h e (inl refl))) v q))))

one_each : (es ds : List Dir) (h : (d : Dir) → In d ds → Across es d) (v : ℕ) → AllPairs HasLesserAngle ds → times v (indexes es ds h) ≤ 1
one_each es [] h v order = omega arith
one_each es (d ∷ ds) h v order = by (eqb (index_of es d (h d (inl refl))) v) refl (one_each es ds (λ e i. h e (inr i)) v (λ i j x l m. order (suc i) (suc j) x (omega (arith, l)) (omega (arith, m))))
  where
    apart : (e : Dir) → In e ds → d ≡ e → ⊥
    apart e i same =
        let c = Contains-from_in ds e i in
        let l : HasLesserAngle d e = subst (HasLesserAngle d) c.2 (order 0 (suc c.0) e (omega arith) (omega (arith, c.1))) in
        let k : HasLesserAngle e e = subst (λ t. HasLesserAngle t e) same l in
        lesser_not_back e e k k

    by : (t : Bool) → eqb (index_of es d (h d (inl refl))) v ≡ t → times v (indexes es ds (λ e i. h e (inr i))) ≤ 1
        → cond t (suc (times v (indexes es ds (λ e i. h e (inr i))))) (times v (indexes es ds (λ e i. h e (inr i)))) ≤ 1
    by false q k = k
    by true q k = let n = none_again es ds (λ e i. h e (inr i)) d (h d (inl refl)) v apart (eqb-true (index_of es d (h d (inl refl))) v q) in omega (arith, n)

length-raws : (u : Spot) (vs : List Spot) → length (raws u vs) ≡ length vs
length-raws u [] = refl
length-raws u (v ∷ vs) = ap (λ n. suc n) (length-raws v vs)

length-edges : (C : List Spot) → length (edges_of C) ≡ length C
length-edges [] = refl
length-edges (c ∷ cs) = length-raws (last_of c cs) (c ∷ cs)

length-all_edges : (A B F : List Spot) → length (all_edges A B F) ≡ length A + (length B + length F)
length-all_edges A B F =
    omega (arith, length-append (edges_of A) (map back (edges_of B) ++ map back (edges_of F)), length-append (map back (edges_of B)) (map back (edges_of F)), length-map (edges_of B) back, length-map (edges_of F) back, length-edges A, length-edges B, length-edges F)

pub sides_few : (A B F : List Spot) (dirs : List Dir) → AreOutlines A B F → AreSides (difference A B F) dirs → length dirs ≤ length A + (length B + length F)
sides_few A B F dirs o are =
    let es = all_edges A B F in
    let n = few_numbers 1 (length es) (indexes es dirs across) (indexes_below es dirs across) (λ v. one_each es dirs across v are.order) in
    omega (arith, n, length-indexes es dirs across, length-all_edges A B F)
  where
    across : (d : Dir) → In d dirs → Across (all_edges A B F) d
    across d i = (sides_are A B F o d).0 ((are.each d).0 (Contains-from_in dirs d i))

pub few_at_contact : (job : Job) (c : Contact) (n : ℕ) → HasSides job c n → n ≤ 8_008_036
few_at_contact job c n has =
    let is = has.is in
    let s = sides_few (zone_at job c.i c.zi).corners (zone_at job c.j c.zj).corners (part_at job c.part).corners has.dirs (outlines_of job c is) has.sides in
    let a = corners_few 1_001_000 (zone_at job c.i c.zi).corners (sound_zone job c.i c.zi is.i_in is.zi_in).corners (λ t i. (zone_near job c.i c.zi is.i_in is.zi_in t i).x) in
    let b = corners_few 1_001_000 (zone_at job c.j c.zj).corners (sound_zone job c.j c.zj is.j_in is.zj_in).corners (λ t i. (zone_near job c.j c.zj is.j_in is.zj_in t i).x) in
    let f = (part_of job c.part is.part_in).few in
    omega (arith, s, a, b, f, has.many)
