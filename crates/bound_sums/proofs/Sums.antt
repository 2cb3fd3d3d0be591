-- Sums of sparse rows, entry by entry.
use Rattle.std.proofs.Common.{◌≡◌, ◌≢◌, ℕ, zero, suc, ◌+◌, ◌*◌, ◌<◌, ℤ, pos, neg_ℤ, ◌+ℤ◌, ◌*ℤ◌, List, length, set, replicate, Bool, true, false, eqb, refl, sym, ap, subst, ◌∙◌, arith}
use Rattle.std.proofs.lemmas.Int.{ints}
use Rattle.std.proofs.lemmas.Bool.Decides.{nat_tests}
use Rattle.std.proofs.lemmas.List.{get_or-set_same, get_or-set_other, length-set, length-replicate}
use Rattle.integer_laws.specs.Laws.Ring.{expand}
use Rattle.bound_sums.specs.Sparse.{entry, AreAdded, side_entries}

pub nothing_yet : (n v : ℕ) → entry (replicate n (pos 0)) v ≡ pos 0
nothing_yet zero v = refl
nothing_yet (suc n) zero = refl
nothing_yet (suc n) (suc v) = nothing_yet n v

pub none_added : (t : ℤ) (base : List ℤ) (n : ℕ) → AreAdded t base (replicate n (pos 0)) base
none_added t base n v = simp (nothing_yet n v, expand) (omega (arith, ints))

added_here : (t x d o s z : ℤ) → s ≡ o +ℤ t *ℤ z → z ≡ pos 0 → d ≡ t *ℤ x → s +ℤ d ≡ o +ℤ t *ℤ x
added_here t x d o s z e f g = rw (e, f, g) (simp expand (omega (arith, ints)))

pub one_added : (t : ℤ) (base row sums moved : List ℤ) (p : ℕ) (x d : ℤ) → AreAdded t base row sums → entry row p ≡ pos 0 → p < length row → p < length sums → moved ≡ set sums p (entry sums p +ℤ d) → d ≡ t *ℤ x
    → AreAdded t base (set row p x) moved
one_added t base row sums moved p x d are empty in_row in_sums is product v = by (eqb v p) refl
  where
    by : (b : Bool) → eqb v p ≡ b → entry moved v ≡ entry base v +ℤ t *ℤ entry (set row p x) v
    by true e =
        let here : v ≡ p = grind (arith, nat_tests, e) in
        subst (λ w. entry moved w ≡ entry base w +ℤ t *ℤ entry (set row p x) w) (sym here)
        (ap (λ l. entry l p) is ∙ get_or-set_same sums p _ (pos 0) in_sums ∙ added_here t x d (entry base p) (entry sums p) (entry row p) (are p) empty product
        ∙ ap (λ z. entry base p +ℤ t *ℤ z) (sym (get_or-set_same row p x (pos 0) in_row)))
    by false e =
        let other : v ≢ p = grind (arith, nat_tests, e) in
        ap (λ l. entry l v) is ∙ get_or-set_other sums p v _ (pos 0) other ∙ are v ∙ ap (λ z. entry base v +ℤ t *ℤ z) (sym (get_or-set_other row p v x (pos 0) other))

pub entry_beside : (row : List ℤ) (p q : ℕ) (x : ℤ) → q ≢ p → entry row q ≡ pos 0 → entry (set row p x) q ≡ pos 0
entry_beside row p q x other none = get_or-set_other row p q x (pos 0) other ∙ none

-- ---- the entries of a side's row, one after the other
pub sides_added : (t : ℤ) (base a b c d : List ℤ) (width i j : ℕ) (x y dx dy ex ey : ℤ) → length base ≡ width → 2 * i + 1 < width → 2 * j + 1 < width → i ≢ j
    → dx ≡ t *ℤ neg_ℤ x → dy ≡ t *ℤ neg_ℤ y → ex ≡ t *ℤ x → ey ≡ t *ℤ y
    → a ≡ set base (2 * i) (entry base (2 * i) +ℤ dx) → b ≡ set a (2 * i + 1) (entry a (2 * i + 1) +ℤ dy) → c ≡ set b (2 * j) (entry b (2 * j) +ℤ ex) → d ≡ set c (2 * j + 1) (entry c (2 * j + 1) +ℤ ey)
    → AreAdded t base (side_entries width i j x y) d
sides_added t base a b c d width i j x y dx dy ex ey len i_in j_in apart px py qx qy sa sb sc sd =
    let n = replicate width (pos 0) in
    let ra = set n (2 * i) (neg_ℤ x) in
    let rb = set ra (2 * i + 1) (neg_ℤ y) in
    let rc = set rb (2 * j) x in
    let ln : length n ≡ width = length-replicate width (pos 0) in
    let la : length ra ≡ width = length-set n (2 * i) (neg_ℤ x) ∙ ln in
    let lb : length rb ≡ width = length-set ra (2 * i + 1) (neg_ℤ y) ∙ la in
    let lc : length rc ≡ width = length-set rb (2 * j) x ∙ lb in
    let ma : length a ≡ width = ap length sa ∙ length-set base (2 * i) _ ∙ len in
    let mb : length b ≡ width = ap length sb ∙ length-set a (2 * i + 1) _ ∙ ma in
    let mc : length c ≡ width = ap length sc ∙ length-set b (2 * j) _ ∙ mb in
    let za : entry ra (2 * i + 1) ≡ pos 0 = entry_beside n (2 * i) (2 * i + 1) (neg_ℤ x) (omega arith) (nothing_yet width (2 * i + 1)) in
    let zb : entry rb (2 * j) ≡ pos 0 = entry_beside ra (2 * i + 1) (2 * j) (neg_ℤ y) (omega arith) (entry_beside n (2 * i) (2 * j) (neg_ℤ x) (omega arith) (nothing_yet width (2 * j))) in
    let zc : entry rc (2 * j + 1) ≡ pos 0 = entry_beside rb (2 * j) (2 * j + 1) x (omega arith) (entry_beside ra (2 * i + 1) (2 * j + 1) (neg_ℤ y) (omega arith) (entry_beside n (2 * i) (2 * j + 1) (neg_ℤ x) (omega arith) (nothing_yet width (2 * j + 1)))) in
    let ha = one_added t base n base a (2 * i) (neg_ℤ x) dx (none_added t base width) (nothing_yet width (2 * i)) (omega (arith, ln)) (omega (arith, len)) sa px in
    let hb = one_added t base ra a b (2 * i + 1) (neg_ℤ y) dy ha za (omega (arith, la)) (omega (arith, ma)) sb py in
    let hc = one_added t base rb b c (2 * j) x ex hb zb (omega (arith, lb)) (omega (arith, mb)) sc qx in
    one_added t base rc c d (2 * j + 1) y ey hc zc (omega (arith, lc)) (omega (arith, mc)) sd qy

pub bound_added : (t : ℤ) (base a : List ℤ) (width v : ℕ) (d : ℤ) → length base ≡ width → v < width → d ≡ t *ℤ neg_ℤ (pos 1) → a ≡ set base v (entry base v +ℤ d) → AreAdded t base (set (replicate width (pos 0)) v (neg_ℤ (pos 1))) a
bound_added t base a width v d len v_in px sa =
    let ln : length (replicate width (pos 0)) ≡ width = length-replicate width (pos 0) in
    one_added t base (replicate width (pos 0)) base a v (neg_ℤ (pos 1)) d (none_added t base width) (nothing_yet width v) (omega (arith, ln)) (omega (arith, len)) sa px
