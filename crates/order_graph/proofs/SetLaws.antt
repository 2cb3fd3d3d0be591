-- Sets of objects, bit by bit.
use Rattle.std.proofs.Common.{◌≡◌, ◌≢◌, ◌↔◌, ℕ, ◌-◌, ◌*◌, ◌/◌, ◌%◌, ◌^◌, ◌<◌, ◌≤◌, min, bit_and, bit_or, ⊎_elim, sym, subst, ap, ◌∙◌, arith}
use Rattle.std.specs.Int.{bit_at, w16}
use Rattle.std.proofs.lemmas.Bool.{cases_eq, cases_lt}
use Rattle.std.proofs.lemmas.Nat.{and_le_l, le_or_l}
use Rattle.std.proofs.lemmas.Nat.Bits.{bit_at-zero, bit_at-lt, bit_at_and, bit_at_not, bit_at_above, bit_at_ones, bit_at_ones_above, bit_at_set_same, bit_at_set_other, bit_at_clear_same, bit_at_clear_other, ones_shr}
use Rattle.order_graph.specs.Sets.{HasMember}

-- the empty set
pub nothing : (k : ℕ) → HasMember 0 k → ⊥
nothing k has = let none = bit_at-zero k in cc

both_one : (m x y : ℕ) → m ≡ min x y → x < 2 → y < 2 → (m ≡ 1) ↔ ((x ≡ 1) × (y ≡ 1))
both_one m x y is x_small y_small = (λ one. (omega arith, omega arith), λ each. let of_x = each.0 in let of_y = each.1 in omega arith)

pub in_both : (set other k : ℕ) → HasMember (bit_and set other) k ↔ (HasMember set k × HasMember other k)
in_both set other k = both_one (bit_at (bit_and set other) k) (bit_at set k) (bit_at other k) (bit_at_and set other k) (bit_at-lt set k) (bit_at-lt other k)

first_one : (m x y z : ℕ) → m ≡ min x z → z ≡ 1 - y → x < 2 → y < 2 → (m ≡ 1) ↔ ((x ≡ 1) × (y ≢ 1))
first_one m x y z is turned x_small y_small = (λ one. (omega arith, omega arith), λ each. let of_x = each.0 in let of_y = each.1 in omega arith)

neither_one : (m x z : ℕ) (P : Type 0) → m ≡ min x z → x ≡ 0 → (m ≡ 1) ↔ ((x ≡ 1) × P)
neither_one m x z P is none = (λ one. absurd (omega arith), λ each. let of_x = each.0 in absurd (omega arith))

pub in_first : (set other k : ℕ) → set < 65536 → other < 65536 → HasMember (bit_and set (65535 - other)) k ↔ (HasMember set k × (HasMember other k → ⊥))
in_first set other k set_fits other_fits = ⊎_elim
    (λ below. first_one (bit_at (bit_and set (65535 - other)) k) (bit_at set k) (bit_at other k) (bit_at (65535 - other) k) (bit_at_and set (65535 - other) k) (bit_at_not w16 other k other_fits below) (bit_at-lt set k) (bit_at-lt other k))
    (λ above. neither_one (bit_at (bit_and set (65535 - other)) k) (bit_at set k) (bit_at (65535 - other) k) (HasMember other k → ⊥) (bit_at_and set (65535 - other) k) (bit_at_above set 16 k set_fits above))
    (cases_lt k 16)

pub in_below : (n k : ℕ) → n ≤ 16 → HasMember (65535 / 2 ^ (16 - n)) k ↔ (k < n)
in_below n k few =
    let back : 16 - (16 - n) ≡ n = omega arith in
    let whole : 65535 / 2 ^ (16 - n) ≡ 2 ^ n - 1 = ones_shr 16 (16 - n) (omega arith) ∙ ap (λ m. 2 ^ m - 1) back in
    subst (λ set. HasMember set k ↔ (k < n)) (sym whole) (⊎_elim
    (λ below. (λ _. below, λ _. bit_at_ones n k below))
    (λ above. (λ has. let none = bit_at_ones_above n k above in absurd cc, λ below. absurd (omega arith)))
    (cases_lt k n))

pub in_more : (set k a : ℕ) → k < 16 → a ≢ k → HasMember (bit_or set (1 * 2 ^ k % 65536)) a ↔ HasMember set a
in_more set k a within apart = let same = bit_at_set_other w16 set k within a apart in (λ has. sym same ∙ has, λ has. same ∙ has)

pub not_in_fewer : (set k : ℕ) → k < 16 → HasMember (bit_and set (65535 - 1 * 2 ^ k % 65536)) k → ⊥
not_in_fewer set k within has = let none = bit_at_clear_same w16 set k within in cc

pub in_fewer : (set k a : ℕ) → set < 65536 → k < 16 → a ≢ k → HasMember (bit_and set (65535 - 1 * 2 ^ k % 65536)) a ↔ HasMember set a
in_fewer set k a fits within apart = ⊎_elim
    (λ below. let same = bit_at_clear_other w16 set k within a below apart in (λ has. sym same ∙ has, λ has. same ∙ has))
    (λ above. let none = bit_at_above set 16 a fits above in (λ has. ((in_both set (65535 - 1 * 2 ^ k % 65536) a).0 has).0, λ has. absurd cc))
    (cases_lt a 16)

pub fewer : (set k : ℕ) → k < 16 → HasMember set k → bit_and set (65535 - 1 * 2 ^ k % 65536) < set
fewer set k within has =
    let rest = bit_and set (65535 - 1 * 2 ^ k % 65536) in
    let most : rest ≤ set = and_le_l set (65535 - 1 * 2 ^ k % 65536) in
    let apart : rest ≢ set = λ same. not_in_fewer set k within (subst (λ s. HasMember s k) (sym same) has) in
    omega (arith, most, apart)

pub more : (set k : ℕ) → k < 16 → (HasMember set k → ⊥) → set < bit_or set (1 * 2 ^ k % 65536)
more set k within new =
    let grown = bit_or set (1 * 2 ^ k % 65536) in
    let least : set ≤ grown = le_or_l set (1 * 2 ^ k % 65536) in
    let apart : set ≢ grown = λ same. new (subst (λ s. HasMember s k) (sym same) (bit_at_set_same w16 set k within)) in
    omega (arith, least, apart)

-- an object is in a set or not
pub has_unless : (set k : ℕ) → ((HasMember set k → ⊥) → ⊥) → HasMember set k
has_unless set k not_not = ⊎_elim (λ has. has) (λ missing. absurd (not_not missing)) (cases_eq (bit_at set k) 1)
