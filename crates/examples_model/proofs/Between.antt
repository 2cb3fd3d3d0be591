-- No direction strictly between two neighbouring sides is a side: the corner that the two share is alone the farthest along it.
use Rattle.std.proofs.Common.{◌≡◌, List, [], ◌∷◌, ap₂, sym, ◌∙◌, subst, arith, ℤ, pos, ◌+ℤ◌, ◌-ℤ◌, ◌*ℤ◌, ◌≤ℤ◌, ◌<ℤ◌, map, inl, inr, refl}
use Rattle.std.proofs.lemmas.Int.{ints, fold-int_max_bounds}
use Rattle.integer_laws.specs.Members.{In}
use Rattle.integer_laws.specs.Laws.Members.{In-from_contains, In-map, All-in}
use Rattle.integer_laws.specs.Laws.Order.{cancel_same, le_from, same_from, add_le, mul_nonneg, mul_same, le_of_same}
use Rattle.integer_laws.specs.Laws.Ring.{expand}
use Rattle.seq_model.specs.Sides.{along, greatest_along, Side}
use Rattle.seq_model.specs.declared.printer.Spot.{Spot}
use Rattle.seq_model.specs.declared.tree.Dir.{Dir}

abbrev pub cross : Dir → Dir → ℤ
cross d e = d.x *ℤ e.y -ℤ d.y *ℤ e.x

pub at_most_greatest : (dir : Dir) (S : List Spot) (v : Spot) → In v S → along dir v ≤ℤ greatest_along dir S
at_most_greatest dir [] v i = absurd i
at_most_greatest dir (p ∷ ps) v (inl e) = subst (λ q. along dir q ≤ℤ greatest_along dir (p ∷ ps)) (sym e) (fold-int_max_bounds (along dir p) (map (along dir) ps) (greatest_along dir (p ∷ ps)) refl).0
at_most_greatest dir (p ∷ ps) v (inr i) = All-in (λ x. x ≤ℤ greatest_along dir (p ∷ ps)) (map (along dir) ps) (along dir v) (fold-int_max_bounds (along dir p) (map (along dir) ps) (greatest_along dir (p ∷ ps)) refl).1 (In-map (along dir) ps v i)

-- two numbers that aren't negative, and of which a positive combination isn't positive, are 0
tight : (α β m n : ℤ) → pos 0 <ℤ α → pos 0 <ℤ β → pos 0 ≤ℤ m → pos 0 ≤ℤ n → (α *ℤ m +ℤ β *ℤ n) ≤ℤ pos 0 → m ≡ pos 0
tight α β m n a b p q h =
    let one = mul_nonneg α m (omega (arith, ints, a)) p in
    let two = mul_nonneg β n (omega (arith, ints, b)) q in
    let none : α *ℤ m ≡ α *ℤ pos 0 = (let zero : α *ℤ pos 0 ≡ pos 0 = simp expand in omega (arith, ints, one, two, h, zero)) in
    cancel_same α a none

-- a direction by two that are a unit apart
by_two_numbers : (x y a b c f p q : ℤ) → a *ℤ f -ℤ b *ℤ c ≡ pos 1 → x *ℤ p +ℤ y *ℤ q ≡ (x *ℤ f -ℤ y *ℤ c) *ℤ (a *ℤ p +ℤ b *ℤ q) +ℤ (a *ℤ y -ℤ b *ℤ x) *ℤ (c *ℤ p +ℤ f *ℤ q)
by_two_numbers x y a b c f p q unit = same_from (mul_same (x *ℤ p +ℤ y *ℤ q) (sym unit)) (simp expand (omega (arith, ints)))

by_two : (dir d e : Dir) (p : Spot) → cross d e ≡ pos 1 → along dir p ≡ cross dir e *ℤ along d p +ℤ cross d dir *ℤ along e p
by_two dir d e p unit = by_two_numbers dir.x dir.y d.x d.y e.x e.y p.x p.y unit

first_by_two : (a b c f p q : ℤ) → a *ℤ f -ℤ b *ℤ c ≡ pos 1 → p ≡ (a *ℤ p +ℤ b *ℤ q) *ℤ f -ℤ (c *ℤ p +ℤ f *ℤ q) *ℤ b
first_by_two a b c f p q unit = same_from (mul_same p (sym unit)) (simp expand (omega (arith, ints)))

second_by_two : (a b c f p q : ℤ) → a *ℤ f -ℤ b *ℤ c ≡ pos 1 → q ≡ a *ℤ (c *ℤ p +ℤ f *ℤ q) -ℤ c *ℤ (a *ℤ p +ℤ b *ℤ q)
second_by_two a b c f p q unit = same_from (mul_same q (sym unit)) (simp expand (omega (arith, ints)))

spot_by_two : (d e : Dir) (p : Spot) → cross d e ≡ pos 1 → p ≡ record { x = along d p *ℤ e.y -ℤ along e p *ℤ d.y; y = d.x *ℤ along e p -ℤ e.x *ℤ along d p }
spot_by_two d e p unit = ap₂ (λ x y. record { x = x; y = y }) (first_by_two d.x d.y e.x e.y p.x p.y unit) (second_by_two d.x d.y e.x e.y p.x p.y unit)

-- a value that isn't less, by its two parts
no_less : (V P α β s t m n : ℤ) → V ≤ℤ P → V ≡ α *ℤ s +ℤ β *ℤ t → P ≡ α *ℤ m +ℤ β *ℤ n → (α *ℤ (s -ℤ m) +ℤ β *ℤ (t -ℤ n)) ≤ℤ pos 0
no_less V P α β s t m n h v p = le_from (add_le h (add_le (le_of_same (sym v)) (le_of_same p))) (simp expand (omega (arith, ints)))

same_spot : (d e : Dir) (p q : Spot) → cross d e ≡ pos 1 → along d p ≡ along d q → along e p ≡ along e q → p ≡ q
same_spot d e p q unit one two =
    spot_by_two d e p unit
    ∙ (ap₂ (λ m n. record { x = m *ℤ e.y -ℤ n *ℤ d.y; y = d.x *ℤ n -ℤ e.x *ℤ m }) one two ∙ sym (spot_by_two d e q unit))

-- the corner is the farthest along d and along e, both bounds being reached there; so it is the farthest between them, alone
farthest : (S : List Spot) (dir d e : Dir) (v p : Spot) → cross d e ≡ pos 1 → pos 0 <ℤ cross dir e → pos 0 <ℤ cross d dir → In v S
    → ((q : Spot) → In q S → along d q ≤ℤ along d v) → ((q : Spot) → In q S → along e q ≤ℤ along e v) → In p S → along dir p ≡ greatest_along dir S → p ≡ v
farthest S dir d e v p unit left right vin most_d most_e pin top =
    let α = cross dir e in
    let β = cross d dir in
    let m = along d v -ℤ along d p in
    let n = along e v -ℤ along e p in
    let hm : pos 0 ≤ℤ m = (let h = most_d p pin in omega (arith, ints, h)) in
    let hn : pos 0 ≤ℤ n = (let h = most_e p pin in omega (arith, ints, h)) in
    let reached : along dir v ≤ℤ along dir p = subst (λ z. along dir v ≤ℤ z) (sym top) (at_most_greatest dir S v vin) in
    let at_v = by_two dir d e v unit in
    let at_p = by_two dir d e p unit in
    let h : (α *ℤ m +ℤ β *ℤ n) ≤ℤ pos 0 = no_less (along dir v) (along dir p) α β (along d v) (along e v) (along d p) (along e p) reached at_v at_p in
    let h' : (β *ℤ n +ℤ α *ℤ m) ≤ℤ pos 0 = omega (arith, ints, h) in
    let zm = tight α β m n left right hm hn h in
    let zn = tight β α n m right left hn hm h' in
    same_spot d e p v unit (omega (arith, ints, zm)) (omega (arith, ints, zn))

pub no_side_between : (S : List Spot) (dir d e : Dir) (v : Spot) → cross d e ≡ pos 1 → pos 0 <ℤ cross dir e → pos 0 <ℤ cross d dir → In v S
    → ((q : Spot) → In q S → along d q ≤ℤ along d v) → ((q : Spot) → In q S → along e q ≤ℤ along e v) → Side S dir → ⊥
no_side_between S dir d e v unit left right vin most_d most_e s =
    s.apart (farthest S dir d e v s.a unit left right vin most_d most_e (In-from_contains S s.a s.a_in) s.at_a
    ∙ sym (farthest S dir d e v s.b unit left right vin most_d most_e (In-from_contains S s.b s.b_in) s.at_b))
