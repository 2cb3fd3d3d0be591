-- One list covers another where it reaches as far along each of its sides: then the inner points of the other are inner to it.
--
--   below_bound           what is inner to a list stays below any bound of it along any direction
--   never_opened          beyond a side of T nothing is inner to S
--   out_of_reach          beyond any direction, a side or not, nothing is inner: a box's four directions among them
--   Limit                 a direction with the greatest value along it
--   AreLimits S ls        the sides of S with their greatest values
--   inside_limits         a point is inner to S exactly where it is below all limits
use Rattle.std.proofs.Common.{◌≡◌, List, [], ◌∷◌, map, refl, ap, ap₂, sym, subst, arith, ℤ, ◌+ℤ◌, ◌*ℤ◌, ◌≤ℤ◌, ◌<ℤ◌, ◌↔◌, inl, inr, Bool, true, not, ◌&&◌}
use Rattle.std.specs.Prelude.{int_lt}
use Rattle.std.specs.List.{list_all}
use Rattle.std.proofs.lemmas.Bool.Decides.{nat_tests}
use Rattle.std.proofs.lemmas.Int.{ints}
use Rattle.std.proofs.lemmas.Bool.{and_parts}
use Rattle.integer_laws.specs.Divisors.{IsPrimitive}
use Rattle.integer_laws.specs.Members.{In}
use Rattle.integer_laws.specs.Laws.Members.{In-from_contains, Contains-from_in, In-map, In-map_cases}
use Rattle.seq_model.specs.Outlines.{Inner}
use Rattle.seq_model.specs.Points.{Point, IsPoint}
use Rattle.seq_model.specs.Sides.{along, greatest_along, Side, Beyond, AreSides}
use Rattle.seq_model.specs.declared.printer.Spot.{Spot}
use Rattle.seq_model.specs.declared.tree.Dir.{Dir}
use Rattle.pair_constraints.specs.declared.limits.Limit.{Limit}
use Rattle.outline_laws.specs.Corners.{HasArea}
use Rattle.pair_constraints.specs.Limits.{AreLimits}
use Rattle.search_laws.specs.Covering.{Covers}
use Rattle.outline_laws.specs.Laws.Means.{inner_below}
use Rattle.outline_laws.specs.Beyond.{BeyondNoSide}
use Rattle.outline_laws.specs.Laws.Sides.{greatest_of, some_below, inner_of_free}

never : {a b : ℤ} → a <ℤ b → b ≤ℤ a → ⊥
never h k = absurd (omega (arith, ints))

-- what is inner to a list with area stays below any bound of it along any direction
pub below_bound : (S : List Spot) (q : Point) (dir : Dir) (g : ℤ) → HasArea S → IsPrimitive dir.x dir.y → greatest_along dir S ≤ℤ g → Inner S q → (dir.x *ℤ q.x +ℤ dir.y *ℤ q.y) <ℤ (g *ℤ q.d)
below_bound S q dir g area prim most m =
    let is = greatest_of dir S area.i (In-from_contains S area.i area.i_in) in
    let bound : (s : Spot) → In s S → along dir s ≤ℤ g = λ s i. under (is.bound s i) most in
    let low = some_below S dir g area prim bound in
    inner_below dir.x dir.y g S q bound low.at low.member low.lower m
  where
    under : {a b c : ℤ} → a ≤ℤ b → b ≤ℤ c → a ≤ℤ c
    under h k = omega (arith, ints)

-- the search opens T alone: at a point beyond a side of T, S isn't met either
pub never_opened : (S T : List Spot) (q : Point) (dir : Dir) → HasArea S → Covers T S → Side T dir → Beyond T dir q → Inner S q → ⊥
never_opened S T q dir s covers side beyond m = never (below_bound S q dir (greatest_along dir T) s side.primitive (covers dir side) m) beyond

same_le : {a : ℤ} → a ≤ℤ a
same_le {a} = omega (arith, ints)

pub out_of_reach : (S : List Spot) (q : Point) (dir : Dir) → HasArea S → IsPrimitive dir.x dir.y → Beyond S dir q → Inner S q → ⊥
out_of_reach S q dir s prim beyond m = never (below_bound S q dir (greatest_along dir S) s prim same_le m) beyond

-- ---- sides with their greatest values
abbrev pub IsUnder : Point → Limit → Type 0
IsUnder q l = (l.dir.x *ℤ q.x +ℤ l.dir.y *ℤ q.y) <ℤ (l.most *ℤ q.d)

pub inside_limits : (S : List Spot) (ls : List Limit) (q : Point) → HasArea S → IsPoint q → AreLimits S ls → ((l : Limit) → In l ls → IsUnder q l) ↔ Inner S q
inside_limits S ls q area is are = (to, from)
  where
    to : ((l : Limit) → In l ls → IsUnder q l) → Inner S q
    to under = inner_of_free S q area is free
      where
        free : BeyondNoSide S q
        free dir side beyond =
            let i = In-from_contains (map (λ (l : Limit). l.dir) ls) dir ((are.sides.each dir).1 side) in
            let c = In-map_cases (λ (l : Limit). l.dir) ls dir i in
            let low = subst (λ g. (c.0.dir.x *ℤ q.x +ℤ c.0.dir.y *ℤ q.y) <ℤ (g *ℤ q.d)) (are.most c.0 c.1) (under c.0 c.1) in
            never low (subst (λ d. Beyond S d q) c.2 beyond)

    from : Inner S q → (l : Limit) → In l ls → IsUnder q l
    from m l i =
        let side = (are.sides.each l.dir).0 (Contains-from_in (map (λ (l : Limit). l.dir) ls) l.dir (In-map (λ (l : Limit). l.dir) ls l i)) in
        subst (λ g. (l.dir.x *ℤ q.x +ℤ l.dir.y *ℤ q.y) <ℤ (g *ℤ q.d)) (sym (are.most l i)) (below_bound S q l.dir (greatest_along l.dir S) area side.primitive same_le m)

-- ---- what the code computes
abbrev pub is_under : Point → Limit → Bool
is_under q l = int_lt (l.dir.x *ℤ q.x +ℤ l.dir.y *ℤ q.y) (l.most *ℤ q.d)

lt_true : (m n : ℤ) → int_lt m n ≡ true → m <ℤ n
lt_true m n e = grind (arith, ints, nat_tests)

true_lt : (m n : ℤ) → m <ℤ n → int_lt m n ≡ true
true_lt m n h = grind (arith, ints, nat_tests)

under_all : (q : Point) (ls : List Limit) → list_all (is_under q) ls ≡ true → (l : Limit) → In l ls → IsUnder q l
under_all q [] e l i = absurd i
under_all q (k ∷ ls) e l (inl s) = subst (IsUnder q) (sym s) (lt_true (k.dir.x *ℤ q.x +ℤ k.dir.y *ℤ q.y) (k.most *ℤ q.d) (and_parts (is_under q k) (list_all (is_under q) ls) e).0)
under_all q (k ∷ ls) e l (inr i) = under_all q ls (and_parts (is_under q k) (list_all (is_under q) ls) e).1 l i

all_under : (q : Point) (ls : List Limit) → ((l : Limit) → In l ls → IsUnder q l) → list_all (is_under q) ls ≡ true
all_under q [] h = refl
all_under q (k ∷ ls) h = ap₂ (λ a b. a && b) (true_lt (k.dir.x *ℤ q.x +ℤ k.dir.y *ℤ q.y) (k.most *ℤ q.d) (h k (inl refl))) (all_under q ls (λ l i. h l (inr i)))

pub under_is_inner : (S : List Spot) (ls : List Limit) (q : Point) → HasArea S → IsPoint q → AreLimits S ls → (list_all (is_under q) ls ≡ true) ↔ Inner S q
under_is_inner S ls q area is are =
    let law = inside_limits S ls q area is are in
    (λ e. law.0 (under_all q ls e), λ m. all_under q ls (law.1 m))

-- the limits of sides
abbrev pub limit_of : List Spot → Dir → Limit
limit_of S d = record { dir = d; most = greatest_along d S }

dirs_again : (S : List Spot) (ds : List Dir) → map (λ (l : Limit). l.dir) (map (limit_of S) ds) ≡ ds
dirs_again S [] = refl
dirs_again S (d ∷ ds) = ap (λ es. d ∷ es) (dirs_again S ds)

pub limits_are : (S : List Spot) (ds : List Dir) → AreSides S ds → AreLimits S (map (limit_of S) ds)
limits_are S ds are = record { sides = subst (AreSides S) (sym (dirs_again S ds)) are; most = λ l i. of l (In-map_cases (limit_of S) ds l i) }
  where
    of : (l : Limit) → ((d : Dir) × In d ds × (l ≡ limit_of S d)) → l.most ≡ greatest_along l.dir S
    of l c = subst (λ (k : Limit). k.most ≡ greatest_along k.dir S) (sym c.2) refl

-- ---- whether limits cover a list
abbrev pub is_short_of : List Spot → Limit → Bool
is_short_of S l = not (int_lt l.most (greatest_along l.dir S))

short_true : (m n : ℤ) → not (int_lt m n) ≡ true → n ≤ℤ m
short_true m n e = grind (arith, ints, nat_tests)

true_short : (m n : ℤ) → n ≤ℤ m → not (int_lt m n) ≡ true
true_short m n h = grind (arith, ints, nat_tests)

short_all : (S : List Spot) (ls : List Limit) → list_all (is_short_of S) ls ≡ true → (l : Limit) → In l ls → greatest_along l.dir S ≤ℤ l.most
short_all S [] e l i = absurd i
short_all S (k ∷ ls) e l (inl s) = subst (λ (t : Limit). greatest_along t.dir S ≤ℤ t.most) (sym s) (short_true k.most (greatest_along k.dir S) (and_parts (is_short_of S k) (list_all (is_short_of S) ls) e).0)
short_all S (k ∷ ls) e l (inr i) = short_all S ls (and_parts (is_short_of S k) (list_all (is_short_of S) ls) e).1 l i

all_short : (S : List Spot) (ls : List Limit) → ((l : Limit) → In l ls → greatest_along l.dir S ≤ℤ l.most) → list_all (is_short_of S) ls ≡ true
all_short S [] h = refl
all_short S (k ∷ ls) h = ap₂ (λ a b. a && b) (true_short k.most (greatest_along k.dir S) (h k (inl refl))) (all_short S ls (λ l i. h l (inr i)))

pub short_is_covered : (S T : List Spot) (ls : List Limit) → AreLimits T ls → (list_all (is_short_of S) ls ≡ true) ↔ Covers T S
short_is_covered S T ls are = (to, from)
  where
    to : list_all (is_short_of S) ls ≡ true → Covers T S
    to e dir side =
        let c = In-map_cases (λ (l : Limit). l.dir) ls dir (In-from_contains (map (λ (l : Limit). l.dir) ls) dir ((are.sides.each dir).1 side)) in
        subst (λ d. greatest_along d S ≤ℤ greatest_along d T) (sym c.2) (subst (λ g. greatest_along c.0.dir S ≤ℤ g) (are.most c.0 c.1) (short_all S ls e c.0 c.1))

    from : Covers T S → list_all (is_short_of S) ls ≡ true
    from covers = all_short S ls (λ l i. subst (λ g. greatest_along l.dir S ≤ℤ g) (sym (are.most l i)) (covers l.dir ((are.sides.each l.dir).0 (Contains-from_in (map (λ (l : Limit). l.dir) ls) l.dir (In-map (λ (l : Limit). l.dir) ls l i)))))
