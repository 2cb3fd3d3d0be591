-- The members, the greatest values and the sides of a difference, from those of its three lists.
--
--   back dir                 the opposite direction
--   in_difference, Member, member_of     a member is a - b - f, and nothing else is
--   along_member             its value along a direction
--   greatest_difference      the greatest value is the sum of the three, the last two along the opposite direction
--   area_of_difference       it has area where the first list has
--   side_of_any              a side of one of the three is a side of it
--   side_cases               and no other direction is
use Rattle.std.proofs.Common.{◌≡◌, ◌≤◌, length, List, [], ◌∷◌, map, flat_map, refl, ap, ap₂, sym, subst, subst₂, ◌∙◌, arith, ℤ, neg_ℤ, ◌+ℤ◌, ◌-ℤ◌, ◌≤ℤ◌, ◌⊎◌, inl, inr, unsigned_abs, Contains}
use Rattle.std.proofs.lemmas.Int.{ints}
use Rattle.integer_laws.specs.Laws.Ring.{expand}
use Rattle.integer_laws.specs.Divisors.{IsPrimitive, AreCoprime}
use Rattle.integer_laws.specs.Extremes.{IsGreatest}
use Rattle.integer_laws.specs.Laws.Extremes.{greatest_unique}
use Rattle.integer_laws.specs.Members.{In}
use Rattle.integer_laws.specs.Laws.Members.{In-from_contains, Contains-from_in, In-append_left, In-append_right, In-append_cases, In-map, In-map_cases}
use Rattle.seq_model.specs.Contacts.{less, difference}
use Rattle.seq_model.specs.Sides.{along, greatest_along, Side}
use Rattle.seq_model.specs.declared.printer.Spot.{Spot}
use Rattle.seq_model.specs.declared.tree.Dir.{Dir}
use Rattle.outline_laws.specs.Corners.{turn, HasArea}
use Rattle.outline_laws.specs.Laws.Sides.{greatest_of}
pub use Rattle.outline_laws.specs.Laws.Loops.{back}
use Rattle.outline_laws.specs.Laws.Edges.{same_or_apart}

-- ---- members
in_flat : {A B : Type 0} (f : A → List B) (x : A) (y : B) (xs : List A) → In x xs → In y (f x) → In y (flat_map f xs)
in_flat f x y [] i j = absurd i
in_flat f x y (z ∷ zs) (inl e) j = In-append_left (f z) (flat_map f zs) y (subst (λ t. In y (f t)) e j)
in_flat f x y (z ∷ zs) (inr i) j = In-append_right (f z) (flat_map f zs) y (in_flat f x y zs i j)

flat_cases : {A B : Type 0} (f : A → List B) (y : B) (xs : List A) → In y (flat_map f xs) → (x : A) × In x xs × In y (f x)
flat_cases f y [] i = absurd i
flat_cases f y (x ∷ xs) i = pick (In-append_cases (f x) (flat_map f xs) y i) (flat_cases f y xs)
  where
    pick : In y (f x) ⊎ In y (flat_map f xs) → (In y (flat_map f xs) → (z : _) × In z xs × In y (f z)) → (z : _) × In z (x ∷ xs) × In y (f z)
    pick (inl j) rest = (x, inl refl, j)
    pick (inr j) rest = let r = rest j in (r.0, inr r.1, r.2)

pub in_difference : (A B F : List Spot) (a b f : Spot) → In a A → In b B → In f F → In (less (less a b) f) (difference A B F)
in_difference A B F a b f i j k =
    in_flat (λ a. flat_map (λ b. map (less (less a b)) F) B) a (less (less a b) f) A i (in_flat (λ b. map (less (less a b)) F) b (less (less a b) f) B j (In-map (less (less a b)) F f k))

pub record Member (A B F : List Spot) (s : Spot) : Type 0 where
  pub a : Spot
  pub b : Spot
  pub f : Spot
  pub a_in : In a A
  pub b_in : In b B
  pub f_in : In f F
  pub is : s ≡ less (less a b) f

pub member_of : (A B F : List Spot) (s : Spot) → In s (difference A B F) → Member A B F s
member_of A B F s i =
    let p = flat_cases (λ a. flat_map (λ b. map (less (less a b)) F) B) s A i in
    let q = flat_cases (λ b. map (less (less p.0 b)) F) s B p.2 in
    let r = In-map_cases (less (less p.0 q.0)) F s q.2 in
    record { a = p.0; b = q.0; f = r.0; a_in = p.1; b_in = q.1; f_in = r.1; is = r.2 }

-- ---- values
pub along_member : (dir : Dir) (a b f : Spot) → along dir (less (less a b) f) ≡ (along dir a +ℤ along (back dir) b) +ℤ along (back dir) f
along_member dir a b f = simp expand (omega (arith, ints))

pub greatest_difference : (dir : Dir) (A B F : List Spot) (a b f : Spot) → In a A → In b B → In f F
    → greatest_along dir (difference A B F) ≡ (greatest_along dir A +ℤ greatest_along (back dir) B) +ℤ greatest_along (back dir) F
greatest_difference dir A B F a b f i j k =
    let p = greatest_of dir A a i in
    let q = greatest_of (back dir) B b j in
    let r = greatest_of (back dir) F f k in
    let top = less (less p.at q.at) r.at in
    let inside = in_difference A B F p.at q.at r.at p.member q.member r.member in
    greatest_unique (along dir) (difference A B F) (greatest_along dir (difference A B F)) ((greatest_along dir A +ℤ greatest_along (back dir) B) +ℤ greatest_along (back dir) F) (greatest_of dir (difference A B F) top inside)
    (record { bound = bound p q r; at = top; member = inside; reached = along_member dir p.at q.at r.at ∙ sum p.reached q.reached r.reached })
  where
    sum : {u v w x y z : ℤ} → u ≡ x → v ≡ y → w ≡ z → (u +ℤ v) +ℤ w ≡ (x +ℤ y) +ℤ z
    sum e g h = omega (arith, ints)

    under : {u v w x y z : ℤ} → u ≤ℤ x → v ≤ℤ y → w ≤ℤ z → ((u +ℤ v) +ℤ w) ≤ℤ ((x +ℤ y) +ℤ z)
    under e g h = omega (arith, ints)

    bound : IsGreatest (along dir) A (greatest_along dir A) → IsGreatest (along (back dir)) B (greatest_along (back dir) B) → IsGreatest (along (back dir)) F (greatest_along (back dir) F)
        → (s : Spot) → In s (difference A B F) → along dir s ≤ℤ ((greatest_along dir A +ℤ greatest_along (back dir) B) +ℤ greatest_along (back dir) F)
    bound p q r s m =
        let c = member_of A B F s m in
        subst (λ t. along dir t ≤ℤ ((greatest_along dir A +ℤ greatest_along (back dir) B) +ℤ greatest_along (back dir) F)) (sym c.is)
        (subst (λ t. t ≤ℤ ((greatest_along dir A +ℤ greatest_along (back dir) B) +ℤ greatest_along (back dir) F)) (sym (along_member dir c.a c.b c.f)) (under (p.bound c.a c.a_in) (q.bound c.b c.b_in) (r.bound c.f c.f_in)))

-- ---- area
turn_moved : (i j k b f : Spot) → turn (less (less i b) f) (less (less j b) f) (less (less k b) f) ≡ turn i j k
turn_moved i j k b f = shifted (less i b) (less j b) (less k b) f ∙ shifted i j k b
  where
    shift : (a b c : ℤ) → (a -ℤ c) -ℤ (b -ℤ c) ≡ a -ℤ b
    shift a b c = omega (arith, ints)

    shifted : (i j k c : Spot) → turn (less i c) (less j c) (less k c) ≡ turn i j k
    shifted i j k c = rw (shift j.x i.x c.x, shift k.y i.y c.y, shift j.y i.y c.y, shift k.x i.x c.x) refl

pub area_of_difference : (A B F : List Spot) (b f : Spot) → HasArea A → In b B → In f F → HasArea (difference A B F)
area_of_difference A B F b f area j k = record {
  i = less (less area.i b) f;
  j = less (less area.j b) f;
  k = less (less area.k b) f;
  i_in = member area.i (In-from_contains A area.i area.i_in);
  j_in = member area.j (In-from_contains A area.j area.j_in);
  k_in = member area.k (In-from_contains A area.k area.k_in);
  turns = rw (turn_moved area.i area.j area.k b f) area.turns;
}
  where
    member : (a : Spot) → In a A → Contains (difference A B F) (less (less a b) f)
    member a i = Contains-from_in (difference A B F) (less (less a b) f) (in_difference A B F a b f i j k)

-- ---- sides
same_size : (x : ℤ) → unsigned_abs (neg_ℤ x) ≡ unsigned_abs x
same_size x = omega (arith, ints)

pub back_primitive : (dir : Dir) → IsPrimitive dir.x dir.y → IsPrimitive (back dir).x (back dir).y
back_primitive dir p = subst₂ AreCoprime (sym (same_size dir.x)) (sym (same_size dir.y)) p

pub forth_primitive : (dir : Dir) → IsPrimitive (back dir).x (back dir).y → IsPrimitive dir.x dir.y
forth_primitive dir p = subst₂ AreCoprime (same_size dir.x) (same_size dir.y) p

abbrev pub AnySide : List Spot → List Spot → List Spot → Dir → Type 0
AnySide A B F dir = Side A dir ⊎ (Side B (back dir) ⊎ Side F (back dir))

abbrev spot : ℤ → ℤ → Spot
spot x y = record { x = x; y = y }

first_of : (c k d e : Spot) → less (less c d) e ≡ less (less k d) e → c ≡ k
first_of c k d e same = ap₂ spot (of c.x k.x d.x e.x (ap (λ (t : Spot). t.x) same)) (of c.y k.y d.y e.y (ap (λ (t : Spot). t.y) same))
  where
    of : (m n p q : ℤ) → (m -ℤ p) -ℤ q ≡ (n -ℤ p) -ℤ q → m ≡ n
    of m n p q e = omega (arith, ints)

second_of : (c d k e : Spot) → less (less c d) e ≡ less (less c k) e → d ≡ k
second_of c d k e same = ap₂ spot (of c.x d.x k.x e.x (ap (λ (t : Spot). t.x) same)) (of c.y d.y k.y e.y (ap (λ (t : Spot). t.y) same))
  where
    of : (m n p q : ℤ) → (m -ℤ n) -ℤ q ≡ (m -ℤ p) -ℤ q → n ≡ p
    of m n p q e = omega (arith, ints)

third_of : (c d e k : Spot) → less (less c d) e ≡ less (less c d) k → e ≡ k
third_of c d e k same = ap₂ spot (of c.x d.x e.x k.x (ap (λ (t : Spot). t.x) same)) (of c.y d.y e.y k.y (ap (λ (t : Spot). t.y) same))
  where
    of : (m n p q : ℤ) → (m -ℤ n) -ℤ p ≡ (m -ℤ n) -ℤ q → p ≡ q
    of m n p q e = omega (arith, ints)

pub side_of_any : (A B F : List Spot) (a b f : Spot) (dir : Dir) → In a A → In b B → In f F → AnySide A B F dir → Side (difference A B F) dir
side_of_any A B F a b f dir i j k any = from any
  where
    g : greatest_along dir (difference A B F) ≡ (greatest_along dir A +ℤ greatest_along (back dir) B) +ℤ greatest_along (back dir) F
    g = greatest_difference dir A B F a b f i j k

    sum : {u v w x y z : ℤ} → u ≡ x → v ≡ y → w ≡ z → (u +ℤ v) +ℤ w ≡ (x +ℤ y) +ℤ z
    sum e g h = omega (arith, ints)

    at : (c d e : Spot) → along dir c ≡ greatest_along dir A → along (back dir) d ≡ greatest_along (back dir) B → along (back dir) e ≡ greatest_along (back dir) F → along dir (less (less c d) e) ≡ greatest_along dir (difference A B F)
    at c d e p q r = along_member dir c d e ∙ sum p q r ∙ sym g

    member : (c d e : Spot) → In c A → In d B → In e F → Contains (difference A B F) (less (less c d) e)
    member c d e p q r = Contains-from_in (difference A B F) (less (less c d) e) (in_difference A B F c d e p q r)

    from : AnySide A B F dir → Side (difference A B F) dir
    from (inl s) =
        let q = greatest_of (back dir) B b j in
        let r = greatest_of (back dir) F f k in
        record {
          primitive = s.primitive;
          a = less (less s.a q.at) r.at;
          b = less (less s.b q.at) r.at;
          a_in = member s.a q.at r.at (In-from_contains A s.a s.a_in) q.member r.member;
          b_in = member s.b q.at r.at (In-from_contains A s.b s.b_in) q.member r.member;
          apart = λ e. s.apart (first_of s.a s.b q.at r.at e);
          at_a = at s.a q.at r.at s.at_a q.reached r.reached;
          at_b = at s.b q.at r.at s.at_b q.reached r.reached;
        }
    from (inr (inl s)) =
        let p = greatest_of dir A a i in
        let r = greatest_of (back dir) F f k in
        record {
          primitive = forth_primitive dir s.primitive;
          a = less (less p.at s.a) r.at;
          b = less (less p.at s.b) r.at;
          a_in = member p.at s.a r.at p.member (In-from_contains B s.a s.a_in) r.member;
          b_in = member p.at s.b r.at p.member (In-from_contains B s.b s.b_in) r.member;
          apart = λ e. s.apart (second_of p.at s.a s.b r.at e);
          at_a = at p.at s.a r.at p.reached s.at_a r.reached;
          at_b = at p.at s.b r.at p.reached s.at_b r.reached;
        }
    from (inr (inr s)) =
        let p = greatest_of dir A a i in
        let q = greatest_of (back dir) B b j in
        record {
          primitive = forth_primitive dir s.primitive;
          a = less (less p.at q.at) s.a;
          b = less (less p.at q.at) s.b;
          a_in = member p.at q.at s.a p.member q.member (In-from_contains F s.a s.a_in);
          b_in = member p.at q.at s.b p.member q.member (In-from_contains F s.b s.b_in);
          apart = λ e. s.apart (third_of p.at q.at s.a s.b e);
          at_a = at p.at q.at s.a p.reached q.reached s.at_a;
          at_b = at p.at q.at s.b p.reached q.reached s.at_b;
        }

-- what reaches the sum reaches each of the three
record Reaching (A B F : List Spot) (dir : Dir) (s : Spot) : Type 0 where
  pub of : Member A B F s
  pub a_is : along dir of.a ≡ greatest_along dir A
  pub b_is : along (back dir) of.b ≡ greatest_along (back dir) B
  pub f_is : along (back dir) of.f ≡ greatest_along (back dir) F

reaching : (A B F : List Spot) (dir : Dir) (s : Spot) → In s (difference A B F) → along dir s ≡ greatest_along dir (difference A B F) → Reaching A B F dir s
reaching A B F dir s i e =
    let m = member_of A B F s i in
    let g = greatest_difference dir A B F m.a m.b m.f m.a_in m.b_in m.f_in in
    let p = (greatest_of dir A m.a m.a_in).bound m.a m.a_in in
    let q = (greatest_of (back dir) B m.b m.b_in).bound m.b m.b_in in
    let r = (greatest_of (back dir) F m.f m.f_in).bound m.f m.f_in in
    let v = sym (along_member dir m.a m.b m.f) ∙ ap (along dir) (sym m.is) ∙ e ∙ g in
    record { of = m; a_is = first p q r v; b_is = second p q r v; f_is = third p q r v }
  where
    first : {u v w x y z : ℤ} → u ≤ℤ x → v ≤ℤ y → w ≤ℤ z → (u +ℤ v) +ℤ w ≡ (x +ℤ y) +ℤ z → u ≡ x
    first p q r e = omega (arith, ints)

    second : {u v w x y z : ℤ} → u ≤ℤ x → v ≤ℤ y → w ≤ℤ z → (u +ℤ v) +ℤ w ≡ (x +ℤ y) +ℤ z → v ≡ y
    second p q r e = omega (arith, ints)

    third : {u v w x y z : ℤ} → u ≤ℤ x → v ≤ℤ y → w ≤ℤ z → (u +ℤ v) +ℤ w ≡ (x +ℤ y) +ℤ z → w ≡ z
    third p q r e = omega (arith, ints)

pub side_cases : (A B F : List Spot) (dir : Dir) → Side (difference A B F) dir → AnySide A B F dir
side_cases A B F dir s =
    let D = difference A B F in
    let p = reaching A B F dir s.a (In-from_contains D s.a s.a_in) s.at_a in
    let q = reaching A B F dir s.b (In-from_contains D s.b s.b_in) s.at_b in
    pick p q (same_or_apart p.of.a q.of.a) (same_or_apart p.of.b q.of.b) (same_or_apart p.of.f q.of.f)
  where
    less_same : {a b f c d g : Spot} → a ≡ c → b ≡ d → f ≡ g → less (less a b) f ≡ less (less c d) g
    less_same e f g = ap₂ less (ap₂ less e f) g

    pick : (p : Reaching A B F dir s.a) (q : Reaching A B F dir s.b) → (p.of.a ≡ q.of.a) ⊎ (p.of.a ≡ q.of.a → ⊥) → (p.of.b ≡ q.of.b) ⊎ (p.of.b ≡ q.of.b → ⊥) → (p.of.f ≡ q.of.f) ⊎ (p.of.f ≡ q.of.f → ⊥) → AnySide A B F dir
    pick p q (inr n) b f = inl (record { primitive = s.primitive; a = p.of.a; b = q.of.a; a_in = Contains-from_in A p.of.a p.of.a_in; b_in = Contains-from_in A q.of.a q.of.a_in; apart = n; at_a = p.a_is; at_b = q.a_is })
    pick p q (inl e) (inr n) f = inr (inl (record { primitive = back_primitive dir s.primitive; a = p.of.b; b = q.of.b; a_in = Contains-from_in B p.of.b p.of.b_in; b_in = Contains-from_in B q.of.b q.of.b_in; apart = n; at_a = p.b_is; at_b = q.b_is }))
    pick p q (inl e) (inl f) (inr n) = inr (inr (record { primitive = back_primitive dir s.primitive; a = p.of.f; b = q.of.f; a_in = Contains-from_in F p.of.f p.of.f_in; b_in = Contains-from_in F q.of.f q.of.f_in; apart = n; at_a = p.f_is; at_b = q.f_is }))
    pick p q (inl e) (inl f) (inl g) = absurd (s.apart (p.of.is ∙ less_same e f g ∙ sym q.of.is))

-- ---- by lengths
pub side_of_lists : (A B F : List Spot) (dir : Dir) → 1 ≤ length A → 1 ≤ length B → 1 ≤ length F → AnySide A B F dir → Side (difference A B F) dir
side_of_lists [] B F dir p q r s = absurd (omega (arith, p))
side_of_lists (a ∷ A) [] F dir p q r s = absurd (omega (arith, q))
side_of_lists (a ∷ A) (b ∷ B) [] dir p q r s = absurd (omega (arith, r))
side_of_lists (a ∷ A) (b ∷ B) (f ∷ F) dir p q r s = side_of_any (a ∷ A) (b ∷ B) (f ∷ F) a b f dir (inl refl) (inl refl) (inl refl) s

pub area_of_lists : (A B F : List Spot) → 1 ≤ length B → 1 ≤ length F → HasArea A → HasArea (difference A B F)
area_of_lists A [] F q r h = absurd (omega (arith, q))
area_of_lists A (b ∷ B) [] q r h = absurd (omega (arith, r))
area_of_lists A (b ∷ B) (f ∷ F) q r h = area_of_difference A (b ∷ B) (f ∷ F) b f h (inl refl) (inl refl)
