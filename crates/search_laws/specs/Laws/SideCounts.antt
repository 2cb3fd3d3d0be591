-- How many sides there are.
--
--   three_sides        a list with area has three sides or more
--   sides_of           the difference of three outlines has a list of sides
--   sides_of_contact   and so has a contact
--   three_at_contact   of which there are three or more
use Rattle.std.proofs.Common.{◌≡◌, ℕ, zero, suc, ◌<◌, ◌≤◌, List, [], ◌∷◌, ◌++◌, length, get_or, refl, sym, subst, ap, ◌∙◌, arith, ℤ, pos, ◌-ℤ◌, ◌*ℤ◌, ◌<ℤ◌, int_div, unsigned_abs, ◌⊎◌, inl, inr, Option, Some, None}
use Rattle.std.proofs.lemmas.Int.{ints}
use Rattle.std.proofs.lemmas.List.{get_or_default}
use Rattle.std.proofs.lemmas.Option.{none-some}
use Rattle.outline_laws.specs.Corners.{HasArea}
use Rattle.outline_laws.specs.Edges.{last_of, all_edges}
use Rattle.outline_laws.specs.Laws.Polygons.{next_of}
use Rattle.outline_laws.specs.Laws.Within.{seen_by_edges, polygon_turns}
use Rattle.outline_laws.specs.Hulls.{Hull}
use Rattle.outline_laws.specs.Laws.EveryList.{hull_of}
use Rattle.outline_laws.specs.Laws.Area.{three_of_area}
use Rattle.outline_laws.specs.Directions.{IsReduced, IsGoodAfter, After, first_after, IsDirection}
use Rattle.search_laws.specs.Laws.NextSides.{count_after, Upto, upto_none, upto_more, upto_all, next_falls, next_direction}
use Rattle.outline_laws.specs.Outlines.{AreOutlines}
use Rattle.outline_laws.specs.Laws.Around.{next_of_edges}
use Rattle.integer_laws.specs.Divisors.{Reduces}
use Rattle.integer_laws.specs.Laws.Divisors.{gcd_is, reduces_by_gcd}
use Rattle.integer_laws.specs.Members.{In}
use Rattle.integer_laws.specs.Laws.Members.{In-from_contains, Contains-from_in}
use Rattle.integer_laws.specs.Laws.Ring.{expand}
use Rattle.model_laws.specs.Laws.Turning.{left_by_list}
use Rattle.outline_laws.specs.Laws.Ahead.{IsFirst, first_is}
use Rattle.outline_laws.specs.Laws.Sides.{IsNormal, normal_of, some_size, side_of_edge, edge_reaches, edge_level, turn_value, apart_of_turn, last_in}
use Rattle.search_laws.specs.Laws.Gaps.{outlines_of, area_of_contact}
use Rattle.seq_model.specs.Budgets.{HasSides}
use Rattle.seq_model.specs.Contacts.{difference, points_of, IsContact}
use Rattle.seq_model.specs.Jobs.{zone_at, part_at}
use Rattle.seq_model.specs.Corners.{turn}
use Rattle.seq_model.specs.Sides.{along, greatest_along, AreSides}
use Rattle.seq_model.specs.declared.job.Job.{Job}
use Rattle.seq_model.specs.declared.printer.Spot.{Spot}
use Rattle.seq_model.specs.declared.tree.Contact.{Contact}
use Rattle.seq_model.specs.declared.tree.Dir.{Dir}

-- ---- three sides
-- no direction reaches its greatest value at both ends of an edge and at the next corner
level_turn : (S : List Spot) (u v w : Spot) (d : Dir) → IsNormal u v d → along d u ≡ greatest_along d S → along d w ≡ greatest_along d S → pos 0 <ℤ turn u v w → ⊥
level_turn S u v w d n a b t = none n.k (along d u) (along d w) (turn u v w) (a ∙ sym b) (turn_value u v w d n) t
  where
    none : (k a b t : ℤ) → a ≡ b → t ≡ k *ℤ (a -ℤ b) → pos 0 <ℤ t → ⊥
    none k a b t e f h =
        let z : a -ℤ b ≡ pos 0 = omega (arith, ints, e) in
        let y : t ≡ k *ℤ pos 0 = f ∙ ap (λ m. k *ℤ m) z in
        let x : k *ℤ pos 0 ≡ pos 0 = simp expand in
        let w : t ≡ pos 0 = y ∙ x in
        omega (arith, ints, w, h)

three_members : (ds : List Dir) (a b c : Dir) → In a ds → In b ds → In c ds → (a ≡ b → ⊥) → (b ≡ c → ⊥) → (a ≡ c → ⊥) → 3 ≤ length ds
three_members ds a b c i j k ab bc ac =
    let x = Contains-from_in ds a i in
    let y = Contains-from_in ds b j in
    let z = Contains-from_in ds c k in
    three x.0 y.0 z.0 (length ds) x.1 y.1 z.1 (λ e. ab (at x.0 y.0 a b x.1 e x.2 y.2)) (λ e. bc (at y.0 z.0 b c y.1 e y.2 z.2)) (λ e. ac (at x.0 z.0 a c x.1 e x.2 z.2))
  where
    at : (p q : ℕ) (a b : Dir) → p < length ds → p ≡ q → get_or ds p a ≡ a → get_or ds q b ≡ b → a ≡ b
    at p q a b l e f g = sym f ∙ get_or_default ds p a b l ∙ ap (λ n. get_or ds n b) e ∙ g

    three : (p q r n : ℕ) → p < n → q < n → r < n → (p ≡ q → ⊥) → (q ≡ r → ⊥) → (p ≡ r → ⊥) → 3 ≤ n
    three p q r n a b c d e f = omega (arith, a, b, c, d, e, f)

pub three_sides : (S : List Spot) (dirs : List Dir) → HasArea S → AreSides S dirs → 3 ≤ length dirs
three_sides S dirs area are = let h = hull_of S in by h.corners h.hull (three_of_area S h.corners h.hull area)
  where
    by : (C : List Spot) → Hull S C → 3 ≤ length C → 3 ≤ length dirs
    by [] h l = absurd (omega arith)
    by (a ∷ []) h l = absurd (omega arith)
    by (a ∷ b ∷ []) h l = absurd (omega arith)
    by (a ∷ b ∷ c ∷ cs) h l =
        let z = last_of c cs in
        let t = polygon_turns a b c cs (left_by_list (a ∷ b ∷ c ∷ cs) h.corners) in
        let s = seen_by_edges S a b c cs h in
        let zi = h.keeps.members z (inr (inr (last_in c cs))) in
        let ai = h.keeps.members a (inl refl) in
        let bi = h.keeps.members b (inr (inl refl)) in
        let ci = h.keeps.members c (inr (inr (inl refl))) in
        let za = apart_of_turn z a b t.0 in
        let ab = apart_of_turn a b c t.1.0 in
        let bc = apart_of_turn b c (next_of cs a) t.1.1.0 in
        let m = normal_of z a za in
        let n = normal_of a b ab in
        let o = normal_of b c bc in
        let at_z = edge_reaches S z a m.dir zi s.0 m.is in
        let at_a = edge_reaches S a b n.dir ai s.1.0 n.is in
        let at_b = edge_reaches S b c o.dir bi s.1.1.0 o.is in
        let b_of_n = edge_level a b n.dir n.is ∙ at_a in
        let c_of_o = edge_level b c o.dir o.is ∙ at_b in
        three_members dirs m.dir n.dir o.dir
        (In-from_contains dirs m.dir ((are.each m.dir).1 (side_of_edge S z a m.dir zi ai za s.0 m.is)))
        (In-from_contains dirs n.dir ((are.each n.dir).1 (side_of_edge S a b n.dir ai bi ab s.1.0 n.is)))
        (In-from_contains dirs o.dir ((are.each o.dir).1 (side_of_edge S b c o.dir bi ci bc s.1.1.0 o.is)))
        (λ e. level_turn S z a b m.dir m.is at_z (subst (λ d. along d b ≡ greatest_along d S) (sym e) b_of_n) t.0)
        (λ e. level_turn S a b c n.dir n.is at_a (subst (λ d. along d c ≡ greatest_along d S) (sym e) c_of_o) t.1.0)
        (λ e. level_turn S z a b m.dir m.is at_z (subst (λ d. along d b ≡ greatest_along d S) (sym e) at_b) t.0)

-- ---- a list of all sides
reduced : (l : Dir) → IsDirection l → (d : Dir) × Reduces l.x l.y d.x d.y
reduced l n =
    let g = gcd_is (unsigned_abs l.x) (unsigned_abs l.y) in
    (record { x = int_div l.x (pos g.0); y = int_div l.y (pos g.0) }, reduces_by_gcd l.x l.y (pos g.0) (record { nonneg = omega (arith, ints); is = g.1 }) (some_size l.x l.y n))

abbrev SomeSides : List Spot → Type 0
SomeSides S = (dirs : List Dir) × AreSides S dirs

more_sides : (A B F : List Spot) → AreOutlines A B F → (fuel : ℕ) (last : Option Dir) (dirs : List Dir) → IsGoodAfter last → count_after last (all_edges A B F) < fuel → Upto (difference A B F) dirs last → SomeSides (difference A B F)
more_sides A B F o zero last dirs good less upto = absurd (omega (arith, less))
more_sides A B F o (suc fuel) last dirs good less upto =
    by (first_after last None (all_edges A B F)) refl (first_is last None (all_edges A B F) tt) (λ last dirs. more_sides A B F o fuel last dirs)
  where
    S : List Spot
    S = difference A B F

    direction : (l : Dir) → IsFirst last None (all_edges A B F) (Some l) → IsDirection l
    direction l f = pick f.0
      where
        pick : (None ≡ Some l) ⊎ (In l (all_edges A B F) × IsDirection l × After last l) → IsDirection l
        pick (inl e) = absurd (none-some l e)
        pick (inr i) = i.1

    by : (r : Option Dir) → first_after last None (all_edges A B F) ≡ r → IsFirst last None (all_edges A B F) r
        → ((last : Option Dir) (dirs : List Dir) → IsGoodAfter last → count_after last (all_edges A B F) < fuel → Upto S dirs last → SomeSides S) → SomeSides S
    by None e f next = (dirs, upto_all S dirs last upto (next_of_edges A B F last None o good (subst (λ r. IsReduced r None) (sym e) tt)))
    by (Some l) e f next =
        let d = reduced l (direction l f) in
        let n = next_of_edges A B F last (Some d.0) o good (subst (λ r. IsReduced r (Some d.0)) (sym e) d.1) in
        let falls = next_falls A B F last d.0 o good n in
        next (Some d.0) (dirs ++ d.0 ∷ []) (next_direction S last d.0 n) (omega (arith, less, falls)) (upto_more S dirs last d.0 good upto n)

pub sides_of : (A B F : List Spot) → AreOutlines A B F → SomeSides (difference A B F)
sides_of A B F o = more_sides A B F o (suc (count_after None (all_edges A B F))) None [] tt (omega arith) (upto_none (difference A B F))

pub sides_of_contact : (job : Job) (c : Contact) → IsContact job c → SomeSides (points_of job c)
sides_of_contact job c is = sides_of (zone_at job c.i c.zi).corners (zone_at job c.j c.zj).corners (part_at job c.part).corners (outlines_of job c is)

pub three_at_contact : (job : Job) (c : Contact) (n : ℕ) → HasSides job c n → 3 ≤ n
three_at_contact job c n has = subst (λ m. 3 ≤ m) has.many (three_sides (points_of job c) has.dirs (area_of_contact job c has.is) has.sides)
