-- All sides of a difference in order, from the edges of its three outlines.
--
--   all_edges A B F          the directions of the edges of A, and of those of B and F turned round
--   side_of_edges            the sides of the difference are these, reduced
--   IsNext S after r         the first side whose angle is greater than that of `after`
--   next_is                  it is the first of the edges, reduced
--   sides_are                the sides are those of all edges
--   next_of_edges            and the next one is the first of them
use Rattle.std.proofs.Common.{◌≡◌, List, [], ◌∷◌, ◌++◌, map, refl, ap, ap₂, sym, subst, ◌∙◌, arith, ℤ, pos, neg_ℤ, ◌*ℤ◌, ◌⊎◌, inl, inr, ◌↔◌, true, false, Option, Some, None}
use Rattle.std.proofs.lemmas.Int.{ints}
use Rattle.std.proofs.lemmas.Option.{none-some}
use Rattle.integer_laws.specs.Laws.Ring.{expand}
use Rattle.integer_laws.specs.Laws.Order.{same_from, mul_same, cancel_same}
use Rattle.integer_laws.specs.Divisors.{Reduces}
use Rattle.integer_laws.specs.Members.{In}
use Rattle.integer_laws.specs.Laws.Members.{In-append_left, In-append_right, In-append_cases, In-map, In-map_cases}
use Rattle.seq_model.specs.Contacts.{difference}
use Rattle.seq_model.specs.Sides.{Side, HasLesserAngle}
use Rattle.seq_model.specs.declared.printer.Spot.{Spot}
use Rattle.seq_model.specs.declared.tree.Dir.{Dir}
use Rattle.outline_laws.specs.Outlines.{AreOutlines}
use Rattle.outline_laws.specs.Corners.{AreCorners}
use Rattle.outline_laws.specs.Laws.Angles.{IsDirection, HaveSameAngle, compare_angles, lesser_congr, lesser_congr_right, same_reduced, same_turned, reduced_direction, one_primitive}
use Rattle.outline_laws.specs.Laws.Ahead.{edges_of, Across, side_across, After, IsFirst, first_after, first_is}
use Rattle.outline_laws.specs.Laws.Loops.{back, edges_if, edges_plain, edges_turned, first-append}
use Rattle.outline_laws.specs.Laws.Differences.{AnySide, side_of_any, side_cases, back_primitive, forth_primitive}
pub use Rattle.outline_laws.specs.Edges.{all_edges}
pub use Rattle.outline_laws.specs.Directions.{IsNext, IsGoodAfter, IsReduced}

-- ---- sides
across_back : (ds : List Dir) (dir : Dir) → Across ds (back dir) → Across (map back ds) dir
across_back ds dir x = record {
  long = back x.long;
  member = In-map back ds x.long x.member;
  reduces = record { k = x.reduces.k; positive = x.reduces.positive; x_is = turned x.reduces.k x.long.x dir.x x.reduces.x_is; y_is = turned x.reduces.k x.long.y dir.y x.reduces.y_is; primitive = forth_primitive dir x.reduces.primitive };
}
  where
    turned : (k n m : ℤ) → n ≡ k *ℤ neg_ℤ m → neg_ℤ n ≡ k *ℤ m
    turned k n m e = same_from (mul_same (neg_ℤ (pos 1)) e) (simp expand (omega (arith, ints)))

across_forth : (ds : List Dir) (dir : Dir) → Across (map back ds) dir → Across ds (back dir)
across_forth ds dir x =
    let c = In-map_cases back ds x.long x.member in
    record { long = c.0; member = c.1; reduces = of c.0 (subst (λ (l : Dir). Reduces l.x l.y dir.x dir.y) c.2 x.reduces) }
  where
    turned : (k n m : ℤ) → neg_ℤ n ≡ k *ℤ m → n ≡ k *ℤ neg_ℤ m
    turned k n m e = same_from (mul_same (neg_ℤ (pos 1)) e) (simp expand (omega (arith, ints)))

    of : (l : Dir) → Reduces (back l).x (back l).y dir.x dir.y → Reduces l.x l.y (back dir).x (back dir).y
    of l r = record { k = r.k; positive = r.positive; x_is = turned r.k l.x dir.x r.x_is; y_is = turned r.k l.y dir.y r.y_is; primitive = back_primitive dir r.primitive }

wider : (ds es : List Dir) (dir : Dir) → ((d : Dir) → In d ds → In d es) → Across ds dir → Across es dir
wider ds es dir sub x = record { long = x.long; member = sub x.long x.member; reduces = x.reduces }

pub side_of_edges : (A B F : List Spot) (a b f : Spot) (dir : Dir) → AreCorners A → AreCorners B → AreCorners F → In a A → In b B → In f F → Side (difference A B F) dir ↔ Across (all_edges A B F) dir
side_of_edges A B F a b f dir ca cb cf i j k = (λ s. to (side_cases A B F dir s), λ x. side_of_any A B F a b f dir i j k (from (In-append_cases (edges_of A) _ x.long x.member) x.reduces))
  where
    to : AnySide A B F dir → Across (all_edges A B F) dir
    to (inl s) = wider (edges_of A) (all_edges A B F) dir (λ d. In-append_left (edges_of A) _ d) ((side_across A dir ca).0 s)
    to (inr (inl s)) = wider (map back (edges_of B)) (all_edges A B F) dir (λ d n. In-append_right (edges_of A) _ d (In-append_left (map back (edges_of B)) _ d n)) (across_back (edges_of B) dir ((side_across B (back dir) cb).0 s))
    to (inr (inr s)) = wider (map back (edges_of F)) (all_edges A B F) dir (λ d n. In-append_right (edges_of A) _ d (In-append_right (map back (edges_of B)) _ d n)) (across_back (edges_of F) dir ((side_across F (back dir) cf).0 s))

    from : {l : Dir} → In l (edges_of A) ⊎ In l (map back (edges_of B) ++ map back (edges_of F)) → Reduces l.x l.y dir.x dir.y → AnySide A B F dir
    from {l} (inl n) r = inl ((side_across A dir ca).1 (record { long = l; member = n; reduces = r }))
    from {l} (inr n) r = rest (In-append_cases (map back (edges_of B)) _ l n)
      where
        rest : In l (map back (edges_of B)) ⊎ In l (map back (edges_of F)) → AnySide A B F dir
        rest (inl m) = inr (inl ((side_across B (back dir) cb).1 (across_forth (edges_of B) dir (record { long = l; member = m; reduces = r }))))
        rest (inr m) = inr (inr ((side_across F (back dir) cf).1 (across_forth (edges_of F) dir (record { long = l; member = m; reduces = r }))))

-- ---- the next side
pub long_direction : (l d : Dir) → Reduces l.x l.y d.x d.y → IsDirection l
long_direction l d r e f = reduced_direction l d r (zero_of r.x_is e) (zero_of r.y_is f)
  where
    zero_of : {n m : ℤ} → n ≡ r.k *ℤ m → n ≡ pos 0 → m ≡ pos 0
    zero_of {n} {m} e z = cancel_same r.k r.positive (same_from (sym e ∙ z) (simp expand (omega (arith, ints))))

after_long : (after : Option Dir) (l d : Dir) → IsGoodAfter after → Reduces l.x l.y d.x d.y → After after d → After after l
after_long None l d g r a = tt
after_long (Some c) l d g r a = lesser_congr_right c d l g (reduced_direction l d r) (long_direction l d r) a (same_turned l d (same_reduced l d r))

after_short : (after : Option Dir) (l d : Dir) → IsGoodAfter after → Reduces l.x l.y d.x d.y → After after l → After after d
after_short None l d g r a = tt
after_short (Some c) l d g r a = lesser_congr_right c l d g (long_direction l d r) (reduced_direction l d r) a (same_reduced l d r)

-- the first of all edges, reduced
pub next_is : (S : List Spot) (ds : List Dir) (after long short : Option Dir) → IsGoodAfter after → ((dir : Dir) → Side S dir ↔ Across ds dir) → IsFirst after None ds long → IsReduced long short → IsNext S after short
next_is S ds after None None g sides f r = λ dir s a. let x = (sides dir).0 s in f.1 x.long x.member (long_direction x.long dir x.reduces) (after_long after x.long dir g x.reduces a)
next_is S ds after None (Some d) g sides f r = absurd r
next_is S ds after (Some l) None g sides f r = absurd r
next_is S ds after (Some l) (Some d) g sides f r = of f.0
  where
    later : IsDirection l → (dir : Dir) → Side S dir → After after dir → (dir ≡ d) ⊎ HasLesserAngle d dir
    later n dir s a = by ((sides dir).0 s)
      where
        by : Across ds dir → (dir ≡ d) ⊎ HasLesserAngle d dir
        by x = pick (compare_angles d dir (reduced_direction l d r) (reduced_direction x.long dir x.reduces))
          where
            m : IsDirection x.long
            m = long_direction x.long dir x.reduces

            no : HasLesserAngle dir d → ⊥
            no h =
                f.1 x.long x.member m (after_long after x.long dir g x.reduces a)
                (lesser_congr x.long dir l m (reduced_direction x.long dir x.reduces) n (same_reduced x.long dir x.reduces) (lesser_congr_right dir d l (reduced_direction x.long dir x.reduces) (reduced_direction l d r) n h (same_turned l d (same_reduced l d r))))

            pick : HasLesserAngle d dir ⊎ (HaveSameAngle d dir ⊎ HasLesserAngle dir d) → (dir ≡ d) ⊎ HasLesserAngle d dir
            pick (inl h) = inr h
            pick (inr (inl h)) = inl (sym (one_primitive d dir r.primitive x.reduces.primitive h))
            pick (inr (inr h)) = absurd (no h)

    of : (None ≡ Some l) ⊎ (In l ds × IsDirection l × After after l) → IsNext S after (Some d)
    of (inl e) = absurd (none-some l e)
    of (inr i) = ((sides d).1 (record { long = l; member = i.0; reduces = r }), after_short after l d g r i.2, later i.1)

-- ---- what the code calls
pub first_of_all : (after : Option Dir) (A B F : List Spot) → first_after after (first_after after (first_after after None (edges_if false A)) (edges_if true B)) (edges_if true F) ≡ first_after after None (all_edges A B F)
first_of_all after A B F =
    ap₂ (λ x y. first_after after (first_after after (first_after after None x) (edges_if true B)) y) (edges_plain A) (edges_turned F)
    ∙ ap (λ y. first_after after (first_after after (first_after after None (edges_of A)) y) (map back (edges_of F))) (edges_turned B)
    ∙ sym (first-append after (first_after after None (edges_of A)) (map back (edges_of B)) (map back (edges_of F)))
    ∙ sym (first-append after None (edges_of A) (map back (edges_of B) ++ map back (edges_of F)))

pub good_first : (after : Option Dir) (ds : List Dir) (r : Option Dir) → IsFirst after None ds r → IsGoodAfter r
good_first after ds None f = tt
good_first after ds (Some r) f = pick f.0
  where
    pick : (None ≡ Some r) ⊎ (In r ds × IsDirection r × After after r) → IsDirection r
    pick (inl e) = absurd (none-some r e)
    pick (inr i) = i.1

pub sides_are : (A B F : List Spot) → AreOutlines A B F → (dir : Dir) → Side (difference A B F) dir ↔ Across (all_edges A B F) dir
sides_are [] B F o dir = absurd (omega (arith, o.a_area))
sides_are (a ∷ A) [] F o dir = absurd (omega (arith, o.b_area))
sides_are (a ∷ A) (b ∷ B) [] o dir = absurd (omega (arith, o.f_some))
sides_are (a ∷ A) (b ∷ B) (f ∷ F) o dir = side_of_edges (a ∷ A) (b ∷ B) (f ∷ F) a b f dir o.a o.b o.f (inl refl) (inl refl) (inl refl)

pub first_good : (after : Option Dir) (ds : List Dir) → IsGoodAfter (first_after after None ds)
first_good after ds = good_first after ds (first_after after None ds) (first_is after None ds tt)

pub next_of_edges : (A B F : List Spot) (after short : Option Dir) → AreOutlines A B F → IsGoodAfter after → IsReduced (first_after after None (all_edges A B F)) short → IsNext (difference A B F) after short
next_of_edges A B F after short o g r =
    next_is (difference A B F) (all_edges A B F) after (first_after after None (all_edges A B F)) short g (sides_are A B F o) (first_is after None (all_edges A B F) tt) r
