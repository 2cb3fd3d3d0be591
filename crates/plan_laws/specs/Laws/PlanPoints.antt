-- The point of a valid plan, and its order by ranks.
--
--   place_for places o, rank_for places o    object o's place among the places, and how many stand before it
--   Stands places o          object o has a place among them
--   in_pairs f g k n         f and g of the n numbers from k, in turn
--   values_of job e plan     the point of a plan: each object's distance from the low edges of the region
--   place_again              an object's place at this point is its place of the plan
--   valid_stands             each object stands in a valid plan
--   on_of_plan               a valid plan's point is one of the empty path
--   clear_of_plan            and clear by the ranks of its places
use Rattle.std.proofs.Common.{◌≡◌, ℕ, zero, suc, ◌+◌, ◌*◌, ◌<◌, List, [], ◌∷◌, length, get_or, refl, sym, subst, ap, ap₂, ◌∙◌, append-nil, arith, ℤ, pos, ◌+ℤ◌, ◌-ℤ◌, ◌*ℤ◌, ◌≤ℤ◌, All, Bool, true, false, cond}
use Rattle.std.proofs.lemmas.Bool.Decides.{nat_tests}
use Rattle.std.proofs.lemmas.Int.{ints}
use Rattle.std.proofs.lemmas.List.Elements.{All-get_or}
use Rattle.std.specs.Prelude.{count_by, nat_eq}
use Rattle.plan_laws.specs.Inside.{place_at, IsInside, AreInside, IsBounded}
use Rattle.plan_laws.specs.Laws.Inside.{bounded_where_inside}
use Rattle.plan_laws.specs.Ordered.{IsClear}
use Rattle.seq_model.specs.Jobs.{object_at, scene_of_job, no_place}
use Rattle.seq_model.specs.Plates.{share_of, half_left}
use Rattle.seq_model.specs.Points.{Point, place_point}
use Rattle.seq_model.specs.Scenes.{Collides, Valid}
use Rattle.seq_model.specs.Splits.{Values, IsOn, CollidesAt}
use Rattle.seq_model.specs.Systems.{MeetsRows, row_value, bounds_of, system, place_of}
use Rattle.seq_model.specs.declared.job.Job.{Job}
use Rattle.seq_model.specs.declared.plan.Place.{Place}
use Rattle.seq_model.specs.declared.plan.Plan.{Plan}

abbrev pub place_for : List Place → ℕ → Place
place_for [] o = no_place
place_for (p ∷ places) o = cond (nat_eq p.object o) p (place_for places o)

abbrev pub rank_for : List Place → ℕ → ℕ
rank_for [] o = 0
rank_for (p ∷ places) o = cond (nat_eq p.object o) 0 (suc (rank_for places o))

-- ---- an object that stands in a plan
pub record Stands (places : List Place) (o : ℕ) : Type 0 where
  pub within : rank_for places o < length places
  pub there : (d : Place) → get_or places (rank_for places o) d ≡ place_for places o
  pub object : (place_for places o).object ≡ o

pub same_number : (a b : ℕ) → nat_eq a b ≡ true → a ≡ b
same_number a b e = grind (arith, nat_tests)

stands : (places : List Place) (o : ℕ) → count_by (λ (p : Place). nat_eq p.object o) places ≡ 1 → Stands places o
stands [] o e = absurd cc
stands (p ∷ places) o e = which (nat_eq p.object o) refl (λ rest. stands places o rest)
  where
    which : (b : Bool) → nat_eq p.object o ≡ b → (count_by (λ (q : Place). nat_eq q.object o) places ≡ 1 → Stands places o) → Stands (p ∷ places) o
    which true q later = record {
      within = subst (λ b. cond b 0 (suc (rank_for places o)) < suc (length places)) (sym q) (omega arith);
      there = λ d. subst (λ b. get_or (p ∷ places) (cond b 0 (suc (rank_for places o))) d ≡ cond b p (place_for places o)) (sym q) refl;
      object = subst (λ b. (cond b p (place_for places o)).object ≡ o) (sym q) (same_number p.object o q);
    }
    which false q later =
        let s = later (rw q at e) in
        record {
          within = subst (λ b. cond b 0 (suc (rank_for places o)) < suc (length places)) (sym q) (omega (arith, s.within));
          there = λ d. subst (λ b. get_or (p ∷ places) (cond b 0 (suc (rank_for places o))) d ≡ cond b p (place_for places o)) (sym q) (s.there d);
          object = subst (λ b. (cond b p (place_for places o)).object ≡ o) (sym q) s.object;
        }

-- ---- two numbers for each object, in one list
abbrev pub in_pairs : (ℕ → ℤ) → (ℕ → ℤ) → ℕ → ℕ → List ℤ
in_pairs f g k zero = []
in_pairs f g k (suc n) = f k ∷ g k ∷ in_pairs f g (suc k) n

length-in_pairs : (f g : ℕ → ℤ) (k n : ℕ) → length (in_pairs f g k n) ≡ 2 * n
length-in_pairs f g k zero = refl
length-in_pairs f g k (suc n) = let r = length-in_pairs f g (suc k) n in omega (arith, r)

first_of_pair : (f g : ℕ → ℤ) (k n o : ℕ) → o < n → get_or (in_pairs f g k n) (2 * o) (pos 0) ≡ f (k + o)
first_of_pair f g k zero o l = absurd (omega (arith, l))
first_of_pair f g k (suc n) zero l = ap f (omega arith)
first_of_pair f g k (suc n) (suc o) l = ap (λ m. get_or (in_pairs f g k (suc n)) m (pos 0)) (twice o) ∙ first_of_pair f g (suc k) n o (omega (arith, l)) ∙ ap f (omega arith)
  where
    twice : (o : ℕ) → 2 * suc o ≡ suc (suc (2 * o))
    twice o = omega arith

second_of_pair : (f g : ℕ → ℤ) (k n o : ℕ) → o < n → get_or (in_pairs f g k n) (2 * o + 1) (pos 0) ≡ g (k + o)
second_of_pair f g k zero o l = absurd (omega (arith, l))
second_of_pair f g k (suc n) zero l = ap g (omega arith)
second_of_pair f g k (suc n) (suc o) l = ap (λ m. get_or (in_pairs f g k (suc n)) m (pos 0)) (twice o) ∙ second_of_pair f g (suc k) n o (omega (arith, l)) ∙ ap g (omega arith)
  where
    twice : (o : ℕ) → 2 * suc o + 1 ≡ suc (suc (2 * o + 1))
    twice o = omega arith

-- ---- the point of a plan
abbrev low_x : Job → ℕ → ℕ → ℤ
low_x job e o = half_left job.printer.width (share_of job.printer.width job.printer.grid e) -ℤ (object_at job o).low.x

abbrev low_y : Job → ℕ → ℕ → ℤ
low_y job e o = half_left job.printer.depth (share_of job.printer.depth job.printer.grid e) -ℤ (object_at job o).low.y

abbrev pub values_of : Job → ℕ → Plan → Values
values_of job e plan = record {
  d = plan.scale;
  u = in_pairs (λ o. (place_for plan.places o).x -ℤ plan.scale *ℤ low_x job e o) (λ o. (place_for plan.places o).y -ℤ plan.scale *ℤ low_y job e o) 0 (length job.objects);
}

abbrev x_for : Job → ℕ → Plan → ℕ → ℤ
x_for job e plan o = (place_for plan.places o).x -ℤ plan.scale *ℤ low_x job e o

abbrev y_for : Job → ℕ → Plan → ℕ → ℤ
y_for job e plan o = (place_for plan.places o).y -ℤ plan.scale *ℤ low_y job e o

many_values : (job : Job) (e : ℕ) (plan : Plan) → length (values_of job e plan).u ≡ 2 * length job.objects
many_values job e plan = length-in_pairs (x_for job e plan) (y_for job e plan) 0 (length job.objects)

back_again : (v p q : ℤ) → v ≡ p -ℤ q → v +ℤ q ≡ p
back_again v p q e = omega (arith, ints, e)

from_zero : (o : ℕ) → 0 + o ≡ o
from_zero o = omega arith

pub place_again : (job : Job) (e : ℕ) (plan : Plan) (o : ℕ) → o < length job.objects → place_of job e (values_of job e plan).d (values_of job e plan).u o ≡ place_point plan.scale (place_for plan.places o)
place_again job e plan o l =
    ap₂ (at plan.scale)
    (back_again _ (place_for plan.places o).x (plan.scale *ℤ low_x job e o) (first_of_pair (x_for job e plan) (y_for job e plan) 0 (length job.objects) o l ∙ ap (x_for job e plan) (from_zero o)))
    (back_again _ (place_for plan.places o).y (plan.scale *ℤ low_y job e o) (second_of_pair (x_for job e plan) (y_for job e plan) 0 (length job.objects) o l ∙ ap (y_for job e plan) (from_zero o)))
  where
    at : ℤ → ℤ → ℤ → Point
    at d x y = record { x = x; y = y; d = d }

-- ---- a valid plan
pub valid_stands : (job : Job) (e : ℕ) (plan : Plan) → Valid (scene_of_job job) e plan → (o : ℕ) → o < length job.objects → Stands plan.places o
valid_stands job e plan valid o l = stands plan.places o (valid.once o l)

inside_of : (job : Job) (e : ℕ) (plan : Plan) → Valid (scene_of_job job) e plan → AreInside job e (values_of job e plan).d (values_of job e plan).u
inside_of job e plan valid o l =
    let s = valid_stands job e plan valid o l in
    let held : IsInside job e plan.scale (place_for plan.places o) =
    subst (IsInside job e plan.scale) (s.there no_place) (All-get_or (IsInside job e plan.scale) plan.places (rank_for plan.places o) no_place s.within valid.inside) in
    subst (IsInside job e plan.scale) (sym (same s)) held
  where
    at : ℕ → Point → Place
    at o p = record { object = o; x = p.x; y = p.y }

    same : Stands plan.places o → place_at job e (values_of job e plan).d (values_of job e plan).u o ≡ place_for plan.places o
    same s = ap (at o) (place_again job e plan o l) ∙ ap (λ k. at k (place_point plan.scale (place_for plan.places o))) (sym s.object)

no_sides : (job : Job) (e : ℕ) (at : Values) → pos 1 ≤ℤ at.d → IsBounded job e at.d at.u → MeetsRows (system job e []) at.d at.u
no_sides job e at one is = record { positive = one; coordinates = is.coordinates; each = subst (All (λ row. pos 0 ≤ℤ row_value at.d at.u row)) (sym (append-nil (bounds_of job e 0 job.objects))) is.each }

pub on_of_plan : (job : Job) (e : ℕ) (plan : Plan) → Valid (scene_of_job job) e plan → IsOn job e [] (values_of job e plan)
on_of_plan job e plan valid =
    let at = values_of job e plan in
    record { meets = no_sides job e at valid.scale (bounded_where_inside job e at.d at.u (many_values job e plan) (inside_of job e plan valid)); many = many_values job e plan }

pub clear_of_plan : (job : Job) (e : ℕ) (plan : Plan) → Valid (scene_of_job job) e plan → IsClear job e (values_of job e plan) (rank_for plan.places)
clear_of_plan job e plan valid = record {
  own = λ i j l m apart same. apart (object_at_rank i l j m same);
  clear = λ i j l m less hits. collide i l j m less hits;
}
  where
    at_rank : (i : ℕ) → i < length job.objects → (get_or plan.places (rank_for plan.places i) no_place).object ≡ i
    at_rank i l = let s = valid_stands job e plan valid i l in ap (λ (p : Place). p.object) (s.there no_place) ∙ s.object

    object_at_rank : (i : ℕ) → i < length job.objects → (j : ℕ) → j < length job.objects → rank_for plan.places i ≡ rank_for plan.places j → i ≡ j
    object_at_rank i l j m same = sym (at_rank i l) ∙ ap (λ r. (get_or plan.places r no_place).object) same ∙ at_rank j m

    collide : (i : ℕ) → i < length job.objects → (j : ℕ) → j < length job.objects → rank_for plan.places i < rank_for plan.places j → CollidesAt job e (values_of job e plan) i j → ⊥
    collide i l j m less hits =
        let s = valid_stands job e plan valid i l in
        let t = valid_stands job e plan valid j m in
        let scene = scene_of_job job in
        let p = place_for plan.places i in
        let r = place_for plan.places j in
        let at_places : Collides scene i (place_point plan.scale p) j (place_point plan.scale r) =
        subst (λ q. Collides scene i q j (place_point plan.scale r)) (place_again job e plan i l)
        (subst (λ q. Collides scene i (place_of job e (values_of job e plan).d (values_of job e plan).u i) j q) (place_again job e plan j m) hits) in
        let named : Collides scene p.object (place_point plan.scale p) r.object (place_point plan.scale r) =
        subst (λ k. Collides scene k (place_point plan.scale p) r.object (place_point plan.scale r)) (sym s.object)
        (subst (λ k. Collides scene i (place_point plan.scale p) k (place_point plan.scale r)) (sym t.object) at_places) in
        valid.apart (rank_for plan.places i) (rank_for plan.places j) no_place less t.within
        (subst (λ (q : Place). Collides scene q.object (place_point plan.scale q) (get_or plan.places (rank_for plan.places j) no_place).object (place_point plan.scale (get_or plan.places (rank_for plan.places j) no_place))) (sym (s.there no_place))
        (subst (λ (q : Place). Collides scene p.object (place_point plan.scale p) q.object (place_point plan.scale q)) (sym (t.there no_place)) named))
