-- The rooms of the first objects, and how great they are.
use Rattle.std.proofs.Common.{◌≡◌, ℕ, ◌+◌, ◌≤◌, ◌<◌, ◌^◌, ℤ, pos, ◌-ℤ◌, ◌≤ℤ◌, List, [], ◌∷◌, ◌++◌, length, get_or, take, All, unsigned_abs, refl, sym, ap, subst, ◌∙◌, arith}
use Rattle.std.proofs.lemmas.Int.{ints}
use Rattle.std.proofs.lemmas.List.{take_more, take_all, get_or_default}
use Rattle.std.proofs.lemmas.List.Elements.{All-nil, All-push}
use Rattle.search_laws.specs.Laws.RowSizes.{extremes_near, share_low, share_high}
use Rattle.seq_model.specs.Bounds.{IsNearSpot}
use Rattle.seq_model.specs.Jobs.{no_object, object_at}
use Rattle.seq_model.specs.Plates.{region_of, share_of}
use Rattle.seq_model.specs.declared.job.Job.{Job}
use Rattle.seq_model.specs.declared.job.Object.{Object}
use Rattle.seq_model.specs.declared.plate.Region.{Region}
use Rattle.bound_sums.specs.Sparse.{IsShortRoom}
use Rattle.cert_checker.specs.Rooms.{room_x, room_y, rooms_of}

small : (size : ℤ) (grid e : ℕ) → pos 1 ≤ℤ size → size ≤ℤ pos 20_000 → 1 ≤ grid → e ≤ grid → unsigned_abs (share_of size grid e) < 2 ^ 46
small size grid e s t g h =
    let low = share_low size grid e s g in
    let high = share_high size grid e s g h in
    omega (arith, ints, low, high, t)

pub small_height : (job : Job) (e : ℕ) (region : Region) → e ≤ job.printer.grid → region ≡ region_of job.printer.width job.printer.depth job.printer.grid e → unsigned_abs region.h < 2 ^ 46
small_height job e region h is =
    let r = job.printer.ranged in
    subst (λ (q : Region). unsigned_abs q.h < 2 ^ 46) (sym is) (small job.printer.depth job.printer.grid e r.depth_low r.depth_high r.grid_low h)

pub record Near (o : Object) : Type 0 where
  pub low : IsNearSpot 1_001_000 o.low
  pub high : IsNearSpot 1_001_000 o.high

pub object_near : (job : Job) (objects : List Object) (i : ℕ) (o : Object) → objects ≡ job.objects → i < length objects → o ≡ get_or objects i o → Near o
object_near job objects i o e within is =
    let inside : i < length job.objects = subst (λ l. i < length l) e within in
    let near = extremes_near job i inside in
    let same : object_at job i ≡ o = get_or_default job.objects i no_object o inside ∙ (ap (λ l. get_or l i o) (sym e) ∙ sym is) in
    subst Near same (record { low = near.0; high = near.1 })

rooms_append : (job : Job) (e : ℕ) (front : List Object) (o : Object) → rooms_of job e (front ++ o ∷ []) ≡ (rooms_of job e front ++ room_x job e o ∷ []) ++ room_y job e o ∷ []
rooms_append job e [] o = refl
rooms_append job e (p ∷ front) o = ap (λ l. room_x job e p ∷ room_y job e p ∷ l) (rooms_append job e front o)

-- what the loop has made of the first objects
pub record Making (job : Job) (e : ℕ) (objects : List Object) (i : ℕ) (rooms : List ℤ) : Type 0 where
  pub are : rooms ≡ rooms_of job e (take i objects)
  pub short : All IsShortRoom rooms

pub no_rooms : (job : Job) (e : ℕ) (objects : List Object) (rooms : List ℤ) → rooms ≡ [] → Making job e objects 0 rooms
no_rooms job e objects rooms none = record { are = none; short = subst (All IsShortRoom) (sym none) (All-nil IsShortRoom) }

one_more : (job : Job) (e : ℕ) (objects : List Object) (i : ℕ) (o : Object) (region : Region) (rooms one both : List ℤ) (x y : ℤ) → i < length objects → o ≡ get_or objects i o
    → region ≡ region_of job.printer.width job.printer.depth job.printer.grid e → Making job e objects i rooms → x ≡ region.w -ℤ (o.high.x -ℤ o.low.x) → y ≡ region.h -ℤ (o.high.y -ℤ o.low.y)
    → IsShortRoom x → IsShortRoom y → one ≡ rooms ++ x ∷ [] → both ≡ one ++ y ∷ [] → Making job e objects (i + 1) both
one_more job e objects i o region rooms one both x y within is r made px py sx sy e1 e2 =
    let w : region.w ≡ share_of job.printer.width job.printer.grid e = ap (λ (q : Region). q.w) r in
    let h : region.h ≡ share_of job.printer.depth job.printer.grid e = ap (λ (q : Region). q.h) r in
    let fx : x ≡ room_x job e o = px ∙ ap (λ z. z -ℤ (o.high.x -ℤ o.low.x)) w in
    let fy : y ≡ room_y job e o = py ∙ ap (λ z. z -ℤ (o.high.y -ℤ o.low.y)) h in
    record {
      are =
          e2 ∙ (ap (λ l. l ++ y ∷ []) e1 ∙ (ap (λ l. (l ++ x ∷ []) ++ y ∷ []) made.are ∙ (ap (λ z. (rooms_of job e (take i objects) ++ z ∷ []) ++ y ∷ []) fx
          ∙ (ap (λ z. (rooms_of job e (take i objects) ++ room_x job e o ∷ []) ++ z ∷ []) fy ∙ (sym (rooms_append job e (take i objects) o)
          ∙ ap (rooms_of job e) (sym (take_more objects i o within ∙ ap (λ p. take i objects ++ p ∷ []) (sym is))))))));
      short =
          subst (All IsShortRoom) (sym (e2 ∙ ap (λ l. l ++ y ∷ []) e1))
          (All-push IsShortRoom (rooms ++ x ∷ []) y (All-push IsShortRoom rooms x made.short sx) sy);
    }

-- the same of a slice of the objects
pub rooms_more : (job : Job) (e : ℕ) (slice objects : List Object) (i : ℕ) (o : Object) (region : Region) (rooms one both : List ℤ) (x y : ℤ) → slice ≡ objects → i < length slice → o ≡ get_or slice i o
    → region ≡ region_of job.printer.width job.printer.depth job.printer.grid e → Making job e objects i rooms → x ≡ region.w -ℤ (o.high.x -ℤ o.low.x) → y ≡ region.h -ℤ (o.high.y -ℤ o.low.y)
    → IsShortRoom x → IsShortRoom y → one ≡ rooms ++ x ∷ [] → both ≡ one ++ y ∷ [] → Making job e objects (i + 1) both
rooms_more job e slice objects i o region rooms one both x y s within is = one_more job e objects i o region rooms one both x y (subst (λ l. i < length l) s within) (is ∙ ap (λ l. get_or l i o) s)

pub rooms_all : (job : Job) (e : ℕ) (slice objects : List Object) (i : ℕ) (rooms : List ℤ) → slice ≡ objects → objects ≡ job.objects → length slice ≤ i → Making job e objects i rooms → rooms ≡ rooms_of job e job.objects
rooms_all job e slice objects i rooms s is over made = made.are ∙ (ap (rooms_of job e) (take_all i objects (subst (λ l. length l ≤ i) s over)) ∙ ap (rooms_of job e) is)
