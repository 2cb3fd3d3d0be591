-- What the solver's answers show at a node: a contradiction of a path's rows closes it, as a line of a certificate; a point is one of the path.
use Rattle.std.proofs.Common.{◌≡◌, ℕ, suc, ◌+◌, ◌*◌, ◌<◌, ◌≤◌, ◌^◌, List, [], ◌∷◌, length, map, All, refl, sym, ap, subst, ◌∙◌, arith, ℤ, pos, negsuc, ◌≤ℤ◌, ◌<ℤ◌, unsigned_abs}
use Rattle.std.proofs.lemmas.Int.{ints}
use Rattle.std.proofs.lemmas.List.{length-map}
use Rattle.std.proofs.lemmas.List.Elements.{All-nil, All-cons, All-head, All-tail}
use Rattle.cert_text.specs.TreeText.{AreRising, pair_of, row_of}
use Rattle.cert_text.specs.declared.pairs.Pair.{Pair}
use Rattle.feasible_point.specs.Shortening.{AreShortest}
use Rattle.integer_laws.specs.Vectors.{zeros}
use Rattle.node_looks.proofs.RowLaws.{rows_few}
use Rattle.node_looks.proofs.ZeroLaws.{zero_on}
use Rattle.node_looks.specs.Looks.{ClosesBy, HasZeroPlan}
use Rattle.seq_model.specs.Dictionaries.{Rises}
use Rattle.seq_model.specs.Systems.{system, Contradiction, MeetsRows}
use Rattle.seq_model.specs.declared.job.Job.{Job}
use Rattle.seq_model.specs.declared.row.Row.{Row}
use Rattle.seq_model.specs.declared.tree.Choice.{Choice}
use Rattle.seq_model.specs.declared.tree.Mult.{Mult}
use Rattle.seq_model.specs.declared.tree.Node.TheVariants as Nodes

-- ---- contradictions
abbrev Above : ℤ → List Mult → Type 0
Above low [] = Unit {0}
Above low (m ∷ mults) = low <ℤ pos m.row

rising_from : (count : ℕ) (low : ℤ) (mults : List Mult) → Rises count (map (λ (m : Mult). m.row) mults) → Above low mults → AreRising low (map row_of (map pair_of mults))
rising_from count low [] rises above = tt
rising_from count low (m ∷ []) rises above = (above, tt)
rising_from count low (m ∷ k ∷ mults) rises above = (above, rising_from count (pos m.row) (k ∷ mults) rises.1 (higher m.row k.row rises.0))
  where
    higher : (a b : ℕ) → a < b → pos a <ℤ pos b
    higher a b l = omega (arith, ints, l)

above_all : (mults : List Mult) → Above (negsuc 0) mults
above_all [] = tt
above_all (m ∷ mults) = low m.row
  where
    low : (a : ℕ) → negsuc 0 <ℤ pos a
    low a = omega (arith, ints)

times_of : (mults : List Mult) → All (λ (m : Mult). pos 1 ≤ℤ m.times) mults → All (λ (p : Pair). pos 0 ≤ℤ p.times) (map pair_of mults)
times_of [] all = All-nil (λ (p : Pair). pos 0 ≤ℤ p.times)
times_of (m ∷ mults) all =
    All-cons (λ (p : Pair). pos 0 ≤ℤ p.times) (pair_of m) (map pair_of mults) (weak m.times (All-head (λ (m : Mult). pos 1 ≤ℤ m.times) m mults all)) (times_of mults (All-tail (λ (m : Mult). pos 1 ≤ℤ m.times) m mults all))
  where
    weak : (t : ℤ) → pos 1 ≤ℤ t → pos 0 ≤ℤ t
    weak t h = omega (arith, ints, h)

pub bound_closes : (job : Job) (e : ℕ) (path : List Choice) (mults : List Mult) → length path ≤ 1_000_000 → Contradiction (system job e path) mults → Rises (length (system job e path)) (map (λ (m : Mult). m.row) mults)
    → All (λ (m : Mult). pos 1 ≤ℤ m.times) mults → 0 < length mults → length mults ≤ suc (2 * length job.objects) → AreShortest mults → ClosesBy job e path (Nodes.Bound mults)
bound_closes job e path mults short is rises times some few shortest = record {
  is_leaf = tt;
  sound = is;
  spelt = (
    record {
      some = omega (arith, some, many);
      few = omega (arith, few, many, objects);
      rising = rising_from (length (system job e path)) (negsuc 0) mults rises (above_all mults);
      times = times_of mults times;
    },
    λ k d l. let r = (is.each k d l).row in record { row = omega (arith, r, count); times = shortest.1 k d l },
  );
  takes = times;
}
  where
    many : length (map pair_of mults) ≡ length mults
    many = length-map mults pair_of

    objects : length job.objects ≤ 16
    objects = job.sound.few

    count : 2 * length job.objects + length (system job e path) < 2 ^ 32
    count = rows_few job e path (system job e path) refl short

-- ---- points

pub small_den : (d : ℤ) → pos 1 ≤ℤ d → unsigned_abs d < 2 ^ 62 → d <ℤ pos (2 ^ 62)
small_den d one small = omega (arith, ints, one, small)

pub zero_meets : (job : Job) (e : ℕ) (path : List Choice) (rows : List Row) → rows ≡ system job e path → path ≡ [] → HasZeroPlan job e → MeetsRows rows (pos 1) (zeros (2 * length job.objects))
zero_meets job e path rows same none h =
    subst (λ r. MeetsRows r (pos 1) (zeros (2 * length job.objects))) (sym (same ∙ ap (system job e) none)) (zero_on job e h).meets
