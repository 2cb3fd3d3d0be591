-- Steps of the summing of a bound's rows, and what its end says.
use Rattle.std.proofs.Common.{◌≡◌, ℕ, ◌+◌, ◌<◌, ◌≤◌, ℤ, pos, ◌+ℤ◌, ◌*ℤ◌, ◌≤ℤ◌, ◌<ℤ◌, List, [], length, get_or, drop, take, refl, sym, ap, subst, ◌∙◌, arith, All}
use Rattle.std.proofs.lemmas.Int.{ints}
use Rattle.std.proofs.lemmas.List.{drop_more, drop_all, take_more, take_all}
use Rattle.std.proofs.lemmas.List.Elements.{All-push}
use Rattle.seq_model.specs.declared.row.Row.{Row}
use Rattle.seq_model.specs.Systems.{row_at, IsTaken, sum_constant, Contradiction}
use Rattle.seq_model.specs.declared.tree.Mult.{Mult}
use Rattle.bound_sums.specs.Bounding.{IsLine, IsCounted, AreTaken, AreLow}
use Rattle.bound_sums.proofs.Contradicts.{AreSums, one_summed, all_summed}
use Rattle.bound_sums.specs.Sparse.{AreAdded, full_row, constant_of}
use Rattle.bound_sums.specs.declared.rows.Line.{Line}
use Rattle.bound_sums.specs.declared.rows.Line.TheVariants as Lines

c_is : (width : ℕ) (line : Line) → (full_row width line).c ≡ constant_of line
c_is width (Lines.Bound variable constant) = refl
c_is width (Lines.Beyond side) = refl

pub step : (rows : List Row) (width : ℕ) (mults : List Mult) (i : ℕ) (d : Mult) (line : Line) (sums more : List ℤ) (constant z now : ℤ) → i < length mults → AreSums rows mults (drop i mults) sums constant
    → IsLine rows width (get_or mults i d).row line → length sums ≡ width → AreAdded (get_or mults i d).times sums (full_row (length sums) line).a more
    → z ≡ (get_or mults i d).times *ℤ constant_of line → now ≡ constant +ℤ z → AreSums rows mults (drop (i + 1) mults) more now
step rows width mults i d line sums more constant z now within s is wide added product new =
    let m = get_or mults i d in
    let same : full_row (length sums) line ≡ row_at rows m.row = ap (λ w. full_row w line) wide ∙ is.is in
    let c : constant_of line ≡ (row_at rows m.row).c = sym (c_is (length sums) line) ∙ ap (λ (r : Row). r.c) same in
    one_summed rows mults (drop (i + 1) mults) m sums more constant now (subst (λ l. AreSums rows mults l sums constant) (drop_more mults i d within) s)
    (subst (λ (r : Row). AreAdded m.times sums r.a more) same added) (new ∙ ap (λ x. constant +ℤ x) (product ∙ ap (λ x. m.times *ℤ x) c))

pub taken : (rows : List Row) (width : ℕ) (mults : List Mult) (i : ℕ) (d : Mult) (line : Line) → i < length mults → All IsCounted mults → All (IsTaken rows) (take i mults) → IsLine rows width (get_or mults i d).row line
    → All (IsTaken rows) (take (i + 1) mults)
taken rows width mults i d line within counted before is =
    subst (All (IsTaken rows)) (sym (take_more mults i d within))
    (All-push (IsTaken rows) (take i mults) (get_or mults i d) before (record { row = is.there; times = (counted i d within).low }))

-- ---- the end
at_end : (rows : List Row) (mults : List Mult) (i : ℕ) (sums : List ℤ) (constant : ℤ) → length mults ≤ i → AreSums rows mults (drop i mults) sums constant → AreSums rows mults [] sums constant
at_end rows mults i sums constant over s = subst (λ l. AreSums rows mults l sums constant) (drop_all i mults over) s

all_taken : (rows : List Row) (mults : List Mult) (i : ℕ) → length mults ≤ i → All (IsTaken rows) (take i mults) → All (IsTaken rows) mults
all_taken rows mults i over t = subst (All (IsTaken rows)) (take_all i mults over) t

pub breaks_sum : (rows : List Row) (mults : List Mult) (i : ℕ) (sums : List ℤ) (constant : ℤ) → length mults ≤ i → AreSums rows mults (drop i mults) sums constant → All (IsTaken rows) (take i mults)
    → (All (λ a. a ≤ℤ pos 0) sums → ⊥)
    → AreTaken rows mults × (AreLow rows mults → ⊥)
breaks_sum rows mults i sums constant over s t high =
    let all = all_summed rows mults sums constant (at_end rows mults i sums constant over s) in
    (all_taken rows mults i over t, λ low. high (all.0.1 low))

pub breaks_constant : (rows : List Row) (mults : List Mult) (i : ℕ) (sums : List ℤ) (constant : ℤ) → length mults ≤ i → AreSums rows mults (drop i mults) sums constant → All (IsTaken rows) (take i mults)
    → All (λ a. a ≤ℤ pos 0) sums → pos 0 ≤ℤ constant
    → AreTaken rows mults × AreLow rows mults × (sum_constant rows mults <ℤ pos 0 → ⊥)
breaks_constant rows mults i sums constant over s t low high =
    let all = all_summed rows mults sums constant (at_end rows mults i sums constant over s) in
    let c = all.1 in
    (all_taken rows mults i over t, all.0.0 low, λ below. omega (arith, ints, c, below, high))

pub contradicts : (rows : List Row) (mults : List Mult) (i : ℕ) (sums : List ℤ) (constant : ℤ) → length mults ≤ i → AreSums rows mults (drop i mults) sums constant → All (IsTaken rows) (take i mults)
    → All (λ a. a ≤ℤ pos 0) sums → constant <ℤ pos 0 → Contradiction rows mults
contradicts rows mults i sums constant over s t low below =
    let all = all_summed rows mults sums constant (at_end rows mults i sums constant over s) in
    let c = all.1 in
    record { each = all_taken rows mults i over t; coefficients = all.0.0 low; constant = omega (arith, ints, c, below) }

pub low_more : (a : List ℤ) (i : ℕ) (d : ℤ) → i < length a → All (λ x. x ≤ℤ pos 0) (take i a) → get_or a i d ≤ℤ pos 0 → All (λ x. x ≤ℤ pos 0) (take (i + 1) a)
low_more a i d within before here = subst (All (λ x. x ≤ℤ pos 0)) (sym (take_more a i d within)) (All-push (λ x. x ≤ℤ pos 0) (take i a) (get_or a i d) before here)

pub low_all : (a : List ℤ) (i : ℕ) → length a ≤ i → All (λ x. x ≤ℤ pos 0) (take i a) → All (λ x. x ≤ℤ pos 0) a
low_all a i over before = subst (All (λ x. x ≤ℤ pos 0)) (take_all i a over) before
