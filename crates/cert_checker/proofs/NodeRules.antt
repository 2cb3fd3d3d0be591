-- The rules of a bound, as the sums find them; and what the grammar says of its multipliers.
use Rattle.std.proofs.Common.{◌≡◌, ℕ, ◌*◌, ℤ, pos, ◌≤ℤ◌, List, inl, inr, length, map, get_or, All, Option, Some, None, refl, sym, ap, subst, ◌∙◌, arith}
use Rattle.std.proofs.Math.Path.{subst₂}
use Rattle.std.proofs.lemmas.Int.{ints}
use Rattle.std.proofs.lemmas.List.{length-map, get_or-map}
use Rattle.bound_sums.specs.Bounding.{IsCounted, IsFirstBreach}
use Rattle.bound_sums.specs.Sparse.{IsShortSide, rows_of}
use Rattle.bound_sums.specs.declared.breaches.Breach.{Breach}
use Rattle.bound_sums.specs.declared.breaches.Breach.TheVariants as breaches
use Rattle.cert_text.specs.TreeText.{IsSpelt, IsSpeltMult, pair_of}
use Rattle.cert_text.specs.declared.pairs.Pair.{Pair}
use Rattle.difference_polygon.specs.declared.rows.SideRow.{SideRow}
use Rattle.seq_model.specs.Systems.{system}
use Rattle.seq_model.specs.declared.job.Job.{Job}
use Rattle.seq_model.specs.declared.row.Row.{Row}
use Rattle.seq_model.specs.declared.tree.Choice.{Choice}
use Rattle.seq_model.specs.declared.tree.Mult.{Mult}
use Rattle.seq_model.specs.declared.tree.Node.{Node}
use Rattle.seq_model.specs.declared.tree.Node.TheVariants as Nodes
use Rattle.cert_checker.proofs.SystemRows.{length-rooms_of, short_rows, system_by_rows}
use Rattle.cert_checker.specs.Judged.{IsOwnRule}
use Rattle.cert_checker.specs.Rooms.{rooms_of}
use Rattle.cert_checker.specs.Trails.{AreRowsOf}
use Rattle.cert_checker.specs.declared.rules.Rule.{Rule}
use Rattle.cert_checker.specs.declared.rules.Rule.TheVariants as rules

abbrev pub rule_of : Option Breach → Option Rule
rule_of None = None
rule_of (Some breaches.Row) = Some rules.Row
rule_of (Some breaches.Sum) = Some rules.Sum
rule_of (Some breaches.Constant) = Some rules.Constant

bound_says : (job : Job) (e : ℕ) (path : List Choice) (mults : List Mult) (o : Option Breach) → IsFirstBreach (system job e path) mults o → IsOwnRule job e path (Nodes.Bound mults) (rule_of o)
bound_says job e path mults None h = (h, tt)
bound_says job e path mults (Some breaches.Row) h = inl (refl, h)
bound_says job e path mults (Some breaches.Sum) h = inr (h.0, inl (refl, h.1))
bound_says job e path mults (Some breaches.Constant) h = inr (h.0, inr (h.1, inl (refl, h.2)))

pub breach_says : (rooms : List ℤ) (rows : List SideRow) (mults : List Mult) (o p : Option Breach) → IsFirstBreach (rows_of rooms rows) mults o → o ≡ p → (job : Job) (e : ℕ) (path : List Choice)
    → rooms ≡ rooms_of job e job.objects → AreRowsOf job path rows → IsOwnRule job e path (Nodes.Bound mults) (rule_of p)
breach_says rooms rows mults o p h same job e path is has =
    bound_says job e path mults p (subst₂ (λ r q. IsFirstBreach r mults q) (system_by_rows job e path rooms rows is has) same h)

pub rows_short : (job : Job) (e : ℕ) (path : List Choice) (given rooms : List ℤ) (handed rows : List SideRow) → given ≡ rooms → rooms ≡ rooms_of job e job.objects → handed ≡ rows → AreRowsOf job path rows
    → All (IsShortSide (length given)) handed
rows_short job e path given rooms handed rows g is h has =
    let many : 2 * length job.objects ≡ length given = sym (ap length g ∙ (ap length is ∙ length-rooms_of job e job.objects)) in
    subst₂ (λ w l. All (IsShortSide w) l) many (sym h) (short_rows job path rows has)

counted : (m : Mult) → pos 0 ≤ℤ m.times → IsSpeltMult m → IsCounted m
counted m low s = record { low = low; high = omega (arith, ints, low, s.times) }

counted_mults : (mults : List Mult) → All (λ p. pos 0 ≤ℤ p.times) (map pair_of mults) → All IsSpeltMult mults → All IsCounted mults
counted_mults mults low s k d within =
    let at : get_or (map pair_of mults) k (pair_of d) ≡ pair_of (get_or mults k d) = get_or-map pair_of mults k d (pair_of d) within in
    counted (get_or mults k d) (subst (λ (p : Pair). pos 0 ≤ℤ p.times) at (low k (pair_of d) (omega (arith, within, length-map mults pair_of)))) (s k d within)

pub spelt_counted : (node : Node) (mults handed : List Mult) → node ≡ Nodes.Bound mults → handed ≡ mults → IsSpelt node → All IsCounted handed
spelt_counted node mults handed is h s = let t = subst IsSpelt is s in subst (All IsCounted) (sym h) (counted_mults mults t.0.times t.1)

pub rule_of_node : (job : Job) (e : ℕ) (path : List Choice) (node same : Node) (o : Option Rule) → node ≡ same → IsOwnRule job e path same o → IsOwnRule job e path node o
rule_of_node job e path node same o is h = subst (λ n. IsOwnRule job e path n o) (sym is) h
