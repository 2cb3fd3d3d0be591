-- Multipliers whose rows stand elsewhere in a longer or shorter system: they contradict there too.
--
--   IsSameRow rows more f m   the row of a multiplier is the same row at its new number
--   moved                     so multipliers contradict there too
--   without_side              and do so on the path without a side whose row they don't take
use Rattle.std.proofs.Common.{◌≡◌, ℕ, suc, ◌+◌, ◌-◌, ◌<◌, ◌≤◌, ◌≤ℤ◌, ◌<ℤ◌, pos, ◌+ℤ◌, ◌*ℤ◌, cond, List, [], ◌∷◌, ◌++◌, All, length, map, get_or, refl, sym, ap, subst, ◌∙◌, arith, length-append, append_assoc, inl, inr, ◌⊎◌}
use Rattle.integer_laws.specs.Vectors.{plus, scale}
use Rattle.plan_laws.specs.Dropping.{lowered}
use Rattle.plan_laws.specs.Laws.PathRows.{side_rows-append}
use Rattle.plan_laws.specs.Renumbered.{move}
use Rattle.seq_model.specs.declared.row.Row.{Row}
use Rattle.seq_model.specs.Systems.{no_row, row_at, sum_constant, sum_coefficients, IsTaken, Contradiction, system, side_rows, side_row, bounds_of}
use Rattle.seq_model.specs.declared.job.Job.{Job}
use Rattle.seq_model.specs.declared.tree.Choice.{Choice}
use Rattle.seq_model.specs.declared.tree.Choice.TheVariants as Choices
use Rattle.seq_model.specs.declared.tree.Contact.{Contact}
use Rattle.seq_model.specs.declared.tree.Dir.{Dir}
use Rattle.seq_model.specs.declared.tree.Mult.{Mult}
use Rattle.std.proofs.lemmas.Bool.{cases_lt, lt-ltb, le-ltb}
use Rattle.std.proofs.lemmas.List.{get_or_append_left, get_or-append-add}
use Rattle.std.proofs.lemmas.List.Elements.{All-nil, All-cons, All-head, All-tail}

pub record IsSameRow (rows more : List Row) (f : ℕ → ℕ) (m : Mult) : Type 0 where
  pub known : f m.row < length more
  pub same : row_at more (f m.row) ≡ row_at rows m.row

same_constant : (rows more : List Row) (f : ℕ → ℕ) (mults : List Mult) → All (IsSameRow rows more f) mults → sum_constant more (map (move f) mults) ≡ sum_constant rows mults
same_constant rows more f [] all = refl
same_constant rows more f (m ∷ mults) all =
    ap (λ row. m.times *ℤ row.c +ℤ sum_constant more (map (move f) mults)) (All-head (IsSameRow rows more f) m mults all).same
    ∙ ap (λ t. m.times *ℤ (row_at rows m.row).c +ℤ t) (same_constant rows more f mults (All-tail (IsSameRow rows more f) m mults all))

same_coefficients : (rows more : List Row) (f : ℕ → ℕ) (mults : List Mult) → All (IsSameRow rows more f) mults → sum_coefficients more (map (move f) mults) ≡ sum_coefficients rows mults
same_coefficients rows more f [] all = refl
same_coefficients rows more f (m ∷ mults) all =
    ap (λ row. plus (scale m.times row.a) (sum_coefficients more (map (move f) mults))) (All-head (IsSameRow rows more f) m mults all).same
    ∙ ap (λ t. plus (scale m.times (row_at rows m.row).a) t) (same_coefficients rows more f mults (All-tail (IsSameRow rows more f) m mults all))

still_taken : (rows more : List Row) (f : ℕ → ℕ) (mults : List Mult) → All (IsSameRow rows more f) mults → All (IsTaken rows) mults → All (IsTaken more) (map (move f) mults)
still_taken rows more f [] all taken = All-nil (IsTaken more)
still_taken rows more f (m ∷ mults) all taken =
    All-cons (IsTaken more) (move f m) (map (move f) mults)
    (record { row = (All-head (IsSameRow rows more f) m mults all).known; times = (All-head (IsTaken rows) m mults taken).times })
    (still_taken rows more f mults (All-tail (IsSameRow rows more f) m mults all) (All-tail (IsTaken rows) m mults taken))

pub moved : (rows more : List Row) (f : ℕ → ℕ) (mults : List Mult) → All (IsSameRow rows more f) mults → Contradiction rows mults → Contradiction more (map (move f) mults)
moved rows more f mults all c = record {
  each = still_taken rows more f mults all c.each;
  coefficients = subst (λ v. All (λ a. a ≤ℤ pos 0) v) (sym (same_coefficients rows more f mults all)) c.coefficients;
  constant = subst (λ v. v <ℤ pos 0) (sym (same_constant rows more f mults all)) c.constant;
}

-- ---- a row is left out
lower_above : (at r : ℕ) → at < r → lowered at r ≡ r - 1
lower_above at r h = ap (λ b. cond b (r - 1) r) (lt-ltb at r h)

lower_below : (at r : ℕ) → r ≤ at → lowered at r ≡ r
lower_below at r h = ap (λ b. cond b (r - 1) r) (le-ltb at r h)

-- rows behind the one that is left out come one earlier
behind : (a b : List Row) (x : Row) (k : ℕ) → get_or (a ++ b) (length a + k) no_row ≡ get_or (a ++ x ∷ b) (length a + suc k) no_row
behind a b x k = get_or-append-add a b k no_row ∙ sym (get_or-append-add a (x ∷ b) (suc k) no_row)

lowered_row : (a b : List Row) (x : Row) (m : Mult) → m.row < length (a ++ x ∷ b) → (m.row ≡ length a → ⊥) → IsSameRow (a ++ x ∷ b) (a ++ b) (lowered (length a)) m
lowered_row a b x m h ne = by (cases_lt (length a) m.row)
  where
    by : ((length a < m.row) ⊎ (m.row ≤ length a)) → IsSameRow (a ++ x ∷ b) (a ++ b) (lowered (length a)) m
    by (inl l) =
        let k = m.row - length a - 1 in
        let here : m.row - 1 ≡ length a + k = omega (arith, l) in
        let there : length a + suc k ≡ m.row = omega (arith, l) in
        record {
          known = subst (λ n. n < length (a ++ b)) (sym (lower_above (length a) m.row l)) (omega (arith, l, h, length-append a (x ∷ b), length-append a b));
          same = ap (λ n. get_or (a ++ b) n no_row) (lower_above (length a) m.row l ∙ here) ∙ (behind a b x k ∙ ap (λ n. get_or (a ++ x ∷ b) n no_row) there);
        }
    by (inr l) =
        let low : m.row < length a = omega (arith, l, ne) in
        record {
          known = subst (λ n. n < length (a ++ b)) (sym (lower_below (length a) m.row l)) (omega (arith, low, length-append a b));
          same = ap (λ n. get_or (a ++ b) n no_row) (lower_below (length a) m.row l) ∙ (get_or_append_left a b no_row m.row low ∙ sym (get_or_append_left a (x ∷ b) no_row m.row low));
        }

all_lowered : (a b : List Row) (x : Row) (mults : List Mult) → All (IsTaken (a ++ x ∷ b)) mults → All (λ m. m.row ≡ length a → ⊥) mults → All (IsSameRow (a ++ x ∷ b) (a ++ b) (lowered (length a))) mults
all_lowered a b x [] taken free = All-nil (IsSameRow (a ++ x ∷ b) (a ++ b) (lowered (length a)))
all_lowered a b x (m ∷ mults) taken free =
    All-cons (IsSameRow (a ++ x ∷ b) (a ++ b) (lowered (length a))) m mults
    (lowered_row a b x m (All-head (IsTaken (a ++ x ∷ b)) m mults taken).row (All-head (λ (n : Mult). n.row ≡ length a → ⊥) m mults free))
    (all_lowered a b x mults (All-tail (IsTaken (a ++ x ∷ b)) m mults taken) (All-tail (λ (n : Mult). n.row ≡ length a → ⊥) m mults free))

parted : (job : Job) (e : ℕ) (front back : List Choice) → system job e (front ++ back) ≡ system job e front ++ side_rows job e back
parted job e front back = ap (λ t. bounds_of job e 0 job.objects ++ t) (side_rows-append job e front back) ∙ sym (append_assoc (bounds_of job e 0 job.objects) (side_rows job e front) (side_rows job e back))

-- a bound that doesn't use the row of a side holds on the path without this side, its rows behind one lower
pub without_side : (job : Job) (e : ℕ) (front back : List Choice) (c : Contact) (dir : Dir) (mults : List Mult) → Contradiction (system job e (front ++ Choices.Side c dir ∷ back)) mults
    → All (λ m. m.row ≡ length (system job e front) → ⊥) mults → Contradiction (system job e (front ++ back)) (map (move (lowered (length (system job e front)))) mults)
without_side job e front back c dir mults h free =
    let g = subst (λ rows. Contradiction rows mults) (parted job e front (Choices.Side c dir ∷ back)) h in
    subst (λ rows. Contradiction rows (map (move (lowered (length (system job e front)))) mults)) (sym (parted job e front back))
    (moved (system job e front ++ side_row job e c dir ∷ side_rows job e back) (system job e front ++ side_rows job e back) (lowered (length (system job e front))) mults
    (all_lowered (system job e front) (side_rows job e back) (side_row job e c dir) mults g.each free) g)
