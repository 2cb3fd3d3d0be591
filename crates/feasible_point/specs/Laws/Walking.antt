-- The walk of a dictionary, turn by turn.
--
--   table count d basic free lines     a table with its variables in order
--   steps_of rows t                    how many turns are left
--   pivots_to, next_is                 where something leaves and something enters, the basis of both is the next one, and its table the next table
--   stops_point, stops_none            where nothing leaves, or nothing can enter, the walk stops
use Rattle.std.proofs.Common.{◌≡◌, ◌≢◌, ℕ, zero, suc, ◌+◌, ◌<◌, ◌≤◌, ◌^◌, List, [], ◌∷◌, ◌++◌, length, map, get_or, refl, ap, ap₂, sym, subst, ◌∙◌, arith, ℤ, pos, ◌≤ℤ◌, ◌<ℤ◌, ◌⊎◌, inl, inr, true, false, Some, None, Contains, ◌↔◌}
use Rattle.std.proofs.lemmas.Option.{none-some}
use Rattle.std.specs.List.{range_with_len}
use Rattle.std.specs.Prelude.{slice_get}
use lib.Dec.{T}
use Rattle.integer_laws.specs.Members.{In}
use Rattle.integer_laws.specs.Laws.Members.{In-from_contains, Contains-from_in}
use Rattle.row_laws.specs.Laws.Independence.{Climbs, true_or_false, in_basis, is_in_member}
use Rattle.row_laws.specs.Laws.OneWalk.{one_walk, last_same}
use Rattle.row_laws.specs.Laws.Pivots.{below, filter_climbs, free_climbs, to_rises, rising_same, same_result}
use Rattle.row_pivots.specs.Laws.Bland.{not_basic}
use Rattle.row_pivots.specs.Ends.{NoEntry}
use Rattle.row_pivots.specs.Laws.Measure.{place_is, falls}
use Rattle.row_pivots.specs.Steps.{Table, table_of, next_of, steps_left}
use Rattle.row_pivots.specs.Tables.{place_of}
use Rattle.row_pivots.specs.Laws.NextTable.{seen_next}
use Rattle.row_pivots.specs.Laws.Pivoting.{range_set}
use Rattle.row_pivots.specs.Ends.{point}
use Rattle.row_pivots.specs.Laws.Points.{point_meets, line_none, climbs_fresh}
use Rattle.row_pivots.specs.Laws.Sorted.{table_is_form, line_is, rising_members, same_free, free_member, range_climbs}
use Rattle.row_pivots.specs.Tables.{Holds, Held, rising, sorted_line, sorted_lines, line_or, entry_of}
use Rattle.row_pivots.specs.Laws.Turned.{set_members}
use Rattle.row_dictionary.specs.Laws.Found.{LeavesAt, EntersAt}
use Rattle.row_dictionary.specs.Laws.Placing.{range_on}
use Rattle.row_dictionary.specs.Seen.{swapped}
use Rattle.row_dictionary.specs.Seen.{Seen}
use Rattle.seq_model.specs.Dictionaries.{free_of, is_in, Form, Has, WideAt}
use Rattle.seq_model.specs.Systems.{MeetsRows}
use Rattle.feasible_point.specs.Walked.{Reached, Walks, nums_upto}
use Rattle.seq_model.specs.Walks.{constant, entries, Leaves, Enters, NothingLeaves, NothingEnters, Pivots, Stops, IsWide, Ends, Follow, EndsWide}
use Rattle.seq_model.specs.declared.row.Row.{Row}

abbrev pub table : ℕ → ℤ → List ℕ → List ℕ → List (List ℤ) → Table
table count d basic free lines = record { d = d; basis = rising count basic; lines = sorted_lines count basic free lines }

abbrev pub steps_of : List Row → Seen → ℕ
steps_of rows t = steps_left (t.vars + length rows) (2 ^ (t.vars + length rows)) (table (t.vars + length rows) t.d t.basic t.free t.lines)

-- ---- what stands in a mapped list
has_map : {X : Type 0} (g : ℕ → X) (zs : List ℕ) (z : ℕ) → In z zs → Has zs (map g zs) z (g z)
has_map g [] z i = absurd i
has_map g (y ∷ zs) z (inl e) = inl (e, ap g e)
has_map g (y ∷ zs) z (inr i) = inr (has_map g zs z i)

has_is : {X : Type 0} (g : ℕ → X) (zs : List ℕ) (z : ℕ) (x : X) → Has zs (map g zs) z x → In z zs × (x ≡ g z)
has_is g [] z x h = absurd h
has_is g (y ∷ zs) z x (inl s) = (inl s.0, s.1 ∙ ap g (sym s.0))
has_is g (y ∷ zs) z x (inr h) = let r = has_is g zs z x h in (inr r.0, r.1)

-- ---- what leaves and enters, in the form
pub form_leaves : (vars : ℕ) (rows : List Row) (d : ℤ) (basic free : List ℕ) (lines : List (List ℤ)) → Holds vars rows d basic free lines → (f : Form vars rows (rising (vars + length rows) basic))
    → f.lines ≡ sorted_lines (vars + length rows) basic free lines → (out : ℕ) → LeavesAt basic lines out
    → (l : Leaves (rising (vars + length rows) basic) f.lines out) × (l.line ≡ sorted_line (vars + length rows) basic free (line_or out basic lines))
form_leaves vars rows d basic free lines h f e out at = (
  record {
    line = sorted_line (vars + length rows) basic free (line_or out basic lines);
    has = subst (λ ls. Has (rising (vars + length rows) basic) ls out (sorted_line (vars + length rows) basic free (line_or out basic lines))) (sym e)
        (has_map (λ z. sorted_line (vars + length rows) basic free (line_or z basic lines)) (rising (vars + length rows) basic) out ((rising_members (vars + length rows) basic h.small_basic out).1 at.member));
    negative = at.negative;
    least = λ y other k n.
        let s = has_is (λ z. sorted_line (vars + length rows) basic free (line_or z basic lines)) (rising (vars + length rows) basic) y other (subst (λ ls. Has (rising (vars + length rows) basic) ls y other) e k) in
        at.least y ((rising_members (vars + length rows) basic h.small_basic y).0 s.0) (subst (λ (l : List ℤ). constant l <ℤ pos 0) s.1 n);
  },
  refl,
)

pub form_nothing : (vars : ℕ) (rows : List Row) (d : ℤ) (basic free : List ℕ) (lines : List (List ℤ)) → Holds vars rows d basic free lines → (f : Form vars rows (rising (vars + length rows) basic))
    → f.lines ≡ sorted_lines (vars + length rows) basic free lines → ((y : ℕ) → In y basic → pos 0 ≤ℤ constant (line_or y basic lines)) → NothingLeaves (rising (vars + length rows) basic) f.lines
form_nothing vars rows d basic free lines h f e none z line k =
    let s = has_is (λ z. sorted_line (vars + length rows) basic free (line_or z basic lines)) (rising (vars + length rows) basic) z line (subst (λ ls. Has (rising (vars + length rows) basic) ls z line) e k) in
    subst (λ (l : List ℤ). pos 0 ≤ℤ constant l) (sym s.1) (none z ((rising_members (vars + length rows) basic h.small_basic z).0 s.0))

in_free : (vars : ℕ) (rows : List Row) (d : ℤ) (basic free : List ℕ) (lines : List (List ℤ)) → Holds vars rows d basic free lines → (y : ℕ) → In y (free_of (vars + length rows) basic) → In y free
in_free vars rows d basic free lines h y i = by (h.cover y (below 0 (vars + length rows) (free_of (vars + length rows) basic) y (free_climbs (vars + length rows) basic) i).1)
  where
    by : In y basic ⊎ In y free → In y free
    by (inl k) = absurd (not_basic (vars + length rows) basic y i k)
    by (inr k) = k

pub form_enters : (vars : ℕ) (rows : List Row) (d : ℤ) (basic free : List ℕ) (lines : List (List ℤ)) → Holds vars rows d basic free lines → (line : List ℤ) (into : ℕ) → EntersAt free line into
    → Enters (free_of (vars + length rows) (rising (vars + length rows) basic)) (entries (sorted_line (vars + length rows) basic free line)) into
form_enters vars rows d basic free lines h line into at =
    subst (λ fs. Enters fs (map (λ y. entry_of y free (entries line)) (free_of (vars + length rows) basic)) into) (sym (same_free (vars + length rows) basic h.small_basic)) (record {
      entry = entry_of into free (entries line);
      has = has_map (λ y. entry_of y free (entries line)) (free_of (vars + length rows) basic) into (free_member (vars + length rows) basic into (h.small_free into at.member) (h.apart into at.member));
      positive = at.positive;
      least = λ y other k p.
          let s = has_is (λ y. entry_of y free (entries line)) (free_of (vars + length rows) basic) y other k in
          at.least y (in_free vars rows d basic free lines h y s.0) (subst (λ x. pos 0 <ℤ x) s.1 p);
    })

pub form_none : (vars : ℕ) (rows : List Row) (d : ℤ) (basic free : List ℕ) (lines : List (List ℤ)) → Holds vars rows d basic free lines → (line : List ℤ) → NoEntry free line
    → NothingEnters (free_of (vars + length rows) (rising (vars + length rows) basic)) (entries (sorted_line (vars + length rows) basic free line))
form_none vars rows d basic free lines h line none =
    subst (λ fs. NothingEnters fs (map (λ y. entry_of y free (entries line)) (free_of (vars + length rows) basic))) (sym (same_free (vars + length rows) basic h.small_basic))
    (λ z entry k. let s = has_is (λ y. entry_of y free (entries line)) (free_of (vars + length rows) basic) z entry k in subst (λ x. x ≤ℤ pos 0) (sym s.1) (none z (in_free vars rows d basic free lines h z s.0)))

-- ---- the next basis
swaps_in : (vars : ℕ) (rows : List Row) (d : ℤ) (basic free : List ℕ) (lines : List (List ℤ)) → Holds vars rows d basic free lines → (out into : ℕ) → In out basic → In into free → (z : ℕ)
    → In z (rising (vars + length rows) (swapped basic out into)) ↔ ((z ≡ into) ⊎ (In z (rising (vars + length rows) basic) × (z ≢ out)))
swaps_in vars rows d basic free lines h out into o i z = (λ k. there (members.0 (new.0 k)), λ k. new.1 (members.1 (back k)))
  where
    at : (place_of out basic < length basic) × (get_or basic (place_of out basic) 0 ≡ out)
    at = place_is out basic o

    new : In z (rising (vars + length rows) (swapped basic out into)) ↔ In z (swapped basic out into)
    new = rising_members (vars + length rows) (swapped basic out into) (range_set (vars + length rows) basic (place_of out basic) into h.small_basic (h.small_free into i)) z

    old : In z (rising (vars + length rows) basic) ↔ In z basic
    old = rising_members (vars + length rows) basic h.small_basic z

    members : In z (swapped basic out into) ↔ ((z ≡ into) ⊎ (In z basic × (z ≢ get_or basic (place_of out basic) 0)))
    members = set_members basic (place_of out basic) into z at.0 h.fresh_basic (λ k. h.apart into i k)

    there : (z ≡ into) ⊎ (In z basic × (z ≢ get_or basic (place_of out basic) 0)) → (z ≡ into) ⊎ (In z (rising (vars + length rows) basic) × (z ≢ out))
    there (inl e) = inl e
    there (inr k) = inr (old.1 k.0, λ e. k.1 (e ∙ sym at.1))

    back : (z ≡ into) ⊎ (In z (rising (vars + length rows) basic) × (z ≢ out)) → (z ≡ into) ⊎ (In z basic × (z ≢ get_or basic (place_of out basic) 0))
    back (inl e) = inl e
    back (inr k) = inr (old.0 k.0, λ e. k.1 (e ∙ at.1))

pub pivots_to : (vars : ℕ) (rows : List Row) (d : ℤ) (basic free : List ℕ) (lines : List (List ℤ)) → Holds vars rows d basic free lines → (out into : ℕ) → LeavesAt basic lines out → EntersAt free (line_or out basic lines) into
    → Pivots vars rows (rising (vars + length rows) basic) (rising (vars + length rows) (swapped basic out into))
pivots_to vars rows d basic free lines h out into at en = record {
  form = F.form;
  out = out;
  into = into;
  leaves = l.0;
  enters = subst (λ (t : List ℤ). Enters (free_of (vars + length rows) (rising (vars + length rows) basic)) (entries t) into) (sym l.1) (form_enters vars rows d basic free lines h (line_or out basic lines) into en);
  rises = to_rises 0 (vars + length rows) (rising (vars + length rows) (swapped basic out into)) (filter_climbs (is_in (swapped basic out into)) 0 (vars + length rows) (vars + length rows) (omega arith));
  swaps = λ z. (
    λ c. there z ((swaps_in vars rows d basic free lines h out into at.member en.member z).0 (In-from_contains (rising (vars + length rows) (swapped basic out into)) z c)),
    λ k. Contains-from_in (rising (vars + length rows) (swapped basic out into)) z ((swaps_in vars rows d basic free lines h out into at.member en.member z).1 (back z k)),
  );
}
  where
    F : Held vars rows d basic free lines
    F = table_is_form vars rows d basic free lines h

    l : (l : Leaves (rising (vars + length rows) basic) F.form.lines out) × (l.line ≡ sorted_line (vars + length rows) basic free (line_or out basic lines))
    l = form_leaves vars rows d basic free lines h F.form F.lines_are out at

    there : (z : ℕ) → (z ≡ into) ⊎ (In z (rising (vars + length rows) basic) × (z ≢ out)) → (z ≡ into) ⊎ (Contains (rising (vars + length rows) basic) z × (z ≢ out))
    there z (inl e) = inl e
    there z (inr k) = inr (Contains-from_in (rising (vars + length rows) basic) z k.0, k.1)

    back : (z : ℕ) → (z ≡ into) ⊎ (Contains (rising (vars + length rows) basic) z × (z ≢ out)) → (z ≡ into) ⊎ (In z (rising (vars + length rows) basic) × (z ≢ out))
    back z (inl e) = inl e
    back z (inr k) = inr (In-from_contains (rising (vars + length rows) basic) z k.0, k.1)

pub next_is : (vars : ℕ) (rows : List Row) (d : ℤ) (basic free : List ℕ) (lines : List (List ℤ)) → Holds vars rows d basic free lines → (out into : ℕ) → LeavesAt basic lines out → EntersAt free (line_or out basic lines) into
    → (e : ℤ) (gone : List ℕ) (others : List (List ℤ)) → Holds vars rows e (swapped basic out into) gone others
    → next_of (vars + length rows) (table (vars + length rows) d basic free lines) ≡ Some (table (vars + length rows) e (swapped basic out into) gone others)
next_is vars rows d basic free lines h out into at en e gone others k =
    ap (next_of (vars + length rows)) (sym same)
    ∙ seen_next vars rows h.rows_are (rising (vars + length rows) basic) F.form out into l.0
    (subst (λ (t : List ℤ). Enters (free_of (vars + length rows) (rising (vars + length rows) basic)) (entries t) into) (sym l.1) (form_enters vars rows d basic free lines h (line_or out basic lines) into en))
    (table (vars + length rows) e (swapped basic out into) gone others) (record { form = G.form; d_is = G.d_is; lines_are = G.lines_are })
    (swaps_in vars rows d basic free lines h out into at.member en.member)
  where
    F : Held vars rows d basic free lines
    F = table_is_form vars rows d basic free lines h

    G : Held vars rows e (swapped basic out into) gone others
    G = table_is_form vars rows e (swapped basic out into) gone others k

    l : (l : Leaves (rising (vars + length rows) basic) F.form.lines out) × (l.line ≡ sorted_line (vars + length rows) basic free (line_or out basic lines))
    l = form_leaves vars rows d basic free lines h F.form F.lines_are out at

    same : table_of vars rows (rising (vars + length rows) basic) F.form ≡ table (vars + length rows) d basic free lines
    same = ap₂ (λ c ls. record { d = c; basis = rising (vars + length rows) basic; lines = ls }) F.d_is F.lines_are

pub fewer : (vars : ℕ) (rows : List Row) (d : ℤ) (basic free : List ℕ) (lines : List (List ℤ)) → Holds vars rows d basic free lines → (out into : ℕ) → LeavesAt basic lines out → EntersAt free (line_or out basic lines) into
    → (e : ℤ) (gone : List ℕ) (others : List (List ℤ)) → Holds vars rows e (swapped basic out into) gone others
    → steps_left (vars + length rows) (2 ^ (vars + length rows)) (table (vars + length rows) e (swapped basic out into) gone others)
    < steps_left (vars + length rows) (2 ^ (vars + length rows)) (table (vars + length rows) d basic free lines)
fewer vars rows d basic free lines h out into at en e gone others k =
    falls vars rows h.rows_are (table (vars + length rows) d basic free lines) (table (vars + length rows) e (swapped basic out into) gone others)
    (let F = table_is_form vars rows d basic free lines h in record { form = F.form; d_is = F.d_is; lines_are = F.lines_are })
    (next_is vars rows d basic free lines h out into at en e gone others k)

-- ---- the walk so far
follow_on : (vars : ℕ) (rows : List Row) (before : List (List ℕ)) (b n : List ℕ) → Follow vars rows (before ++ b ∷ []) → Pivots vars rows b n → (IsWide vars rows n → ⊥) → Follow vars rows ((before ++ b ∷ []) ++ n ∷ [])
follow_on vars rows [] b n f p w = (p, w, tt)
follow_on vars rows (a ∷ []) b n f p w = (f.0, f.1, (p, w, tt))
follow_on vars rows (a ∷ c ∷ before) b n f p w = (f.0, f.1, follow_on vars rows (c ∷ before) b n f.2 p w)

begin_on : (before : List (List ℕ)) (b n : List ℕ) → slice_get ((before ++ b ∷ []) ++ n ∷ []) 0 ≡ slice_get (before ++ b ∷ []) 0
begin_on [] b n = refl
begin_on (a ∷ before) b n = refl

pub reached_next : (vars : ℕ) (rows : List Row) (start b n : List ℕ) → Reached vars rows start b → Pivots vars rows b n → (IsWide vars rows n → ⊥) → Reached vars rows start n
reached_next vars rows start b n r p w = (r.0 ++ b ∷ [], begin_on r.0 b n ∙ r.1, follow_on vars rows r.0 b n r.2 p w)

pub reached_here : (vars : ℕ) (rows : List Row) (start : List ℕ) → Reached vars rows start start
reached_here vars rows start = ([], refl, tt)

pub slacks_rise : (vars : ℕ) (rows : List Row) → rising (vars + length rows) (range_with_len vars (length rows)) ≡ range_with_len vars (length rows)
slacks_rise vars rows = same
  where
    small : (z : ℕ) → In z (range_with_len vars (length rows)) → z < vars + length rows
    small z i = (below vars (vars + length rows) (range_with_len vars (length rows)) z (range_climbs vars (length rows) (vars + length rows) refl) i).1

    same : rising (vars + length rows) (range_with_len vars (length rows)) ≡ range_with_len vars (length rows)
    same = rising_same 0 (vars + length rows) (rising (vars + length rows) (range_with_len vars (length rows))) (range_with_len vars (length rows))
        (filter_climbs (is_in (range_with_len vars (length rows))) 0 (vars + length rows) (vars + length rows) (omega arith)) (wider vars (range_with_len vars (length rows)) (range_climbs vars (length rows) (vars + length rows) refl))
        (λ z i. (rising_members (vars + length rows) (range_with_len vars (length rows)) small z).0 i) (λ z i. (rising_members (vars + length rows) (range_with_len vars (length rows)) small z).1 i)
      where
        wider : (low : ℕ) (zs : List ℕ) → Climbs low (vars + length rows) zs → Climbs 0 (vars + length rows) zs
        wider low [] c = tt
        wider low (z ∷ zs) c = (omega arith, c.1, c.2)

pub walk_to : (vars : ℕ) (rows : List Row) (start b : List ℕ) → Reached vars rows start b → Ends vars rows b → Walks vars rows start b
walk_to vars rows start b r e = record { before = r.0; walk = record { before = r.0; last = b; bases_are = refl; begins = r.1; follow = r.2; ends = e } }

pub walk_wide : (vars : ℕ) (rows : List Row) (start b n : List ℕ) (row : ℕ) → Walks vars rows start b → Pivots vars rows b n → WideAt vars rows n row → ((y : ℕ) → WideAt vars rows n y → row ≤ y) → EndsWide vars rows start n row
walk_wide vars rows start b n row r p w least = record {
  bases = r.before ++ b ∷ [];
  walk = record { before = r.before; last = b; bases_are = refl; begins = r.walk.begins; follow = r.walk.follow; ends = inr (n, p, (row, w)) };
  next = p;
  wide = w;
  least = least;
}

pub never_wide : (vars : ℕ) (rows : List Row) (start b : List ℕ) → Walks vars rows start b → Stops vars rows b → (n : List ℕ) (row : ℕ) → EndsWide vars rows start n row → ⊥
never_wide vars rows start b r stops n row w = none-some n (same_result vars rows b None (Some n) stops (subst (λ t. Pivots vars rows t n) last w.next))
  where
    last : w.walk.last ≡ b
    last = last_same w.walk.before r.before w.walk.last b (sym w.walk.bases_are ∙ one_walk vars rows start w.bases (r.before ++ b ∷ []) w.walk r.walk)

pub stops_point : (vars : ℕ) (rows : List Row) (d : ℤ) (basic free : List ℕ) (lines : List (List ℤ)) → Holds vars rows d basic free lines → ((y : ℕ) → In y basic → pos 0 ≤ℤ constant (line_or y basic lines))
    → Stops vars rows (rising (vars + length rows) basic)
stops_point vars rows d basic free lines h none = let F = table_is_form vars rows d basic free lines h in record { form = F.form; stops = inl (form_nothing vars rows d basic free lines h F.form F.lines_are none) }

pub stops_none : (vars : ℕ) (rows : List Row) (d : ℤ) (basic free : List ℕ) (lines : List (List ℤ)) → Holds vars rows d basic free lines → (out : ℕ) → LeavesAt basic lines out → NoEntry free (line_or out basic lines)
    → Stops vars rows (rising (vars + length rows) basic)
stops_none vars rows d basic free lines h out at none =
    let F = table_is_form vars rows d basic free lines h in
    let l = form_leaves vars rows d basic free lines h F.form F.lines_are out at in
    record {
      form = F.form;
      stops = inr (out, l.0, subst (λ (t : List ℤ). NothingEnters (free_of (vars + length rows) (rising (vars + length rows) basic)) (entries t)) (sym l.1) (form_none vars rows d basic free lines h (line_or out basic lines) none));
    }

-- ---- the point
abbrev pub nums : ℕ → List ℕ → List (List ℤ) → List ℤ
nums vars basic lines = map (λ z. constant (line_or z basic lines)) (range_with_len 0 vars)

map_on : (f : ℕ → ℤ) (xs : List ℕ) (x : ℕ) → map f (xs ++ x ∷ []) ≡ map f xs ++ f x ∷ []
map_on f [] x = refl
map_on f (y ∷ xs) x = ap (λ t. f y ∷ t) (map_on f xs x)

pub upto_is : (n : ℕ) (basic : List ℕ) (lines : List (List ℤ)) → nums_upto n basic lines ≡ nums n basic lines
upto_is zero basic lines = refl
upto_is (suc n) basic lines =
    ap (λ t. t ++ constant (line_or n basic lines) ∷ []) (upto_is n basic lines) ∙ sym (map_on (λ z. constant (line_or z basic lines)) (range_with_len 0 n) n)
    ∙ ap (map (λ z. constant (line_or z basic lines))) (ap (λ t. range_with_len 0 n ++ t ∷ []) (zero_plus n) ∙ sym (range_on 0 n))
  where
    zero_plus : (n : ℕ) → n ≡ 0 + n
    zero_plus n = omega arith

map_same : (f g : ℕ → ℤ) (zs : List ℕ) → ((z : ℕ) → f z ≡ g z) → map f zs ≡ map g zs
map_same f g [] h = refl
map_same f g (z ∷ zs) h = ap₂ (λ a b. a ∷ b) (h z) (map_same f g zs h)

pub meets : (vars : ℕ) (rows : List Row) (d : ℤ) (basic free : List ℕ) (lines : List (List ℤ)) → Holds vars rows d basic free lines → ((y : ℕ) → In y basic → pos 0 ≤ℤ constant (line_or y basic lines)) → MeetsRows rows d (nums vars basic lines)
meets vars rows d basic free lines h none = subst (λ c. MeetsRows rows c (nums vars basic lines)) F.d_is (subst (MeetsRows rows F.form.d) same (point_meets vars rows (rising (vars + length rows) basic) F.form (form_nothing vars rows d basic free lines h F.form F.lines_are none)))
  where
    F : Held vars rows d basic free lines
    F = table_is_form vars rows d basic free lines h

    each : (z : ℕ) → constant (line_or z (rising (vars + length rows) basic) (sorted_lines (vars + length rows) basic free lines)) ≡ constant (line_or z basic lines)
    each z = by (true_or_false (is_in basic z))
      where
        by : ((is_in basic z ≡ true) ⊎ (is_in basic z ≡ false)) → constant (line_or z (rising (vars + length rows) basic) (sorted_lines (vars + length rows) basic free lines)) ≡ constant (line_or z basic lines)
        by (inl e) = ap constant
            (line_is z (rising (vars + length rows) basic) (sorted_lines (vars + length rows) basic free lines) (sorted_line (vars + length rows) basic free (line_or z basic lines))
            (climbs_fresh 0 (vars + length rows) (rising (vars + length rows) basic) (filter_climbs (is_in basic) 0 (vars + length rows) (vars + length rows) (omega arith)))
            (has_map (λ y. sorted_line (vars + length rows) basic free (line_or y basic lines)) (rising (vars + length rows) basic) z ((rising_members (vars + length rows) basic h.small_basic z).1 (in_basis basic z e))))
        by (inr e) =
            ap constant (line_none z (rising (vars + length rows) basic) (sorted_lines (vars + length rows) basic free lines) (λ i. not_in ((rising_members (vars + length rows) basic h.small_basic z).0 i)))
            ∙ sym (ap constant (line_none z basic lines not_in))
          where
            not_in : In z basic → ⊥
            not_in i = absurd (subst T (sym (is_in_member basic z i) ∙ e) tt)

    same : point vars (rising (vars + length rows) basic) F.form.lines ≡ nums vars basic lines
    same = ap (point vars (rising (vars + length rows) basic)) F.lines_are ∙ map_same _ _ (range_with_len 0 vars) each
