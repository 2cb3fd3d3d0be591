-- What is kept of a path: one choice entered, taken back, or the steps of a repair more.
use Rattle.std.proofs.Common.{◌≡◌, ℕ, suc, ◌+◌, ◌-◌, ◌*◌, ◌<◌, ◌≤◌, ◌^◌, List, [], ◌∷◌, ◌++◌, Some, length, get_or, slice_get, map, take, drop, All, Contains, refl, sym, ap, subst, ◌∙◌, arith, append_assoc, append-nil, length-append, inl, inr, Result, pos}
use Rattle.std.specs.Prelude.{IfOk}
use Rattle.integer_laws.specs.Vectors.{zeros}
use Rattle.std.proofs.lemmas.List.{take-append-drop, take-append-le, take-take, take_at, take_more, length-take, length-take-le, map-append}
use Rattle.std.proofs.lemmas.List.Elements.{All-nil, All-cons, All-append, All-pop, All-take, Contains-append_left, Contains-get_or}
use Rattle.std.proofs.lemmas.Option.{slice_get_within, get_or_from_slice_get}
use Rattle.integer_laws.specs.Members.{In}
use Rattle.integer_laws.specs.Laws.Members.{In-from_contains, Contains-from_in}
use Rattle.node_looks.proofs.OrderLaws.{closes_on_path}
use Rattle.node_looks.proofs.RowLaws.{side_at, rows_small, rows_few}
use Rattle.node_looks.proofs.RowLaws as R
use Rattle.node_looks.specs.Held.{HoldsOrders, IsOrderOf}
use Rattle.node_looks.specs.Trails.{FollowsPath, HasOnlyRows, IsTrail, IsWarmed, IsTrailOf, orders_of, path_of}
use Rattle.node_looks.specs.declared.trail.Level.{Level}
use Rattle.node_looks.specs.declared.trail.Trail.{Trail}
use Rattle.object_orders.specs.Orders.{AreAmong, ClosesCycle, Graph, IsAmong}
use Rattle.plan_laws.specs.Laws.PathRows.{side_rows-append}
use Rattle.plan_laws.specs.Looking.{OnPath}
use Rattle.row_dictionary.specs.Scans.{IsSmallRow}
use Rattle.seq_model.specs.Contacts.{IsContact, points_of}
use Rattle.seq_model.specs.Sides.{Side}
use Rattle.seq_model.specs.Dictionaries.{Rises}
use Rattle.seq_model.specs.Systems.{Contradiction, MeetsRows, bounds_of, side_row, side_rows, system}
use Rattle.seq_model.specs.Trees.{IsCycle, IsPath, also}
use Rattle.seq_model.specs.declared.job.Job.{Job}
use Rattle.seq_model.specs.declared.row.Row.{Row}
use Rattle.seq_model.specs.declared.tree.Choice.{Choice}
use Rattle.seq_model.specs.declared.tree.Choice.TheVariants as Choices
use Rattle.seq_model.specs.declared.tree.Contact.{Contact}
use Rattle.seq_model.specs.declared.tree.Dir.{Dir}
use Rattle.seq_model.specs.declared.tree.Mult.{Mult}
use Rattle.warm_rows.specs.Warming.{AddsPivots, ArePivots, IsRowStep, IsZeroPoint, Repairs, Warmth, row_of, rows_of}
use Rattle.warm_rows.specs.declared.step.Step.{Step}
use Rattle.warm_rows.specs.declared.step.Step.TheVariants as Steps
use Rattle.warm_rows.specs.declared.step.Warmed.{Warmed}
use Rattle.warm_rows.specs.declared.step.Warmed.TheVariants as Warmeds

-- ---- steps
pub rows_of-append : (steps more : List Step) → rows_of (steps ++ more) ≡ rows_of steps ++ rows_of more
rows_of-append [] more = refl
rows_of-append (s ∷ steps) more = ap (λ rows. row_of s ++ rows) (rows_of-append steps more) ∙ sym (append_assoc (row_of s) (rows_of steps) (rows_of more))

pub rows_of_rows : (rows : List Row) → rows_of (map Steps.Row rows) ≡ rows
rows_of_rows [] = refl
rows_of_rows (r ∷ rows) = ap (λ t. r ∷ t) (rows_of_rows rows)

pub are_rows : (rows : List Row) → All IsRowStep (map Steps.Row rows)
are_rows [] = All-nil IsRowStep
are_rows (r ∷ rows) = All-cons IsRowStep (Steps.Row r) (map Steps.Row rows) tt (are_rows rows)

pub rows_of_pivots : (steps : List Step) → ArePivots steps → rows_of steps ≡ []
rows_of_pivots [] all = refl
rows_of_pivots (Steps.Row r ∷ steps) all = absurd (all 0 (Steps.Row r) (omega arith))
rows_of_pivots (Steps.Pivot l e ∷ steps) all = rows_of_pivots steps (λ k d l. all (suc k) d (omega arith))

-- ---- rows of the choices
pub follows_within : (job : Job) (e : ℕ) (steps : List Step) (low : ℕ) (path : List Choice) (levels : List Level) → FollowsPath job e steps low path levels → low ≤ length steps
follows_within job e steps low path [] f = f.0
follows_within job e steps low path (l ∷ levels) f = let a = f.0 in let b = f.1 in omega (arith, a, b)

pub follows_rows : (job : Job) (e : ℕ) (steps : List Step) (low : ℕ) (path : List Choice) (levels : List Level) → FollowsPath job e steps low path levels → rows_of steps ≡ system job e (path ++ path_of levels)
follows_rows job e steps low path [] f = f.1 ∙ ap (system job e) (sym (append-nil path))
follows_rows job e steps low path (l ∷ levels) f = follows_rows job e steps l.before.steps (also path l.choice) levels f.3 ∙ ap (system job e) (append_assoc path (l.choice ∷ []) (path_of levels))

-- taken back
pub follows_left : (job : Job) (e : ℕ) (steps : List Step) (low : ℕ) (path : List Choice) (levels : List Level) (l : Level) → FollowsPath job e steps low path (levels ++ l ∷ [])
    → FollowsPath job e (take l.before.steps steps) low path levels
follows_left job e steps low path [] l f = (omega (arith, f.0, length-take-le l.before.steps steps f.1), f.2)
follows_left job e steps low path (m ∷ levels) l f =
    let more = follows_left job e steps m.before.steps (also path m.choice) levels l f.3 in
    let within = follows_within job e (take l.before.steps steps) m.before.steps (also path m.choice) levels more in
    let short : m.before.steps ≤ l.before.steps = shorter m.before.steps l.before.steps steps within in
    (f.0, within, ap rows_of (take-take m.before.steps l.before.steps steps short) ∙ f.2, more)
  where
    shorter : (m n : ℕ) (steps : List Step) → m ≤ length (take n steps) → m ≤ n
    shorter m n steps h = omega (arith, h, length-take n steps)

pub follows_last : (job : Job) (e : ℕ) (steps : List Step) (low : ℕ) (path : List Choice) (levels : List Level) (l : Level) → FollowsPath job e steps low path (levels ++ l ∷ [])
    → l.before.steps ≤ length steps
follows_last job e steps low path [] l f = f.1
follows_last job e steps low path (m ∷ levels) l f = follows_last job e steps m.before.steps (also path m.choice) levels l f.3

-- more steps
pub follows_on : (job : Job) (e : ℕ) (steps more : List Step) (low : ℕ) (path : List Choice) (levels : List Level) → FollowsPath job e steps low path levels → rows_of more ≡ []
    → FollowsPath job e (steps ++ more) low path levels
follows_on job e steps more low path [] f none =
    (omega (arith, f.0, length-append steps more), rows_of-append steps more ∙ ap (λ t. rows_of steps ++ t) none ∙ append-nil (rows_of steps) ∙ f.1)
follows_on job e steps more low path (l ∷ levels) f none =
    (f.0, omega (arith, f.1, length-append steps more), ap rows_of (take-append-le l.before.steps steps more f.1) ∙ f.2, follows_on job e steps more l.before.steps (also path l.choice) levels f.3 none)

-- entered
pub system-also : (job : Job) (e : ℕ) (path : List Choice) (c : Choice) → system job e (also path c) ≡ system job e path ++ side_rows job e (c ∷ [])
system-also job e path c = ap (λ t. bounds_of job e 0 job.objects ++ t) (side_rows-append job e path (c ∷ []))
    ∙ sym (append_assoc (bounds_of job e 0 job.objects) (side_rows job e path) (side_rows job e (c ∷ [])))

pub follows_more : (job : Job) (e : ℕ) (steps more : List Step) (low : ℕ) (path : List Choice) (levels : List Level) (l : Level) → FollowsPath job e steps low path levels
    → l.before.steps ≡ length steps → rows_of more ≡ side_rows job e (l.choice ∷ []) → FollowsPath job e (steps ++ more) low path (levels ++ l ∷ [])
follows_more job e steps more low path [] l f here new = (
  omega (arith, f.0, here),
  omega (arith, here, length-append steps more),
  ap rows_of (take_at steps more l.before.steps (sym here)) ∙ f.1,
  (omega (arith, here, length-append steps more), rows_of-append steps more ∙ ap (λ t. t ++ rows_of more) f.1 ∙ ap (λ t. system job e path ++ t) new ∙ sym (system-also job e path l.choice)),
)
follows_more job e steps more low path (m ∷ levels) l f here new =
    (f.0, omega (arith, f.1, length-append steps more), ap rows_of (take-append-le m.before.steps steps more f.1) ∙ f.2, follows_more job e steps more m.before.steps (also path m.choice) levels l f.3 here new)

-- ---- orders of the choices
pub orders_of-append : (path more : List Choice) → orders_of (path ++ more) ≡ orders_of path ++ orders_of more
orders_of-append [] more = refl
orders_of-append (Choices.Before i j ∷ path) more = ap (λ t. (i, j) ∷ t) (orders_of-append path more)
orders_of-append (Choices.Side c d ∷ path) more = orders_of-append path more

on_orders : (path : List Choice) (i j : ℕ) → In (i, j) (orders_of path) → In (Choices.Before i j) path
on_orders [] i j h = absurd h
on_orders (Choices.Side c d ∷ path) i j h = inr (on_orders path i j h)
on_orders (Choices.Before a b ∷ path) i j (inl e) = inl (ap (λ (o : ℕ × ℕ). Choices.Before o.0 o.1) e)
on_orders (Choices.Before a b ∷ path) i j (inr h) = inr (on_orders path i j h)

in_orders : (path : List Choice) (i j : ℕ) → In (Choices.Before i j) path → In (i, j) (orders_of path)
in_orders [] i j h = absurd h
in_orders (Choices.Side c d ∷ path) i j (inl e) = absurd (never e)
  where
    never : Choices.Before i j ≡ Choices.Side c d → ⊥
    never e = cc
in_orders (Choices.Side c d ∷ path) i j (inr h) = in_orders path i j h
in_orders (Choices.Before a b ∷ path) i j (inl e) = inl (same e)
  where
    pair : Choice → ℕ × ℕ
    pair (Choices.Before x y) = (x, y)
    pair (Choices.Side x y) = (0, 0)

    same : Choices.Before i j ≡ Choices.Before a b → ◌≡◌ {A = ℕ × ℕ} (i, j) (a, b)
    same e = ap pair e
in_orders (Choices.Before a b ∷ path) i j (inr h) = inr (in_orders path i j h)

pub order_on_path : (path : List Choice) (i j : ℕ) → Contains (orders_of path) (i, j) → OnPath path i j
order_on_path path i j c = Contains-from_in path (Choices.Before i j) (on_orders path i j (In-from_contains (orders_of path) (i, j) c))

pub path_in_orders : (path : List Choice) (i j : ℕ) → OnPath path i j → Contains (orders_of path) (i, j)
path_in_orders path i j c = Contains-from_in (orders_of path) (i, j) (in_orders path i j (In-from_contains path (Choices.Before i j) c))

-- ---- the trail
one : Choice → List Choice
one c = c ∷ []

parts : (levels : List Level) (l : Level) → path_of (levels ++ l ∷ []) ≡ path_of levels ++ one l.choice
unfolding one
parts levels l = map-append (λ (x : Level). x.choice) levels (l ∷ [])

pub held_parts : (job : Job) (t : Trail) (levels : List Level) (l : Level) → IsTrail job t → t.levels.items ≡ levels ++ l ∷ [] → t.graph.held ≡ orders_of (path_of levels) ++ orders_of (l.choice ∷ [])
unfolding one
held_parts job t levels l is e = is.held ∙ ap (λ ls. orders_of (path_of ls)) e ∙ ap orders_of (parts levels l) ∙ orders_of-append (path_of levels) (l.choice ∷ [])

pub held_some : (job : Job) (t : Trail) (levels : List Level) (l : Level) → IsTrail job t → t.levels.items ≡ levels ++ l ∷ [] → length (orders_of (l.choice ∷ [])) ≤ length t.graph.held
held_some job t levels l is e = omega (arith, ap length (held_parts job t levels l is e), length-append (orders_of (path_of levels)) (orders_of (l.choice ∷ [])))

pub last_within : (job : Job) (t : Trail) (levels : List Level) (l : Level) → IsTrail job t → t.levels.items ≡ levels ++ l ∷ [] → l.before.steps ≤ length t.warm.steps
last_within job t levels l is e = follows_last job t.extent t.warm.steps 0 [] levels l (subst (FollowsPath job t.extent t.warm.steps 0 []) e is.rows)

pub trail_left : (job : Job) (t u : Trail) (l : Level) → IsTrail job t → t.levels.items ≡ u.levels.items ++ l ∷ [] → u.extent ≡ t.extent → u.warm.vars ≡ t.warm.vars → u.warm.steps ≡ take l.before.steps t.warm.steps
    → u.graph.objects ≡ t.graph.objects → u.graph.held ≡ take (length t.graph.held - length (orders_of (l.choice ∷ []))) t.graph.held → u.orders ≡ length u.graph.held → IsTrail job u
trail_left job t u l is e extent vars steps objects held count = record {
  vars = vars ∙ is.vars;
  rows = subst (λ k. FollowsPath job k u.warm.steps 0 [] u.levels.items) (sym extent) (subst (λ s. FollowsPath job t.extent s 0 [] u.levels.items) (sym steps)
      (follows_left job t.extent t.warm.steps 0 [] u.levels.items l (subst (FollowsPath job t.extent t.warm.steps 0 []) e is.rows)));
  objects = objects ∙ is.objects;
  held = held ∙ front;
  among = subst (AreAmong (length job.objects)) (sym held) (All-take (IsAmong (length job.objects)) (length t.graph.held - length (orders_of (l.choice ∷ []))) t.graph.held is.among);
  count = count;
  few = omega (arith, count, ap length held, length-take (length t.graph.held - length (orders_of (l.choice ∷ []))) t.graph.held, is.few, is.count);
}
  where
    both : t.graph.held ≡ orders_of (path_of u.levels.items) ++ orders_of (l.choice ∷ [])
    both = held_parts job t u.levels.items l is e

    behind : (a b : List (ℕ × ℕ)) → take (length (a ++ b) - length b) (a ++ b) ≡ a
    behind a b = take_at a b (length (a ++ b) - length b) (omega (arith, length-append a b))

    front : take (length t.graph.held - length (orders_of (l.choice ∷ []))) t.graph.held ≡ orders_of (path_of u.levels.items)
    front = subst (λ h. take (length h - length (orders_of (l.choice ∷ []))) h ≡ orders_of (path_of u.levels.items)) (sym both) (behind (orders_of (path_of u.levels.items)) (orders_of (l.choice ∷ [])))

pub trail_more : (job : Job) (t u : Trail) (l : Level) (more : List Step) → IsTrail job t → u.levels.items ≡ t.levels.items ++ l ∷ [] → u.extent ≡ t.extent → u.warm.vars ≡ t.warm.vars
    → u.warm.steps ≡ t.warm.steps ++ more → rows_of more ≡ side_rows job t.extent (l.choice ∷ []) → l.before.steps ≡ length t.warm.steps
    → u.graph.objects ≡ t.graph.objects → u.graph.held ≡ t.graph.held ++ orders_of (l.choice ∷ []) → AreAmong (length job.objects) (orders_of (l.choice ∷ []))
    → u.orders ≡ length u.graph.held → u.orders ≤ 16 * length job.objects → IsTrail job u
unfolding one
trail_more job t u l more is e extent vars steps rows before objects held among count few = record {
  vars = vars ∙ is.vars;
  rows = subst (λ k. FollowsPath job k u.warm.steps 0 [] u.levels.items) (sym extent) (subst (λ s. FollowsPath job t.extent s 0 [] u.levels.items) (sym steps) (subst (FollowsPath job t.extent (t.warm.steps ++ more) 0 []) (sym e)
      (follows_more job t.extent t.warm.steps more 0 [] t.levels.items l is.rows before rows)));
  objects = objects ∙ is.objects;
  held = held ∙ ap (λ h. h ++ orders_of (l.choice ∷ [])) is.held ∙ sym (orders_of-append (path_of t.levels.items) (l.choice ∷ [])) ∙ ap orders_of (sym (parts t.levels.items l)) ∙ ap (λ ls. orders_of (path_of ls)) (sym e);
  among = subst (AreAmong (length job.objects)) (sym held) (All-append (IsAmong (length job.objects)) t.graph.held (orders_of (l.choice ∷ [])) is.among among);
  count = count;
  few = few;
}

pub taken : (path : List Choice) (k : ℕ) (c : Choice) → slice_get path k ≡ Some c → take (k + 1) path ≡ also (take k path) c
taken path k c there = take_more path k c (slice_get_within path k c there) ∙ ap (λ x. also (take k path) x) (get_or_from_slice_get path k c c there)

pub stands_more : (job : Job) (e k : ℕ) (path : List Choice) (t u : Trail) (l : Level) → IsTrailOf job e (take k path) t → IsTrail job u → u.extent ≡ t.extent → u.levels.items ≡ t.levels.items ++ l ∷ []
    → slice_get path k ≡ Some l.choice → IsTrailOf job e (take (k + 1) path) u
unfolding one
stands_more job e k path t u l at is extent levels there = record {
  trail = is;
  extent = extent ∙ at.extent;
  choices = ap path_of levels ∙ parts t.levels.items l ∙ ap (λ p. p ++ l.choice ∷ []) at.choices ∙ sym (taken path k l.choice there);
}

-- a repair
pub trail_repaired : (job : Job) (t u : Trail) → IsTrail job t → AddsPivots t.warm u.warm → u.levels.items ≡ t.levels.items → u.extent ≡ t.extent → u.graph ≡ t.graph → u.orders ≡ t.orders → IsTrail job u
trail_repaired job t u is on levels extent graph orders = record {
  vars = on.vars ∙ is.vars;
  rows = subst (λ k. FollowsPath job k u.warm.steps 0 [] u.levels.items) (sym extent) (subst (λ s. FollowsPath job t.extent s 0 [] u.levels.items) (sym on.steps) (subst (FollowsPath job t.extent (t.warm.steps ++ on.pivots) 0 []) (sym levels)
      (follows_on job t.extent t.warm.steps on.pivots 0 [] t.levels.items is.rows (rows_of_pivots on.pivots on.are))));
  objects = ap (λ (g : Graph). g.objects) graph ∙ is.objects;
  held = ap (λ (g : Graph). g.held) graph ∙ is.held ∙ ap (λ ls. orders_of (path_of ls)) (sym levels);
  among = subst (AreAmong (length job.objects)) (sym (ap (λ (g : Graph). g.held) graph)) is.among;
  count = orders ∙ is.count ∙ ap (λ (g : Graph). length g.held) (sym graph);
  few = omega (arith, orders, is.few);
}

pub stands_rows : (job : Job) (e : ℕ) (path : List Choice) (t : Trail) → IsTrailOf job e path t → rows_of t.warm.steps ≡ system job e path
stands_rows job e path t at = follows_rows job t.extent t.warm.steps 0 [] t.levels.items at.trail.rows ∙ ap (λ k. system job k (path_of t.levels.items)) at.extent ∙ ap (system job e) at.choices

-- ---- what a side adds
pub path_taken : (job : Job) (path : List Choice) (n : ℕ) → IsPath job path → IsPath job (take n path)
path_taken job path n is = λ earlier later c d e. is earlier (later ++ drop n path) c d (sym (take-append-drop n path) ∙ ap (λ p. p ++ drop n path) e ∙ append_assoc earlier (Choices.Side c d ∷ later) (drop n path))

pub side_there : (job : Job) (path : List Choice) (k : ℕ) (c : Contact) (d : Dir) → IsPath job path → slice_get path k ≡ Some (Choices.Side c d) → IsContact job c × Side (points_of job c) d
side_there job path k c d is there = side_at job path k (Choices.Side c d) is (slice_get_within path k (Choices.Side c d) there) (get_or_from_slice_get path k (Choices.Side c d) (Choices.Side c d) there)

last_of : {X : Type 0} (P : X → Type 0) (xs : List X) (x : X) → All P (xs ++ x ∷ []) → P x
last_of P xs x all = (All-pop P (xs ++ x ∷ []) xs (Some x) refl all).1

pub record IsAddable (row : Row) (n many : ℕ) : Type 0 where
  pub long : length row.a ≡ n
  pub small : IsSmallRow row
  pub count : n + many + 1 < 2 ^ 32

pub side_addable : (job : Job) (e k : ℕ) (path : List Choice) (c : Contact) (d : Dir) → IsPath job path → length path ≤ 1_000_000 → e ≤ job.printer.grid → slice_get path k ≡ Some (Choices.Side c d)
    → IsAddable (side_row job e c d) (2 * length job.objects) (length (system job e (take k path)))
side_addable job e k path c d is short high there = record {
  long = last_of (λ (row : Row). length row.a ≡ 2 * length job.objects) (system job e (take k path)) (side_row job e c d) (R.rows_of job e front rows same high valid);
  small = last_of IsSmallRow (system job e (take k path)) (side_row job e c d) (rows_small job e front rows same high valid);
  count = omega (arith, rows_few job e front rows same few, length-append (system job e (take k path)) (side_row job e c d ∷ []));
}
  where
    front : List Choice
    front = take (k + 1) path

    rows : List Row
    rows = system job e (take k path) ++ side_row job e c d ∷ []

    same : rows ≡ system job e front
    same = sym (ap (system job e) (taken path k (Choices.Side c d) there) ∙ system-also job e (take k path) (Choices.Side c d))

    valid : IsPath job front
    valid = path_taken job path (k + 1) is

    few : length front ≤ 1_000_000
    few = omega (arith, length-take (k + 1) path, short)

-- ---- the orders of the path
on_longer : (path : List Choice) (n a b : ℕ) → OnPath (take n path) a b → OnPath path a b
on_longer path n a b on = subst (λ p. OnPath p a b) (take-append-drop n path) (Contains-append_left (take n path) (drop n path) (Choices.Before a b) on)

pub trail_cycle : (job : Job) (e k : ℕ) (path : List Choice) (t : Trail) (i j : ℕ) (objects : List ℕ) → IsTrailOf job e (take k path) t → slice_get path k ≡ Some (Choices.Before i j) → IsAmong (length job.objects) (i, j)
    → ClosesCycle t.graph.held i j objects → IsCycle (OnPath path) objects
trail_cycle job e k path t i j objects at there among closes =
    closes_on_path path (length job.objects) i j t.graph.held objects held among (k, slice_get_within path k (Choices.Before i j) there, get_or_from_slice_get path k (Choices.Before i j) (Choices.Before i j) there) closes
  where
    on : (o : ℕ × ℕ) → Contains t.graph.held o → OnPath path o.0 o.1
    on o c = on_longer path k o.0 o.1 (subst (λ p. OnPath p o.0 o.1) at.choices (order_on_path (path_of t.levels.items) o.0 o.1 (subst (λ h. Contains h o) at.trail.held c)))

    held : All (IsOrderOf path (length job.objects)) t.graph.held
    held = λ m d l. (at.trail.among m d l, on (get_or t.graph.held m d) (Contains-get_or t.graph.held m d l))

pub trail_holds : (job : Job) (e : ℕ) (path : List Choice) (t : Trail) → IsTrailOf job e path t → HoldsOrders path (length job.objects) (length job.objects) 0 t.graph
trail_holds job e path t at = record {
  objects = at.trail.objects;
  few = omega (arith, at.trail.few, at.trail.count);
  only = λ m d l. (at.trail.among m d l, order_on_path path (get_or t.graph.held m d).0 (get_or t.graph.held m d).1 (subst (λ h. Contains h (get_or t.graph.held m d)) held (Contains-get_or t.graph.held m d l)));
  all = λ a b l m apart before on. subst (λ h. Contains h (a, b)) (sym held) (path_in_orders path a b on);
}
  where
    held : t.graph.held ≡ orders_of path
    held = at.trail.held ∙ ap orders_of at.choices

-- ---- what two paths share
pub shared_more : (levels : List Level) (path : List Choice) (k : ℕ) (l : Level) (c : Choice) → k < length levels → k < length path → (get_or levels k l).choice ≡ get_or path k c
    → path_of (take k levels) ≡ take k path → path_of (take (k + 1) levels) ≡ take (k + 1) path
unfolding one
shared_more levels path k l c here there same is =
    ap path_of (take_more levels k l here) ∙ parts (take k levels) (get_or levels k l) ∙ ap (λ p. p ++ (get_or levels k l).choice ∷ []) is ∙ ap (λ x. take k path ++ x ∷ []) same
    ∙ sym (take_more path k c there)

-- ---- a trail at its start
pub path_none : (job : Job) → IsPath job []
path_none job = λ earlier later c d e. absurd (omega (arith, ap length e, length-append earlier (Choices.Side c d ∷ later)))

pub rows_count : (steps : List Step) (rows : List Row) (k : ℕ) → steps ≡ map Steps.Row (take k rows) → length (rows_of steps) ≤ k
rows_count steps rows k e = omega (arith, ap length (ap rows_of e ∙ rows_of_rows (take k rows)), length-take k rows)

pub trail_new : (job : Job) (e : ℕ) (rows : List Row) (t : Trail) → HasOnlyRows t.warm (2 * length job.objects) rows → rows ≡ system job e [] → t.levels.items ≡ [] → t.extent ≡ e
    → t.graph ≡ record { objects = length job.objects; held = [] } → t.orders ≡ 0 → IsTrailOf job e [] t
trail_new job e rows t has same none extent graph orders = record {
  trail = record {
    vars = has.vars;
    rows = subst (FollowsPath job t.extent t.warm.steps 0 []) (sym none) (omega arith, ap rows_of has.steps ∙ rows_of_rows rows ∙ same ∙ ap (λ k. system job k []) (sym extent));
    objects = ap (λ (g : Graph). g.objects) graph;
    held = held ∙ ap (λ ls. orders_of (path_of ls)) (sym none);
    among = subst (AreAmong (length job.objects)) (sym held) (All-nil (IsAmong (length job.objects)));
    count = orders ∙ ap length (sym held);
    few = omega (arith, orders);
  };
  extent = extent;
  choices = ap path_of none;
}
  where
    held : t.graph.held ≡ []
    held = ap (λ (g : Graph). g.held) graph

-- ---- a choice entered
pub side_entered : (job : Job) (k : ℕ) (path : List Choice) (t u : Trail) (l : Level) (w : Warmth) (row : Row) → IsTrailOf job t.extent (take k path) t → slice_get path k ≡ Some l.choice
    → row ∷ [] ≡ side_rows job t.extent (l.choice ∷ []) → orders_of (l.choice ∷ []) ≡ [] → w.vars ≡ t.warm.vars → w.steps ≡ t.warm.steps ++ Steps.Row row ∷ [] → l.before.steps ≡ length t.warm.steps
    → u.extent ≡ t.extent → u.warm ≡ w → u.graph ≡ t.graph → u.orders ≡ t.orders → u.levels.items ≡ t.levels.items ++ l ∷ [] → IsTrailOf job t.extent (take (k + 1) path) u
side_entered job k path t u l w row at there adds none vars steps before extent warm graph orders levels = stands_more job t.extent k path t u l at is extent levels there
  where
    held : u.graph.held ≡ t.graph.held
    held = ap (λ (g : Graph). g.held) graph

    is : IsTrail job u
    is = trail_more job t u l (Steps.Row row ∷ []) at.trail levels extent (ap (λ (x : Warmth). x.vars) warm ∙ vars) (ap (λ (x : Warmth). x.steps) warm ∙ steps) adds before (ap (λ (g : Graph). g.objects) graph)
        (held ∙ sym (append-nil t.graph.held) ∙ ap (λ h. t.graph.held ++ h) (sym none)) (subst (AreAmong (length job.objects)) (sym none) (All-nil (IsAmong (length job.objects))))
        (orders ∙ at.trail.count ∙ ap length (sym held)) (omega (arith, orders, at.trail.few))

pub order_entered : (job : Job) (k : ℕ) (path : List Choice) (t u : Trail) (l : Level) (i j : ℕ) → IsTrailOf job t.extent (take k path) t → slice_get path k ≡ Some l.choice → l.choice ≡ Choices.Before i j
    → IsAmong (length job.objects) (i, j) → t.orders < 16 * length job.objects → l.before.steps ≡ length t.warm.steps → u.extent ≡ t.extent → u.warm ≡ t.warm
    → u.graph ≡ record t.graph { held = t.graph.held ++ (i, j) ∷ [] } → u.orders ≡ t.orders + 1 → u.levels.items ≡ t.levels.items ++ l ∷ [] → IsTrailOf job t.extent (take (k + 1) path) u
order_entered job k path t u l i j at there is_order among few before extent warm graph orders levels = stands_more job t.extent k path t u l at is extent levels there
  where
    held : u.graph.held ≡ t.graph.held ++ (i, j) ∷ []
    held = ap (λ (g : Graph). g.held) graph

    adds : orders_of (l.choice ∷ []) ≡ (i, j) ∷ []
    adds = ap (λ x. orders_of (x ∷ [])) is_order

    rows : [] ≡ side_rows job t.extent (l.choice ∷ [])
    rows = sym (ap (λ x. side_rows job t.extent (x ∷ [])) is_order)

    is : IsTrail job u
    is = trail_more job t u l [] at.trail levels extent (ap (λ (x : Warmth). x.vars) warm) (ap (λ (x : Warmth). x.steps) warm ∙ sym (append-nil t.warm.steps)) rows before (ap (λ (g : Graph). g.objects) graph)
        (held ∙ ap (λ h. t.graph.held ++ h) (sym adds)) (subst (AreAmong (length job.objects)) (sym adds) (All-cons (IsAmong (length job.objects)) (i, j) [] among (All-nil (IsAmong (length job.objects)))))
        (orders ∙ omega (arith, at.trail.count, ap length held, length-append t.graph.held ((i, j) ∷ []))) (omega (arith, orders, few))

-- ---- what a repair shows
pub repaired_is : (old new : Warmth) (n : ℕ) (rows : List Row) (warmed : Warmed) → old.vars ≡ n → rows_of old.steps ≡ rows → Repairs old new warmed → IsWarmed n rows warmed
repaired_is old new n rows (Warmeds.Point den list) vars same r = (subst (λ s. MeetsRows s den list.items) same r.0, r.1 ∙ vars, r.2, r.3)
repaired_is old new n rows (Warmeds.Contradiction list) vars same r = (
  subst (λ s. Contradiction s list.items) same r.0,
  subst (λ s. Rises (length s) (map (λ (m : Mult). m.row) list.items)) same r.1,
  r.2,
  r.4,
  subst (λ v. length list.items ≤ suc v) vars r.5,
  r.3,
)
repaired_is old new n rows Warmeds.Cold vars same r = tt

pub zero_repaired : {E : Type 0} (r : Result Warmed E) (old : Warmth) (n : ℕ) (rows : List Row) → old.vars ≡ n → rows_of old.steps ≡ rows
    → (MeetsRows (rows_of old.steps) (pos 1) (zeros old.vars) → IfOk r (IsZeroPoint old.vars)) → MeetsRows rows (pos 1) (zeros n) → IfOk r (IsZeroPoint n)
zero_repaired r old n rows vars same zero meets =
    subst (λ (v : ℕ). IfOk r (IsZeroPoint v)) vars (zero (subst (λ (v : ℕ). MeetsRows (rows_of old.steps) (pos 1) (zeros v)) (sym vars) (subst (λ (s : List Row). MeetsRows s (pos 1) (zeros n)) (sym same) meets)))
