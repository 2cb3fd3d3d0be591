-- The allowance of a path: what a search may still do below it.
--
--   same_contact c d          the two contacts are one
--   is_opened path c          a side of the contact is chosen on the path
--   unopened job path i j     how many contacts have i earlier and j later, and aren't opened on the path
--   pair_open path i j        1 where the pair is unordered on the path, else 0
--   pair_room job path i j    the contacts of a pair that may still be opened: of an unordered pair the greater of its two numbers of
--                             contacts, of an ordered one the contacts of its order that aren't opened
--   allowance job s path      2 ^ u * s ^ k for u unordered pairs, and k the sum of their room
--   Fair path                 no pair is ordered both ways
use Rattle.std.proofs.Common.{◌≡◌, ℕ, ◌+◌, ◌*◌, ◌^◌, ◌≤◌, Bool, true, false, cond, not, eqb, ◌&&◌, ◌||◌, List, [], ◌∷◌, length, max, refl, sym, ap, subst, ◌∙◌, arith}
use Rattle.std.specs.List.{sum_by, count_by, range_with_len}
use Rattle.search_laws.specs.Laws.Sums.{sum_le, sum_less, by_numbers}
use Rattle.plan_laws.specs.Laws.OnPath.{never}
use Rattle.plan_laws.specs.Looking.{is_before}
use Rattle.seq_model.specs.Budgets.{over_pairs, contact_count}
use Rattle.seq_model.specs.Contacts.{IsContact, zones_meet}
use Rattle.seq_model.specs.Jobs.{object_at, zone_at, part_at, no_zone, no_part}
use Rattle.seq_model.specs.Trees.{also}
use Rattle.seq_model.specs.declared.job.Job.{Job}
use Rattle.seq_model.specs.declared.tree.Choice.{Choice}
use Rattle.seq_model.specs.declared.tree.Choice.TheVariants as Choices
use Rattle.seq_model.specs.declared.tree.Contact.{Contact}
use Rattle.seq_model.specs.declared.tree.Dir.{Dir}

abbrev pub same_contact : Contact → Contact → Bool
same_contact c d = (eqb c.i d.i && eqb c.zi d.zi) && (eqb c.part d.part && (eqb c.zj d.zj && eqb c.j d.j))

abbrev pub is_opened : List Choice → Contact → Bool
is_opened [] c = false
is_opened (Choices.Before a b ∷ path) c = is_opened path c
is_opened (Choices.Side d dir ∷ path) c = same_contact d c || is_opened path c

-- a contact of the two objects that isn't opened: 1, else 0
pub still : Job → List Choice → Contact → ℕ
still job path c = cond (zones_meet (zone_at job c.i c.zi) (part_at job c.part) (zone_at job c.j c.zj) && not (is_opened path c)) 1 0

pub unopened : Job → List Choice → ℕ → ℕ → ℕ
unopened job path i j =
    sum_by (λ zi. sum_by (λ part. sum_by (λ zj. still job path (record { i = i; zi = zi; part = part; zj = zj; j = j }))
    (range_with_len 0 (length (object_at job j).zones))) (range_with_len 0 (length job.printer.parts))) (range_with_len 0 (length (object_at job i).zones))

abbrev pub pair_open : List Choice → ℕ → ℕ → ℕ
pair_open path i j = cond (is_before path i j || is_before path j i) 0 1

abbrev pub pair_room : Job → List Choice → ℕ → ℕ → ℕ
pair_room job path i j = cond (is_before path i j) (unopened job path i j) (cond (is_before path j i) (unopened job path j i) (max (contact_count job i j) (contact_count job j i)))

abbrev pub allowance : Job → ℕ → List Choice → ℕ
allowance job s path = 2 ^ over_pairs (pair_open path) (length job.objects) * s ^ over_pairs (pair_room job path) (length job.objects)

abbrev pub Fair : List Choice → Type 0
Fair path = (i j : ℕ) → is_before path i j ≡ true → is_before path j i ≡ true → ⊥

-- ---- what is on a path
-- one more choice at the end
or_none : (a : Bool) → (a || false) ≡ a
or_none true = refl
or_none false = refl

or_assoc : (a b c : Bool) → (a || (b || c)) ≡ ((a || b) || c)
or_assoc true b c = refl
or_assoc false b c = refl

pub before_also_order : (path : List Choice) (a b i j : ℕ) → is_before (also path (Choices.Before a b)) i j ≡ (is_before path i j || (eqb a i && eqb b j))
before_also_order [] a b i j = or_none (eqb a i && eqb b j)
before_also_order (Choices.Side d dir ∷ path) a b i j = before_also_order path a b i j
before_also_order (Choices.Before x y ∷ path) a b i j = ap (λ t. (eqb x i && eqb y j) || t) (before_also_order path a b i j) ∙ or_assoc (eqb x i && eqb y j) (is_before path i j) (eqb a i && eqb b j)

pub before_also_side : (path : List Choice) (d : Contact) (dir : Dir) (i j : ℕ) → is_before (also path (Choices.Side d dir)) i j ≡ is_before path i j
before_also_side [] d dir i j = refl
before_also_side (Choices.Side c o ∷ path) d dir i j = before_also_side path d dir i j
before_also_side (Choices.Before x y ∷ path) d dir i j = ap (λ t. (eqb x i && eqb y j) || t) (before_also_side path d dir i j)

pub opened_also_order : (path : List Choice) (a b : ℕ) (c : Contact) → is_opened (also path (Choices.Before a b)) c ≡ is_opened path c
opened_also_order [] a b c = refl
opened_also_order (Choices.Side d o ∷ path) a b c = ap (λ t. same_contact d c || t) (opened_also_order path a b c)
opened_also_order (Choices.Before x y ∷ path) a b c = opened_also_order path a b c

pub opened_also_side : (path : List Choice) (d : Contact) (dir : Dir) (c : Contact) → is_opened (also path (Choices.Side d dir)) c ≡ (is_opened path c || same_contact d c)
opened_also_side [] d dir c = or_none (same_contact d c)
opened_also_side (Choices.Side x o ∷ path) d dir c = ap (λ t. same_contact x c || t) (opened_also_side path d dir c) ∙ or_assoc (same_contact x c) (is_opened path c) (same_contact d c)
opened_also_side (Choices.Before x y ∷ path) d dir c = opened_also_side path d dir c

-- ---- what may still be opened

still_fewer : (job : Job) (path more : List Choice) (c : Contact) → (is_opened path c ≡ true → is_opened more c ≡ true) → still job more c ≤ still job path c
unfolding still
still_fewer job path more c h = by (zones_meet (zone_at job c.i c.zi) (part_at job c.part) (zone_at job c.j c.zj)) (is_opened path c) (is_opened more c) h
  where
    by : (m o p : Bool) → (o ≡ true → p ≡ true) → cond (m && not p) 1 0 ≤ cond (m && not o) 1 0
    by false o p h = omega arith
    by true false p h = at p
      where
        at : (q : Bool) → cond (not q) 1 0 ≤ 1
        at true = omega arith
        at false = omega arith
    by true true p h = subst (λ q. cond (not q) 1 0 ≤ 0) (sym (h refl)) (omega arith)

pub unopened_fewer : (job : Job) (path more : List Choice) (i j : ℕ) → ((c : Contact) → is_opened path c ≡ true → is_opened more c ≡ true) → unopened job more i j ≤ unopened job path i j
unfolding unopened
unopened_fewer job path more i j h =
    sum_le (λ zi. sum_by (λ part. sum_by (λ zj. still job more (record { i = i; zi = zi; part = part; zj = zj; j = j })) (range_with_len 0 (length (object_at job j).zones))) (range_with_len 0 (length job.printer.parts)))
    (λ zi. sum_by (λ part. sum_by (λ zj. still job path (record { i = i; zi = zi; part = part; zj = zj; j = j })) (range_with_len 0 (length (object_at job j).zones))) (range_with_len 0 (length job.printer.parts)))
    0 (length (object_at job i).zones)
    (λ zi l u. sum_le (λ part. sum_by (λ zj. still job more (record { i = i; zi = zi; part = part; zj = zj; j = j })) (range_with_len 0 (length (object_at job j).zones)))
    (λ part. sum_by (λ zj. still job path (record { i = i; zi = zi; part = part; zj = zj; j = j })) (range_with_len 0 (length (object_at job j).zones))) 0 (length job.printer.parts)
    (λ part l u. sum_le (λ zj. still job more (record { i = i; zi = zi; part = part; zj = zj; j = j })) (λ zj. still job path (record { i = i; zi = zi; part = part; zj = zj; j = j })) 0 (length (object_at job j).zones)
    (λ zj l u. still_fewer job path more (record { i = i; zi = zi; part = part; zj = zj; j = j }) (h (record { i = i; zi = zi; part = part; zj = zj; j = j })))))

-- one contact less
pub unopened_less : (job : Job) (path more : List Choice) (c : Contact) → ((d : Contact) → is_opened path d ≡ true → is_opened more d ≡ true) → IsContact job c
    → is_opened path c ≡ false → is_opened more c ≡ true → unopened job more c.i c.j + 1 ≤ unopened job path c.i c.j
unfolding unopened still
unopened_less job path more c h is closed now =
    sum_less (λ zi. sum_by (λ part. sum_by (λ zj. still job more (record { i = c.i; zi = zi; part = part; zj = zj; j = c.j })) (range_with_len 0 (length (object_at job c.j).zones))) (range_with_len 0 (length job.printer.parts)))
    (λ zi. sum_by (λ part. sum_by (λ zj. still job path (record { i = c.i; zi = zi; part = part; zj = zj; j = c.j })) (range_with_len 0 (length (object_at job c.j).zones))) (range_with_len 0 (length job.printer.parts)))
    0 (length (object_at job c.i).zones) c.zi
    (λ zi l u. sum_le (λ part. sum_by (λ zj. still job more (record { i = c.i; zi = zi; part = part; zj = zj; j = c.j })) (range_with_len 0 (length (object_at job c.j).zones)))
    (λ part. sum_by (λ zj. still job path (record { i = c.i; zi = zi; part = part; zj = zj; j = c.j })) (range_with_len 0 (length (object_at job c.j).zones))) 0 (length job.printer.parts)
    (λ part l u. zones_le zi part))
    (omega arith) (omega (arith, is.zi_in))
    (sum_less (λ part. sum_by (λ zj. still job more (record { i = c.i; zi = c.zi; part = part; zj = zj; j = c.j })) (range_with_len 0 (length (object_at job c.j).zones)))
    (λ part. sum_by (λ zj. still job path (record { i = c.i; zi = c.zi; part = part; zj = zj; j = c.j })) (range_with_len 0 (length (object_at job c.j).zones))) 0 (length job.printer.parts) c.part
    (λ part l u. zones_le c.zi part)
    (omega arith) (omega (arith, is.part_in))
    (sum_less (λ zj. still job more (record { i = c.i; zi = c.zi; part = c.part; zj = zj; j = c.j })) (λ zj. still job path (record { i = c.i; zi = c.zi; part = c.part; zj = zj; j = c.j })) 0 (length (object_at job c.j).zones) c.zj
    (λ zj l u. still_fewer job path more (record { i = c.i; zi = c.zi; part = c.part; zj = zj; j = c.j }) (h (record { i = c.i; zi = c.zi; part = c.part; zj = zj; j = c.j })))
    (omega arith) (omega (arith, is.zj_in)) one))
  where
    zones_le : (zi part : ℕ) → sum_by (λ zj. still job more (record { i = c.i; zi = zi; part = part; zj = zj; j = c.j })) (range_with_len 0 (length (object_at job c.j).zones)) ≤ sum_by (λ zj. still job path (record { i = c.i; zi = zi; part = part; zj = zj; j = c.j })) (range_with_len 0 (length (object_at job c.j).zones))
    zones_le zi part =
        sum_le (λ zj. still job more (record { i = c.i; zi = zi; part = part; zj = zj; j = c.j })) (λ zj. still job path (record { i = c.i; zi = zi; part = part; zj = zj; j = c.j })) 0 (length (object_at job c.j).zones)
        (λ zj l u. still_fewer job path more (record { i = c.i; zi = zi; part = part; zj = zj; j = c.j }) (h (record { i = c.i; zi = zi; part = part; zj = zj; j = c.j })))

    at : (m o p : Bool) → m ≡ true → o ≡ false → p ≡ true → cond (m && not p) 1 0 + 1 ≤ cond (m && not o) 1 0
    at true false true a b d = omega arith
    at true false false a b d = absurd (never false d refl)
    at true true p a b d = absurd (never true refl b)
    at false o p a b d = absurd (never false a refl)

    one : still job more c + 1 ≤ still job path c
    one = at (zones_meet (zone_at job c.i c.zi) (part_at job c.part) (zone_at job c.j c.zj)) (is_opened path c) (is_opened more c) is.meet closed now

-- all contacts, where none is opened
pub unopened_most : (job : Job) (path : List Choice) (i j : ℕ) → unopened job path i j ≤ contact_count job i j
unfolding unopened still
unopened_most job path i j =
    subst (λ t. unopened job path i j ≤ t) (sym (by_numbers (λ earlier. sum_by (λ part. count_by (zones_meet earlier part) (object_at job j).zones) job.printer.parts) no_zone (object_at job i).zones))
    (sum_le (λ zi. sum_by (λ part. sum_by (λ zj. still job path (record { i = i; zi = zi; part = part; zj = zj; j = j })) (range_with_len 0 (length (object_at job j).zones))) (range_with_len 0 (length job.printer.parts)))
    (λ zi. sum_by (λ part. count_by (zones_meet (zone_at job i zi) part) (object_at job j).zones) job.printer.parts) 0 (length (object_at job i).zones)
    (λ zi l u. subst (λ t. sum_by (λ part. sum_by (λ zj. still job path (record { i = i; zi = zi; part = part; zj = zj; j = j })) (range_with_len 0 (length (object_at job j).zones))) (range_with_len 0 (length job.printer.parts)) ≤ t)
    (sym (by_numbers (λ part. count_by (zones_meet (zone_at job i zi) part) (object_at job j).zones) no_part job.printer.parts))
    (sum_le (λ part. sum_by (λ zj. still job path (record { i = i; zi = zi; part = part; zj = zj; j = j })) (range_with_len 0 (length (object_at job j).zones)))
    (λ part. count_by (zones_meet (zone_at job i zi) (part_at job part)) (object_at job j).zones) 0 (length job.printer.parts)
    (λ part l u. subst (λ t. sum_by (λ zj. still job path (record { i = i; zi = zi; part = part; zj = zj; j = j })) (range_with_len 0 (length (object_at job j).zones)) ≤ t)
    (sym (by_numbers (λ z. cond (zones_meet (zone_at job i zi) (part_at job part) z) 1 0) no_zone (object_at job j).zones))
    (sum_le (λ zj. still job path (record { i = i; zi = zi; part = part; zj = zj; j = j })) (λ zj. cond (zones_meet (zone_at job i zi) (part_at job part) (zone_at job j zj)) 1 0) 0 (length (object_at job j).zones)
    (λ zj l u. few (zones_meet (zone_at job i zi) (part_at job part) (zone_at job j zj)) (is_opened path (record { i = i; zi = zi; part = part; zj = zj; j = j }))))))))
  where
    few : (m o : Bool) → cond (m && not o) 1 0 ≤ cond m 1 0
    few false o = omega arith
    few true true = omega arith
    few true false = omega arith
