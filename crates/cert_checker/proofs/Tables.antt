-- Choices with their rows, and ranges of them.
use Rattle.std.proofs.Common.{◌≡◌, ◌≢◌, All, ℕ, zero, suc, ◌+◌, ◌-◌, ◌≤◌, ◌<◌, List, [], ◌∷◌, ◌++◌, length, get_or, take, drop, map, Bool, true, false, ltb, refl, sym, ap, subst, ◌∙◌, arith, length-append, append_assoc}
use Rattle.std.proofs.Math.Path.{subst₂}
use Rattle.std.proofs.lemmas.Bool.Decides.{nat_tests}
use Rattle.std.proofs.lemmas.List.{take_more, take_all, map-append, length-map, get_or_append_left, get_or_default, take-append-le}
use Rattle.std.specs.List.{AllZip}
use Rattle.difference_polygon.specs.declared.rows.SideRow.{SideRow}
use Rattle.model_laws.specs.Laws.OneList.{one_list_of_sides}
use Rattle.seq_model.specs.Contacts.{points_of}
use Rattle.seq_model.specs.Sides.{AreSides}
use Rattle.seq_model.specs.declared.job.Job.{Job}
use Rattle.seq_model.specs.declared.tree.Choice.{Choice}
use Rattle.seq_model.specs.declared.tree.Choice.TheVariants as Choices
use Rattle.seq_model.specs.declared.tree.Contact.{Contact}
use Rattle.seq_model.specs.declared.tree.Dir.{Dir}
use Rattle.seq_model.specs.declared.tree.Node.{Node}
use Rattle.seq_model.specs.declared.tree.Node.TheVariants as Nodes
use Rattle.std.specs.BTreeMap.{insert_entry}
use Rattle.std.specs.List.{IsAmong}
use Rattle.std.proofs.Common.{Ordering, Less, Equal, Greater}
use Rattle.std.specs.Ordering.{match_ordering}
use Rattle.std.proofs.lemmas.List.Elements.{All-head, All-tail, All-cons, All-weaker}
use Rattle.cert_checker.specs.declared.kept.Met.{Met}
use Rattle.cert_checker.specs.Kept.{AreChoices, AreMet, AreRanges, Extends, HasRange, HasSidesAt, HasRowsBeside, IsStuck, no_range, node_at, range_of}
use Rattle.cert_checker.specs.Rules.{HasAsManySides}
use Rattle.cert_checker.specs.Trails.{IsRowFor}
use Rattle.cert_checker.specs.declared.kept.Range.{Range}

pub zip_push : {A B : Type 0} (R : A → B → Type 0) (xs : List A) (ys : List B) (x : A) (y : B) → AllZip R xs ys → R x y → AllZip R (xs ++ x ∷ []) (ys ++ y ∷ [])
zip_push R [] [] x y h r = (r, tt)
zip_push R [] (b ∷ ys) x y h r = absurd h
zip_push R (a ∷ xs) [] x y h r = absurd h
zip_push R (a ∷ xs) (b ∷ ys) x y h r = (h.0, zip_push R xs ys x y h.1 r)

pub zip_at : {A B : Type 0} (R : A → B → Type 0) (xs : List A) (ys : List B) (k : ℕ) (x : A) (y : B) → AllZip R xs ys → k < length xs → x ≡ get_or xs k x → y ≡ get_or ys k y → R x y
zip_at R [] ys k x y h l e f = absurd (omega (arith, l))
zip_at R (a ∷ xs) [] k x y h l e f = absurd h
zip_at R (a ∷ xs) (b ∷ ys) zero x y h l e f = subst₂ R (sym e) (sym f) h.0
zip_at R (a ∷ xs) (b ∷ ys) (suc k) x y h l e f = zip_at R xs ys k x y h.1 (omega arith) e f

pub zip_long : {A B : Type 0} (R : A → B → Type 0) (xs : List A) (ys : List B) → AllZip R xs ys → length ys ≡ length xs
zip_long R [] [] h = refl
zip_long R [] (b ∷ ys) h = absurd h
zip_long R (a ∷ xs) [] h = absurd h
zip_long R (a ∷ xs) (b ∷ ys) h = ap suc (zip_long R xs ys h.1)

pub beside_push : (job : Job) (choices more : List Choice) (rows left : List SideRow) (choice : Choice) (row : SideRow) → more ≡ choices ++ choice ∷ [] → left ≡ rows ++ row ∷ [] → HasRowsBeside job choices rows
    → IsRowFor job choice row → HasRowsBeside job more left
beside_push job choices more rows left choice row e f h is = subst₂ (HasRowsBeside job) (sym e) (sym f) (zip_push (IsRowFor job) choices rows choice row h is)

-- ---- the sides of a contact, one after the other
pub sides_more : (contact : Contact) (dirs : List Dir) (i : ℕ) (dir d : Dir) (old mid now : List Choice) → i < length dirs → mid ≡ old ++ map (Choices.Side contact) (take i dirs) → dir ≡ get_or dirs i d
    → now ≡ mid ++ Choices.Side contact dir ∷ [] → now ≡ old ++ map (Choices.Side contact) (take (i + 1) dirs)
sides_more contact dirs i dir d old mid now within before is last =
    let f : Dir → Choice = λ d. Choices.Side contact d in
    let more : map f (take i dirs) ++ f dir ∷ [] ≡ map f (take (i + 1) dirs) = sym (ap (map f) (take_more dirs i d within) ∙ (map-append f (take i dirs) (get_or dirs i d ∷ []) ∙ ap (λ e. map f (take i dirs) ++ f e ∷ []) (sym is))) in
    last ∙ (ap (λ l. l ++ f dir ∷ []) before ∙ (append_assoc old (map f (take i dirs)) (f dir ∷ []) ∙ ap (λ l. old ++ l) more))

pub sides_all : (contact : Contact) (dirs : List Dir) (i : ℕ) (old now : List Choice) → length dirs ≤ i → now ≡ old ++ map (Choices.Side contact) (take i dirs) → now ≡ old ++ map (Choices.Side contact) dirs
sides_all contact dirs i old now over e = e ∙ ap (λ l. old ++ map (λ d. Choices.Side contact d) l) (take_all i dirs over)

-- ---- ranges
drop_front : (old more : List Choice) → drop (length old) (old ++ more) ≡ more
drop_front [] more = refl
drop_front (c ∷ old) more = drop_front old more

pub last_range : (old more now : List Choice) (from to : ℕ) → now ≡ old ++ more → from ≡ length old → to ≡ length now → range_of now from to ≡ more
last_range old more now from to e f t =
    let n = ap length e ∙ length-append old more in
    ap (λ l. take (to - from) (drop from l)) e ∙ (ap (λ k. take (to - from) (drop k (old ++ more))) f ∙ (ap (take (to - from)) (drop_front old more) ∙ take_all (to - from) more (omega (arith, n, f, t))))

pub side_range_is : (job : Job) (contact : Contact) (children : ℕ) (dirs : List Dir) (old now : List Choice) (from to : ℕ) → AreSides (points_of job contact) dirs → length dirs ≡ children
    → now ≡ old ++ map (Choices.Side contact) dirs → from ≡ length old → to ≡ length now → HasRange job now (Nodes.Side contact children) (record { from = from; to = to })
side_range_is job contact children dirs old now from to sides many e f t =
    let n = ap length e ∙ length-append old (map (λ d. Choices.Side contact d) dirs) in
    record { rising = omega (arith, n, f, t); within = omega (arith, t); choices_are = (dirs, sides, sym many, last_range old (map (λ d. Choices.Side contact d) dirs) now from to e f t) }

pub stuck_by : (job : Job) (contact : Contact) (children : ℕ) (dirs : List Dir) → AreSides (points_of job contact) dirs → length dirs ≢ children → HasAsManySides job contact children → ⊥
stuck_by job contact children dirs sides other h = other (ap length (one_list_of_sides (points_of job contact) dirs h.0 sides h.1) ∙ sym h.2)

range_same : (xs more : List Choice) (from to : ℕ) → from ≤ to → to ≤ length xs → range_of (xs ++ more) from to ≡ range_of xs from to
range_same xs more zero to h l =
    let z : to - 0 ≡ to = omega arith in
    ap (λ n. take n (xs ++ more)) z ∙ (take-append-le to xs more l ∙ ap (λ n. take n xs) (sym z))
range_same [] more (suc from) to h l = absurd (omega (arith, h, l))
range_same (x ∷ xs) more (suc from) zero h l = absurd (omega (arith, h))
range_same (x ∷ xs) more (suc from) (suc to) h l =
    let z : suc to - suc from ≡ to - from = omega arith in
    ap (λ n. take n (drop from (xs ++ more))) z ∙ (range_same xs more from to (omega (arith, h)) (omega (arith, l)) ∙ ap (λ n. take n (drop from xs)) (sym z))

pub has_range_grown : (job : Job) (xs ys more : List Choice) (node : Node) (range : Range) → ys ≡ xs ++ more → HasRange job xs node range → HasRange job ys node range
has_range_grown job xs ys more node range e h =
    let n = ap length e ∙ length-append xs more in
    record {
      rising = h.rising;
      within = omega (arith, n, h.within);
      choices_are = subst (AreChoices job node) (sym (ap (λ l. range_of l range.from range.to) e ∙ range_same xs more range.from range.to h.rising h.within)) h.choices_are;
    }

-- the ranges of the first nodes
pub record Ranging (job : Job) (choices : List Choice) (nodes : List Node) (i : ℕ) (ranges : List Range) : Type 0 where
  pub many : length ranges ≡ i
  pub each : (k : ℕ) → k < length ranges → HasRange job choices (node_at nodes k) (get_or ranges k no_range)

pub no_ranges : (job : Job) (choices : List Choice) (nodes : List Node) (ranges : List Range) → ranges ≡ [] → Ranging job choices nodes 0 ranges
no_ranges job choices nodes ranges e = record { many = ap length e; each = λ k h. absurd (omega (arith, h, ap length e)) }

pub ranges_more : (job : Job) (choices now more : List Choice) (nodes : List Node) (i : ℕ) (node : Node) (range : Range) (ranges left : List Range) → i < length nodes → node ≡ get_or nodes i node
    → now ≡ choices ++ more → Ranging job choices nodes i ranges → HasRange job now node range → left ≡ ranges ++ range ∷ [] → Ranging job now nodes (i + 1) left
ranges_more job choices now more nodes i node range ranges left within is grown r has e =
    record { many = omega (arith, n, r.many); each = λ k h. by k (ltb k i) refl (omega (arith, h, n, r.many)) }
  where
    n : length left ≡ length ranges + 1
    n = ap length e ∙ length-append ranges (range ∷ [])

    at_last : (l : List Range) → get_or (l ++ range ∷ []) (length l) no_range ≡ range
    at_last [] = refl
    at_last (x ∷ l) = at_last l

    by : (k : ℕ) (b : Bool) → ltb k i ≡ b → k < i + 1 → HasRange job now (node_at nodes k) (get_or left k no_range)
    by k true t h =
        let inside : k < i = grind (arith, nat_tests, t) in
        subst (HasRange job now (node_at nodes k)) (sym (ap (λ l. get_or l k no_range) e ∙ get_or_append_left ranges (range ∷ []) no_range k (omega (arith, inside, r.many))))
        (has_range_grown job choices now more (node_at nodes k) (get_or ranges k no_range) grown (r.each k (omega (arith, inside, r.many))))
    by k false t h =
        let outside : i ≤ k = grind (arith, nat_tests, t) in
        let here : k ≡ i = omega (arith, outside, h) in
        let last : get_or left k no_range ≡ range = ap (λ l. get_or l k no_range) e ∙ (ap (λ j. get_or (ranges ++ range ∷ []) j no_range) (here ∙ sym r.many) ∙ at_last ranges) in
        let node_is : node_at nodes k ≡ node = ap (node_at nodes) here ∙ (get_or_default nodes i Nodes.Pending node within ∙ sym is) in
        subst₂ (HasRange job now) (sym node_is) (sym last) has

pub ranges_stop : (job : Job) (choices now more : List Choice) (nodes : List Node) (i : ℕ) (node : Node) (ranges : List Range) → i < length nodes → node ≡ get_or nodes i node
    → now ≡ choices ++ more → Ranging job choices nodes i ranges → IsStuck job node → AreRanges job now nodes ranges
ranges_stop job choices now more nodes i node ranges within is grown r stuck = record {
  few = omega (arith, within, r.many);
  each = λ k h. has_range_grown job choices now more (node_at nodes k) (get_or ranges k no_range) grown (r.each k h);
  rest = λ h. subst (IsStuck job) (is ∙ (get_or_default nodes i node Nodes.Pending within ∙ ap (node_at nodes) (sym r.many))) stuck;
}

pub ranges_all : (job : Job) (choices : List Choice) (nodes : List Node) (i : ℕ) (ranges : List Range) → length nodes ≤ i → i ≤ length nodes → Ranging job choices nodes i ranges → AreRanges job choices nodes ranges
ranges_all job choices nodes i ranges over within r = record { few = omega (arith, within, r.many); each = r.each; rest = λ h. absurd (omega (arith, h, over, r.many)) }

-- ---- contacts that were met
insert_all : {K X : Type 0} (cmp : K → K → Ordering) (Q : X → Type 0) (es : List (K × X)) (k : K) (v : X) → All Q (map (λ (e : K × X). e.1) es) → Q v → All Q (map (λ (e : K × X). e.1) (insert_entry cmp es k v))
insert_all cmp Q [] k v all is = All-cons Q v [] is all
insert_all {K} {X} cmp Q (e ∷ es) k v all is = by (cmp k e.0) (insert_all cmp Q es k v rest is)
  where
    rest : All Q (map (λ (f : K × X). f.1) es)
    rest = All-tail Q e.1 (map (λ (f : K × X). f.1) es) all

    by : (o : Ordering) → All Q (map (λ (f : K × X). f.1) (insert_entry cmp es k v)) → All Q (map (λ (f : K × X). f.1) (match_ordering o ((k, v) ∷ e ∷ es) ((e.0, v) ∷ es) (e ∷ insert_entry cmp es k v)))
    by Less more = All-cons Q v (map (λ (f : K × X). f.1) (e ∷ es)) is all
    by Equal more = All-cons Q v (map (λ (f : K × X). f.1) es) is rest
    by Greater more = All-cons Q e.1 (map (λ (f : K × X). f.1) (insert_entry cmp es k v)) (All-head Q e.1 (map (λ (f : K × X). f.1) es) all) more

pub none_met : (job : Job) (choices : List Choice) (entries : List (Contact × Met)) → entries ≡ [] → AreMet job choices (map (λ (e : Contact × Met). e.1) entries)
none_met job choices entries none k d h = absurd (omega (arith, h, ap (λ l. length (map (λ (e : Contact × Met). e.1) l)) none))

pub remembered : {K X : Type 0} (cmp : K → K → Ordering) (Q : X → Type 0) (es now : List (K × X)) (k : K) (v : X) → now ≡ insert_entry cmp es k v → All Q (map (λ (e : K × X). e.1) es) → Q v → All Q (map (λ (e : K × X). e.1) now)
remembered {K} {X} cmp Q es now k v e all is = subst (λ l. All Q (map (λ (f : K × X). f.1) l)) (sym e) (insert_all cmp Q es k v all is)

pub met_among : (job : Job) (choices : List Choice) (met : List Met) (found : Met) (contact : Contact) → IsAmong met found → found.contact ≡ contact → AreMet job choices met → HasSidesAt job choices contact found.range
met_among job choices met found contact among same all =
    subst (λ c. HasSidesAt job choices c found.range) same (subst (λ (m : Met). HasSidesAt job choices m.contact m.range) (sym among.1.1) (all among.0 found among.1.0))

pub met_grown : (job : Job) (xs ys : List Choice) (met : List Met) → Extends xs ys → AreMet job xs met → AreMet job ys met
met_grown job xs ys met grown all = All-weaker (λ (m : Met). HasSidesAt job xs m.contact m.range) (λ (m : Met). HasSidesAt job ys m.contact m.range)
    (λ m h. has_range_grown job xs ys grown.0 (Nodes.Side m.contact (m.range.to - m.range.from)) m.range grown.1 h) met all

pub new_sides_at : (job : Job) (contact : Contact) (dirs : List Dir) (old now : List Choice) (from to : ℕ) → AreSides (points_of job contact) dirs → now ≡ old ++ map (Choices.Side contact) dirs → from ≡ length old → to ≡ length now
    → HasSidesAt job now contact (record { from = from; to = to })
new_sides_at job contact dirs old now from to sides e f t =
    let n = ap length e ∙ length-append old (map (λ d. Choices.Side contact d) dirs) in
    side_range_is job contact (to - from) dirs old now from to sides (omega (arith, n, f, t, length-map dirs (λ d. Choices.Side contact d))) e f t

-- the contact has other sides than there are children
pub other_children : (job : Job) (choices : List Choice) (contact : Contact) (children : ℕ) (range : Range) → HasSidesAt job choices contact range → range.to - range.from ≢ children → HasAsManySides job contact children → ⊥
other_children job choices contact children range h other = stuck_by job contact children h.choices_are.0 h.choices_are.1 (λ e. other (h.choices_are.2 ∙ e))

pub side_range_by : (job : Job) (choices : List Choice) (contact : Contact) (children : ℕ) (range : Range) → HasSidesAt job choices contact range → range.to - range.from ≡ children → HasRange job choices (Nodes.Side contact children) range
side_range_by job choices contact children range h e = subst (λ n. HasRange job choices (Nodes.Side contact n) range) e h
