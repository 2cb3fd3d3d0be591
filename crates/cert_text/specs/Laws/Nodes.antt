-- Node lines both ways: a line is read exactly where it is written.
--
--   line_takes      what is read is the text of the node, which the grammar spells
--   line_again      the text of a node that the grammar spells is read as this node
--   line_shorter    a line takes bytes
--   nodes_take, nodes_again   the same of the lines of some nodes
use Rattle.std.proofs.Common.{◌≡◌, ℕ, suc, ◌<◌, ◌≤◌, ◌^◌, ℤ, pos, negsuc, unsigned_abs, int_lt, ◌≤ℤ◌, ◌<ℤ◌, List, [], ◌∷◌, ◌++◌, length, map, take, get_or, Bool, true, false, cond, eqb, not, Option, Some, None, Result, Ok, Err, ◌⊎◌, inl, inr, All, codes, refl, sym, ap, ◌∙◌, subst, arith, append_assoc, length-append}
use Rattle.std.proofs.lemmas.Bool.Decides.{nat_tests}
use Rattle.std.proofs.lemmas.Int.{ints}
use Rattle.std.proofs.lemmas.List.Elements.{All-nil, All-cons, All-head, All-tail}
use Rattle.std.proofs.lemmas.Slice.Eq.{bytes_eq-Decides}
use Rattle.std.specs.List.{list_any}
use Rattle.std.specs.Str.{bytes_eq}
use Rattle.std.proofs.lemmas.Bool.{and_parts}
use Rattle.text_lines.specs.Reading.{literal_at}
use Rattle.text_lines.specs.Laws.Reading.{literal_takes, literal_again}
use Rattle.seq_model.specs.declared.tree.Mult.{Mult}
use Rattle.seq_model.specs.declared.tree.Node.{Node}
use Rattle.seq_model.specs.declared.tree.Node.TheVariants as Nodes
use Rattle.cert_text.specs.declared.lines.Form.{Form}
use Rattle.cert_text.specs.declared.lines.Form.TheVariants.{Order, Side, Cycle}
use Rattle.cert_text.specs.declared.lines.Stop.{Stop}
use Rattle.cert_text.specs.declared.lines.Stop.TheVariants.{Range, Big}
use Rattle.cert_text.specs.declared.pairs.Pair.{Pair}
use Rattle.cert_text.specs.Lines.{Read, room_of, are_enough, is_far, is_far_pair, is_big, number_or, node_of, form_at, bound_at, mult_of, unread, formed, bound, paired, named, formed_at, paired_at, line_at}
use Rattle.cert_text.specs.Nodes.{LinesRead}
use Rattle.cert_text.specs.TreeText.{numbers_text, pairs_text, pair_of, side_numbers, node_text, nodes_text, IsBoundLine, IsSpeltMult, IsSpelt}
use Rattle.cert_text.specs.Laws.Counts.{IsCount, count_is, count_small, all_counts, counted, again, all_small, none_below, none_far}
use Rattle.cert_text.specs.Laws.Forms.{TakesForm, form_takes, bound_dues}
use Rattle.cert_text.specs.Laws.Mults.{IsDue, IsFitting, all_fit}
use Rattle.cert_text.specs.Laws.Numbers.{CanBeSpelt, numbers_again, space_is}
use Rattle.cert_text.specs.Laws.Pairs as Pairs

-- ---- keywords
-- a text isn't there where the bytes begin with another letter
other_letter : (a b : ℕ) (text bytes : List ℕ) → eqb b a ≡ false → literal_at (a ∷ text) (b ∷ bytes) ≡ None
unfolding literal_at
other_letter a b text bytes e = by (bytes_eq (take (length (a ∷ text)) (b ∷ bytes)) (a ∷ text)) refl
  where
    by : (t : Bool) → bytes_eq (take (length (a ∷ text)) (b ∷ bytes)) (a ∷ text) ≡ t → literal_at (a ∷ text) (b ∷ bytes) ≡ None
    by false h = rw h refl
    by true h =
        let same : take (length (a ∷ text)) (b ∷ bytes) ≡ a ∷ text = (bytes_eq-Decides (take (length (a ∷ text)) (b ∷ bytes)) (a ∷ text)).0 h in
        let first : b ≡ a = ap (λ (l : List ℕ). get_or l 0 a) same in
        absurd (grind (arith, nat_tests, e, first))

-- what stood there, where something was read
named_ok : (o : Option (List ℕ)) (f : List ℕ → Read) (later : Read) (y : Node × List ℕ) → named o f later ≡ Ok y → ((rest : List ℕ) × (o ≡ Some rest) × (f rest ≡ Ok y)) ⊎ (later ≡ Ok y)
named_ok None f later y e = inr e
named_ok (Some rest) f later y e = inl (rest, refl, e)

-- ---- lines of single numbers
pub record TakesFormed (form : Form) (rest after : List ℕ) (n : Node) : Type 0 where
  pub numbers : List ℤ
  pub takes : TakesForm form rest after numbers
  pub counts : All IsCount numbers
  pub is : n ≡ node_of form numbers

formed_takes : (form : Form) (rest after : List ℕ) (n : Node) → formed_at form rest ≡ Ok (n, after) → TakesFormed form rest after n
unfolding formed_at
formed_takes form rest after n e = by (form_at form rest) refl e
  where
    far : (ns : List ℤ) (r : List ℕ) (b : Bool) → form_at form rest ≡ Some (ns, r) → list_any is_far ns ≡ b → cond {A = Read} b (Err Range) (Ok (node_of form ns, r)) ≡ Ok (n, after) → TakesFormed form rest after n
    far ns r true h k e = absurd cc
    far ns r false h k e =
        let both : (node_of form ns, r) ≡ (n, after) = cc in
        let t = form_takes form rest r ns h in
        subst (λ (p : Node × List ℕ). TakesFormed form rest p.1 p.0) both (record { numbers = ns; takes = t; counts = all_counts ns t.none_below k; is = refl })

    by : (o : Option (List ℤ × List ℕ)) → form_at form rest ≡ o → formed form rest o ≡ Ok (n, after) → TakesFormed form rest after n
    by None h e = absurd cc
    by (Some ns) h e = far ns.0 ns.1 (list_any is_far ns.0) h refl e

pub spelt_of : (ks : List ℕ) → All (λ k. k < 2 ^ 32) ks → All CanBeSpelt (map pos ks)
spelt_of [] all = All-nil CanBeSpelt
spelt_of (k ∷ ks) all =
    let low : k < 2 ^ 32 = All-head (λ (k : ℕ). k < 2 ^ 32) k ks all in
    All-cons CanBeSpelt (pos k) (map pos ks) (omega (arith, low)) (spelt_of ks (All-tail (λ (k : ℕ). k < 2 ^ 32) k ks all))

length-positions : (ks : List ℕ) → length (map pos ks) ≡ length ks
length-positions [] = refl
length-positions (k ∷ ks) = ap suc (length-positions ks)

form_again : (form : Form) (ks rest : List ℕ) → All (λ k. k < 2 ^ 32) ks → length ks ≤ room_of form → are_enough form (map pos ks) ≡ true → form_at form (numbers_text (codes " ") (map pos ks) ++ rest) ≡ Some (map pos ks, rest)
unfolding form_at
form_again form ks rest all few enough =
    let few' : length (map pos ks) ≤ room_of form = omega (arith, few, length-positions ks) in
    rw (numbers_again (codes " ") space_is (map pos ks) (room_of form) rest (spelt_of ks all) few', enough, none_below ks) refl

formed_again : (form : Form) (ks rest : List ℕ) → All (λ k. k < 2 ^ 32) ks → length ks ≤ room_of form → are_enough form (map pos ks) ≡ true → formed_at form (numbers_text (codes " ") (map pos ks) ++ rest) ≡ Ok (node_of form (map pos ks), rest)
unfolding formed_at
formed_again form ks rest all few enough = rw (form_again form ks rest all few enough) (rw (none_far ks all) refl)

-- ---- bound lines
pairs_of : (ps : List Pair) → All IsDue ps → map pair_of (map mult_of ps) ≡ ps
pairs_of [] all = refl
pairs_of (p ∷ ps) all =
    ap (λ (n : ℤ). record { row = n; times = p.times } ∷ map pair_of (map mult_of ps)) (count_is p.row (All-head IsDue p ps all).row)
    ∙ ap (λ l. p ∷ l) (pairs_of ps (All-tail IsDue p ps all))

mult_spelt : (p : Pair) → IsFitting p → IsSpeltMult (mult_of p)
mult_spelt p f = record { row = count_small p.row (record { low = f.row_low; high = f.row_high }); times = omega (arith, ints, f.times_high) }

mults_spelt : (ps : List Pair) → All IsFitting ps → All IsSpeltMult (map mult_of ps)
mults_spelt [] all = All-nil IsSpeltMult
mults_spelt (p ∷ ps) all = All-cons IsSpeltMult (mult_of p) (map mult_of ps) (mult_spelt p (All-head IsFitting p ps all)) (mults_spelt ps (All-tail IsFitting p ps all))

pub record TakesBound (rest after : List ℕ) (n : Node) : Type 0 where
  pub mults : List Mult
  pub is : n ≡ Nodes.Bound mults
  pub spelled : rest ≡ pairs_text (map pair_of mults) ++ after
  pub line : IsBoundLine (map pair_of mults)
  pub spelt : All IsSpeltMult mults

bound_of : (rest after : List ℕ) (ps : List Pair) → bound_at rest ≡ Some (ps, after) → list_any is_far_pair ps ≡ false → list_any is_big ps ≡ false → TakesBound rest after (Nodes.Bound (map mult_of ps))
bound_of rest after ps e far big =
    let t = Pairs.bound_takes rest after ps e in
    let d = bound_dues rest after ps e in
    let same = pairs_of ps d in
    record {
      mults = map mult_of ps;
      is = refl;
      spelled = t.spelled ∙ ap (λ l. pairs_text l ++ after) (sym same);
      line = subst IsBoundLine (sym same) t.is;
      spelt = mults_spelt ps (all_fit ps d far big);
    }

paired_takes : (rest after : List ℕ) (n : Node) → paired_at rest ≡ Ok (n, after) → TakesBound rest after n
unfolding paired_at
paired_takes rest after n e = by (bound_at rest) refl e
  where
    big : (ps : List Pair) (r : List ℕ) (f b : Bool) → bound_at rest ≡ Some (ps, r) → list_any is_far_pair ps ≡ f → list_any is_big ps ≡ b
        → bound (cond {A = Result (List Mult) Stop} f (Err Range) (cond {A = Result (List Mult) Stop} b (Err Big) (Ok (map mult_of ps)))) r ≡ Ok (n, after) → TakesBound rest after n
    big ps r true b h k l e = absurd cc
    big ps r false true h k l e = absurd cc
    big ps r false false h k l e =
        let both : (Nodes.Bound (map mult_of ps), r) ≡ (n, after) = cc in
        subst (λ (p : Node × List ℕ). TakesBound rest p.1 p.0) both (bound_of rest r ps h k l)

    by : (o : Option (List Pair × List ℕ)) → bound_at rest ≡ o → paired rest o ≡ Ok (n, after) → TakesBound rest after n
    by None h e = absurd cc
    by (Some ps) h e = big ps.0 ps.1 (list_any is_far_pair ps.0) (list_any is_big ps.0) h refl refl e

mults_again : (mults : List Mult) → map mult_of (map pair_of mults) ≡ mults
mults_again [] = refl
mults_again (m ∷ mults) = ap (λ l. m ∷ l) (mults_again mults)

none_far_pair : (mults : List Mult) → All IsSpeltMult mults → list_any is_far_pair (map pair_of mults) ≡ false
none_far_pair [] all = refl
none_far_pair (m ∷ mults) all =
    let low = (All-head IsSpeltMult m mults all).row in
    let h : is_far (pos m.row) ≡ false = grind (arith, nat_tests, ints, low) in
    rw (h, none_far_pair mults (All-tail IsSpeltMult m mults all)) refl

none_big : (mults : List Mult) → All IsSpeltMult mults → list_any is_big (map pair_of mults) ≡ false
none_big [] all = refl
none_big (m ∷ mults) all =
    let low = (All-head IsSpeltMult m mults all).times in
    let h : int_lt (pos 4_611_686_018_427_387_903) m.times ≡ false = grind (arith, nat_tests, ints, low) in
    rw (h, none_big mults (All-tail IsSpeltMult m mults all)) refl

pairs_spelt : (mults : List Mult) → All IsSpeltMult mults → All (λ p. pos 0 ≤ℤ p.times) (map pair_of mults) → All Pairs.IsSpelt (map pair_of mults)
pairs_spelt [] all low = All-nil Pairs.IsSpelt
pairs_spelt (m ∷ mults) all low =
    let s = All-head IsSpeltMult m mults all in
    let row = s.row in
    let times = size m.times (All-head (λ (p : Pair). pos 0 ≤ℤ p.times) (pair_of m) (map pair_of mults) low) s.times in
    All-cons Pairs.IsSpelt (pair_of m) (map pair_of mults) (record { row = omega (arith, row); times = times })
    (pairs_spelt mults (All-tail IsSpeltMult m mults all) (All-tail (λ (p : Pair). pos 0 ≤ℤ p.times) (pair_of m) (map pair_of mults) low))
  where
    size : (z : ℤ) → pos 0 ≤ℤ z → z <ℤ pos (2 ^ 62) → unsigned_abs z < 2 ^ 100
    size (pos k) l h = omega (arith, ints, h)
    size (negsuc k) l h = absurd (omega (arith, ints, l))

paired_again : (mults : List Mult) (rest : List ℕ) → IsBoundLine (map pair_of mults) → All IsSpeltMult mults → paired_at (pairs_text (map pair_of mults) ++ rest) ≡ Ok (Nodes.Bound mults, rest)
unfolding paired_at
paired_again mults rest line spelt =
    rw (Pairs.bound_again (map pair_of mults) rest (pairs_spelt mults spelt line.times) line) (rw (none_far_pair mults spelt, none_big mults spelt) (ap (λ (ms : List Mult). Ok (Nodes.Bound ms, rest)) (mults_again mults)))

-- ---- what is written and read behind a keyword
abbrev keyword : Form → List ℕ
keyword Order = codes "order"
keyword Side = codes "side"
keyword Cycle = codes "cycle"

record Written (form : Form) (ks : List ℕ) : Type 0 where
  text : keyword form ++ numbers_text (codes " ") (map pos ks) ≡ node_text (node_of form (map pos ks))
  spelt : IsSpelt (node_of form (map pos ks))

abbrev IsSmall : ℕ → Type 0
IsSmall k = k < 2 ^ 32

order_written : (ks : List ℕ) → are_enough Order (map pos ks) ≡ true → All IsSmall ks → Written Order ks
order_written [] e all = absurd cc
order_written (a ∷ []) e all = absurd cc
order_written (a ∷ b ∷ []) e all = record { text = refl; spelt = (All-head IsSmall a (b ∷ []) all, All-head IsSmall b [] (All-tail IsSmall a (b ∷ []) all)) }
order_written (a ∷ b ∷ c ∷ ks) e all = absurd (grind (arith, nat_tests, e))

side_written : (ks : List ℕ) → length ks ≡ 6 → are_enough Side (map pos ks) ≡ true → All IsSmall ks → Written Side ks
side_written [] h e all = absurd (omega (arith, h))
side_written (a ∷ []) h e all = absurd (omega (arith, h))
side_written (a ∷ b ∷ []) h e all = absurd (omega (arith, h))
side_written (a ∷ b ∷ c ∷ []) h e all = absurd (omega (arith, h))
side_written (a ∷ b ∷ c ∷ d ∷ []) h e all = absurd (omega (arith, h))
side_written (a ∷ b ∷ c ∷ d ∷ j ∷ []) h e all = absurd (omega (arith, h))
side_written (a ∷ b ∷ c ∷ d ∷ j ∷ k ∷ []) h e all =
    let some : int_lt (pos 0) (pos k) ≡ true = e in
    let t1 = All-tail IsSmall a (b ∷ c ∷ d ∷ j ∷ k ∷ []) all in
    let t2 = All-tail IsSmall b (c ∷ d ∷ j ∷ k ∷ []) t1 in
    let t3 = All-tail IsSmall c (d ∷ j ∷ k ∷ []) t2 in
    let t4 = All-tail IsSmall d (j ∷ k ∷ []) t3 in
    let t5 = All-tail IsSmall j (k ∷ []) t4 in
    record {
      text = refl;
      spelt = (
        record {
          i = All-head IsSmall a (b ∷ c ∷ d ∷ j ∷ k ∷ []) all;
          zi = All-head IsSmall b (c ∷ d ∷ j ∷ k ∷ []) t1;
          part = All-head IsSmall c (d ∷ j ∷ k ∷ []) t2;
          zj = All-head IsSmall d (j ∷ k ∷ []) t3;
          j = All-head IsSmall j (k ∷ []) t4;
        },
        grind (arith, nat_tests, ints, some),
        All-head IsSmall k [] t5,
      );
    }
side_written (a ∷ b ∷ c ∷ d ∷ j ∷ k ∷ l ∷ ks) h e all = absurd (omega (arith, h))

cycle_written : (ks : List ℕ) → length ks ≤ 16 → are_enough Cycle (map pos ks) ≡ true → All IsSmall ks → Written Cycle ks
cycle_written [] few e all = absurd cc
cycle_written (k ∷ ks) few e all =
    let same = again (k ∷ ks) in
    record {
      text = ap (λ l. codes "cycle" ++ numbers_text (codes " ") (map pos l)) (sym same);
      spelt = subst (λ l. IsSpelt (Nodes.Cycle l)) (sym same) (omega arith, few, all);
    }

side_length : (ks : List ℕ) → are_enough Side (map pos ks) ≡ true → length ks ≡ 6
side_length ks e =
    let b = and_parts (eqb (length (map pos ks)) 6) (int_lt (pos 0) (number_or (map pos ks) 5)) e in
    let h = b.0 in
    let n : length (map pos ks) ≡ 6 = grind (arith, nat_tests, h) in
    omega (arith, n, length-positions ks)

written : (form : Form) (ks : List ℕ) → length ks ≤ room_of form → are_enough form (map pos ks) ≡ true → All IsSmall ks → Written form ks
written Order ks few e all = order_written ks e all
written Side ks few e all = side_written ks (side_length ks e) e all
written Cycle ks few e all = cycle_written ks few e all

pub record TakesLine (bytes after : List ℕ) (n : Node) : Type 0 where
  pub spelled : bytes ≡ node_text n ++ after
  pub spelt : IsSpelt n

formed_line : (form : Form) (bytes rest after : List ℕ) (n : Node) → bytes ≡ keyword form ++ rest → formed_at form rest ≡ Ok (n, after) → TakesLine bytes after n
formed_line form bytes rest after n is e =
    let t = formed_takes form rest after n e in
    let ks = map unsigned_abs t.numbers in
    let same : map pos ks ≡ t.numbers = counted t.numbers t.counts in
    let few : length ks ≤ room_of form = omega (arith, t.takes.few, ap length same, length-positions ks) in
    let enough : are_enough form (map pos ks) ≡ true = ap (are_enough form) same ∙ t.takes.enough in
    let w = written form ks few enough (all_small t.numbers t.counts) in
    let n_is : n ≡ node_of form (map pos ks) = t.is ∙ ap (node_of form) (sym same) in
    let text : keyword form ++ numbers_text (codes " ") t.numbers ≡ node_text n = ap (λ l. keyword form ++ numbers_text (codes " ") l) (sym same) ∙ (w.text ∙ ap node_text (sym n_is)) in
    record {
      spelled = is ∙ (ap (λ l. keyword form ++ l) t.takes.spelled ∙ (sym (append_assoc (keyword form) (numbers_text (codes " ") t.numbers) after) ∙ ap (λ l. l ++ after) text));
      spelt = subst IsSpelt (sym n_is) w.spelt;
    }

paired_line : (bytes rest after : List ℕ) (n : Node) → bytes ≡ codes "bound" ++ rest → paired_at rest ≡ Ok (n, after) → TakesLine bytes after n
paired_line bytes rest after n is e =
    let t = paired_takes rest after n e in
    let all : TakesLine bytes after (Nodes.Bound t.mults) = record {
      spelled = is ∙ (ap (λ l. codes "bound" ++ l) t.spelled ∙ sym (append_assoc (codes "bound") (pairs_text (map pair_of t.mults)) after));
      spelt = (t.line, t.spelt);
    } in
    subst (TakesLine bytes after) (sym t.is) all

abbrev pending_read : List ℕ → Read
pending_read rest = Ok (Nodes.Pending, rest)

abbrev nothing : List ℕ → Read
nothing bytes = Err (unread bytes)

pending_line : (bytes rest after : List ℕ) (n : Node) → bytes ≡ codes "pending\n" ++ rest → pending_read rest ≡ Ok (n, after) → TakesLine bytes after n
pending_line bytes rest after n is e =
    let both : (Nodes.Pending, rest) ≡ (n, after) = cc in
    subst (λ (p : Node × List ℕ). TakesLine bytes p.1 p.0) both (record { spelled = is; spelt = tt })

abbrev Found : List ℕ → List ℕ → (List ℕ → Read) → Node × List ℕ → Type 0
Found word bytes f y = (rest : List ℕ) × (literal_at word bytes ≡ Some rest) × (f rest ≡ Ok y)

fifth : (bytes after : List ℕ) (n : Node) → (Found (codes "pending\n") bytes pending_read (n, after) ⊎ (nothing bytes ≡ Ok (n, after))) → TakesLine bytes after n
fifth bytes after n (inl f) = pending_line bytes f.0 after n (literal_takes (codes "pending\n") bytes f.0 f.1) f.2
fifth bytes after n (inr e) = absurd cc

fourth : (bytes after : List ℕ) (n : Node) (later : Read) → (later ≡ Ok (n, after) → TakesLine bytes after n) → (Found (codes "cycle") bytes (formed_at Cycle) (n, after) ⊎ (later ≡ Ok (n, after))) → TakesLine bytes after n
fourth bytes after n later next (inl f) = formed_line Cycle bytes f.0 after n (literal_takes (codes "cycle") bytes f.0 f.1) f.2
fourth bytes after n later next (inr e) = next e

third : (bytes after : List ℕ) (n : Node) (later : Read) → (later ≡ Ok (n, after) → TakesLine bytes after n) → (Found (codes "bound") bytes paired_at (n, after) ⊎ (later ≡ Ok (n, after))) → TakesLine bytes after n
third bytes after n later next (inl f) = paired_line bytes f.0 after n (literal_takes (codes "bound") bytes f.0 f.1) f.2
third bytes after n later next (inr e) = next e

second : (bytes after : List ℕ) (n : Node) (later : Read) → (later ≡ Ok (n, after) → TakesLine bytes after n) → (Found (codes "side") bytes (formed_at Side) (n, after) ⊎ (later ≡ Ok (n, after))) → TakesLine bytes after n
second bytes after n later next (inl f) = formed_line Side bytes f.0 after n (literal_takes (codes "side") bytes f.0 f.1) f.2
second bytes after n later next (inr e) = next e

first : (bytes after : List ℕ) (n : Node) (later : Read) → (later ≡ Ok (n, after) → TakesLine bytes after n) → (Found (codes "order") bytes (formed_at Order) (n, after) ⊎ (later ≡ Ok (n, after))) → TakesLine bytes after n
first bytes after n later next (inl f) = formed_line Order bytes f.0 after n (literal_takes (codes "order") bytes f.0 f.1) f.2
first bytes after n later next (inr e) = next e

pub line_takes : (bytes after : List ℕ) (n : Node) → line_at bytes ≡ Ok (n, after) → TakesLine bytes after n
unfolding line_at
line_takes bytes after n e =
    first bytes after n _ (λ e2. second bytes after n _ (λ e3. third bytes after n _ (λ e4. fourth bytes after n _ (λ e5. fifth bytes after n
    (named_ok (literal_at (codes "pending\n") bytes) pending_read (nothing bytes) (n, after) e5))
    (named_ok (literal_at (codes "cycle") bytes) (formed_at Cycle) _ (n, after) e4))
    (named_ok (literal_at (codes "bound") bytes) paired_at _ (n, after) e3))
    (named_ok (literal_at (codes "side") bytes) (formed_at Side) _ (n, after) e2))
    (named_ok (literal_at (codes "order") bytes) (formed_at Order) _ (n, after) e)

-- ---- a line that is written
order_again : (rest : List ℕ) → line_at (codes "order" ++ rest) ≡ formed_at Order rest
unfolding line_at
order_again rest = rw (literal_again (codes "order") rest) refl

side_again : (rest : List ℕ) → line_at (codes "side" ++ rest) ≡ formed_at Side rest
unfolding line_at
side_again rest = rw (other_letter 111 115 (codes "rder") (codes "ide" ++ rest) refl) (rw (literal_again (codes "side") rest) refl)

bound_again : (rest : List ℕ) → line_at (codes "bound" ++ rest) ≡ paired_at rest
unfolding line_at
bound_again rest =
    rw (other_letter 111 98 (codes "rder") (codes "ound" ++ rest) refl) (rw (other_letter 115 98 (codes "ide") (codes "ound" ++ rest) refl) (rw (literal_again (codes "bound") rest) refl))

cycle_again : (rest : List ℕ) → line_at (codes "cycle" ++ rest) ≡ formed_at Cycle rest
unfolding line_at
cycle_again rest =
    rw (other_letter 111 99 (codes "rder") (codes "ycle" ++ rest) refl) (rw (other_letter 115 99 (codes "ide") (codes "ycle" ++ rest) refl) (rw (other_letter 98 99 (codes "ound") (codes "ycle" ++ rest) refl)
    (rw (literal_again (codes "cycle") rest) refl)))

pending_again : (rest : List ℕ) → line_at (codes "pending\n" ++ rest) ≡ Ok (Nodes.Pending, rest)
unfolding line_at
pending_again rest =
    rw (other_letter 111 112 (codes "rder") (codes "ending\n" ++ rest) refl) (rw (other_letter 115 112 (codes "ide") (codes "ending\n" ++ rest) refl) (rw (other_letter 98 112 (codes "ound") (codes "ending\n" ++ rest) refl)
    (rw (other_letter 99 112 (codes "ycle") (codes "ending\n" ++ rest) refl) (rw (literal_again (codes "pending\n") rest) refl))))

small_pair : (a b : ℕ) → IsSmall a → IsSmall b → All IsSmall (a ∷ b ∷ [])
small_pair a b h k = All-cons IsSmall a (b ∷ []) h (All-cons IsSmall b [] k (All-nil IsSmall))

pub line_again : (n : Node) (rest : List ℕ) → IsSpelt n → line_at (node_text n ++ rest) ≡ Ok (n, rest)
line_again (Nodes.Order i j) rest s =
    ap line_at (append_assoc (codes "order") (numbers_text (codes " ") (pos i ∷ pos j ∷ [])) rest)
    ∙ (order_again (numbers_text (codes " ") (pos i ∷ pos j ∷ []) ++ rest) ∙ formed_again Order (i ∷ j ∷ []) rest (small_pair i j s.0 s.1) (omega arith) refl)
line_again (Nodes.Side c k) rest s =
    let all = All-cons IsSmall c.i (c.zi ∷ c.part ∷ c.zj ∷ c.j ∷ k ∷ []) s.0.i (All-cons IsSmall c.zi (c.part ∷ c.zj ∷ c.j ∷ k ∷ []) s.0.zi
    (All-cons IsSmall c.part (c.zj ∷ c.j ∷ k ∷ []) s.0.part (All-cons IsSmall c.zj (c.j ∷ k ∷ []) s.0.zj (small_pair c.j k s.0.j s.2)))) in
    let more = s.1 in
    let some : int_lt (pos 0) (pos k) ≡ true = grind (arith, nat_tests, ints, more) in
    ap line_at (append_assoc (codes "side") (numbers_text (codes " ") (side_numbers c k)) rest)
    ∙ (side_again (numbers_text (codes " ") (side_numbers c k) ++ rest) ∙ formed_again Side (c.i ∷ c.zi ∷ c.part ∷ c.zj ∷ c.j ∷ k ∷ []) rest all (omega arith) some)
line_again (Nodes.Bound mults) rest s =
    ap line_at (append_assoc (codes "bound") (pairs_text (map pair_of mults)) rest) ∙ (bound_again (pairs_text (map pair_of mults) ++ rest) ∙ paired_again mults rest s.0 s.1)
line_again (Nodes.Cycle objects) rest s =
    let some = s.0 in
    let zero : eqb (length (map pos objects)) 0 ≡ false = (let l = length-positions objects in grind (arith, nat_tests, some, l)) in
    ap line_at (append_assoc (codes "cycle") (numbers_text (codes " ") (map pos objects)) rest)
    ∙ (cycle_again (numbers_text (codes " ") (map pos objects) ++ rest) ∙ (formed_again Cycle objects rest s.2 s.1 (ap not zero) ∙ ap (λ (l : List ℕ). Ok (Nodes.Cycle l, rest)) (again objects)))
line_again Nodes.Pending rest s = pending_again rest

-- ---- a line takes bytes
some_text : (n : Node) → 1 ≤ length (node_text n)
some_text (Nodes.Order i j) = omega (arith, length-append (codes "order") (numbers_text (codes " ") (pos i ∷ pos j ∷ [])))
some_text (Nodes.Side c k) = omega (arith, length-append (codes "side") (numbers_text (codes " ") (side_numbers c k)))
some_text (Nodes.Bound mults) = omega (arith, length-append (codes "bound") (pairs_text (map pair_of mults)))
some_text (Nodes.Cycle objects) = omega (arith, length-append (codes "cycle") (numbers_text (codes " ") (map pos objects)))
some_text Nodes.Pending = omega arith

pub line_shorter : (bytes after : List ℕ) (n : Node) → line_at bytes ≡ Ok (n, after) → length after < length bytes
line_shorter bytes after n e = omega (arith, ap length (line_takes bytes after n e).spelled, length-append (node_text n) after, some_text n)

-- ---- the lines of some nodes
pub nodes_take : (nodes : List Node) (bytes rest : List ℕ) → LinesRead line_at bytes nodes rest → (bytes ≡ nodes_text nodes ++ rest) × All IsSpelt nodes
nodes_take [] bytes rest l = (l, All-nil IsSpelt)
nodes_take (n ∷ nodes) bytes rest l =
    let t = line_takes bytes l.0 n l.1 in
    let m = nodes_take nodes l.0 rest l.2 in
    (t.spelled ∙ (ap (λ r. node_text n ++ r) m.0 ∙ sym (append_assoc (node_text n) (nodes_text nodes) rest)), All-cons IsSpelt n nodes t.spelt m.1)

pub nodes_again : (nodes : List Node) (rest : List ℕ) → All IsSpelt nodes → LinesRead line_at (nodes_text nodes ++ rest) nodes rest
nodes_again [] rest all = refl
nodes_again (n ∷ nodes) rest all = (
  nodes_text nodes ++ rest,
  ap line_at (append_assoc (node_text n) (nodes_text nodes) rest) ∙ line_again n (nodes_text nodes ++ rest) (All-head IsSpelt n nodes all),
  nodes_again nodes rest (All-tail IsSpelt n nodes all),
)
