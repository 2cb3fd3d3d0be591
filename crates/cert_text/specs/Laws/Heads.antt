-- The head of a block both ways, and the whole of it.
--
--   IsFittingWide w more   the numbers of a wide line fit the types of a note
--   note_takes, note_again     a wide line
--   head_takes, head_again     the head
--   tree_read, tree_all, tree_refuses   the block
use Rattle.std.proofs.Common.{◌≡◌, ◌≢◌, ℕ, ◌<◌, ◌≤◌, ◌^◌, ℤ, pos, negsuc, unsigned_abs, int_lt, ◌≤ℤ◌, ◌<ℤ◌, List, [], ◌∷◌, ◌++◌, length, map, Bool, true, false, cond, ◌&&◌, ◌||◌, Option, Some, None, Result, Ok, Err, IfOk, IfErr, inl, inr, All, codes, refl, sym, ap, ◌∙◌, subst, arith, append_assoc, append-nil, length-append}
use Rattle.std.proofs.lemmas.Bool.Decides.{nat_tests}
use Rattle.std.proofs.lemmas.Int.{ints}
use Rattle.std.proofs.lemmas.List.Elements.{All-nil, All-cons, All-head, All-tail}
use Rattle.std.specs.List.{list_any}
use Rattle.std.proofs.lemmas.Bool.{and_parts}
use Rattle.seq_model.specs.declared.tree.Node.{Node}
use Rattle.seq_model.specs.declared.tree.Tree.{Tree}
use Rattle.cert_text.specs.declared.block.Head.{Head}
use Rattle.cert_text.specs.declared.block.Kind.{Kind}
use Rattle.cert_text.specs.declared.block.Kind.TheVariants.{Certificate, OpenBudget, OpenWide}
use Rattle.cert_text.specs.Nodes.{AreTree, IsRefusedAt, LinesRead}
use Rattle.cert_text.specs.Laws.Counting.{one_tree, refused_or_read, one_refusal}
use Rattle.cert_text.specs.Laws.Nodes.{spelt_of, nodes_take, nodes_again}
use Rattle.text_lines.specs.Lines.{number_line, number_line_at}
use Rattle.text_lines.specs.Laws.Lines.{number_line_takes, number_line_again}
use Rattle.cert_text.specs.declared.heads.Wide.{Wide}
use Rattle.cert_text.specs.Lines.{is_far, number_at, numbers_at, line_at}
use Rattle.cert_text.specs.TreeText.{number_text, numbers_text, basis_text, note_text, wide_text, head_text, nodes_text, first_line, extent_word, AreRising, HasNote, IsSpeltNote, IsSpeltHead, IsTreeText}
use Rattle.seq_num.specs.Spelling.{spelling}
use Rattle.text_lines.specs.Reading.{literal_at, whole_at, digit_count}
use Rattle.cert_text.specs.Laws.Numbers.{CanBeSpelt, IsSeparator, comma_is, starts_plain, number_takes, number_again, numbers_takes, numbers_again}
use Rattle.seq_model.specs.declared.tree.WideNote.{WideNote}
use Rattle.cert_text.specs.declared.block.CertRead.{CertRead}
use Rattle.cert_text.specs.declared.block.CertRead.TheVariants as answers
use Rattle.seq_model.specs.declared.what.What.TheVariants as what
use Rattle.cert_text.specs.Heads.{rising, is_due, wide_start_at, wide_at, is_wide_far, note_of, noted, note_at, with_note, headed, extended, begun, head_at, IsRefusedTree, before, refused}
use Rattle.cert_text.specs.Laws.Counts.{IsCount, neither, count_is, count_small, counted, all_small, again, none_far}
use Rattle.seq_num.specs.Laws.Spelling.{guard_some}
use Rattle.text_lines.specs.Laws.Reading.{step_some, literal_takes, literal_again, whole_takes, whole_again}

pub record IsFittingWide (w : Wide) (more : List ℤ) : Type 0 where
  pub node_low : pos 0 ≤ℤ w.node
  pub node_high : w.node ≤ℤ pos 4_611_686_018_427_387_903
  pub row : IsCount w.row
  pub first : IsCount w.first
  pub others : All IsCount more

-- numbers that rise from above one that is -1 or more
pub low_counts : (low : ℤ) (ns : List ℤ) → negsuc 0 ≤ℤ low → rising low ns ≡ true → list_any is_far ns ≡ false → All IsCount ns
low_counts low [] h r f = All-nil IsCount
low_counts low (n ∷ ns) h r f =
    let b = and_parts (int_lt low n) (rising n ns) r in
    let far = neither (is_far n) (list_any is_far ns) f in
    let up = b.0 in
    let down = far.0 in
    let above : low <ℤ n = grind (arith, nat_tests, ints, up) in
    All-cons IsCount n ns (record { low = omega (arith, ints, h, above); high = grind (arith, nat_tests, ints, down) }) (low_counts n ns (omega (arith, ints, h, above)) b.1 far.1)

chain_parts : (a b c : Bool) → (a && b && c) ≡ true → (a ≡ true) × (b ≡ true) × (c ≡ true)
chain_parts true true c e = (refl, refl, e)
chain_parts true false c e = absurd cc
chain_parts false b c e = absurd cc

none_three : (a b c : Bool) → (a || b || c) ≡ false → (a ≡ false) × (b ≡ false) × (c ≡ false)
none_three false false c e = (refl, refl, e)
none_three false true c e = absurd cc
none_three true b c e = absurd cc

record TakesStart (bytes rest : List ℕ) (w : Wide) : Type 0 where
  spelled : bytes ≡ codes "wide " ++ (spelling w.node ++ (number_text (codes " ") w.row ++ (number_text (codes " ") w.first ++ rest)))

start_takes : (bytes rest : List ℕ) (w : Wide) → wide_start_at bytes ≡ Some (w, rest) → TakesStart bytes rest w
unfolding wide_start_at
start_takes bytes rest w e =
    let a = step_some (literal_at (codes "wide ") bytes) _ (w, rest) e in
    let node = step_some (whole_at a.0) _ (w, rest) a.2 in
    let row = step_some (number_at (codes " ") node.0.1) _ (w, rest) node.2 in
    let first = step_some (number_at (codes " ") row.0.1) _ (w, rest) row.2 in
    let v : Wide = record { node = node.0.0; row = row.0.0; first = first.0.0 } in
    let end : (v, first.0.1) ≡ (w, rest) = cc (first.2) in
    let tn = whole_takes a.0 node.0.1 node.0.0 node.1 in
    let tr = number_takes (codes " ") node.0.1 row.0.1 row.0.0 row.1 in
    let tf = number_takes (codes " ") row.0.1 first.0.1 first.0.0 first.1 in
    let back : node.0.1 ≡ number_text (codes " ") row.0.0 ++ (number_text (codes " ") first.0.0 ++ first.0.1) = tr.spelled ∙ ap (λ l. number_text (codes " ") row.0.0 ++ l) tf.spelled in
    let all : TakesStart bytes first.0.1 v = record { spelled = literal_takes (codes "wide ") bytes a.0 a.1 ∙ ap (λ l. codes "wide " ++ l) (tn.spelled ∙ ap (λ l. spelling node.0.0 ++ l) back) } in
    subst (λ (t : Wide × List ℕ). TakesStart bytes t.1 t.0) end all

record TakesWide (bytes rest : List ℕ) (w : Wide) (more : List ℤ) : Type 0 where
  spelled : bytes ≡ codes "wide " ++ (spelling w.node ++ (number_text (codes " ") w.row ++ (number_text (codes " ") w.first ++ (numbers_text (codes ",") more ++ rest))))
  due : is_due w more ≡ true

wide_takes : (bytes rest : List ℕ) (w : Wide) (more : List ℤ) → wide_at bytes ≡ Some ((w, more), rest) → TakesWide bytes rest w more
unfolding wide_at
wide_takes bytes rest w more e =
    let a = step_some (wide_start_at bytes) _ ((w, more), rest) e in
    let m = step_some (numbers_at (codes ",") (length a.0.1) a.0.1) _ ((w, more), rest) a.2 in
    let g = guard_some (is_due a.0.0 m.0.0) ((a.0.0, m.0.0), m.0.1) ((w, more), rest) m.2 in
    let t = start_takes bytes a.0.1 a.0.0 a.1 in
    let n = numbers_takes (codes ",") (length a.0.1) a.0.1 m.0.1 m.0.0 m.1 in
    let all : TakesWide bytes m.0.1 a.0.0 m.0.0 = record {
      spelled = t.spelled ∙ ap (λ l. codes "wide " ++ (spelling a.0.0.node ++ (number_text (codes " ") a.0.0.row ++ (number_text (codes " ") a.0.0.first ++ l)))) n.spelled;
      due = g.0;
    } in
    subst (λ (t : (Wide × List ℤ) × List ℕ). TakesWide bytes t.1 t.0.0 t.0.1) g.1 all

fits_of : (w : Wide) (more : List ℤ) → is_due w more ≡ true → is_wide_far w more ≡ false → IsFittingWide w more
fits_of w more d f =
    let due = chain_parts (int_lt (negsuc 0) w.node) (int_lt (negsuc 0) w.row) (rising (negsuc 0) (w.first ∷ more)) d in
    let far = none_three (int_lt (pos 4_611_686_018_427_387_903) w.node) (is_far w.row) (list_any is_far (w.first ∷ more)) f in
    let all = low_counts (negsuc 0) (w.first ∷ more) (omega (arith, ints)) due.2 far.2 in
    let n = due.0 in
    let fn = far.0 in
    let r = due.1 in
    let fr = far.1 in
    record {
      node_low = grind (arith, nat_tests, ints, n);
      node_high = grind (arith, nat_tests, ints, fn);
      row = record { low = grind (arith, nat_tests, ints, r); high = grind (arith, nat_tests, ints, fr) };
      first = All-head IsCount w.first more all;
      others = All-tail IsCount w.first more all;
    }

pub wide_fits : (bytes rest : List ℕ) (w : Wide) (more : List ℤ) → wide_at bytes ≡ Some ((w, more), rest) → is_wide_far w more ≡ false → IsFittingWide w more
wide_fits bytes rest w more e f = fits_of w more (wide_takes bytes rest w more e).due f

rising_is : (low : ℤ) (ns : List ℤ) → rising low ns ≡ true → AreRising low ns
rising_is low [] e = tt
rising_is low (n ∷ ns) e =
    let b = and_parts (int_lt low n) (rising n ns) e in
    let up = b.0 in
    (grind (arith, nat_tests, ints, up), rising_is n ns b.1)

is_rising : (low : ℤ) (ns : List ℤ) → AreRising low ns → rising low ns ≡ true
is_rising low [] h = refl
is_rising low (n ∷ ns) h =
    let up = h.0 in
    let a : int_lt low n ≡ true = grind (arith, nat_tests, ints, up) in
    rw (a, is_rising n ns h.1) refl

-- ---- a wide line
pub record TakesNote (bytes rest : List ℕ) (note : WideNote) : Type 0 where
  pub spelled : bytes ≡ note_text note ++ rest
  pub spelt : IsSpeltNote note

-- the text of a note, and what follows, regrouped
regrouped : (w : Wide) (more : List ℤ) (rest : List ℕ)
    → (codes "wide " ++ (spelling w.node ++ (codes " " ++ (spelling w.row ++ (codes " " ++ basis_text (w.first ∷ more)))))) ++ rest
    ≡ codes "wide " ++ (spelling w.node ++ (number_text (codes " ") w.row ++ (number_text (codes " ") w.first ++ (numbers_text (codes ",") more ++ rest))))
regrouped w more rest = simp append_assoc

note_of_takes : (bytes rest : List ℕ) (w : Wide) (more : List ℤ) → wide_at bytes ≡ Some ((w, more), rest) → is_wide_far w more ≡ false → TakesNote bytes rest (note_of w more)
note_of_takes bytes rest w more e f =
    let t = wide_takes bytes rest w more e in
    let fits = fits_of w more t.due f in
    let due = chain_parts (int_lt (negsuc 0) w.node) (int_lt (negsuc 0) w.row) (rising (negsuc 0) (w.first ∷ more)) t.due in
    let all = All-cons IsCount w.first more fits.first fits.others in
    let basis : map pos (map unsigned_abs (w.first ∷ more)) ≡ w.first ∷ more = counted (w.first ∷ more) all in
    let node = count_is w.node fits.node_low in
    let row = count_is w.row fits.row.low in
    let text : note_text (note_of w more) ≡ codes "wide " ++ (spelling w.node ++ (codes " " ++ (spelling w.row ++ (codes " " ++ basis_text (w.first ∷ more))))) =
    ap (λ n. codes "wide " ++ (spelling n ++ (codes " " ++ (spelling (pos (unsigned_abs w.row)) ++ (codes " " ++ basis_text (map pos (map unsigned_abs (w.first ∷ more)))))))) node
    ∙ (ap (λ n. codes "wide " ++ (spelling w.node ++ (codes " " ++ (spelling n ++ (codes " " ++ basis_text (map pos (map unsigned_abs (w.first ∷ more)))))))) row
    ∙ ap (λ l. codes "wide " ++ (spelling w.node ++ (codes " " ++ (spelling w.row ++ (codes " " ++ basis_text l))))) basis) in
    record {
      spelled = t.spelled ∙ sym (ap (λ l. l ++ rest) text ∙ regrouped w more rest);
      spelt = record {
        node = small w.node fits.node_low fits.node_high;
        row = count_small w.row fits.row;
        some = omega arith;
        rising = subst (AreRising (negsuc 0)) (sym basis) (rising_is (negsuc 0) (w.first ∷ more) due.2);
        basis = all_small (w.first ∷ more) all;
      };
    }
  where
    small : (z : ℤ) → pos 0 ≤ℤ z → z ≤ℤ pos 4_611_686_018_427_387_903 → unsigned_abs z < 2 ^ 62
    small (pos k) l h = omega (arith, ints, h)
    small (negsuc k) l h = absurd (omega (arith, ints, l))

note_takes : (bytes rest : List ℕ) (note : WideNote) → note_at bytes ≡ Ok (note, rest) → TakesNote bytes rest note
unfolding note_at
note_takes bytes rest note e = by (wide_at bytes) refl e
  where
    far : (r : (Wide × List ℤ) × List ℕ) (b : Bool) → wide_at bytes ≡ Some r → is_wide_far r.0.0 r.0.1 ≡ b → cond {A = Result (WideNote × List ℕ) CertRead} b (Err (answers.Line 3 what.Range)) (Ok (note_of r.0.0 r.0.1, r.1)) ≡ Ok (note, rest) → TakesNote bytes rest note
    far r true h k e = absurd cc
    far r false h k e =
        let both : (note_of r.0.0 r.0.1, r.1) ≡ (note, rest) = cc in
        subst (λ (p : WideNote × List ℕ). TakesNote bytes p.1 p.0) both (note_of_takes bytes r.1 r.0.0 r.0.1 h k)

    by : (o : Option ((Wide × List ℤ) × List ℕ)) → wide_at bytes ≡ o → noted bytes o ≡ Ok (note, rest) → TakesNote bytes rest note
    by None h e = absurd cc
    by (Some r) h e = far r (is_wide_far r.0.0 r.0.1) h refl e

-- ---- a note that is written
many_numbers : (sep : List ℕ) → IsSeparator sep → (ns : List ℤ) → length ns ≤ length (numbers_text sep ns)
many_numbers sep is [] = omega arith
many_numbers sep is (n ∷ ns) =
    omega (arith, is.some, many_numbers sep is ns, length-append (number_text sep n) (numbers_text sep ns), length-append sep (spelling n))

start_again : (w : Wide) (rest : List ℕ) → CanBeSpelt w.node → CanBeSpelt w.row → CanBeSpelt w.first → digit_count rest ≡ 0
    → wide_start_at (codes "wide " ++ (spelling w.node ++ (number_text (codes " ") w.row ++ (number_text (codes " ") w.first ++ rest)))) ≡ Some (w, rest)
unfolding wide_start_at
start_again w rest n r f ended =
    rw (
      literal_again (codes "wide ") (spelling w.node ++ (number_text (codes " ") w.row ++ (number_text (codes " ") w.first ++ rest))),
      whole_again w.node (number_text (codes " ") w.row ++ (number_text (codes " ") w.first ++ rest)) n refl,
      number_again (codes " ") w.row (number_text (codes " ") w.first ++ rest) r refl,
      number_again (codes " ") w.first rest f ended,
    ) refl

wide_again : (w : Wide) (more : List ℤ) (rest : List ℕ) → CanBeSpelt w.node → CanBeSpelt w.row → CanBeSpelt w.first → All CanBeSpelt more → is_due w more ≡ true
    → wide_at (codes "wide " ++ (spelling w.node ++ (number_text (codes " ") w.row ++ (number_text (codes " ") w.first ++ (numbers_text (codes ",") more ++ rest))))) ≡ Some ((w, more), rest)
unfolding wide_at
wide_again w more rest n r f all due =
    let few : length more ≤ length (numbers_text (codes ",") more ++ rest) = omega (arith, many_numbers (codes ",") comma_is more, length-append (numbers_text (codes ",") more) rest) in
    rw (
      start_again w (numbers_text (codes ",") more ++ rest) n r f (starts_plain (codes ",") comma_is more rest),
      numbers_again (codes ",") comma_is more (length (numbers_text (codes ",") more ++ rest)) rest all few,
      due,
    ) refl

note_of_again : (node row first : ℕ) (bs rest : List ℕ) → node < 2 ^ 62 → row < 2 ^ 32 → AreRising (negsuc 0) (map pos (first ∷ bs)) → All (λ k. k < 2 ^ 32) (first ∷ bs)
    → note_at (note_text (record { node = node; basis = first ∷ bs; row = row }) ++ rest) ≡ Ok (record { node = node; basis = first ∷ bs; row = row }, rest)
unfolding note_at
note_of_again node row first bs rest n r up all =
    let w : Wide = record { node = pos node; row = pos row; first = pos first } in
    let spelt = spelt_of (first ∷ bs) all in
    let a : int_lt (negsuc 0) (pos node) ≡ true = grind (arith, nat_tests, ints) in
    let b : int_lt (negsuc 0) (pos row) ≡ true = grind (arith, nat_tests, ints) in
    let due : is_due w (map pos bs) ≡ true = rw (a, b) (is_rising (negsuc 0) (map pos (first ∷ bs)) up) in
    let fn : int_lt (pos 4_611_686_018_427_387_903) (pos node) ≡ false = grind (arith, nat_tests, ints, n) in
    let fr : is_far (pos row) ≡ false = grind (arith, nat_tests, ints, r) in
    let far : is_wide_far w (map pos bs) ≡ false = rw (fn, fr) (none_far (first ∷ bs) all) in
    let read = wide_again w (map pos bs) rest (omega (arith, n)) (omega (arith, r)) (All-head CanBeSpelt (pos first) (map pos bs) spelt) (All-tail CanBeSpelt (pos first) (map pos bs) spelt) due in
    rw (regrouped w (map pos bs) rest) (rw read (rw far (ap (λ (l : List ℕ). Ok (record { node = node; basis = first ∷ l; row = row }, rest)) (again bs))))

note_again : (node row : ℕ) (basis rest : List ℕ) → IsSpeltNote (record { node = node; basis = basis; row = row }) → note_at (note_text (record { node = node; basis = basis; row = row }) ++ rest) ≡ Ok (record { node = node; basis = basis; row = row }, rest)
note_again node row [] rest s = absurd (omega (arith, s.some))
note_again node row (first ∷ bs) rest s = note_of_again node row first bs rest s.node s.row s.rising s.basis

-- ---- the head
pub record TakesHead (kind : Kind) (bytes rest : List ℕ) (h : Head) : Type 0 where
  pub spelled : bytes ≡ head_text h ++ rest
  pub kind_is : h.kind ≡ kind
  pub spelt : IsSpeltHead h

parts : (f w s e n r : List ℕ) → (f ++ (w ++ (s ++ (e ++ n)))) ++ r ≡ f ++ ((w ++ (s ++ e)) ++ (n ++ r))
parts f w s e n r = simp append_assoc

-- what stands before the wide line
abbrev start_text : Kind → ℕ → List ℕ → List ℕ
start_text kind extent rest = first_line kind ++ (number_line (extent_word kind) (pos extent) ++ rest)

without_note : (kind : Kind) (bytes after : List ℕ) (extent : ℕ) → bytes ≡ start_text kind extent after → 1 ≤ extent → extent ≤ 1_000 → HasNote kind None → TakesHead kind bytes after (record { kind = kind; extent = extent; wide = None })
without_note kind bytes after extent is low high has = record {
  spelled = is ∙ sym (parts (first_line kind) (extent_word kind) (spelling (pos extent)) (codes "\n") [] after);
  kind_is = refl;
  spelt = record { extent_low = low; extent_high = high; wide = has };
}

with_one : (bytes after rest : List ℕ) (extent : ℕ) (note : WideNote) → bytes ≡ start_text OpenWide extent after → 1 ≤ extent → extent ≤ 1_000 → TakesNote after rest note
    → TakesHead OpenWide bytes rest (record { kind = OpenWide; extent = extent; wide = Some note })
with_one bytes after rest extent note is low high t = record {
  spelled = is ∙ (ap (start_text OpenWide extent) t.spelled ∙ sym (parts (first_line OpenWide) (extent_word OpenWide) (spelling (pos extent)) (codes "\n") (note_text note) rest));
  kind_is = refl;
  spelt = record { extent_low = low; extent_high = high; wide = t.spelt };
}

headed_takes : (kind : Kind) (bytes after rest : List ℕ) (extent : ℕ) (h : Head) → bytes ≡ start_text kind extent after → 1 ≤ extent → extent ≤ 1_000 → headed kind extent after ≡ Ok (h, rest) → TakesHead kind bytes rest h
headed_takes Certificate bytes after rest extent h is low high e =
    let v : Head = record { kind = Certificate; extent = extent; wide = None } in
    let both : (v, after) ≡ (h, rest) = cc in
    subst (λ (p : Head × List ℕ). TakesHead Certificate bytes p.1 p.0) both (without_note Certificate bytes after extent is low high refl)
headed_takes OpenBudget bytes after rest extent h is low high e =
    let v : Head = record { kind = OpenBudget; extent = extent; wide = None } in
    let both : (v, after) ≡ (h, rest) = cc in
    subst (λ (p : Head × List ℕ). TakesHead OpenBudget bytes p.1 p.0) both (without_note OpenBudget bytes after extent is low high refl)
headed_takes OpenWide bytes after rest extent h is low high e = by (note_at after) refl e
  where
    by : (r : Result (WideNote × List ℕ) CertRead) → note_at after ≡ r → with_note extent r ≡ Ok (h, rest) → TakesHead OpenWide bytes rest h
    by (Err x) k e = absurd cc
    by (Ok n) k e =
        let v : Head = record { kind = OpenWide; extent = extent; wide = Some n.0 } in
        let both : (v, n.1) ≡ (h, rest) = cc in
        subst (λ (p : Head × List ℕ). TakesHead OpenWide bytes p.1 p.0) both (with_one bytes after n.1 extent n.0 is low high (note_takes after n.1 n.0 k))

extended_takes : (kind : Kind) (bytes a rest : List ℕ) (h : Head) → bytes ≡ first_line kind ++ a → (o : Option (ℕ × List ℕ)) → number_line_at (extent_word kind) 1_000 a ≡ o → extended kind a o ≡ Ok (h, rest) → TakesHead kind bytes rest h
extended_takes kind bytes a rest h is None k e = absurd cc
extended_takes kind bytes a rest h is (Some x) k e =
    let t = number_line_takes (extent_word kind) 1_000 a x.1 x.0 k in
    headed_takes kind bytes x.1 rest x.0 h (is ∙ ap (λ l. first_line kind ++ l) t.spelled) t.low t.high e

begun_takes : (kind : Kind) (bytes rest : List ℕ) (h : Head) (o : Option (List ℕ)) → literal_at (first_line kind) bytes ≡ o → begun kind bytes o ≡ Ok (h, rest) → TakesHead kind bytes rest h
begun_takes kind bytes rest h None k e = absurd cc
begun_takes kind bytes rest h (Some a) k e = extended_takes kind bytes a rest h (literal_takes (first_line kind) bytes a k) (number_line_at (extent_word kind) 1_000 a) refl e

pub head_takes : (kind : Kind) (bytes rest : List ℕ) (h : Head) → head_at kind bytes ≡ Ok (h, rest) → TakesHead kind bytes rest h
unfolding head_at
head_takes kind bytes rest h e = begun_takes kind bytes rest h (literal_at (first_line kind) bytes) refl e

start_of_head : (kind : Kind) (extent : ℕ) (n rest : List ℕ) → 1 ≤ extent → extent ≤ 1_000
    → head_at kind ((first_line kind ++ (extent_word kind ++ (spelling (pos extent) ++ (codes "\n" ++ n)))) ++ rest) ≡ headed kind extent (n ++ rest)
unfolding head_at
start_of_head kind extent n rest low high =
    rw (parts (first_line kind) (extent_word kind) (spelling (pos extent)) (codes "\n") n rest)
    (rw (literal_again (first_line kind) (number_line (extent_word kind) (pos extent) ++ (n ++ rest)), number_line_again (extent_word kind) 1_000 extent (n ++ rest) low high (omega arith)) refl)

head_of_again : (kind : Kind) (extent : ℕ) (wide : Option WideNote) (rest : List ℕ) → 1 ≤ extent → extent ≤ 1_000 → HasNote kind wide
    → headed kind extent (wide_text wide ++ rest) ≡ Ok (record { kind = kind; extent = extent; wide = wide }, rest)
head_of_again Certificate extent None rest low high has = refl
head_of_again Certificate extent (Some note) rest low high has = absurd cc
head_of_again OpenBudget extent None rest low high has = refl
head_of_again OpenBudget extent (Some note) rest low high has = absurd cc
head_of_again OpenWide extent None rest low high has = absurd has
head_of_again OpenWide extent (Some note) rest low high has = ap (with_note extent) (note_again note.node note.row note.basis rest has)

pub head_again : (h : Head) (rest : List ℕ) → IsSpeltHead h → head_at h.kind (head_text h ++ rest) ≡ Ok (h, rest)
head_again h rest s = start_of_head h.kind h.extent (wide_text h.wide) rest s.extent_low s.extent_high ∙ head_of_again h.kind h.extent h.wide rest s.extent_low s.extent_high s.wide

-- ---- the block
pub tree_read : (kind : Kind) (bytes rest : List ℕ) (h : Head) (nodes : List Node) → head_at kind bytes ≡ Ok (h, rest) → AreTree line_at rest nodes → IsTreeText bytes kind h (record { nodes = nodes })
tree_read kind bytes rest h nodes e tree =
    let t = head_takes kind bytes rest h e in
    let m = nodes_take nodes rest [] tree.lines in
    record {
      kind_is = t.kind_is;
      head = t.spelt;
      nodes = m.1;
      whole = tree.whole;
      text = t.spelled ∙ ap (λ l. head_text h ++ l) (m.0 ∙ append-nil (nodes_text nodes));
    }

pub record IsRead (kind : Kind) (bytes : List ℕ) (h : Head) (t : Tree) : Type 0 where
  pub head : head_at kind bytes ≡ Ok (h, nodes_text t.nodes)
  pub nodes : AreTree line_at (nodes_text t.nodes) t.nodes

pub is_read : (kind : Kind) (bytes : List ℕ) (h : Head) (t : Tree) → IsTreeText bytes kind h t → IsRead kind bytes h t
is_read kind bytes h t is = record {
  head = subst (λ k. head_at k bytes ≡ Ok (h, nodes_text t.nodes)) is.kind_is (ap (head_at h.kind) is.text ∙ head_again h (nodes_text t.nodes) is.head);
  nodes = record {
    lines = subst (λ l. LinesRead line_at l t.nodes []) (append-nil (nodes_text t.nodes)) (nodes_again t.nodes [] is.nodes);
    whole = is.whole;
  };
}

same_head : (kind : Kind) (bytes a b : List ℕ) (g h : Head) → head_at kind bytes ≡ Ok (g, a) → head_at kind bytes ≡ Ok (h, b) → (g ≡ h) × (a ≡ b)
same_head kind bytes a b g h e f =
    let both : (g, a) ≡ (h, b) = cc (sym e ∙ f) in
    (ap (λ (p : Head × List ℕ). p.0) both, ap (λ (p : Head × List ℕ). p.1) both)

pub tree_all : (kind : Kind) (bytes : List ℕ) (r : Result (Head × Tree) CertRead) → IfOk r (λ x. IsTreeText bytes kind x.0 x.1) → IfErr r (λ e. e ≢ answers.NoMemory → IsRefusedTree bytes kind e)
    → (head : Head) (tree : Tree) → IsTreeText bytes kind head tree → r ≢ Err answers.NoMemory → r ≡ Ok (head, tree)
tree_all kind bytes (Ok x) read was head tree is some =
    let a = is_read kind bytes x.0 x.1 read in
    let b = is_read kind bytes head tree is in
    let same = same_head kind bytes (nodes_text x.1.nodes) (nodes_text tree.nodes) x.0 head a.head b.head in
    let nodes = one_tree line_at (nodes_text x.1.nodes) x.1.nodes tree.nodes a.nodes (subst (λ l. AreTree line_at l tree.nodes) (sym same.1) b.nodes) in
    ap (λ (h : Head). Ok (h, x.1)) same.0 ∙ ap (λ (ns : List Node). Ok (head, record { nodes = ns })) nodes
tree_all kind bytes (Err e) read was head tree is some = absurd (by (was (λ k. some (ap Err k))))
  where
    b : IsRead kind bytes head tree
    b = is_read kind bytes head tree is

    by : IsRefusedTree bytes kind e → ⊥
    by (inl h) = cc (sym h ∙ b.head)
    by (inr h) =
        let same = same_head kind bytes h.rest (nodes_text tree.nodes) h.head head h.read b.head in
        refused_or_read line_at h.rest h.fault tree.nodes h.is (subst (λ l. AreTree line_at l tree.nodes) (sym same.1) b.nodes)

-- ---- what is refused
never_both : (kind : Kind) (bytes : List ℕ) (e : CertRead) (h : Head) (t : Tree) → IsRefusedTree bytes kind e → IsRead kind bytes h t → ⊥
never_both kind bytes e h t (inl r) b = cc (sym r ∙ b.head)
never_both kind bytes e h t (inr r) b =
    let same = same_head kind bytes r.rest (nodes_text t.nodes) r.head h r.read b.head in
    refused_or_read line_at r.rest r.fault t.nodes r.is (subst (λ l. AreTree line_at l t.nodes) (sym same.1) b.nodes)

one_refused : (kind : Kind) (bytes : List ℕ) (a b : CertRead) → IsRefusedTree bytes kind a → IsRefusedTree bytes kind b → a ≡ b
one_refused kind bytes a b (inl r) (inl s) = err_one (head_at kind bytes) a b r s
  where
    err_one : (x : Result (Head × List ℕ) CertRead) (a b : CertRead) → x ≡ Err a → x ≡ Err b → a ≡ b
    err_one x a b r s = cc (sym r ∙ s)
one_refused kind bytes a b (inl r) (inr s) = absurd (cc (sym r ∙ s.read))
one_refused kind bytes a b (inr r) (inl s) = absurd (cc (sym s ∙ r.read))
one_refused kind bytes a b (inr r) (inr s) =
    let same = same_head kind bytes r.rest s.rest r.head s.head r.read s.read in
    let fault = one_refusal line_at s.rest r.fault s.fault (subst (λ l. IsRefusedAt line_at l r.fault) same.1 r.is) s.is in
    r.answer ∙ (ap (refused (before kind)) fault ∙ sym s.answer)

pub tree_refuses : (kind : Kind) (bytes : List ℕ) (r : Result (Head × Tree) CertRead) → IfOk r (λ x. IsTreeText bytes kind x.0 x.1) → IfErr r (λ e. e ≢ answers.NoMemory → IsRefusedTree bytes kind e)
    → (e : CertRead) → IsRefusedTree bytes kind e → r ≢ Err answers.NoMemory → r ≡ Err e
tree_refuses kind bytes (Ok x) read was e is some = absurd (never_both kind bytes e x.0 x.1 is (is_read kind bytes x.0 x.1 read))
tree_refuses kind bytes (Err f) read was e is some = ap Err (one_refused kind bytes f e (was (λ k. some (ap Err k))) is)
