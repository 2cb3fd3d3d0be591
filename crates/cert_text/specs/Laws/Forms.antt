-- What the readers of a line's numbers let through.
use Rattle.std.proofs.Common.{◌≡◌, ℕ, ◌≤◌, ℤ, pos, negsuc, ◌≤ℤ◌, List, [], ◌∷◌, ◌++◌, length, map, Bool, true, false, not, ◌&&◌, Some, All, codes, refl, subst, arith}
use Rattle.std.proofs.lemmas.Int.{ints}
use Rattle.std.proofs.lemmas.List.Elements.{All-nil, All-cons, All-head, All-tail}
use Rattle.std.specs.List.{list_any}
use Rattle.std.proofs.lemmas.Bool.{and_parts}
use Rattle.seq_num.specs.Laws.Spelling.{guard_some}
use Rattle.text_lines.specs.Laws.Reading.{step_some}
use Rattle.cert_text.specs.Lines.{numbers_at, room_of, are_enough, is_below, is_far, form_at, bound_at}
use Rattle.cert_text.specs.TreeText.{numbers_text, row_of, AreRising}
use Rattle.cert_text.specs.Laws.Counts.{IsCount, all_counts}
use Rattle.cert_text.specs.Laws.Mults.{IsDue}
use Rattle.cert_text.specs.Laws.Numbers.{numbers_takes}
use Rattle.cert_text.specs.Laws.Pairs.{bound_takes}
use Rattle.cert_text.specs.declared.lines.Form.{Form}
use Rattle.cert_text.specs.declared.pairs.Pair.{Pair}

pub record TakesForm (form : Form) (bytes rest : List ℕ) (ns : List ℤ) : Type 0 where
  pub spelled : bytes ≡ numbers_text (codes " ") ns ++ rest
  pub few : length ns ≤ room_of form
  pub enough : are_enough form ns ≡ true
  pub none_below : list_any is_below ns ≡ false

not_true : (b : Bool) → not b ≡ true → b ≡ false
not_true true e = absurd cc
not_true false e = refl

pub form_takes : (form : Form) (bytes rest : List ℕ) (ns : List ℤ) → form_at form bytes ≡ Some (ns, rest) → TakesForm form bytes rest ns
unfolding form_at
form_takes form bytes rest ns e =
    let n = step_some (numbers_at (codes " ") (room_of form) bytes) _ (ns, rest) e in
    let g = guard_some (are_enough form n.0.0 && not (list_any is_below n.0.0)) n.0 (ns, rest) n.2 in
    let b = and_parts (are_enough form n.0.0) (not (list_any is_below n.0.0)) g.0 in
    let t = numbers_takes (codes " ") (room_of form) bytes n.0.1 n.0.0 n.1 in
    let all : TakesForm form bytes n.0.1 n.0.0 = record { spelled = t.spelled; few = t.few; enough = b.0; none_below = not_true (list_any is_below n.0.0) b.1 } in
    subst (λ (t : List ℤ × List ℕ). TakesForm form bytes t.1 t.0) g.1 all

pub form_counts : (form : Form) (bytes rest : List ℕ) (ns : List ℤ) → form_at form bytes ≡ Some (ns, rest) → list_any is_far ns ≡ false → All IsCount ns
form_counts form bytes rest ns e far = all_counts ns (form_takes form bytes rest ns e).none_below far

dues : (low : ℤ) (ps : List Pair) → negsuc 0 ≤ℤ low → AreRising low (map row_of ps) → All (λ p. pos 0 ≤ℤ p.times) ps → All IsDue ps
dues low [] h r t = All-nil IsDue
dues low (p ∷ ps) h r t =
    All-cons IsDue p ps (record { row = omega (arith, ints, h, r.0); times = All-head (λ (p : Pair). pos 0 ≤ℤ p.times) p ps t })
    (dues p.row ps (omega (arith, ints, h, r.0)) r.1 (All-tail (λ (p : Pair). pos 0 ≤ℤ p.times) p ps t))

pub bound_dues : (bytes rest : List ℕ) (ps : List Pair) → bound_at bytes ≡ Some (ps, rest) → All IsDue ps
bound_dues bytes rest ps e =
    let t = bound_takes bytes rest ps e in
    dues (negsuc 0) ps (omega (arith, ints)) t.is.rising t.is.times
