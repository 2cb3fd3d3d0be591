-- Words and lines stand at one place only.
use Rattle.std.proofs.Common.{◌≡◌, ◌∙◌, ℕ, ◌+◌, ◌<◌, Bool, List, length, min, sym, ap, refl, subst, arith, Ok}
use Rattle.stl_text.specs.declared.words.Word.{Word}
use Rattle.stl_text.specs.Words.{is_white, is_black, ends_line, IsFirst, IsNext, IsRest}
use Rattle.stl_text.specs.Reading.{ReadsOnly}
use Rattle.stl_text.specs.Grammar.{next, rest}

not_before : (p : ℕ → Bool) (bytes : List ℕ) (at a b : ℕ) → IsFirst p bytes at a → IsFirst p bytes at b → (a < b → ⊥)
not_before p bytes at a b f g h =
    let stops = f.here (omega (arith, g.within)) in
    let goes = g.before a f.forward h in
    absurd cc

pub one_first : (p : ℕ → Bool) (bytes : List ℕ) (at a b : ℕ) → IsFirst p bytes at a → IsFirst p bytes at b → a ≡ b
one_first p bytes at a b f g = omega (arith, not_before p bytes at a b f g, not_before p bytes at b a g f)

pub one_word : (bytes : List ℕ) (at : ℕ) (v w : Word) → IsNext bytes at v → IsNext bytes at w → v ≡ w
one_word bytes at v w f g =
    let from_is = one_first is_black bytes at v.from w.from f.starts g.starts in
    let F : ℕ → Type 0 = λ n. IsFirst is_white bytes n v.to in
    let to_is = one_first is_white bytes w.from v.to w.to (subst F from_is f.ends) g.ends in
    let T : ℕ → ℕ → Word = λ m n. record { from = m; to = n } in
    ap (λ m. T m v.to) from_is ∙ ap (T w.from) to_is

pub next_reads : (bytes : List ℕ) (at : ℕ) (word : Word) → IsNext bytes at word → ReadsOnly (next bytes at) (Ok word)
next_reads bytes at word is = record {
  stands = record { word = word; is = is; given = refl };
  only = λ s n. n.given ∙ ap Ok (one_word bytes at n.word word n.is is);
}

pub rest_reads : (bytes : List ℕ) (at to : ℕ) → IsRest bytes at to → ReadsOnly (rest bytes at) (Ok to)
rest_reads bytes at to is = record {
  stands = record { to = to; is = is; given = refl };
  only = λ s n.
      (let e = one_first ends_line bytes at n.is.line_end is.line_end n.is.ends is.ends in
      n.given ∙ ap Ok (n.is.behind ∙ ap (λ l. min (l + 1) (length bytes)) e ∙ sym is.behind));
}
