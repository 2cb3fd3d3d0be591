-- Words of a text that stand behind a place: what is left of the text from there on begins with them.
--
--   passes_none p run           p is true of no byte of the run
--   word_at                     a word behind white bytes is the next one
--   keyword_at, any_word_at     so it is read as the keyword, or as any word
--   rest_at                     a line that is ended by a line feed is read to behind it
use Rattle.std.proofs.Common.{◌≡◌, ℕ, zero, suc, ◌+◌, ◌-◌, ◌<◌, ◌≤◌, ◌⊎◌, inl, inr, Bool, true, false, not, List, [], ◌∷◌, ◌++◌, length, get_or, take, drop, refl, ap, ◌∙◌, subst, arith, map, min, Ok}
use Rattle.std.proofs.lemmas.Bool.{cases_lt, and_parts}
use Rattle.std.proofs.Math.Seq.{take-append_seam}
use Rattle.std.specs.Char.{to_ascii_lowercase}
use Rattle.std.specs.List.{list_all}
use Rattle.stl_text.specs.Grammar.{any_word, keyword, rest, text_of}
use Rattle.stl_text.specs.Reading.{passes, yes}
use Rattle.stl_text.specs.Words.{is_white, is_black, ends_line, IsFirst, IsNext, letters}
use Rattle.stl_text.specs.declared.Keyword.{Keyword}
use Rattle.stl_text.specs.declared.words.Word.{Word}

-- ---- bytes from a place on
pub record Front (bytes : List ℕ) (at d : ℕ) (rest : List ℕ) : Type 0 where
  pub within : at < length bytes
  pub is : get_or bytes at 0 ≡ d
  pub behind : drop (suc at) bytes ≡ rest

pub front : (bytes : List ℕ) (at d : ℕ) (rest : List ℕ) → drop at bytes ≡ d ∷ rest → Front bytes at d rest
front [] zero d rest e = absurd cc
front [] (suc at) d rest e = absurd cc
front (x ∷ xs) zero d rest e = record { within = omega arith; is = cc; behind = cc }
front (x ∷ xs) (suc at) d rest e =
    let f = front xs at d rest e in
    record { within = omega (arith, f.within); is = f.is; behind = f.behind }

not_true : (a : Bool) → not a ≡ true → a ≡ false
not_true true e = absurd cc
not_true false e = refl

abbrev pub passes_none : (ℕ → Bool) → List ℕ → Bool
passes_none p run = list_all (λ c. not (p c)) run

-- what is left behind a run
pub behind_run : (bytes : List ℕ) (at : ℕ) (run tail : List ℕ) → drop at bytes ≡ run ++ tail → drop (at + length run) bytes ≡ tail
behind_run bytes at [] tail e = subst (λ k. drop k bytes ≡ tail) (omega arith) e
behind_run bytes at (d ∷ run) tail e =
    let f = front bytes at d (run ++ tail) e in
    subst (λ k. drop k bytes ≡ tail) (omega arith) (behind_run bytes (suc at) run tail f.behind)

-- the first byte behind a run that none of its bytes passes for
pub first_behind : (p : ℕ → Bool) (bytes : List ℕ) (at : ℕ) (run : List ℕ) (c : ℕ) (tail : List ℕ) → drop at bytes ≡ run ++ (c ∷ tail) → passes_none p run ≡ true → p c ≡ true → IsFirst p bytes at (at + length run)
first_behind p bytes at [] c tail e none here =
    let f = front bytes at c tail e in
    let is : IsFirst p bytes at at = record { forward = omega arith; within = omega (arith, f.within); before = λ k a b. absurd (omega (arith, a, b)); here = λ _. ap p f.is ∙ here } in
    subst (IsFirst p bytes at) (omega arith) is
first_behind p bytes at (d ∷ run) c tail e none here =
    let f = front bytes at d (run ++ (c ∷ tail)) e in
    let n = and_parts (not (p d)) (passes_none p run) none in
    let more = first_behind p bytes (suc at) run c tail f.behind n.1 here in
    let first : p (get_or bytes at 0) ≡ false = ap p f.is ∙ not_true (p d) n.0 in
    let is : IsFirst p bytes at (suc at + length run) = record {
      forward = omega (arith, more.forward);
      within = more.within;
      before = λ k a b. earlier more first k a b (cases_lt at k);
      here = more.here;
    } in
    subst (IsFirst p bytes at) (omega arith) is
  where
    earlier : IsFirst p bytes (suc at) (suc at + length run) → p (get_or bytes at 0) ≡ false → (k : ℕ) → at ≤ k → k < suc at + length run → (at < k) ⊎ (k ≤ at) → p (get_or bytes k 0) ≡ false
    earlier more first k a b (inl h) = more.before k (omega (arith, h)) b
    earlier more first k a b (inr h) = subst (λ n. p (get_or bytes n 0) ≡ false) (omega (arith, a, h)) first

-- nothing is left at the end
pub first_at_end : (p : ℕ → Bool) (bytes : List ℕ) → IsFirst p bytes (length bytes) (length bytes)
first_at_end p bytes = record { forward = omega arith; within = omega arith; before = λ k a b. absurd (omega (arith, a, b)); here = λ h. absurd (omega (arith, h)) }

-- ---- words
pub record WordAt (bytes : List ℕ) (at : ℕ) (w tail : List ℕ) : Type 0 where
  pub word : Word
  pub is : IsNext bytes at word
  pub spelled : letters bytes word ≡ w
  pub some : word.from < word.to
  pub behind : drop word.to bytes ≡ tail

pub word_at : (bytes : List ℕ) (at : ℕ) (sp w : List ℕ) (c : ℕ) (tail : List ℕ) → drop at bytes ≡ sp ++ (w ++ (c ∷ tail)) → passes_none is_black sp ≡ true → passes_none is_white w ≡ true → 0 < length w → is_white c ≡ true → WordAt bytes at w (c ∷ tail)
word_at bytes at sp [] c tail e white black some ended = absurd (omega (arith, some))
word_at bytes at sp (x ∷ w) c tail e white black some ended =
    let from = at + length sp in
    let all = (x ∷ w) ++ (c ∷ tail) in
    let there : drop from bytes ≡ all = behind_run bytes at sp all e in
    let first = first_behind is_black bytes at sp x (w ++ (c ∷ tail)) e white (and_parts (not (is_white x)) (passes_none is_white w) black).0 in
    let to = from + length (x ∷ w) in
    let last = first_behind is_white bytes from (x ∷ w) c tail there black ended in
    let size : to - from ≡ length (x ∷ w) = omega arith in
    record {
      word = record { from = from; to = to };
      is = record { starts = first; ends = last };
      spelled = ap (λ k. take k (drop from bytes)) size ∙ ap (take (length (x ∷ w))) there ∙ take-append_seam (x ∷ w) (c ∷ tail);
      some = omega arith;
      behind = behind_run bytes from (x ∷ w) (c ∷ tail) there;
    }

pub record KeywordAt (bytes : List ℕ) (at : ℕ) (k : Keyword) (tail : List ℕ) : Type 0 where
  pub to : ℕ
  pub reads : keyword bytes at k (Ok to)
  pub behind : drop to bytes ≡ tail

pub keyword_at : (bytes : List ℕ) (at : ℕ) (k : Keyword) (sp : List ℕ) (c : ℕ) (tail : List ℕ) → drop at bytes ≡ sp ++ (text_of k ++ (c ∷ tail)) → passes_none is_black sp ≡ true → passes_none is_white (text_of k) ≡ true → 0 < length (text_of k) → is_white c ≡ true → KeywordAt bytes at k (c ∷ tail)
keyword_at bytes at k sp c tail e white black some ended =
    let w = word_at bytes at sp (text_of k) c tail e white black some ended in
    record {
      to = w.word.to;
      reads = passes w.word (record { word = w.word; is = w.is; given = refl }) (yes (ap (map to_ascii_lowercase) w.spelled) refl);
      behind = w.behind;
    }

pub record AnyWordAt (bytes : List ℕ) (at : ℕ) (tail : List ℕ) : Type 0 where
  pub to : ℕ
  pub reads : any_word bytes at (Ok to)
  pub behind : drop to bytes ≡ tail

pub any_word_at : (bytes : List ℕ) (at : ℕ) (sp w : List ℕ) (c : ℕ) (tail : List ℕ) → drop at bytes ≡ sp ++ (w ++ (c ∷ tail)) → passes_none is_black sp ≡ true → passes_none is_white w ≡ true → 0 < length w → is_white c ≡ true → AnyWordAt bytes at (c ∷ tail)
any_word_at bytes at sp w c tail e white black some ended =
    let x = word_at bytes at sp w c tail e white black some ended in
    record {
      to = x.word.to;
      reads = passes x.word (record { word = x.word; is = x.is; given = refl }) (yes x.some refl);
      behind = x.behind;
    }

-- ---- lines
pub record RestAt (bytes : List ℕ) (at : ℕ) (tail : List ℕ) : Type 0 where
  pub to : ℕ
  pub reads : rest bytes at (Ok to)
  pub within : to ≤ length bytes
  pub behind : drop to bytes ≡ tail

pub rest_at : (bytes : List ℕ) (at : ℕ) (line tail : List ℕ) → drop at bytes ≡ line ++ (10 ∷ tail) → passes_none ends_line line ≡ true → RestAt bytes at tail
rest_at bytes at line tail e none =
    let end = at + length line in
    let there : drop end bytes ≡ 10 ∷ tail = behind_run bytes at line (10 ∷ tail) e in
    let f = front bytes end 10 tail there in
    let first = first_behind ends_line bytes at line 10 tail e none refl in
    let behind : suc end ≡ min (end + 1) (length bytes) = omega (arith, f.within) in
    record {
      to = suc end;
      reads = record { to = suc end; is = record { line_end = end; ends = first; behind = behind }; given = refl };
      within = omega (arith, f.within);
      behind = f.behind;
    }
