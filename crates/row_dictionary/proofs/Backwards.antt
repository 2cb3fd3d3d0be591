-- The way back from a pivot: what entered has an entry for what left, and the basis that it comes back to is wide nowhere.
use Rattle.std.proofs.Common.{◌≡◌, ◌≢◌, ℕ, zero, suc, ◌+◌, ◌<◌, List, [], ◌∷◌, length, map, get_or, set, refl, ap, sym, subst, ◌∙◌, arith, ℤ, pos, ◌+ℤ◌, ◌*ℤ◌, ◌⊎◌, inl, inr, Bool, true, false, length-set, Contains}
use Rattle.std.proofs.lemmas.Bool.Decides.{nat_tests}
use Rattle.std.proofs.lemmas.Int.{ints}
use Rattle.std.proofs.lemmas.List.{length-map, get_or-set_same, get_or-set_other}
use Rattle.std.specs.Prelude.{nat_eq, if◌then◌else◌}
use Rattle.integer_laws.specs.Laws.Members.{In-map, In-from_contains, Contains-from_in}
use Rattle.integer_laws.specs.Laws.Ring.{expand}
use Rattle.integer_laws.specs.Laws.Vectors.{dot-plus, dot-scale}
use Rattle.integer_laws.specs.Members.{In}
use Rattle.integer_laws.specs.Vectors.{dot, scale}
use Rattle.row_laws.specs.Laws.Independence.{vectors_of, only_zeros, few_free, is_equal}
use Rattle.row_laws.specs.Laws.Kernel.{Kernel, kernel, cancel_factor}
use Rattle.row_pivots.specs.Laws.Measure.{place_is}
use Rattle.row_pivots.specs.Laws.OneTable.{one_held, swapped_back}
use Rattle.row_pivots.specs.Laws.Pivoting.{Line, get_or-map, get_or-In}
use Rattle.row_pivots.specs.Laws.Sorted.{table_is_form, same_free, free_member, says_or}
use Rattle.row_pivots.specs.Laws.Turned.{set_members}
use Rattle.row_pivots.specs.Tables.{Holds, Fresh, rising, place_of, line_or, entry_of}
use Rattle.row_dictionary.specs.Laws.Found.{place_unique}
use Rattle.row_dictionary.specs.Laws.Placing.{entry_placed}
use Rattle.row_dictionary.specs.Seen.{Seen, IsOf, entry_at, swapped}
use Rattle.row_dictionary.specs.Shrinking.{CameFrom}
use Rattle.row_dictionary.specs.Turns.{Before}
use Rattle.row_dictionary.proofs.TableLaws.{small_nowhere}
use Rattle.seq_model.specs.Dictionaries.{meaning, one, combination, free_of, Form, WideAt}
use Rattle.seq_model.specs.Walks.{entries}
use Rattle.seq_model.specs.declared.row.Row.{Row}

differs : (x y : ℕ) → (x ≡ y → ⊥) → nat_eq x y ≡ false
differs x y n = grind (arith, nat_tests, n)

pub same_or_not : (x y : ℕ) → (x ≡ y) ⊎ (x ≡ y → ⊥)
same_or_not x y = by (nat_eq x y) refl
  where
    by : (b : Bool) → nat_eq x y ≡ b → (x ≡ y) ⊎ (x ≡ y → ⊥)
    by true e = inl (grind (arith, nat_tests))
    by false e = inr (λ s. grind (arith, nat_tests))

-- ---- a vector on which all free variables vanish but one
vanishes : (es : List ℤ) (vs : List (List ℤ)) (w : List ℤ) → ((k : ℕ) → k < length vs → (get_or es k (pos 0) ≡ pos 0) ⊎ (dot (get_or vs k []) w ≡ pos 0)) → dot (combination es vs) w ≡ pos 0
vanishes [] vs w h = refl
vanishes (e ∷ es) [] w h = refl
vanishes (e ∷ es) (v ∷ vs) w h =
    dot-plus (scale e v) (combination es vs) w ∙ ap (λ t. t +ℤ dot (combination es vs) w) (dot-scale e v w)
    ∙ none (h 0 (omega arith)) (vanishes es vs w (λ k l. h (suc k) (omega (arith, l))))
  where
    first : (e x y : ℤ) → e ≡ pos 0 → y ≡ pos 0 → e *ℤ x +ℤ y ≡ pos 0
    first e x y h k = rw (h, k) (left x)
      where
        left : (x : ℤ) → pos 0 *ℤ x +ℤ pos 0 ≡ pos 0
        left x = simp expand

    second : (e x y : ℤ) → x ≡ pos 0 → y ≡ pos 0 → e *ℤ x +ℤ y ≡ pos 0
    second e x y h k = rw (h, k) (left e)
      where
        left : (e : ℤ) → e *ℤ pos 0 +ℤ pos 0 ≡ pos 0
        left e = simp expand

    none : (e ≡ pos 0) ⊎ (dot v w ≡ pos 0) → dot (combination es vs) w ≡ pos 0 → e *ℤ dot v w +ℤ dot (combination es vs) w ≡ pos 0
    none (inl z) r = first e (dot v w) (dot (combination es vs) w) z r
    none (inr z) r = second e (dot v w) (dot (combination es vs) w) z r

record Alone (vars : ℕ) (rows : List Row) (basic free : List ℕ) (into : ℕ) : Type 0 where
  w : List ℤ
  constant : dot (one vars) w ≡ pos 0
  others : (y : ℕ) → In y free → (y ≢ into) → dot (meaning vars rows y) w ≡ pos 0
  some : dot (meaning vars rows into) w ≡ pos 0 → ⊥

alone : (vars : ℕ) (rows : List Row) (d : ℤ) (basic free : List ℕ) (lines : List (List ℤ)) → Holds vars rows d basic free lines → (into : ℕ) → In into free → Alone vars rows basic free into
alone vars rows d basic free lines h into i = record { w = k.u; constant = constant; others = others; some = some }
  where
    count : ℕ
    count = vars + length rows

    F : Form vars rows (rising (vars + length rows) basic)
    F = (table_is_form vars rows d basic free lines h).form

    in_form : (y : ℕ) → In y free → In y (free_of (vars + length rows) (rising (vars + length rows) basic))
    in_form y j = subst (In y) (sym (same_free (vars + length rows) basic h.small_basic)) (free_member (vars + length rows) basic y (h.small_free y j) (h.apart y j))

    g : ℕ → List ℤ
    g y = if nat_eq y into then one vars else meaning vars rows y

    vs : List (List ℤ)
    vs = map g (free_of (vars + length rows) (rising (vars + length rows) basic))

    few : length vs < suc vars
    few =
        let a = few_free vars rows (rising (vars + length rows) basic) F.many F.rising in
        let b = length-map (free_of (vars + length rows) (rising (vars + length rows) basic)) g in
        let c = length-map (free_of (vars + length rows) (rising (vars + length rows) basic)) (meaning vars rows) in
        omega (arith, a, b, c)

    k : Kernel (suc vars) vs
    k = kernel (suc vars) vs few

    constant : dot (one vars) k.u ≡ pos 0
    constant = ap (λ (b : Bool). dot (if b then one vars else meaning vars rows into) k.u) (sym (is_equal into into refl)) ∙ k.none (g into) (In-map g (free_of (vars + length rows) (rising (vars + length rows) basic)) into (in_form into i))

    each : (y : ℕ) → In y (free_of (vars + length rows) (rising (vars + length rows) basic)) → (y ≢ into) → dot (meaning vars rows y) k.u ≡ pos 0
    each y j n = ap (λ (b : Bool). dot (if b then one vars else meaning vars rows y) k.u) (sym (differs y into n)) ∙ k.none (g y) (In-map g (free_of (vars + length rows) (rising (vars + length rows) basic)) y j)

    others : (y : ℕ) → In y free → (y ≢ into) → dot (meaning vars rows y) k.u ≡ pos 0
    others y j n = each y (in_form y j) n

    some : dot (meaning vars rows into) k.u ≡ pos 0 → ⊥
    some z = k.some (only_zeros vars rows (rising (vars + length rows) basic) F k.u k.long all k.place)
      where
        meant : (ys : List ℕ) → ((y : ℕ) → In y ys → In y (free_of (vars + length rows) (rising (vars + length rows) basic))) → (v : List ℤ) → In v (map (meaning vars rows) ys) → dot v k.u ≡ pos 0
        meant [] m v j = absurd j
        meant (y ∷ ys) m v (inl e) = ap (λ t. dot t k.u) e ∙ by (same_or_not y into)
          where
            by : (y ≡ into) ⊎ (y ≡ into → ⊥) → dot (meaning vars rows y) k.u ≡ pos 0
            by (inl s) = ap (λ t. dot (meaning vars rows t) k.u) s ∙ z
            by (inr n) = each y (m y (inl refl)) n
        meant (y ∷ ys) m v (inr j) = meant ys (λ x i. m x (inr i)) v j

        all : (v : List ℤ) → In v (vectors_of vars rows (rising (vars + length rows) basic)) → dot v k.u ≡ pos 0
        all v (inl e) = ap (λ t. dot t k.u) e ∙ constant
        all v (inr j) = meant (free_of (vars + length rows) (rising (vars + length rows) basic)) (λ y i. i) v j

-- ---- the entry of the way back
pub back_entry : (vars : ℕ) (rows : List Row) (d e : ℤ) (basic free : List ℕ) (L M : List (List ℤ)) (out into : ℕ) → Holds vars rows d basic free L → In out basic → In into free
    → Holds vars rows e (swapped basic out into) (swapped free into out) M → entry_of out (swapped free into out) (entries (line_or into (swapped basic out into) M)) ≡ pos 0 → ⊥
back_entry vars rows d e basic free L M out into h o i k z = a.some (cancel_factor e (dot (meaning vars rows into) a.w) (λ q. absurd (let p = k.positive in omega (arith, ints, p, q))) none)
  where
    a : Alone vars rows basic free into
    a = alone vars rows d basic free L h into i

    s : ℕ
    s = place_of into free

    at : (place_of into free < length free) × (get_or free (place_of into free) 0 ≡ into)
    at = place_is into free i

    at_out : (place_of out basic < length basic) × (get_or basic (place_of out basic) 0 ≡ out)
    at_out = place_is out basic o

    B : List ℕ
    B = swapped basic out into

    G : List ℕ
    G = swapped free into out

    in_into : In into (swapped basic out into)
    in_into = (set_members basic (place_of out basic) into into at_out.0 h.fresh_basic (λ j. h.apart into i j)).1 (inl refl)

    l : List ℤ
    l = line_or into (swapped basic out into) M

    line : Line vars rows e (swapped free into out) into (line_or into (swapped basic out into) M)
    line = says_or vars rows e (swapped free into out) (swapped basic out into) M k.says into in_into

    long : length (swapped free into out) ≡ length free
    long = length-set free (place_of into free) out

    place : place_of out (swapped free into out) ≡ place_of into free
    place = place_unique out (swapped free into out) (place_of into free) k.fresh_free (let m = long in let p = at.0 in omega (arith, m, p)) (get_or-set_same free (place_of into free) out 0 at.0)

    entry : get_or (line_or into (swapped basic out into) M) (suc (place_of into free)) (pos 0) ≡ pos 0
    entry = ap (λ t. get_or (line_or into (swapped basic out into) M) (suc t) (pos 0)) (sym place) ∙ sym (entry_placed out (swapped free into out) (line_or into (swapped basic out into) M) (inr line.0)) ∙ z

    vs : List (List ℤ)
    vs = one vars ∷ map (meaning vars rows) (swapped free into out)

    each : (j : ℕ) → j < length vs → (get_or (line_or into (swapped basic out into) M) j (pos 0) ≡ pos 0) ⊎ (dot (get_or vs j []) a.w ≡ pos 0)
    each zero b = inr a.constant
    each (suc j) b = by (same_or_not j (place_of into free))
      where
        inside : j < length (swapped free into out)
        inside = let m = length-map (swapped free into out) (meaning vars rows) in omega (arith, b, m)

        by : (j ≡ place_of into free) ⊎ (j ≡ place_of into free → ⊥) → (get_or (line_or into (swapped basic out into) M) (suc j) (pos 0) ≡ pos 0) ⊎ (dot (get_or vs (suc j) []) a.w ≡ pos 0)
        by (inl q) = inl (ap (λ t. get_or (line_or into (swapped basic out into) M) (suc t) (pos 0)) q ∙ entry)
        by (inr q) =
            let in_free : j < length free = let m = long in omega (arith, m, inside) in
            let y_is : get_or (swapped free into out) j 0 ≡ get_or free j 0 = get_or-set_other free (place_of into free) j out 0 q in
            let n : get_or free j 0 ≢ into = λ r. q (sym (place_unique into free j h.fresh_free in_free r)) in
            inr (ap (λ t. dot t a.w) (get_or-map (meaning vars rows) (swapped free into out) j [] 0 inside ∙ ap (meaning vars rows) y_is) ∙ a.others (get_or free j 0) (get_or-In free j 0 in_free) n)

    none : e *ℤ dot (meaning vars rows into) a.w ≡ pos 0
    none = sym (dot-scale e (meaning vars rows into) a.w) ∙ ap (λ t. dot t a.w) line.1 ∙ vanishes (line_or into (swapped basic out into) M) vs a.w each

-- ---- and the places
pub swapped_twice : (list : List ℕ) (out into : ℕ) → Fresh (swapped list out into) → In out list → swapped (swapped list out into) into out ≡ list
swapped_twice list out into f i =
    let at = place_is out list i in
    let back = place_unique into (swapped list out into) (place_of out list) f (let m = length-set list (place_of out list) into in omega (arith, m, at.0)) (get_or-set_same list (place_of out list) into 0 at.0) in
    ap (λ t. set (swapped list out into) t out) back ∙ ap (set (swapped list out into) (place_of out list)) (sym at.1) ∙ swapped_back list (place_of out list) into 0

-- ---- as a pivot asks and answers
pub back_members : (rows : List Row) (before now : Seen) (out into : ℕ) → CameFrom rows before now out into → Contains now.basic into × Contains now.free out
back_members rows before now out into c = (
  Contains-from_in now.basic into (subst (In into) (sym c.basic) ((set_members before.basic (place_of out before.basic) into into (place_is out before.basic o).0 c.was.fresh_basic (λ j. c.was.apart into i j)).1 (inl refl))),
  Contains-from_in now.free out (subst (In out) (sym c.free) ((set_members before.free (place_of into before.free) out out (place_is into before.free i).0 c.was.fresh_free (λ j. c.was.apart out j o)).1 (inl refl))),
)
  where
    o : In out before.basic
    o = In-from_contains before.basic out c.out_of

    i : In into before.free
    i = In-from_contains before.free into c.into_of

came_holds : (rows : List Row) (before now : Seen) (out into : ℕ) → CameFrom rows before now out into → Holds before.vars rows now.d (swapped before.basic out into) (swapped before.free into out) now.lines
came_holds rows before now out into c =
    subst (λ v. Holds v rows now.d (swapped before.basic out into) (swapped before.free into out) now.lines) c.vars
    (subst (λ (b : List ℕ). Holds now.vars rows now.d b (swapped before.free into out) now.lines) c.basic
    (subst (λ (f : List ℕ). Holds now.vars rows now.d now.basic f now.lines) c.free c.is))

pub back_some : (rows : List Row) (before now : Seen) (out into : ℕ) → CameFrom rows before now out into → entry_at now into out ≡ pos 0 → ⊥
back_some rows before now out into c z =
    back_entry before.vars rows before.d now.d before.basic before.free before.lines now.lines out into c.was (In-from_contains before.basic out c.out_of) (In-from_contains before.free into c.into_of)
    (came_holds rows before now out into c)
    (subst (λ (b : List ℕ). entry_of out (swapped before.free into out) (entries (line_or into b now.lines)) ≡ pos 0) c.basic
    (subst (λ (f : List ℕ). entry_of out f (entries (line_or into now.basic now.lines)) ≡ pos 0) c.free z))

basic_back : (rows : List Row) (before now : Seen) (out into : ℕ) → CameFrom rows before now out into → swapped now.basic into out ≡ before.basic
basic_back rows before now out into c =
    ap (λ (b : List ℕ). swapped b into out) c.basic ∙ swapped_twice before.basic out into (came_holds rows before now out into c).fresh_basic (In-from_contains before.basic out c.out_of)

free_back : (rows : List Row) (before now : Seen) (out into : ℕ) → CameFrom rows before now out into → swapped now.free out into ≡ before.free
free_back rows before now out into c =
    ap (λ (b : List ℕ). swapped b out into) c.free ∙ swapped_twice before.free into out (came_holds rows before now out into c).fresh_free (In-from_contains before.free into c.into_of)

pub back_fits : (rows : List Row) (before now : Seen) (out into : ℕ) → CameFrom rows before now out into → (z : ℕ) → WideAt now.vars rows (rising (now.vars + length rows) (swapped now.basic into out)) z → ⊥
back_fits rows before now out into c z wide =
    small_nowhere before.vars rows b (suc (length before.free)) c.was c.fits.0 c.fits.2 z
    (subst (λ (t : List ℕ). WideAt before.vars rows (rising (before.vars + length rows) t) z) (basic_back rows before now out into c)
    (subst (λ v. WideAt v rows (rising (v + length rows) (swapped now.basic into out)) z) c.vars wide))
  where
    b : Before
    b = record { d = before.d; basic = before.basic; free = before.free; lines = before.lines }

pub back_is : (rows : List Row) (before now new : Seen) (out into : ℕ) → CameFrom rows before now out into → new.vars ≡ now.vars → new.basic ≡ swapped now.basic into out → new.free ≡ swapped now.free out into → IsOf rows new → new ≡ before
back_is rows before now new out into c v b f h = same new before (v ∙ c.vars) at_basic at_free one.0 one.1
  where
    at_basic : new.basic ≡ before.basic
    at_basic = b ∙ basic_back rows before now out into c

    at_free : new.free ≡ before.free
    at_free = f ∙ free_back rows before now out into c

    one : (new.d ≡ before.d) × (new.lines ≡ before.lines)
    one = one_held before.vars rows new.d before.d before.basic before.free new.lines before.lines
        (subst (λ t. Holds t rows new.d before.basic before.free new.lines) (v ∙ c.vars)
        (subst (λ (t : List ℕ). Holds new.vars rows new.d t before.free new.lines) at_basic (subst (λ (t : List ℕ). Holds new.vars rows new.d new.basic t new.lines) at_free h))) c.was

    same : (t u : Seen) → t.vars ≡ u.vars → t.basic ≡ u.basic → t.free ≡ u.free → t.d ≡ u.d → t.lines ≡ u.lines → t ≡ u
    same t u v b f d l = λ i. record { vars = v i; d = d i; basic = b i; free = f i; lines = l i }
