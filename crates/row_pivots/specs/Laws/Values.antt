-- The values of a basis: a point at which all free variables are 0.
--
--   FormValues vars rows basis f     a vector u, on which one is positive, each free variable vanishes, and each basic one,
--                                times d, is its constant times what one is
--   values                       a basis that has a form has values
--   says_has                     what a form says of the line that a basic variable has
--   has_line                     a basic variable has a line
--   free_or_basic                each variable is basic or free
use Rattle.std.proofs.Common.{◌≡◌, ℕ, zero, suc, ◌+◌, ◌<◌, List, [], ◌∷◌, length, map, refl, ap, sym, ◌∙◌, arith, ℤ, pos, negsuc, neg_ℤ, ◌*ℤ◌, ◌≤ℤ◌, ◌<ℤ◌, ◌⊎◌, inl, inr, true, false}
use Rattle.std.proofs.lemmas.Int.{ints, by_lt_z}
use Rattle.std.proofs.lemmas.List.{length-map}
use Rattle.std.specs.Prelude.{not}
use Rattle.std.specs.List.{range_with_len}
use Rattle.integer_laws.specs.Members.{In}
use Rattle.integer_laws.specs.Laws.Members.{In-map}
use Rattle.integer_laws.specs.Vectors.{dot, scale}
use Rattle.integer_laws.specs.Laws.Vectors.{dot_comm, dot-scale}
use Rattle.row_laws.specs.Laws.Independence.{vectors_of, combine_one, only_zeros, few_free, true_or_false, in_basis, In-filter, In-range}
use Rattle.row_laws.specs.Laws.Kernel.{Kernel, kernel}
use Rattle.seq_model.specs.Dictionaries.{meaning, one, combination, is_in, free_of, Says, Form, Has}
use Rattle.seq_model.specs.declared.row.Row.{Row}
use Rattle.seq_model.specs.Walks.{constant}

pub says_has : (vars : ℕ) (rows : List Row) (d : ℤ) (free basis : List ℕ) (lines : List (List ℤ)) → Says vars rows d free basis lines → (z : ℕ) (line : List ℤ) → Has basis lines z line
    → (length line ≡ suc (length free)) × (scale d (meaning vars rows z) ≡ combination line (one vars ∷ map (meaning vars rows) free))
says_has vars rows d free [] lines s z line h = absurd h
says_has vars rows d free (b ∷ basis) [] s z line h = absurd h
says_has vars rows d free (b ∷ basis) (l ∷ lines) s z line (inl e) =
    (ap length e.1 ∙ s.0.0, ap (λ t. scale d (meaning vars rows t)) e.0 ∙ s.0.1 ∙ ap (λ t. combination t (one vars ∷ map (meaning vars rows) free)) (sym e.1))
says_has vars rows d free (b ∷ basis) (l ∷ lines) s z line (inr h) = says_has vars rows d free basis lines s.1 z line h

pub has_line : (vars : ℕ) (rows : List Row) (d : ℤ) (free basis : List ℕ) (lines : List (List ℤ)) → Says vars rows d free basis lines → (z : ℕ) → In z basis → (line : List ℤ) × Has basis lines z line
has_line vars rows d free [] lines s z i = absurd i
has_line vars rows d free (b ∷ basis) [] s z i = absurd s
has_line vars rows d free (b ∷ basis) (l ∷ lines) s z (inl e) = (l, inl (e, refl))
has_line vars rows d free (b ∷ basis) (l ∷ lines) s z (inr i) = let r = has_line vars rows d free basis lines s.1 z i in (r.0, inr r.1)

pub free_or_basic : (count : ℕ) (basis : List ℕ) (z : ℕ) → z < count → In z basis ⊎ In z (free_of count basis)
free_or_basic count basis z h = by (true_or_false (is_in basis z))
  where
    by : ((is_in basis z ≡ true) ⊎ (is_in basis z ≡ false)) → In z basis ⊎ In z (free_of count basis)
    by (inl e) = inl (in_basis basis z e)
    by (inr e) = inr (In-filter (λ y. not (is_in basis y)) (range_with_len 0 count) z (ap not e) (In-range 0 count z (omega arith) (omega (arith, h))))

pub record FormValues (vars : ℕ) (rows : List Row) (basis : List ℕ) (f : Form vars rows basis) : Type 0 where
  pub u : List ℤ
  pub long : length u ≡ suc vars
  pub positive : pos 0 <ℤ dot (one vars) u
  pub free : (y : ℕ) → In y (free_of (vars + length rows) basis) → dot (meaning vars rows y) u ≡ pos 0
  pub basic : (z : ℕ) (line : List ℤ) → Has basis f.lines z line → f.d *ℤ dot (meaning vars rows z) u ≡ constant line *ℤ dot (one vars) u

above : (x y : ℤ) → y ≡ neg_ℤ x → x ≤ℤ pos 0 → (x ≡ pos 0 → ⊥) → pos 0 <ℤ y
above (pos zero) y e h z = absurd (z refl)
above (pos (suc n)) y e h z = absurd (omega (arith, ints, h))
above (negsuc n) y e h z = omega (arith, ints, e)

made : (vars : ℕ) (rows : List Row) (basis : List ℕ) (f : Form vars rows basis) (u : List ℤ) → length u ≡ suc vars → pos 0 <ℤ dot (one vars) u
    → ((v : List ℤ) → In v (map (meaning vars rows) (free_of (vars + length rows) basis)) → dot v u ≡ pos 0) → FormValues vars rows basis f
made vars rows basis f u long p none = record {
  u = u;
  long = long;
  positive = p;
  free = λ y i. none (meaning vars rows y) (In-map (meaning vars rows) (free_of (vars + length rows) basis) y i);
  basic = λ z line h.
      let s = says_has vars rows f.d (free_of (vars + length rows) basis) basis f.lines f.says z line h in
      sym (dot-scale f.d (meaning vars rows z) u) ∙ ap (λ v. dot v u) s.1
      ∙ combine_one line (vectors_of vars rows basis) u 0 (s.0 ∙ ap suc (sym (length-map (free_of (vars + length rows) basis) (meaning vars rows)))) (omega arith) none;
}

pub values : (vars : ℕ) (rows : List Row) (basis : List ℕ) (f : Form vars rows basis) → FormValues vars rows basis f
values vars rows basis f = by (by_lt_z (pos 0) (dot (one vars) k.u) (λ h. inl h) (λ h. inr h))
  where
    ms : List (List ℤ)
    ms = map (meaning vars rows) (free_of (vars + length rows) basis)

    few : length ms < suc vars
    few = let h = few_free vars rows basis f.many f.rising in omega (arith, h)

    k : Kernel (suc vars) ms
    k = kernel (suc vars) ms few

    zero_is : dot (one vars) k.u ≡ pos 0 → ⊥
    zero_is e = k.some (only_zeros vars rows basis f k.u k.long each k.place)
      where
        each : (v : List ℤ) → In v (vectors_of vars rows basis) → dot v k.u ≡ pos 0
        each v (inl s) = ap (λ w. dot w k.u) s ∙ e
        each v (inr i) = k.none v i

    turned : (v : List ℤ) → dot v (scale (neg_ℤ (pos 1)) k.u) ≡ neg_ℤ (dot v k.u)
    turned v = dot_comm v (scale (neg_ℤ (pos 1)) k.u) ∙ dot-scale (neg_ℤ (pos 1)) k.u v ∙ ap (λ t. neg_ℤ (pos 1) *ℤ t) (dot_comm k.u v) ∙ minus (dot v k.u)
      where
        minus : (x : ℤ) → neg_ℤ (pos 1) *ℤ x ≡ neg_ℤ x
        minus x = omega (arith, ints)

    by : (pos 0 <ℤ dot (one vars) k.u) ⊎ (dot (one vars) k.u ≤ℤ pos 0) → FormValues vars rows basis f
    by (inl p) = made vars rows basis f k.u k.long p k.none
    by (inr n) = made vars rows basis f (scale (neg_ℤ (pos 1)) k.u) (longer k.u ∙ k.long) (above (dot (one vars) k.u) _ (turned (one vars)) n zero_is) (λ v i. turned v ∙ ap neg_ℤ (k.none v i))
      where
        longer : (a : List ℤ) → length (scale (neg_ℤ (pos 1)) a) ≡ length a
        longer [] = refl
        longer (x ∷ a) = ap suc (longer a)
