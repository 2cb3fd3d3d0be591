-- A line that is crossed with that of what leaves, and then gets its number at what enters.
--
--   Crossed m zs ys i now narrow     after i places, and whether all new numbers are known to be narrow
use Rattle.std.proofs.Common.{◌≡◌, ℕ, ◌+◌, ◌<◌, ◌≤◌, List, length, get_or, set, take, All, ap, sym, subst, ◌∙◌, arith, ℤ, pos, ◌-ℤ◌, ◌*ℤ◌, Bool, IsTrue, unsigned_abs, int_div}
use Rattle.std.proofs.lemmas.Int.{ints}
use Rattle.std.proofs.lemmas.List.{length-map, map-set}
use Rattle.std.proofs.lemmas.List.Elements.{All-get_or}
use Rattle.integer_laws.specs.InPlace.{rewritten}
use Rattle.integer_laws.specs.Laws.InPlace.{get_or-rewritten, rewritten_more, rewritten_all}
use Rattle.integer_laws.specs.Laws.Ring.{expand}
use Rattle.integer_laws.specs.Laws.Vectors.{get_or-combined, length-combined}
use Rattle.integer_laws.specs.Vectors.{combined}
use Rattle.row_dictionary.specs.Mixing.{crossed_line, mixed_line, Narrow}
use Rattle.row_dictionary.specs.declared.number.Mix.{Mix}
use Rattle.row_dictionary.proofs.Narrowed.{rewritten_same, narrow_more, narrow_all}
use Rattle.row_dictionary.proofs.Numbers.{at_map}
use Rattle.row_dictionary.proofs.Skipping.{nonzero, times_quotient}

long_combined : (m : Mix) (zs ys : List ℤ) → length zs ≡ length ys → length (combined m.p m.q zs ys) ≡ length zs
long_combined m zs ys l = let c = length-combined m.p m.q zs ys in omega (arith, c, l)

pub long_crossed : (m : Mix) (zs ys : List ℤ) → length zs ≡ length ys → length (crossed_line m zs ys) ≡ length zs
long_crossed m zs ys l = length-map (combined m.p m.q zs ys) (λ x. int_div x m.g) ∙ long_combined m zs ys l

pub crossing_is : (m : Mix) (zs ys : List ℤ) (i : ℕ) (d : ℤ) → length zs ≡ length ys → i < length zs → int_div (m.p *ℤ get_or zs i (pos 0) -ℤ m.q *ℤ get_or ys i (pos 0)) m.g ≡ get_or (crossed_line m zs ys) i d
crossing_is m zs ys i d l h =
    ap (λ t. int_div t m.g) (sym (get_or-combined m.p m.q zs ys i))
    ∙ sym (at_map (λ x. int_div x m.g) (combined m.p m.q zs ys) i d (pos 0) (let c = long_combined m zs ys l in omega (arith, c, h)))

-- the number at what enters
pub turned_line : (m : Mix) (zs ys : List ℤ) → set (crossed_line m zs ys) m.place (int_div (m.d *ℤ m.q) m.g) ≡ mixed_line m zs ys
turned_line m zs ys = sym (map-set (λ x. int_div x m.g) (combined m.p m.q zs ys) m.place (m.d *ℤ m.q))

-- what leaves has no number there, and the divisor is the factor
pub kept_crossing : (p q g z y : ℤ) → y ≡ pos 0 → p ≡ g → 0 < unsigned_abs g → int_div (p *ℤ z -ℤ q *ℤ y) g ≡ z
kept_crossing p q g z y e f h = ap (λ t. int_div t g) (plain p q g z y e f) ∙ times_quotient g z (nonzero g h)
  where
    plain : (p q g z y : ℤ) → y ≡ pos 0 → p ≡ g → p *ℤ z -ℤ q *ℤ y ≡ g *ℤ z
    plain p q g z y e f = rw (e, f) (left g z q)
      where
        left : (g z q : ℤ) → g *ℤ z -ℤ q *ℤ pos 0 ≡ g *ℤ z
        left g z q = simp expand (omega (arith, ints))

-- neither line has a number there
pub empty_crossing : (p q g z y : ℤ) → z ≡ pos 0 → y ≡ pos 0 → 0 < unsigned_abs g → int_div (p *ℤ z -ℤ q *ℤ y) g ≡ z
empty_crossing p q g z y e f h = ap (λ t. int_div t g) (plain p q g z y e f) ∙ times_quotient g z (nonzero g h)
  where
    plain : (p q g z y : ℤ) → z ≡ pos 0 → y ≡ pos 0 → p *ℤ z -ℤ q *ℤ y ≡ g *ℤ z
    plain p q g z y e f = rw (e, f) (left p q g)
      where
        left : (p q g : ℤ) → p *ℤ pos 0 -ℤ q *ℤ pos 0 ≡ g *ℤ pos 0
        left p q g = simp expand (omega (arith, ints))

abbrev pub Crossed : Mix → List ℤ → List ℤ → ℕ → List ℤ → Bool → Type 0
Crossed m zs ys i now narrow = (now ≡ rewritten i (crossed_line m zs ys) zs) × (IsTrue narrow → All Narrow (take i (crossed_line m zs ys)))

module _ (m : Mix) (zs ys : List ℤ) (i : ℕ) (now : List ℤ) (narrow : Bool) where
  pub old_number : length zs ≡ length ys → i < length zs → Crossed m zs ys i now narrow → get_or now i (pos 0) ≡ get_or zs i (pos 0)
  old_number l h c = let long = long_crossed m zs ys l in ap (λ t. get_or t i (pos 0)) c.0 ∙ get_or-rewritten i (crossed_line m zs ys) zs (pos 0) long (omega (arith, long, h))

  pub one_crossed : (x : ℤ) (found b : Bool) (after : List ℤ) → length zs ≡ length ys → i < length zs → Crossed m zs ys i now narrow → x ≡ int_div (m.p *ℤ get_or now i (pos 0) -ℤ m.q *ℤ get_or ys i (pos 0)) m.g → (IsTrue found → IsTrue narrow) → (IsTrue found → Narrow x)
      → after ≡ set now i x → b ≡ found → Crossed m zs ys (i + 1) after b
  one_crossed x found b after l h c e both one f g = (
    f ∙ rewritten_more i (crossed_line m zs ys) zs now x (pos 0) long (omega (arith, long, h)) c.0 value,
    λ t. let t = subst IsTrue g t in narrow_more (crossed_line m zs ys) i x (omega (arith, long, h)) (c.1 (both t)) value (one t),
  )
    where
      long : length (crossed_line m zs ys) ≡ length zs
      long = long_crossed m zs ys l

      value : x ≡ get_or (crossed_line m zs ys) i (pos 0)
      value = e ∙ ap (λ t. int_div (m.p *ℤ t -ℤ m.q *ℤ get_or ys i (pos 0)) m.g) (old_number l h c) ∙ crossing_is m zs ys i (pos 0) l h

  pub one_left : (after : List ℤ) (b : Bool) → length zs ≡ length ys → i < length zs → Crossed m zs ys i now narrow → All Narrow zs → int_div (m.p *ℤ get_or now i (pos 0) -ℤ m.q *ℤ get_or ys i (pos 0)) m.g ≡ get_or now i (pos 0) → after ≡ now → b ≡ narrow
      → Crossed m zs ys (i + 1) after b
  one_left after b l h c all e f g = (
    f ∙ rewritten_same i (crossed_line m zs ys) zs now (pos 0) long (omega (arith, long, h)) c.0 same,
    λ t. narrow_more (crossed_line m zs ys) i (get_or zs i (pos 0)) (omega (arith, long, h)) (c.1 (subst IsTrue g t)) same (All-get_or Narrow zs i (pos 0) h all),
  )
    where
      long : length (crossed_line m zs ys) ≡ length zs
      long = long_crossed m zs ys l

      old : get_or now i (pos 0) ≡ get_or zs i (pos 0)
      old = old_number l h c

      same : get_or zs i (pos 0) ≡ get_or (crossed_line m zs ys) i (pos 0)
      same = sym old ∙ sym e ∙ ap (λ t. int_div (m.p *ℤ t -ℤ m.q *ℤ get_or ys i (pos 0)) m.g) old ∙ crossing_is m zs ys i (pos 0) l h

  pub all_crossed : length zs ≡ length ys → length zs ≤ i → Crossed m zs ys i now narrow → now ≡ crossed_line m zs ys
  all_crossed l h c = let long = long_crossed m zs ys l in rewritten_all i (crossed_line m zs ys) zs now (omega (arith, long, h)) h c.0

  pub all_narrow : length zs ≡ length ys → length zs ≤ i → Crossed m zs ys i now narrow → IsTrue narrow → All Narrow now
  all_narrow l h c t = let long = long_crossed m zs ys l in subst (All Narrow) (sym (all_crossed l h c)) (narrow_all (crossed_line m zs ys) i (omega (arith, long, h)) (c.1 t))
