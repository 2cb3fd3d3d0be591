use Rattle.std.proofs.Common.{rules, ◌≡◌, ◌∙◌, ◌*◌, ℕ, ℤ, SFits, w64, to_z, to_z-of_z, pos, ap, sym, subst, arith, unsigned_abs}
use Rattle.std.proofs.Math.Nat.{dvd-mul_right}
use Rattle.std.specs.Int.{◌∣◌}
use Rattle.row_dictionary.proofs.narrow.is_settled.Goals as goal

one_divides : (x : ℤ) (n : ℕ) → x ≡ pos 1 → unsigned_abs x ∣ n
one_divides x n e = subst (λ (t : ℤ). unsigned_abs t ∣ n) (sym e) (subst (λ t. 1 ∣ t) (once n) (dvd-mul_right 1 n))
  where
    once : (n : ℕ) → 1 * n ≡ n
    once n = omega arith

pub returns-then-found-eq1-clause-q : goal.returns-then-found-eq1-clause-q
returns-then-found-eq1-clause-q c =
    let fits : SFits w64 c.args.found.now = search rules in
    λ t. one_divides c.args.found.now (unsigned_abs c.args.mix.now.q) (sym (to_z-of_z fits) ∙ ap (to_z w64) c.if-found-eq1.true)

pub returns-then-found-eq1-clause-p : goal.returns-then-found-eq1-clause-p
returns-then-found-eq1-clause-p c =
    let fits : SFits w64 c.args.found.now = search rules in
    λ t. one_divides c.args.found.now (unsigned_abs c.args.mix.now.p) (sym (to_z-of_z fits) ∙ ap (to_z w64) c.if-found-eq1.true)
