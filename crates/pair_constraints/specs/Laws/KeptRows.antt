-- The row of a kept side, from what is kept.
--
--   kept_row, kept_row_at      it is the row of the system
use Rattle.std.proofs.Common.{◌≡◌, ℕ, ◌<◌, List, length, get_or, ap, ap₂, ◌∙◌, ℤ, ◌-ℤ◌}
use Rattle.integer_laws.specs.Members.{In}
use Rattle.model_laws.specs.Laws.Collisions.{any_default}
use Rattle.seq_model.specs.Sides.{along}
use Rattle.seq_model.specs.Systems.{pair_row, side_constant, side_row}
use Rattle.seq_model.specs.declared.job.Job.{Job}
use Rattle.seq_model.specs.declared.printer.Spot.{Spot}
use Rattle.pair_constraints.specs.Keeping.{IsKept}
use Rattle.pair_constraints.specs.Laws.Settling.{in_at}
use Rattle.pair_constraints.specs.declared.kept.Kept.{Kept}
use Rattle.pair_constraints.specs.declared.limits.Limit.{Limit}

constant_is : (job : Job) (e : ℕ) (k : Kept) (l : Limit) → IsKept job k → In l k.limits → along l.dir k.shift -ℤ l.most ≡ side_constant job e k.contact l.dir
constant_is job e k l is i = ap₂ (λ (s : Spot) (g : ℤ). along l.dir s -ℤ g) is.shift (is.limits.most l i)

same_row : (job : Job) (c g x v y w : ℤ) (i j m n : ℕ) → c ≡ g → x ≡ v → y ≡ w → i ≡ m → j ≡ n → pair_row job c x y i j ≡ pair_row job g v w m n
same_row job c g x v y w i j m n p q r s t =
    ap (λ z. pair_row job z x y i j) p ∙ ap (λ z. pair_row job g z y i j) q ∙ ap (λ z. pair_row job g v z i j) r ∙ ap (λ z. pair_row job g v w z j) s ∙ ap (λ z. pair_row job g v w m z) t

pub kept_row : (job : Job) (e : ℕ) (k : Kept) (side : ℕ) (l d : Limit) (c x y : ℤ) (i j : ℕ) → IsKept job k → side < length k.limits → l ≡ get_or k.limits side l
    → c ≡ along l.dir k.shift -ℤ l.most → x ≡ l.dir.x → y ≡ l.dir.y → i ≡ k.contact.i → j ≡ k.contact.j
    → pair_row job c x y i j ≡ side_row job e k.contact (get_or k.limits side d).dir
kept_row job e k side l d c x y i j is h at p q r s t =
    same_row job c (side_constant job e k.contact l.dir) x l.dir.x y l.dir.y i j k.contact.i k.contact.j (p ∙ constant_is job e k l is (in_at k.limits side l h at)) q r s t
    ∙ ap (λ (m : Limit). side_row job e k.contact m.dir) (at ∙ any_default k.limits side l d h)

-- the same where the side is read from a list that is the kept one
pub kept_row_at : (job : Job) (e : ℕ) (k : Kept) (side : ℕ) (xs : List Limit) (b d : Limit) (c x y : ℤ) (i j : ℕ) → IsKept job k → side < length k.limits → xs ≡ k.limits
    → c ≡ along (get_or xs side b).dir k.shift -ℤ (get_or xs side b).most → x ≡ (get_or xs side b).dir.x → y ≡ (get_or xs side b).dir.y → i ≡ k.contact.i → j ≡ k.contact.j
    → pair_row job c x y i j ≡ side_row job e k.contact (get_or k.limits side d).dir
kept_row_at job e k side xs b d c x y i j is h same p q r s t =
    kept_row job e k side (get_or xs side b) d c x y i j is h (ap (λ (ys : List Limit). get_or ys side b) same ∙ any_default k.limits side b (get_or xs side b) h) p q r s t
