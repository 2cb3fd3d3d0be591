-- No bytes have two descriptions, two causes, or a description and a cause.
--
--   description-one        two descriptions of the same bytes are the same
--   refusal-one            two causes of the same bytes are the same
--   description-refusal    bytes with a description have no cause
use Rattle.std.proofs.Common.{◌≡◌, ℕ, List, Result, Ok, Err, inl, inr, sym, subst, ◌∙◌, Some}
use Rattle.seq_model.specs.Scenes.{Description}
use Rattle.toml.specs.Data.{Members}
use Rattle.printer_text.specs.Printers.{DescribedBy, IsRefusedPrinter, IsTreeOf, description_in}
use Rattle.printer_text.specs.declared.Prn.{Prn}

tree-one : (bytes : List ℕ) (t u : Members) → IsTreeOf bytes t → IsTreeOf bytes u → u ≡ t
tree-one bytes t u p q = (let same : Some u ≡ Some t = sym q.parsed ∙ p.parsed in cc)

result-ok : {A E : Type 0} (r : Result A E) (x y : A) → r ≡ Ok x → r ≡ Ok y → x ≡ y
result-ok r x y p q = (let same : Ok x ≡ Ok y = sym p ∙ q in cc)

result-err : {A E : Type 0} (r : Result A E) (x y : E) → r ≡ Err x → r ≡ Err y → x ≡ y
result-err r x y p q = (let same : Err x ≡ Err y = sym p ∙ q in cc)

result-not-both : {A E : Type 0} (r : Result A E) (x : A) (e : E) → r ≡ Ok x → r ≡ Err e → ⊥
result-not-both r x e p q = (let same : Ok x ≡ Err e = sym p ∙ q in absurd cc)

pub description-one : (bytes : List ℕ) (d e : Description) → DescribedBy bytes d → DescribedBy bytes e → d ≡ e
description-one bytes d e p q = result-ok (description_in p.tree) d e p.states (subst (λ t. description_in t ≡ Ok e) (tree-one bytes p.tree q.tree p.is_tree q.is_tree) q.states)

pub refusal-one : (bytes : List ℕ) (why other : Prn) → IsRefusedPrinter bytes why → IsRefusedPrinter bytes other → why ≡ other
refusal-one bytes why other (inl p) (inl q) = result-err (description_in p.tree) why other p.refused (subst (λ t. description_in t ≡ Err other) (tree-one bytes p.tree q.tree p.is_tree q.is_tree) q.refused)
refusal-one bytes why other (inl p) (inr q) = absurd (q.none p.tree p.is_tree)
refusal-one bytes why other (inr p) (inl q) = absurd (p.none q.tree q.is_tree)
refusal-one bytes why other (inr p) (inr q) = p.toml ∙ sym q.toml

pub description-refusal : (bytes : List ℕ) (d : Description) (why : Prn) → DescribedBy bytes d → IsRefusedPrinter bytes why → ⊥
description-refusal bytes d why p (inl r) = result-not-both (description_in p.tree) d why p.states (subst (λ t. description_in t ≡ Err why) (tree-one bytes p.tree r.tree p.is_tree r.is_tree) r.refused)
description-refusal bytes d why p (inr n) = n.none p.tree p.is_tree
