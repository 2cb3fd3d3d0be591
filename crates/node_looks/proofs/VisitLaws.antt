-- An order of visits, sorted.
use Rattle.std.proofs.Common.{◌≡◌, ℕ, List, Bool, true, false, eqb, get_or, refl, sym, ◌∙◌}
use Rattle.std.proofs.lemmas.Bool.{eqb-true}
use Rattle.std.proofs.lemmas.List.Sorted.{Contains-permutation, IsPermutation-sym}
use Rattle.std.proofs.lemmas.Map.Keys.{IsDistinct-IsPermutation, IsDistinct-from_apart, apart_from_distinct}
use Rattle.std.specs.List.Sorted.{IsPermutation}
use Rattle.node_looks.proofs.OrderLaws.{differs, eqb_never}
use Rattle.node_looks.specs.Looks.{IsVisit}

pub visit_moved : (n : ℕ) (xs ys : List ℕ) → IsVisit n xs → IsPermutation xs ys → IsVisit n ys
visit_moved n xs ys is moved = record {
  all = λ k. (λ c. (is.all k).0 (Contains-permutation ys xs k (IsPermutation-sym xs ys moved) c), λ l. Contains-permutation xs ys k moved ((is.all k).1 l));
  once = λ p q d less within same.
      let start = IsDistinct-from_apart eqb xs (λ i j e l m. differs (get_or xs i e) (get_or xs j e) (is.once i j e l m)) in
      let end = IsDistinct-IsPermutation eqb flips xs ys moved start in
      eqb_never (get_or ys p d) (get_or ys q d) same (apart_from_distinct eqb ys p q d end less within);
}
  where
    flips : (x y : ℕ) → eqb x y ≡ eqb y x
    flips x y = by (eqb x y) refl (eqb y x) refl
      where
        by : (a : Bool) → eqb x y ≡ a → (b : Bool) → eqb y x ≡ b → eqb x y ≡ eqb y x
        by true p true q = p ∙ sym q
        by false p false q = p ∙ sym q
        by true p false q = absurd (eqb_never y x (sym (eqb-true x y p)) q)
        by false p true q = absurd (eqb_never x y (sym (eqb-true y x q)) p)
