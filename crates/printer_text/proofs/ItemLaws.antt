-- The items that a loop has left, and the pairs that are read of them.
use Rattle.std.proofs.Common.{◌≡◌, ℕ, ◌+◌, ◌<◌, ◌≤◌, ℤ, List, [], ◌∷◌, length, drop, get_or, Ok, Err, refl, arith}
use Rattle.std.proofs.lemmas.List.{drop_all}
use Rattle.seq_model.specs.declared.printer.Spot.{Spot}
use Rattle.toml.specs.Data.{Data, item}
use Rattle.toml.specs.View.{view, items_view}
use Rattle.toml.specs.declared.value.Value.{Value}
use Rattle.toml.proofs.Views.{items_view-drop}
use Rattle.printer_text.specs.declared.values.Cause.{Cause}
use Rattle.printer_text.specs.Values.{pair_of, pair_in, grains_in, pairs_behind, count}

pub items_more : (vs : List Value) (i : ℕ) (d : Value) → i < length vs → items_view (drop i vs) ≡ item (view (get_or vs i d)) (items_view (drop (i + 1) vs))
items_more vs i d h = items_view-drop vs i d h

pub pair_read : (grain low high x y : ℤ) (d : Data) (two : Data × Data) → pair_of d ≡ Ok two → grains_in grain low high two.0 ≡ Ok x → grains_in grain low high two.1 ≡ Ok y
    → pair_in grain low high d ≡ Ok (record { x = x; y = y })
pair_read grain low high x y d two a b c = rw (a, b, c) refl

pub pairs_stop : (grain low high : ℤ) (done : List Spot) (vs : List Value) (i : ℕ) (d : Value) (why : Cause) → i < length vs
    → Err why ≡ pair_in grain low high (view (get_or vs i d)) → pairs_behind grain low high done (items_view (drop i vs)) ≡ Err why
pairs_stop grain low high done vs i d why h e = rw (items_more vs i d h, ← e) refl

pub pairs_end : (grain low high : ℤ) (done : List Spot) (vs : List Value) (i : ℕ) → length vs ≤ i
    → pairs_behind grain low high done (items_view (drop i vs)) ≡ Ok done
pairs_end grain low high done vs i h = rw (drop_all i vs h) refl

pub count_is : (vs : List Value) → count (items_view vs) ≡ length vs
count_is [] = refl
count_is (v ∷ vs) = let e = count_is vs in omega arith
