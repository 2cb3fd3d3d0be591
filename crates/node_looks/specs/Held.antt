-- The orders of a path, noted and held.
--
--   IsTable path table         of two objects below 16, i is before j on the path where the table says so at 16 i + j
--   ComesBefore a b i j        a comes before i, or is i, and then b before j
--   HoldsOrders path n i j g   a graph of n objects holds the path's orders among them that come before (i, j), and no others
use Rattle.std.specs.Prelude.{◌≡◌, ◌≢◌, ℕ, ◌+◌, ◌*◌, ◌<◌, ◌≤◌, ◌⊎◌, List, All, Bool, false, length, slice_index_or, Contains}
use Rattle.object_orders.specs.Orders.{Graph, IsAmong}
use Rattle.plan_laws.specs.Looking.{OnPath, is_before}
use Rattle.seq_model.specs.declared.tree.Choice.{Choice}

pub record IsTable (path : List Choice) (table : List Bool) : Type 0 where
  pub long : length table ≡ 256
  pub says : (i j : ℕ) → i < 16 → j < 16 → slice_index_or table (16 * i + j) false ≡ is_before path i j

abbrev pub ComesBefore : ℕ → ℕ → ℕ → ℕ → Type 0
ComesBefore a b i j = (a < i) ⊎ ((a ≡ i) × (b < j))

abbrev pub IsOrderOf : List Choice → ℕ → ℕ × ℕ → Type 0
IsOrderOf path n o = IsAmong n o × OnPath path o.0 o.1

pub record HoldsOrders (path : List Choice) (n i j : ℕ) (g : Graph) : Type 0 where
  pub objects : g.objects ≡ n
  pub few : length g.held ≤ 16 * i + j
  pub only : All (IsOrderOf path n) g.held
  pub all : (a b : ℕ) → a < n → b < n → a ≢ b → ComesBefore a b i j → OnPath path a b → Contains g.held (a, b)
