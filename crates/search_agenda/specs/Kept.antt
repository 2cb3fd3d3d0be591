-- How the open nodes are kept: in a slab, under keys that stand in an order, and each by what it needs of one trail.
--
--   value_or slot           what a slot holds
--   values_at s keys        what the slab has at the keys, in their order
--   AreKept s keys          each key is there, and once
--   open_of trail w         the open node that a kept one stands for
--   AreNested depth waiting   none needs more of the trail than the one before it, nor the first more than this
use Rattle.std.specs.Prelude.{ℕ, ◌≤◌, List, [], ◌∷◌, ◌++◌, map, take, Option, Some, None, IsSome}
use Rattle.std.specs.Option.{option_to_list}
use Rattle.integer_laws.specs.Members.{In}
use Rattle.slab.specs.Slab.{Slab, get}
use Rattle.search_agenda.specs.Agendas.{OpenNode}
use Rattle.search_agenda.specs.declared.agenda.Waiting.{Waiting}
use Rattle.seq_model.specs.declared.tree.Choice.{Choice}

abbrev pub value_or : Option Waiting → Waiting
value_or None = record { number = 0; depth = 0; choice = None }
value_or (Some w) = w

abbrev pub values_at : Slab Waiting → List ℕ → List Waiting
values_at s keys = map (λ k. value_or (get s k)) keys

abbrev pub AreKept : Slab Waiting → List ℕ → Type 0
AreKept s [] = Unit {0}
AreKept s (k ∷ keys) = IsSome (get s k) × (In k keys → ⊥) × AreKept s keys

abbrev pub open_of : List Choice → Waiting → OpenNode
open_of trail w = record { number = w.number; path = take w.depth trail ++ option_to_list w.choice }

abbrev pub AreNested : ℕ → List Waiting → Type 0
AreNested depth [] = Unit {0}
AreNested depth (w ∷ waiting) = (w.depth ≤ depth) × AreNested w.depth waiting
