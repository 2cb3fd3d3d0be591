-- Orders among objects, which are numbered from 0. An order is a pair: (a, b) says that object a comes before object b.
--
--   Graph                           so many objects, and the orders held among them, newest last
--   IsAmong n o                     the order is between two different objects below n
--   AreAmong n orders               each order is
--   IsOrdered orders a b            a comes before b by one of the orders
--   Leads orders a b                a comes before b by one order, or by several over other objects
--   HasCycle orders                 some object leads to itself
--   IsGraph n held                  what each graph keeps: 1 to 16 objects, orders among them, and no cycle
--   IsOnce objects                  no object stands twice in the list
--   EachNext R objects              R holds from each object of the list to the next one
--   IsWay orders objects            each object of the list is ordered before the next one
--   IsSimpleCycle orders objects    two objects or more, each once and before the next, and the last before the first
--   ClosesCycle orders i j objects  i, j and others: a cycle of the orders together with (i, j)
--   StandsBefore objects a b        a has an earlier place in the list than b
--   IsOrder n orders objects        all n objects, each once, and each order's first object stands before its second
--   HasOrder n orders               there is such a list
use Rattle.std.specs.Prelude.{◌≡◌, ◌≢◌, ◌↔◌, ℕ, ◌<◌, ◌≤◌, List, [], ◌∷◌, ◌++◌, length, slice_index, take, All, AllPairs, Contains}

pub record Graph : Type 0 where
  pub objects : ℕ
  pub held : List (ℕ × ℕ)

abbrev pub IsAmong : ℕ → ℕ × ℕ → Type 0
IsAmong n o = (o.0 < n) × (o.1 < n) × (o.0 ≢ o.1)

abbrev pub AreAmong : ℕ → List (ℕ × ℕ) → Type 0
AreAmong n orders = All (IsAmong n) orders

abbrev pub IsOrdered : List (ℕ × ℕ) → ℕ → ℕ → Type 0
IsOrdered orders a b = Contains orders (a, b)

-- the transitive closure of the orders
pub data Leads (orders : List (ℕ × ℕ)) : ℕ → ℕ → Type 0 where
  one : (a b : ℕ) → IsOrdered orders a b → Leads orders a b
  more : (a b c : ℕ) → IsOrdered orders a b → Leads orders b c → Leads orders a c

abbrev pub HasCycle : List (ℕ × ℕ) → Type 0
HasCycle orders = (a : ℕ) × Leads orders a a

pub record IsGraph (n : ℕ) (held : List (ℕ × ℕ)) : Type 0 where
  pub some : 1 ≤ n
  pub few : n ≤ 16
  pub among : AreAmong n held
  pub acyclic : HasCycle held → ⊥

abbrev pub IsOnce : List ℕ → Type 0
IsOnce objects = AllPairs (λ a b. a ≢ b) objects

abbrev pub EachNext : (ℕ → ℕ → Type 0) → List ℕ → Type 0
EachNext R [] = Unit {0}
EachNext R (a ∷ []) = Unit {0}
EachNext R (a ∷ b ∷ rest) = R a b × EachNext R (b ∷ rest)

abbrev pub IsWay : List (ℕ × ℕ) → List ℕ → Type 0
IsWay orders objects = EachNext (IsOrdered orders) objects

pub record IsSimpleCycle (orders : List (ℕ × ℕ)) (objects : List ℕ) : Type 0 where
  pub some : 2 ≤ length objects
  pub once : IsOnce objects
  pub round : IsWay orders (objects ++ take 1 objects)

pub record ClosesCycle (orders : List (ℕ × ℕ)) (i j : ℕ) (objects : List ℕ) : Type 0 where
  pub others : List ℕ
  pub begins : objects ≡ i ∷ j ∷ others
  pub is_cycle : IsSimpleCycle (orders ++ (i, j) ∷ []) objects

pub record StandsBefore (objects : List ℕ) (a b : ℕ) : Type 0 where
  pub earlier : ℕ
  pub later : ℕ
  pub apart : earlier < later
  pub within : later < length objects
  pub first : slice_index objects earlier ≡ a
  pub second : slice_index objects later ≡ b

pub record IsOrder (n : ℕ) (orders : List (ℕ × ℕ)) (objects : List ℕ) : Type 0 where
  pub all : (k : ℕ) → Contains objects k ↔ (k < n)
  pub once : IsOnce objects
  pub kept : All (λ o. StandsBefore objects o.0 o.1) orders

abbrev pub HasOrder : ℕ → List (ℕ × ℕ) → Type 0
HasOrder n orders = (objects : List ℕ) × IsOrder n orders objects
