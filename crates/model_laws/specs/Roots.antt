-- When a tree refutes a path, by its root: the plain words for what is read from the left.
--
--   OrderRefutes job e path i j nodes        i < j, and the nodes are a tree that refutes the path with i before j added, and then one
--                                            that refutes it with j before i added
--   RefuteEach job e path c dirs nodes       the nodes are one tree for each of the directions, in their order, which refutes the path
--                                            with this side of the contact added
--   SideRefutes job e path c children nodes  the contact exists, its order is on the path, it has as many sides as there are children,
--                                            and the nodes are one such tree for each of them
use Rattle.std.proofs.Common.{◌≡◌, ℕ, ◌<◌, List, [], ◌∷◌, ◌++◌, length}
use Rattle.seq_model.specs.Contacts.{IsContact, points_of}
use Rattle.seq_model.specs.Sides.{AreSides}
use Rattle.seq_model.specs.Trees.{also, IsReady, Refutes}
use Rattle.seq_model.specs.declared.job.Job.{Job}
use Rattle.seq_model.specs.declared.tree.Choice.{Choice}
use Rattle.seq_model.specs.declared.tree.Choice.TheVariants as Choices
use Rattle.seq_model.specs.declared.tree.Contact.{Contact}
use Rattle.seq_model.specs.declared.tree.Dir.{Dir}
use Rattle.seq_model.specs.declared.tree.Node.{Node}

pub record OrderRefutes (job : Job) (e : ℕ) (path : List Choice) (i j : ℕ) (nodes : List Node) : Type 0 where
  pub rising : i < j
  pub known : j < length job.objects
  pub first : List Node
  pub second : List Node
  pub nodes_are : nodes ≡ first ++ second
  pub first_refutes : Refutes job e (also path (Choices.Before i j)) first
  pub second_refutes : Refutes job e (also path (Choices.Before j i)) second

abbrev pub RefuteEach : Job → ℕ → List Choice → Contact → List Dir → List Node → Type 0
RefuteEach job e path contact [] nodes = nodes ≡ []
RefuteEach job e path contact (dir ∷ dirs) nodes =
    (child others : List Node) × (nodes ≡ child ++ others) × Refutes job e (also path (Choices.Side contact dir)) child × RefuteEach job e path contact dirs others

pub record SideRefutes (job : Job) (e : ℕ) (path : List Choice) (contact : Contact) (children : ℕ) (nodes : List Node) : Type 0 where
  pub exists : IsContact job contact
  pub ready : IsReady job path contact
  pub dirs : List Dir
  pub sides : AreSides (points_of job contact) dirs
  pub many : children ≡ length dirs
  pub each : RefuteEach job e path contact dirs nodes
