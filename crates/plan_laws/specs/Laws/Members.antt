-- A path's points are those of its members: so what is said of a path holds of each path that has more.
--
--   on_from_members      a point of the empty path that meets the row of each side of a path is one of the path
--   on_part              a point of a path is one of each path whose choices stand on it
--   grounded_on_part     and a split that is grounded on a path is so on each such path
use Rattle.std.proofs.Common.{ℕ, List, [], ◌∷◌, ◌++◌, All, refl, pos, ◌≤ℤ◌, inl, inr}
use Rattle.std.proofs.lemmas.List.Elements.{All-nil, All-cons, All-append}
use Rattle.integer_laws.specs.Members.{In}
use Rattle.integer_laws.specs.Laws.Members.{In-from_contains, Contains-from_in, In-append_left, All-in, All-from_in}
use Rattle.plan_laws.specs.Laws.PathRows.{row_on_path}
use Rattle.plan_laws.specs.Members.{IsPart, MeetsSides}
use Rattle.seq_model.specs.Splits.{Values, IsOn, Grounded}
use Rattle.seq_model.specs.declared.row.Row.{Row}
use Rattle.seq_model.specs.Systems.{bounds_of, side_row, side_rows, row_value}
use Rattle.seq_model.specs.declared.job.Job.{Job}
use Rattle.seq_model.specs.declared.tree.Choice.{Choice}
use Rattle.seq_model.specs.declared.tree.Choice.TheVariants as Choices
use Rattle.seq_model.specs.declared.tree.Contact.{Contact}
use Rattle.seq_model.specs.declared.tree.Dir.{Dir}
use Rattle.seq_model.specs.declared.tree.Node.{Node}
use Rattle.seq_model.specs.declared.tree.Node.TheVariants as Nodes

abbrev IsMet : Values → Row → Type 0
IsMet at row = pos 0 ≤ℤ row_value at.d at.u row

sides_met : (job : Job) (e : ℕ) (path : List Choice) (at : Values) → ((contact : Contact) (dir : Dir) → In (Choices.Side contact dir) path → IsMet at (side_row job e contact dir)) → All (IsMet at) (side_rows job e path)
sides_met job e [] at h = All-nil (IsMet at)
sides_met job e (Choices.Before i j ∷ path) at h = sides_met job e path at (λ c d i. h c d (inr i))
sides_met job e (Choices.Side contact dir ∷ path) at h = All-cons (IsMet at) (side_row job e contact dir) (side_rows job e path) (h contact dir (inl refl)) (sides_met job e path at (λ c d i. h c d (inr i)))

bounds_met : (job : Job) (e : ℕ) (path : List Choice) (at : Values) → IsOn job e path at → All (IsMet at) (bounds_of job e 0 job.objects)
bounds_met job e path at on =
    All-from_in (IsMet at) (bounds_of job e 0 job.objects) (λ row i. All-in (IsMet at) (bounds_of job e 0 job.objects ++ side_rows job e path) row on.meets.each (In-append_left (bounds_of job e 0 job.objects) (side_rows job e path) row i))

pub on_from_members : (job : Job) (e : ℕ) (base path : List Choice) (at : Values) → IsOn job e base at → MeetsSides job e path at → IsOn job e path at
on_from_members job e base path at on met = record {
  meets = record {
    positive = on.meets.positive;
    coordinates = on.meets.coordinates;
    each = All-append (IsMet at) (bounds_of job e 0 job.objects) (side_rows job e path) (bounds_met job e base at on) (sides_met job e path at (λ c d i. met c d (Contains-from_in path (Choices.Side c d) i)));
  };
  many = on.many;
}

pub on_part : (job : Job) (e : ℕ) (part path : List Choice) (at : Values) → IsPart part path → IsOn job e path at → IsOn job e part at
on_part job e part path at is on =
    on_from_members job e path part at on (λ c d h. row_on_path job e path at c d on (In-from_contains path (Choices.Side c d) (is (Choices.Side c d) h)))

pub grounded_on_part : (job : Job) (e : ℕ) (part path : List Choice) (node : Node) → IsPart part path → Grounded job e path node → Grounded job e part node
grounded_on_part job e part path (Nodes.Side contact children) is g = record { at = g.at; on = on_part job e part path g.at is g.on; here = g.here }
grounded_on_part job e part path (Nodes.Order i j) is g =
    ((λ c. g.0.0 (is (Choices.Before i j) c), λ c. g.0.1 (is (Choices.Before j i) c)), record { at = g.1.at; on = on_part job e part path g.1.at is g.1.on; here = g.1.here })
grounded_on_part job e part path (Nodes.Bound mults) is g = tt
grounded_on_part job e part path (Nodes.Cycle objects) is g = tt
grounded_on_part job e part path Nodes.Pending is g = tt
