-- A contact that is opened on a path of the job doesn't collide at its points.
--
--   in_split           a member parts its list
--   opened_is_clear    a contact with a side on a path collides at no point of the path
use Rattle.std.proofs.Common.{◌≡◌, ℕ, List, [], ◌∷◌, ◌++◌, sym, ap, inl, inr, Contains}
use Rattle.integer_laws.specs.Members.{In}
use Rattle.integer_laws.specs.Laws.Members.{In-from_contains}
use Rattle.plan_laws.specs.Laws.SideRows.{beyond_by_row}
use Rattle.search_laws.specs.Laws.Gaps.{beyond_is_clear}
use Rattle.plan_laws.specs.Laws.PathRows.{row_on_path}
use Rattle.seq_model.specs.Splits.{Values, IsOn, ContactCollidesAt}
use Rattle.seq_model.specs.Trees.{IsPath}
use Rattle.seq_model.specs.declared.job.Job.{Job}
use Rattle.seq_model.specs.declared.tree.Choice.{Choice}
use Rattle.seq_model.specs.declared.tree.Choice.TheVariants as Choices
use Rattle.seq_model.specs.declared.tree.Contact.{Contact}
use Rattle.seq_model.specs.declared.tree.Dir.{Dir}

pub in_split : {X : Type 0} (xs : List X) (x : X) → In x xs → (front back : List X) × (xs ≡ front ++ x ∷ back)
in_split [] x i = absurd i
in_split (y ∷ xs) x (inl e) = ([], xs, ap (λ z. z ∷ xs) (sym e))
in_split (y ∷ xs) x (inr i) = let r = in_split xs x i in (y ∷ r.0, r.1, ap (λ t. y ∷ t) r.2)

pub opened_is_clear : (job : Job) (e : ℕ) (path : List Choice) (c : Contact) (dir : Dir) (at : Values) → IsPath job path → IsOn job e path at → Contains path (Choices.Side c dir) → ContactCollidesAt job e at c → ⊥
opened_is_clear job e path c dir at paths on has hits =
    let i = In-from_contains path (Choices.Side c dir) has in
    let s = in_split path (Choices.Side c dir) i in
    let may = paths s.0 s.1 c dir s.2 in
    let is = may.0 in
    let beyond = (beyond_by_row job e at.d at.u c dir is.i_in is.j_in is.apart on.many).0 (row_on_path job e path at c dir on i) in
    beyond_is_clear job e at c dir on.meets.positive may.1 beyond hits
