-- Points of longer paths.
--
--   side_rows-append   the rows of two paths, one after the other
--   on_order           a point of a path is one of the path with an order more
--   on_side            and of the path with a side more, where it meets that side's row
--   row_on_path        a point of a path meets the row of each side on it
--   many_rows          two rows for each object, and one for each side on the path
use Rattle.std.proofs.Common.{◌≡◌, ℕ, suc, ◌+◌, ◌*◌, length, length-append, arith, List, [], ◌∷◌, ◌++◌, refl, ap, sym, subst, ◌∙◌, append-nil, append_assoc, pos, ◌≤ℤ◌, inl, inr}
use Rattle.std.proofs.lemmas.List.Elements.{All-push}
use Rattle.integer_laws.specs.Members.{In}
use Rattle.integer_laws.specs.Laws.Members.{In-append_right, All-in}
use Rattle.seq_model.specs.Splits.{Values, IsOn}
use Rattle.seq_model.specs.declared.row.Row.{Row}
use Rattle.seq_model.specs.Systems.{bounds_of, side_row, side_rows, system, row_value, MeetsRows}
use Rattle.seq_model.specs.Trees.{also}
use Rattle.plan_laws.specs.Members.{side_count}
use Rattle.seq_model.specs.declared.job.Job.{Job}
use Rattle.seq_model.specs.declared.job.Object.{Object}
use Rattle.seq_model.specs.declared.tree.Choice.{Choice}
use Rattle.seq_model.specs.declared.tree.Choice.TheVariants as Choices
use Rattle.seq_model.specs.declared.tree.Contact.{Contact}
use Rattle.seq_model.specs.declared.tree.Dir.{Dir}

pub side_rows-append : (job : Job) (e : ℕ) (path more : List Choice) → side_rows job e (path ++ more) ≡ side_rows job e path ++ side_rows job e more
side_rows-append job e [] more = refl
side_rows-append job e (Choices.Before i j ∷ path) more = side_rows-append job e path more
side_rows-append job e (Choices.Side contact dir ∷ path) more = ap (λ rows. side_row job e contact dir ∷ rows) (side_rows-append job e path more)

order_rows : (job : Job) (e : ℕ) (path : List Choice) (i j : ℕ) → system job e (also path (Choices.Before i j)) ≡ system job e path
order_rows job e path i j = ap (λ rows. bounds_of job e 0 job.objects ++ rows) (side_rows-append job e path (Choices.Before i j ∷ []) ∙ append-nil (side_rows job e path))

side_more : (job : Job) (e : ℕ) (path : List Choice) (contact : Contact) (dir : Dir) → system job e (also path (Choices.Side contact dir)) ≡ system job e path ++ side_row job e contact dir ∷ []
side_more job e path contact dir =
    ap (λ rows. bounds_of job e 0 job.objects ++ rows) (side_rows-append job e path (Choices.Side contact dir ∷ []))
    ∙ sym (append_assoc (bounds_of job e 0 job.objects) (side_rows job e path) (side_row job e contact dir ∷ []))

pub on_order : (job : Job) (e : ℕ) (path : List Choice) (at : Values) (i j : ℕ) → IsOn job e path at → IsOn job e (also path (Choices.Before i j)) at
on_order job e path at i j on = record { meets = subst (λ rows. MeetsRows rows at.d at.u) (sym (order_rows job e path i j)) on.meets; many = on.many }

pub on_side : (job : Job) (e : ℕ) (path : List Choice) (at : Values) (contact : Contact) (dir : Dir) → IsOn job e path at → pos 0 ≤ℤ row_value at.d at.u (side_row job e contact dir)
    → IsOn job e (also path (Choices.Side contact dir)) at
on_side job e path at contact dir on h = record {
  meets = subst (λ rows. MeetsRows rows at.d at.u) (sym (side_more job e path contact dir))
      (record { positive = on.meets.positive; coordinates = on.meets.coordinates; each = All-push (λ row. pos 0 ≤ℤ row_value at.d at.u row) (system job e path) (side_row job e contact dir) on.meets.each h });
  many = on.many;
}

pub row_in : (job : Job) (e : ℕ) (path : List Choice) (contact : Contact) (dir : Dir) → In (Choices.Side contact dir) path → In (side_row job e contact dir) (side_rows job e path)
row_in job e [] contact dir i = i
row_in job e (Choices.Before a b ∷ path) contact dir (inl same) = absurd (not_order same)
  where
    not_order : Choices.Side contact dir ≡ Choices.Before a b → ⊥
    not_order same = cc
row_in job e (Choices.Before a b ∷ path) contact dir (inr i) = row_in job e path contact dir i
row_in job e (Choices.Side c d ∷ path) contact dir (inl same) = inl (ap (row_of (side_row job e contact dir)) same)
  where
    row_of : Row → Choice → Row
    row_of none (Choices.Before a b) = none
    row_of none (Choices.Side a b) = side_row job e a b
row_in job e (Choices.Side c d ∷ path) contact dir (inr i) = inr (row_in job e path contact dir i)

pub row_on_path : (job : Job) (e : ℕ) (path : List Choice) (at : Values) (contact : Contact) (dir : Dir) → IsOn job e path at → In (Choices.Side contact dir) path → pos 0 ≤ℤ row_value at.d at.u (side_row job e contact dir)
row_on_path job e path at contact dir on i =
    All-in (λ row. pos 0 ≤ℤ row_value at.d at.u row) (system job e path) (side_row job e contact dir) on.meets.each
    (In-append_right (bounds_of job e 0 job.objects) (side_rows job e path) (side_row job e contact dir) (row_in job e path contact dir i))

-- ---- how many rows
many_bounds : (job : Job) (e v : ℕ) (objects : List Object) → length (bounds_of job e v objects) ≡ 2 * length objects
many_bounds job e v [] = refl
many_bounds job e v (o ∷ objects) = let r = many_bounds job e (v + 2) objects in omega (arith, r)

many_sides : (job : Job) (e : ℕ) (path : List Choice) → length (side_rows job e path) ≡ side_count path
many_sides job e [] = refl
many_sides job e (Choices.Before i j ∷ path) = many_sides job e path
many_sides job e (Choices.Side c d ∷ path) = ap (λ n. suc n) (many_sides job e path)

pub many_rows : (job : Job) (e : ℕ) (path : List Choice) → length (system job e path) ≡ 2 * length job.objects + side_count path
many_rows job e path = omega (arith, length-append (bounds_of job e 0 job.objects) (side_rows job e path), many_bounds job e 0 job.objects, many_sides job e path)
