-- All contacts of copies of one object have the same sides, so that nothing else is the number of nodes that are enough.
use Rattle.std.proofs.Common.{◌≡◌, ℕ, zero, suc, ◌<◌, ◌≤◌, List, length, replicate, slice_index_or, refl, ap, ap₂, sym, subst, ◌∙◌, ◌↔◌, ◌⊎◌, arith, inl, inr, lit<, lit≤}
use Rattle.std.proofs.lemmas.List.{length-replicate, get_or-replicate}
use lib.Dec.{T}
use Rattle.examples_model.specs.Certificates.{four_sides, six_sides}
use Rattle.examples_model.specs.Cubes.{cube, wedge, nozzle, object_of, first_contact}
use Rattle.examples_model.specs.Jobs.{printer, two_cubes, two_wedges, three_cubes}
use Rattle.model_laws.specs.Laws.OneList.{one_list_of_sides}
use Rattle.examples_model.proofs.SideLaws.{cube_sides, tip_sides, wedge_sides, wedge_tip_sides}
use Rattle.examples_model.proofs.TreeLaws.{is_first}
use Rattle.seq_model.specs.Budgets.{HasSides, IsMostSides, Full, full_of}
use Rattle.seq_model.specs.Contacts.{difference, points_of, zones_meet, IsContact, ZonesMeet}
use Rattle.seq_model.specs.Jobs.{no_object, no_zone, no_part, object_at, zone_at, part_at}
use Rattle.seq_model.specs.Parts.{tip}
use Rattle.seq_model.specs.Sides.{AreSides}
use Rattle.seq_model.specs.declared.job.Job.{Job}
use Rattle.seq_model.specs.declared.job.Object.{Object}
use Rattle.seq_model.specs.declared.job.Zone.{Zone}
use Rattle.seq_model.specs.declared.printer.Part.{Part}
use Rattle.seq_model.specs.declared.printer.Spot.{Spot}
use Rattle.seq_model.specs.declared.tree.Contact.{Contact}
use Rattle.seq_model.specs.declared.tree.Dir.{Dir}

-- a job has contacts, and each has just these sides, three or more
pub record AllHave (job : Job) (dirs : List Dir) : Type 0 where
  some : 3 ≤ length dirs
  contact : Contact
  is : IsContact job contact
  each : (c : Contact) → IsContact job c → AreSides (points_of job c) dirs

reached : (job : Job) (dirs : List Dir) (a : AllHave job dirs) → HasSides job a.contact (length dirs)
reached job dirs a = record { is = a.is; dirs = dirs; sides = a.each a.contact a.is; many = refl }

no_more : (job : Job) (dirs : List Dir) → AllHave job dirs → (c : Contact) (n : ℕ) → HasSides job c n → n ≤ length dirs
no_more job dirs a c n h =
    let same = ap length (one_list_of_sides (points_of job c) h.dirs dirs h.sides (a.each c h.is)) in
    let many = h.many in
    omega (arith, same, many)

pub as_many_are_most : (job : Job) (dirs : List Dir) → AllHave job dirs → IsMostSides job (length dirs)
as_many_are_most job dirs a = record { at_least = a.some; most = no_more job dirs a; reached = inr (a.contact, reached job dirs a) }

pub most_is_as_many : (job : Job) (dirs : List Dir) → AllHave job dirs → (s : ℕ) → IsMostSides job s → s ≡ length dirs
most_is_as_many job dirs a s m = by m.reached
  where
    all : length dirs ≤ s
    all = m.most a.contact (length dirs) (reached job dirs a)

    by : (s ≡ 3) ⊎ ((contact : Contact) × HasSides job contact s) → s ≡ length dirs
    by (inl e) = let some = a.some in omega (arith, all, some, e)
    by (inr r) = let few = no_more job dirs a r.0 s r.1 in omega (arith, all, few)

pub most_sides : (job : Job) (dirs : List Dir) → AllHave job dirs → (s : ℕ) → IsMostSides job s ↔ (s ≡ length dirs)
most_sides job dirs a s = (most_is_as_many job dirs a s, λ e. subst (IsMostSides job) (sym e) (as_many_are_most job dirs a))

pub full : (job : Job) (dirs : List Dir) → AllHave job dirs → (n : ℕ) → Full job n ↔ (n ≡ full_of job (length dirs))
full job dirs a n = (λ f. f.is ∙ ap (full_of job) (most_is_as_many job dirs a f.s f.sides), λ e. record { s = length dirs; sides = as_many_are_most job dirs a; is = e })

-- ---- copies of one object under the printer
record AreCopies (job : Job) (outline : List Spot) : Type 0 where
  count : ℕ
  objects : job.objects ≡ replicate count (object_of outline)
  parts : job.printer.parts ≡ printer.parts

abbrev zone_of : List Spot → Zone
zone_of outline = record { corners = outline; first = 0; last = 1 }

abbrev part_of_printer : ℕ → Part
part_of_printer k = slice_index_or printer.parts k no_part

-- the one zone of each
zone_is : (job : Job) (outline : List Spot) → AreCopies job outline → (o z : ℕ) → o < length job.objects → z < length (object_at job o).zones → zone_at job o z ≡ zone_of outline
zone_is job outline copies o z l k = ap (λ (object : Object). slice_index_or object.zones z no_zone) object ∙ only z (subst (λ (object : Object). z < length object.zones) object k)
  where
    below : o < copies.count
    below = subst (λ n. o < n) (ap length copies.objects ∙ length-replicate copies.count (object_of outline)) l

    object : object_at job o ≡ object_of outline
    object = ap (λ objects. slice_index_or objects o no_object) copies.objects ∙ get_or-replicate copies.count o (object_of outline) no_object below

    only : (z : ℕ) → z < 1 → slice_index_or (object_of outline).zones z no_zone ≡ zone_of outline
    only zero h = refl
    only (suc z) h = absurd (omega (arith, h))

-- copies meet by the tip and by the nozzle, and the gantry reaches no band of another
by_part : (outline : List Spot) (dirs : List Dir) → AreSides (difference outline outline tip.corners) dirs → AreSides (difference outline outline nozzle) dirs
    → (k : ℕ) → k < 3 → ZonesMeet (zone_of outline) (part_of_printer k) (zone_of outline) → AreSides (difference outline outline (part_of_printer k).corners) dirs
by_part outline dirs by_tip by_nozzle zero l m = by_tip
by_part outline dirs by_tip by_nozzle (suc zero) l m = by_nozzle
by_part outline dirs by_tip by_nozzle (suc (suc zero)) l m = absurd (subst T (sym m) tt)
by_part outline dirs by_tip by_nozzle (suc (suc (suc k))) l m = absurd (omega (arith, l))

copies_have : (job : Job) (outline : List Spot) (dirs : List Dir) → AreCopies job outline → AreSides (difference outline outline tip.corners) dirs → AreSides (difference outline outline nozzle) dirs
    → (c : Contact) → IsContact job c → AreSides (points_of job c) dirs
copies_have job outline dirs copies by_tip by_nozzle c is = subst (λ S. AreSides S dirs) (sym points) (by_part outline dirs by_tip by_nozzle c.part below met)
  where
    earlier : zone_at job c.i c.zi ≡ zone_of outline
    earlier = zone_is job outline copies c.i c.zi is.i_in is.zi_in

    later : zone_at job c.j c.zj ≡ zone_of outline
    later = zone_is job outline copies c.j c.zj is.j_in is.zj_in

    part : part_at job c.part ≡ part_of_printer c.part
    part = ap (λ parts. slice_index_or parts c.part no_part) copies.parts

    below : c.part < 3
    below = subst (λ (parts : List Part). c.part < length parts) copies.parts is.part_in

    points : points_of job c ≡ difference outline outline (part_of_printer c.part).corners
    points = ap₂ (λ (a b : Zone). difference a.corners b.corners (part_at job c.part).corners) earlier later ∙ ap (λ (p : Part). difference outline outline p.corners) part

    met : ZonesMeet (zone_of outline) (part_of_printer c.part) (zone_of outline)
    met = sym (ap₂ (λ a b. zones_meet a (part_at job c.part) b) earlier later ∙ ap (λ p. zones_meet (zone_of outline) p (zone_of outline)) part) ∙ is.meet

-- ---- the three jobs
pub two_cubes_have : AllHave two_cubes four_sides
two_cubes_have = record { some = lit≤ tt; contact = first_contact; is = is_first; each = copies_have two_cubes cube four_sides (record { count = 2; objects = refl; parts = refl }) tip_sides cube_sides }

pub two_wedges_have : AllHave two_wedges six_sides
two_wedges_have = record {
  some = lit≤ tt;
  contact = first_contact;
  is = record { i_in = lit< tt; j_in = lit< tt; apart = λ e. absurd (omega (arith, e)); zi_in = lit< tt; zj_in = lit< tt; part_in = lit< tt; meet = refl };
  each = copies_have two_wedges wedge six_sides (record { count = 2; objects = refl; parts = refl }) wedge_tip_sides wedge_sides;
}

pub three_cubes_have : AllHave three_cubes four_sides
three_cubes_have = record {
  some = lit≤ tt;
  contact = first_contact;
  is = record { i_in = lit< tt; j_in = lit< tt; apart = λ e. absurd (omega (arith, e)); zi_in = lit< tt; zj_in = lit< tt; part_in = lit< tt; meet = refl };
  each = copies_have three_cubes cube four_sides (record { count = 3; objects = refl; parts = refl }) tip_sides cube_sides;
}

pub four_are_most : IsMostSides two_cubes 4
four_are_most = as_many_are_most two_cubes four_sides two_cubes_have

pub most_is_four : (s : ℕ) → IsMostSides two_cubes s → s ≡ 4
most_is_four = most_is_as_many two_cubes four_sides two_cubes_have
