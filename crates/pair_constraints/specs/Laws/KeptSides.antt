-- Sides are kept of one contact alone.
--
--   contact_cmp_exact   contacts that the order takes for equal are the same
--   sides_put           what is kept stays right where a contact's sides are added
--   sides_stay          and what was kept of the others stays
use Rattle.std.proofs.Common.{◌≡◌, List, Bool, true, false, cond, refl, sym, subst, ◌∙◌, ap}
use Rattle.std.specs.Prelude.{Option, None, Some}
use Rattle.std.specs.Option.{IfSome}
use Rattle.std.specs.BTreeMap.{is_at}
use Rattle.std.specs.Ordering.{is_eq, is_gt, is_lt, nat_cmp, ordering_then}
use Rattle.std.specs.declared.cmp.Ordering.{Ordering}
use Rattle.std.specs.declared.cmp.Ordering.TheVariants.{Less, Equal, Greater}
use Rattle.std.proofs.lemmas.Map.Lookups.{exact_unsigned}
use Rattle.seq_model.specs.Contacts.{points_of}
use Rattle.seq_model.specs.Sides.{AreSides}
use Rattle.seq_model.specs.declared.job.Job.{Job}
use Rattle.seq_model.specs.declared.tree.Contact.{Contact}
use Rattle.seq_model.specs.declared.tree.Dir.{Dir}
use Rattle.pair_constraints.specs.KeptSides.{AreKeptSides, contact_cmp, kept_sides}
use Rattle.pair_constraints.specs.Laws.Settling.{contact_of}
use Rattle.pair_constraints.specs.declared.sides.KeptSides.{KeptSides}

no_equal : {X : Type 0} → true ≡ false → X
no_equal e = absurd (subst (λ b. cond b (⊥ → ⊥) ⊥) e (λ x. x))

both_equal : (o p : Ordering) → ordering_then o p ≡ Equal → (o ≡ Equal) × (p ≡ Equal)
both_equal Less p e = no_equal (ap is_lt e)
both_equal Equal p e = (refl, e)
both_equal Greater p e = no_equal (ap is_gt e)

pub contact_cmp_exact : (x y : Contact) → contact_cmp x y ≡ Equal → x ≡ y
contact_cmp_exact x y e =
    let a = both_equal (nat_cmp x.i y.i) (ordering_then (nat_cmp x.zi y.zi) (ordering_then (nat_cmp x.part y.part) (ordering_then (nat_cmp x.zj y.zj) (nat_cmp x.j y.j)))) e in
    let b = both_equal (nat_cmp x.zi y.zi) (ordering_then (nat_cmp x.part y.part) (ordering_then (nat_cmp x.zj y.zj) (nat_cmp x.j y.j))) a.1 in
    let c = both_equal (nat_cmp x.part y.part) (ordering_then (nat_cmp x.zj y.zj) (nat_cmp x.j y.j)) b.1 in
    let d = both_equal (nat_cmp x.zj y.zj) (nat_cmp x.j y.j) c.1 in
    let i = exact_unsigned x.i y.i a.0 in
    let zi = exact_unsigned x.zi y.zi b.0 in
    let part = exact_unsigned x.part y.part c.0 in
    let zj = exact_unsigned x.zj y.zj d.0 in
    let j = exact_unsigned x.j y.j d.1 in
    let same : contact_of x.i x.zi x.part x.zj x.j ≡ contact_of y.i y.zi y.part y.zj y.j = cc in
    same

at_equal : (o : Ordering) → is_eq o ≡ true → o ≡ Equal
at_equal Less e = no_equal (sym e)
at_equal Equal e = refl
at_equal Greater e = no_equal (sym e)

is_there : (c q : Contact) → is_at (contact_cmp c) q ≡ true → c ≡ q
is_there c q e = contact_cmp_exact c q (at_equal (contact_cmp c q) e)

pub sides_put : (job : Job) (old new : KeptSides) (c : Contact) (sides : List Dir) → ((q : Contact) → kept_sides new q ≡ cond (is_at (contact_cmp c) q) (Some sides) (kept_sides old q))
    → AreKeptSides job old → AreSides (points_of job c) sides → AreKeptSides job new
sides_put job old new c sides at are is q = subst (λ o. IfSome o (AreSides (points_of job q))) (sym (at q)) (by (is_at (contact_cmp c) q) refl)
  where
    by : (b : Bool) → is_at (contact_cmp c) q ≡ b → IfSome (cond b (Some sides) (kept_sides old q)) (AreSides (points_of job q))
    by true e = subst (λ t. AreSides (points_of job t) sides) (is_there c q e) is
    by false e = are q

stays : {X : Type 0} (o n : Option X) → n ≡ o → IfSome o (λ s. n ≡ Some s)
stays None n e = tt
stays (Some s) n e = e

of_none : {X : Type 0} (o : Option X) (P : X → Type 0) → o ≡ None → IfSome o P
of_none o P e = subst (λ t. IfSome t P) (sym e) tt

pub sides_stay : (old new : KeptSides) (c : Contact) (sides : List Dir) → ((q : Contact) → kept_sides new q ≡ cond (is_at (contact_cmp c) q) (Some sides) (kept_sides old q))
    → kept_sides old c ≡ None → (q : Contact) → IfSome (kept_sides old q) (λ s. kept_sides new q ≡ Some s)
sides_stay old new c sides at none q = by (is_at (contact_cmp c) q) refl
  where
    by : (b : Bool) → is_at (contact_cmp c) q ≡ b → IfSome (kept_sides old q) (λ s. kept_sides new q ≡ Some s)
    by true e = of_none (kept_sides old q) (λ s. kept_sides new q ≡ Some s) (subst (λ t. kept_sides old t ≡ None) (is_there c q e) none)
    by false e = stays (kept_sides old q) (kept_sides new q) (at q ∙ ap (λ b. cond b (Some sides) (kept_sides old q)) e)
