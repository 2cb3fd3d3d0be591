use Rattle.std.proofs.Common.{◌≡◌, ◌++◌, ap, subst, ◌∙◌, IsPermutation}
use Rattle.std.proofs.lemmas.List.Filters.{dedup_is}
use Rattle.convex_outline.proofs.Order.{rising_of, members_of}
use Rattle.convex_outline.proofs.ascending.Goals as goal

pub returns-clause-members : goal.returns-clause-members
returns-clause-members c =
    let is = dedup_is _ _ _ c.dedup.ensures.filtered in
    let start : c.extend_from_slice.new.self.items ≡ c.args.spots.now = c.in_ok-extend_from_slice.ensures.items ∙ ap (λ l. l ++ c.args.spots.now) c.new-sorted.ensures.items in
    members_of c.args.spots.now c.sort_unstable.new.self.items c.dedup.new.self.items (subst (λ l. IsPermutation l c.sort_unstable.new.self.items) start c.sort_unstable.ensures.permutation) is

pub returns-clause-rising : goal.returns-clause-rising
returns-clause-rising c = rising_of c.sort_unstable.new.self.items c.dedup.new.self.items c.sort_unstable.ensures.sorted (dedup_is _ _ _ c.dedup.ensures.filtered)
