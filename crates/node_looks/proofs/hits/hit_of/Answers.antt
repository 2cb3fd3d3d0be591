use Rattle.std.proofs.Common.{List, sym, subst}
use Rattle.node_looks.proofs.PairLaws.{nearest_hit}
use Rattle.pair_constraints.specs.Maximal.{IsPair}
use Rattle.pair_constraints.specs.declared.kept.Kept.{Kept}
use Rattle.node_looks.proofs.hits.hit_of.Goals as goal

pub cheapest_hit-requires-clause-pair : goal.cheapest_hit-requires-clause-pair
cheapest_hit-requires-clause-pair c =
    subst (λ (ks : List Kept). IsPair c.args.site.now.job.now c.args.i c.args.j ks) (sym c.of_pair.ensures) (c.requires.site.contacts.pair c.args.i c.args.j c.requires.i c.requires.j)

pub returns : goal.returns
returns c =
    nearest_hit c.args.site.now c.args.i c.args.j c.of_pair.result.now c.cheapest_hit.result c.requires.site
    (subst (λ (ks : List Kept). IsPair c.args.site.now.job.now c.args.i c.args.j ks) (sym c.of_pair.ensures) (c.requires.site.contacts.pair c.args.i c.args.j c.requires.i c.requires.j))
    c.requires.apart c.cheapest_hit.ensures
