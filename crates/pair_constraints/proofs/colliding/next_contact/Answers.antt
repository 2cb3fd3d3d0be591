use Rattle.std.proofs.Common.{rules, ◌<◌, ◌≤◌, List, length, subst, sym, refl, FitsSigned, to_z-of_z}
use Rattle.std.specs.Int.{w128}
use Rattle.pair_constraints.specs.Laws.Firsts.{IsFirst, Sooner}
use Rattle.pair_constraints.specs.Laws.Pairs.{HitsBetween, contact_by, few_of, zones_are, found_pair, first_contact, no_contact, no_collision, a_collision}
use Rattle.seq_model.specs.Points.{place_point}
use Rattle.seq_model.specs.declared.job.Zone.{Zone}
use Rattle.pair_constraints.proofs.colliding.next_contact.Goals as goal

pub first_pair-requires-clause-few_zones : goal.first_pair-requires-clause-few_zones
first_pair-requires-clause-few_zones c =
    subst (λ (zs : List Zone). length zs ≤ 200) (sym (zones_are c.args.job.now c.args.earlier.now.object _ _ c.as_slice-a.result.now c.requires.earlier c.as_slice.ensures c.as_slice-a.ensures)) (few_of c.args.job.now c.args.earlier.now.object c.requires.earlier)

pub first_pair-requires-clause-few_later : goal.first_pair-requires-clause-few_later
first_pair-requires-clause-few_later c =
    subst (λ (zs : List Zone). length zs ≤ 200) (sym (zones_are c.args.job.now c.args.later.now.object _ _ c.as_slice-b.result.now c.requires.later c.as_slice-2.ensures c.as_slice-b.ensures)) (few_of c.args.job.now c.args.later.now.object c.requires.later)

pub returns-in-Some-clause-first : goal.returns-in-Some-clause-first
returns-in-Some-clause-first c =
    let fits : FitsSigned w128 c.args.scale = search rules in
    let a = zones_are c.args.job.now c.args.earlier.now.object _ _ c.as_slice-a.result.now c.requires.earlier c.as_slice.ensures c.as_slice-a.ensures in
    let b = zones_are c.args.job.now c.args.later.now.object _ _ c.as_slice-b.result.now c.requires.later c.as_slice-2.ensures c.as_slice-b.ensures in
    let f = found_pair c.args.job.now c.args.earlier.now c.args.later.now c.args.scale _ c.as_slice-3.result.now c.as_slice-a.result.now c.as_slice-b.result.now c.first_pair.result (to_z-of_z fits) c.as_slice-3.ensures a b c.first_pair.ensures in
    first_contact c.args.job.now c.args.earlier.now.object c.args.later.now.object (place_point c.args.scale c.args.earlier.now) (place_point c.args.scale c.args.later.now) (c.in-Some.zj, (c.in-Some.zi, c.in-Some.part))
    c.requires.earlier c.requires.later c.requires.apart
    (subst (IsFirst (HitsBetween c.args.job.now c.args.earlier.now.object c.args.later.now.object (place_point c.args.scale c.args.earlier.now) (place_point c.args.scale c.args.later.now)) (Sooner (Sooner (λ a b. a < b)))) c.in-Some.is f)

pub returns-in-Some-clause-none : goal.returns-in-Some-clause-none
returns-in-Some-clause-none c =
    let fits : FitsSigned w128 c.args.scale = search rules in
    let a = zones_are c.args.job.now c.args.earlier.now.object _ _ c.as_slice-a.result.now c.requires.earlier c.as_slice.ensures c.as_slice-a.ensures in
    let b = zones_are c.args.job.now c.args.later.now.object _ _ c.as_slice-b.result.now c.requires.later c.as_slice-2.ensures c.as_slice-b.ensures in
    let f = found_pair c.args.job.now c.args.earlier.now c.args.later.now c.args.scale _ c.as_slice-3.result.now c.as_slice-a.result.now c.as_slice-b.result.now c.first_pair.result (to_z-of_z fits) c.as_slice-3.ensures a b c.first_pair.ensures in
    let g = first_contact c.args.job.now c.args.earlier.now.object c.args.later.now.object (place_point c.args.scale c.args.earlier.now) (place_point c.args.scale c.args.later.now) (c.in-Some.zj, (c.in-Some.zi, c.in-Some.part))
    c.requires.earlier c.requires.later c.requires.apart
    (subst (IsFirst (HitsBetween c.args.job.now c.args.earlier.now.object c.args.later.now.object (place_point c.args.scale c.args.earlier.now) (place_point c.args.scale c.args.later.now)) (Sooner (Sooner (λ a b. a < b)))) c.in-Some.is f) in
    (λ e. absurd cc, λ free. absurd (free (a_collision c.args.job.now c.args.earlier.now.object c.args.later.now.object _ _ (contact_by c.args.earlier.now.object c.args.later.now.object (c.in-Some.zj, (c.in-Some.zi, c.in-Some.part))) g.0)))

pub returns-in-None-clause-first : goal.returns-in-None-clause-first
returns-in-None-clause-first c =
    let fits : FitsSigned w128 c.args.scale = search rules in
    let a = zones_are c.args.job.now c.args.earlier.now.object _ _ c.as_slice-a.result.now c.requires.earlier c.as_slice.ensures c.as_slice-a.ensures in
    let b = zones_are c.args.job.now c.args.later.now.object _ _ c.as_slice-b.result.now c.requires.later c.as_slice-2.ensures c.as_slice-b.ensures in
    let f = found_pair c.args.job.now c.args.earlier.now c.args.later.now c.args.scale _ c.as_slice-3.result.now c.as_slice-a.result.now c.as_slice-b.result.now c.first_pair.result (to_z-of_z fits) c.as_slice-3.ensures a b c.first_pair.ensures in
    no_contact c.args.job.now c.args.earlier.now.object c.args.later.now.object (place_point c.args.scale c.args.earlier.now) (place_point c.args.scale c.args.later.now)
    (subst (IsFirst (HitsBetween c.args.job.now c.args.earlier.now.object c.args.later.now.object (place_point c.args.scale c.args.earlier.now) (place_point c.args.scale c.args.later.now)) (Sooner (Sooner (λ a b. a < b)))) c.in-None.is f)

pub returns-in-None-clause-none : goal.returns-in-None-clause-none
returns-in-None-clause-none c =
    let fits : FitsSigned w128 c.args.scale = search rules in
    let a = zones_are c.args.job.now c.args.earlier.now.object _ _ c.as_slice-a.result.now c.requires.earlier c.as_slice.ensures c.as_slice-a.ensures in
    let b = zones_are c.args.job.now c.args.later.now.object _ _ c.as_slice-b.result.now c.requires.later c.as_slice-2.ensures c.as_slice-b.ensures in
    let f = found_pair c.args.job.now c.args.earlier.now c.args.later.now c.args.scale _ c.as_slice-3.result.now c.as_slice-a.result.now c.as_slice-b.result.now c.first_pair.result (to_z-of_z fits) c.as_slice-3.ensures a b c.first_pair.ensures in
    let g = no_contact c.args.job.now c.args.earlier.now.object c.args.later.now.object (place_point c.args.scale c.args.earlier.now) (place_point c.args.scale c.args.later.now)
    (subst (IsFirst (HitsBetween c.args.job.now c.args.earlier.now.object c.args.later.now.object (place_point c.args.scale c.args.earlier.now) (place_point c.args.scale c.args.later.now)) (Sooner (Sooner (λ a b. a < b)))) c.in-None.is f) in
    (λ e. no_collision c.args.job.now c.args.earlier.now.object c.args.later.now.object _ _ c.requires.apart g, λ free. refl)
