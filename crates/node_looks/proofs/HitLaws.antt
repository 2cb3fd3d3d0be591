-- What the contacts of two objects show.
use Rattle.std.proofs.Common.{◌≡◌, ℕ, ◌<◌, List, [], ◌∷◌, length, Option, Some, None, MatchOption, refl, sym, ap, subst, arith, inl, inr, ◌⊎◌}
use Rattle.integer_laws.specs.Laws.Members.{Contains-from_in}
use Rattle.node_looks.specs.Candidates.{IsHit, IsOpenable, IsPairLook}
use Rattle.node_looks.specs.Sites.{Hits, values}
use Rattle.node_looks.specs.declared.hits.Hit.{Hit}
use Rattle.node_looks.specs.declared.site.Site.{Site}
use Rattle.node_looks.specs.declared.survey.PairLook.TheVariants as PairLooks
use Rattle.pair_constraints.specs.Laws.Pairs.{a_collision}
use Rattle.pair_constraints.specs.declared.kept.Kept.{Kept}
use Rattle.plan_laws.specs.Looking.{OnPath}
use Rattle.seq_model.specs.Contacts.{ContactCollides}
use Rattle.seq_model.specs.Points.{Point}
use Rattle.seq_model.specs.Splits.{IsUnordered}
use Rattle.seq_model.specs.Systems.{place_of}
use Rattle.seq_model.specs.declared.tree.Choice.{Choice}

-- ---- a pair that is ordered on the path
pub hit_candidate : (site : Site) (i j : ℕ) (r : Option Hit) → OnPath site.path.now i j → MatchOption r (Hits site i j → ⊥) (λ h. IsHit site i j h.kept.now)
    → MatchOption r (OnPath site.path.now i j → Hits site i j → ⊥) (λ h. IsOpenable site h.kept.now)
hit_candidate site i j None on h = λ _. h
hit_candidate site i j (Some c) on h = record {
  kept = h.kept;
  ordered = subst (λ t. OnPath site.path.now t c.kept.now.contact.j) (sym h.earlier) (subst (OnPath site.path.now i) (sym h.later) on);
  collides = h.collides;
}

never_unordered : (path : List Choice) (i j : ℕ) → OnPath path i j ⊎ OnPath path j i → IsUnordered path i j → ⊥
never_unordered path i j (inl on) free = free.0 on
never_unordered path i j (inr on) free = free.1 on

other_way : (path : List Choice) (i j : ℕ) → OnPath path i j ⊎ OnPath path j i → OnPath path j i ⊎ OnPath path i j
other_way path i j (inl on) = inr on
other_way path i j (inr on) = inl on

pub settled_ordered : (site : Site) (i j : ℕ) → OnPath site.path.now i j ⊎ OnPath site.path.now j i → (OnPath site.path.now i j → Hits site i j → ⊥)
    → (OnPath site.path.now j i → Hits site j i → ⊥) → IsPairLook site i j PairLooks.Settled
settled_ordered site i j ordered there back = record {
  there = record { on_path = there; unordered = λ free hits. absurd (never_unordered site.path.now i j ordered free) };
  back = record { on_path = back; unordered = λ free hits. absurd (never_unordered site.path.now j i (other_way site.path.now i j ordered) free) };
}

-- ---- a pair that is not
turned : (path : List Choice) (i j : ℕ) → IsUnordered path i j → IsUnordered path j i
turned path i j free = (free.1, free.0)

-- i collides with j and not the other way: j before i is forced
pub forced_back : (site : Site) (i j : ℕ) → i < j → j < length site.job.now.objects → IsUnordered site.path.now i j → Hits site i j → (Hits site j i → ⊥)
    → IsPairLook site i j (PairLooks.Forced j i)
forced_back site i j low high free there back = (
  ((high, omega (arith, low, high), λ s. absurd (omega (arith, low, s))), (there, back), turned site.path.now i j free),
  record {
    there = record { on_path = λ on hits. absurd (free.0 on); unordered = λ f hits. Contains-from_in ((j, i) ∷ []) (j, i) (inl refl) };
    back = record { on_path = λ on hits. back hits; unordered = λ f hits. absurd (back hits) };
  },
)

pub forced_there : (site : Site) (i j : ℕ) → i < j → j < length site.job.now.objects → IsUnordered site.path.now i j → (Hits site i j → ⊥) → Hits site j i
    → IsPairLook site i j (PairLooks.Forced i j)
forced_there site i j low high free there back = (
  ((omega (arith, low, high), high, λ s. absurd (omega (arith, low, s))), (back, there), free),
  record {
    there = record { on_path = λ on hits. there hits; unordered = λ f hits. absurd (there hits) };
    back = record { on_path = λ on hits. absurd (free.1 on); unordered = λ f hits. Contains-from_in ((i, j) ∷ []) (i, j) (inl refl) };
  },
)

-- ---- what a hit says
hit_collides : (site : Site) (i j : ℕ) (k : Kept) → IsHit site i j k → Hits site i j
hit_collides site i j k h =
    a_collision site.job.now i j (at i) (at j) k.contact
    (h.earlier, h.later, subst (λ t. ContactCollides site.job.now k.contact t (at j)) (ap at h.earlier) (subst (λ t. ContactCollides site.job.now k.contact (at k.contact.i) t) (ap at h.later) h.collides))
  where
    at : ℕ → Point
    at o = place_of site.job.now site.extent (values site).d (values site).u o

pub hit_some : (site : Site) (i j : ℕ) (r : Option Hit) (c : Hit) → MatchOption r (Hits site i j → ⊥) (λ h. IsHit site i j h.kept.now) → r ≡ Some c → Hits site i j
hit_some site i j None c h same = absurd (none_some same)
  where
    none_some : {x : Hit} → None ≡ Some x → ⊥
    none_some e = cc
hit_some site i j (Some d) c h same = hit_collides site i j d.kept.now h

pub hit_none : (site : Site) (i j : ℕ) (r : Option Hit) → MatchOption r (Hits site i j → ⊥) (λ h. IsHit site i j h.kept.now) → r ≡ None → Hits site i j → ⊥
hit_none site i j None h same = h
hit_none site i j (Some d) h same = absurd (some_none same)
  where
    some_none : {x : Hit} → Some x ≡ None → ⊥
    some_none e = cc
