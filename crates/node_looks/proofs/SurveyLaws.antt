-- What is seen of one pair more, and of all pairs.
use Rattle.std.proofs.Common.{◌≡◌, ◌≢◌, ℕ, ◌+◌, ◌<◌, ◌≤◌, List, [], ◌∷◌, ◌++◌, length, Contains, Option, Some, None, IsSome, sym, subst, arith, inl, inr, ◌⊎◌}
use Rattle.std.proofs.lemmas.Bool.{cases_lt}
use Rattle.std.proofs.lemmas.List.Elements.{All-push, Contains-append_left, Contains-append_right}
use Rattle.integer_laws.specs.Laws.Members.{In-from_contains}
use Rattle.model_laws.specs.Laws.Collisions.{collides_by_contact}
use Rattle.node_looks.specs.Candidates.{IsCandidate, IsForcedOrder, IsSettledWay, IsSettled, IsPairLook, AreSettled, IsSurveyed}
use Rattle.node_looks.specs.Held.{ComesBefore}
use Rattle.node_looks.specs.Sites.{values}
use Rattle.node_looks.specs.declared.site.Site.{Site}
use Rattle.node_looks.specs.declared.survey.Candidate.{Candidate}
use Rattle.node_looks.specs.declared.survey.PairLook.TheVariants as PairLooks
use Rattle.plan_laws.specs.Looking.{AreForced}
use Rattle.seq_model.specs.Points.{Point}
use Rattle.seq_model.specs.Systems.{place_of}

settled_way : (site : Site) (forced more : List (ℕ × ℕ)) (a b : ℕ) → ((o : ℕ × ℕ) → Contains forced o → Contains more o) → IsSettledWay site forced a b → IsSettledWay site more a b
settled_way site forced more a b w s = record { on_path = s.on_path; unordered = λ free hits. w (b, a) (s.unordered free hits) }

settled_more : (site : Site) (forced more : List (ℕ × ℕ)) (a b : ℕ) → ((o : ℕ × ℕ) → Contains forced o → Contains more o) → IsSettled site forced a b → IsSettled site more a b
settled_more site forced more a b w s = record { there = settled_way site forced more a b w s.there; back = settled_way site forced more b a w s.back }

none_in : (xs : List (ℕ × ℕ)) (o : ℕ × ℕ) → Contains [] o → Contains xs o
none_in xs o c = absurd (In-from_contains [] o c)

one_more : (site : Site) (i j : ℕ) (forced : List (ℕ × ℕ)) → AreSettled site i j forced
    → (more : List (ℕ × ℕ)) → ((o : ℕ × ℕ) → Contains forced o → Contains more o) → IsSettled site more i j → AreSettled site i (j + 1) more
one_more site i j forced are more w is a b l m (inl h) = settled_more site forced more a b w (are a b l m (inl h))
one_more site i j forced are more w is a b l m (inr h) = by (cases_lt b j)
  where
    by : (b < j) ⊎ (j ≤ b) → IsSettled site more a b
    by (inl k) = settled_more site forced more a b w (are a b l m (inr (h.0, k)))
    by (inr k) =
        let n = h.1 in
        let q : b ≡ j = omega (arith, n, k) in
        subst (λ x. IsSettled site more x b) (sym h.0) (subst (λ y. IsSettled site more i y) (sym q) is)

-- nothing was found against the pair
pub survey_settled : (site : Site) (i j : ℕ) (best : Option Candidate) (forced : List (ℕ × ℕ)) → IsSurveyed site i j best forced
    → IsPairLook site i j PairLooks.Settled → IsSurveyed site i (j + 1) best forced
survey_settled site i j (Some c) forced is look = record { each = is.each; found = is.found }
survey_settled site i j None forced is look = record {
  each = is.each;
  found = one_more site i j forced is.found forced (λ o c. c) (settled_more site [] forced i j (none_in forced) look);
}

-- an order was forced
survey_forced : (site : Site) (i j a b : ℕ) (best : Option Candidate) (forced : List (ℕ × ℕ)) → IsSurveyed site i j best forced
    → IsPairLook site i j (PairLooks.Forced a b) → IsSurveyed site i (j + 1) best (forced ++ (a, b) ∷ [])
survey_forced site i j a b (Some c) forced is look = record { each = All-push (IsForcedOrder site) forced (a, b) is.each look.0; found = is.found }
survey_forced site i j a b None forced is look = record {
  each = All-push (IsForcedOrder site) forced (a, b) is.each look.0;
  found = one_more site i j forced is.found (forced ++ (a, b) ∷ []) (λ o c. Contains-append_left forced ((a, b) ∷ []) o c)
      (settled_more site ((a, b) ∷ []) (forced ++ (a, b) ∷ []) i j (λ o c. Contains-append_right forced ((a, b) ∷ []) o c) look.1);
}

pub survey_forced_as : (site : Site) (i j a b : ℕ) (old new : Option Candidate) (forced more : List (ℕ × ℕ)) → new ≡ old → more ≡ forced ++ (a, b) ∷ []
    → IsSurveyed site i j old forced → IsPairLook site i j (PairLooks.Forced a b) → IsSurveyed site i (j + 1) new more
survey_forced_as site i j a b old new forced more same pushed is look =
    subst (λ t. IsSurveyed site i (j + 1) t more) (sym same) (subst (IsSurveyed site i (j + 1) old) (sym pushed) (survey_forced site i j a b old forced is look))

-- a candidate was found
abbrev nothing : Option Candidate
nothing = None

never_some : IsSome nothing → ⊥
never_some h = cc

pub survey_split : (site : Site) (i j k l : ℕ) (old new : Option Candidate) (c : Candidate) (forced : List (ℕ × ℕ))
    → (new ≡ Some c) ⊎ (IsSome old × (new ≡ old)) → IsSurveyed site i j old forced → IsCandidate site c → IsSurveyed site k l new forced
survey_split site i j k l old new c forced (inl same) is found = subst (λ b. IsSurveyed site k l b forced) (sym same) (record { each = is.each; found = found })
survey_split site i j k l None new c forced (inr kept) is found = absurd (never_some kept.0)
survey_split site i j k l (Some d) new c forced (inr kept) is found = subst (λ b. IsSurveyed site k l b forced) (sym kept.1) (record { each = is.each; found = is.found })

-- pairs that there are none of
pub survey_past : (site : Site) (i j k l : ℕ) (best : Option Candidate) (forced : List (ℕ × ℕ)) → IsSurveyed site i j best forced
    → ((a b : ℕ) → a < b → b < length site.job.now.objects → ComesBefore a b k l → ComesBefore a b i j) → IsSurveyed site k l best forced
survey_past site i j k l (Some c) forced is none = record { each = is.each; found = is.found }
survey_past site i j k l None forced is none = record { each = is.each; found = λ a b l m before. is.found a b l m (none a b l m before) }

pub no_lower : (i a b : ℕ) → a < b → ComesBefore a b i (i + 1) → ComesBefore a b i 0
no_lower i a b l (inl h) = inl h
no_lower i a b l (inr h) = let same = h.0 in let less = h.1 in absurd (omega (arith, l, same, less))

pub next_object : (i j n a b : ℕ) → n ≤ j → b < n → ComesBefore a b (i + 1) 0 → ComesBefore a b i j
next_object i j n a b all m (inl h) = by (cases_lt a i)
  where
    by : (a < i) ⊎ (i ≤ a) → ComesBefore a b i j
    by (inl k) = inl k
    by (inr k) = inr (omega (arith, h, k), omega (arith, m, all))
next_object i j n a b all m (inr h) = let less = h.1 in absurd (omega (arith, less))

pub survey_candidate : (site : Site) (i j : ℕ) (best : Option Candidate) (c : Candidate) (forced : List (ℕ × ℕ)) → IsSurveyed site i j best forced
    → best ≡ Some c → IsCandidate site c
survey_candidate site i j best c forced is same = (subst (λ b. IsSurveyed site i j b forced) same is).found

-- ---- all pairs
way_of : (site : Site) (forced : List (ℕ × ℕ)) → AreSettled site (length site.job.now.objects) 0 forced
    → (i j : ℕ) → i < length site.job.now.objects → j < length site.job.now.objects → i ≢ j → IsSettledWay site forced i j
way_of site forced are i j l m apart = by (cases_lt i j)
  where
    by : (i < j) ⊎ (j ≤ i) → IsSettledWay site forced i j
    by (inl h) = (are i j h m (inl l)).there
    by (inr h) = (are j i (below h) l (inl m)).back
      where
        below : j ≤ i → j < i
        below h = omega arith

pub survey_forces : (site : Site) (forced : List (ℕ × ℕ)) → AreSettled site (length site.job.now.objects) 0 forced
    → AreForced site.job.now site.extent site.path.now (values site) forced
survey_forces site forced are = record {
  on_path = λ i j apart on hits.
      let c = collides_by_contact site.job.now i j (at i) (at j) apart hits in
      let l : i < length site.job.now.objects = subst (λ t. t < length site.job.now.objects) c.earlier c.collides.is.i_in in
      let m : j < length site.job.now.objects = subst (λ t. t < length site.job.now.objects) c.later c.collides.is.j_in in
      (way_of site forced are i j l m apart).on_path on hits;
  unordered = λ i j l m apart free hits. (way_of site forced are i j l m apart).unordered free hits;
}
  where
    at : ℕ → Point
    at o = place_of site.job.now site.extent (values site).d (values site).u o
