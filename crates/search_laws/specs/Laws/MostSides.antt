-- A job has a greatest number of sides of a contact.
--
--   most_sides         the greatest number of sides, and 3 at least
--   some_full          so a job has a number of nodes that is Full
use Rattle.std.proofs.Common.{◌≡◌, ℕ, zero, suc, ◌<◌, ◌≤◌, length, refl, sym, subst, ap, ◌∙◌, arith, ◌⊎◌, inl, inr, Bool, true, false}
use Rattle.std.proofs.lemmas.Bool.{cases_lt, cases_eq}
use lib.Dec.{T}
use Rattle.model_laws.specs.Laws.OneList.{one_list_of_sides}
use Rattle.seq_model.specs.Budgets.{HasSides, IsMostSides, Full, full_of}
use Rattle.seq_model.specs.Contacts.{points_of, IsContact, zones_meet}
use Rattle.seq_model.specs.Jobs.{object_at, zone_at, part_at}
use Rattle.seq_model.specs.declared.job.Job.{Job}
use Rattle.seq_model.specs.declared.tree.Contact.{Contact}
use Rattle.search_laws.specs.Laws.SideCounts.{sides_of_contact, three_at_contact}

-- a greatest number, and 3 at least, among those that are so
record Best (Is : ℕ → Type 0) : Type 0 where
  s : ℕ
  at_least : 3 ≤ s
  most : (n : ℕ) → Is n → n ≤ s
  reached : (s ≡ 3) ⊎ Is s

best_none : (Is : ℕ → Type 0) → ((n : ℕ) → Is n → ⊥) → Best Is
best_none Is never = record { s = 3; at_least = omega arith; most = λ n h. absurd (never n h); reached = inl refl }

best_either : (Is Or : ℕ → Type 0) → Best Is → Best Or → Best (λ n. Is n ⊎ Or n)
best_either Is Or a b = by (cases_lt a.s b.s)
  where
    by : (a.s < b.s) ⊎ (b.s ≤ a.s) → Best (λ n. Is n ⊎ Or n)
    by (inl l) = record { s = b.s; at_least = b.at_least; most = most; reached = reached b.reached }
      where
        most : (n : ℕ) → Is n ⊎ Or n → n ≤ b.s
        most n (inl h) = let x = a.most n h in omega (arith, x, l)
        most n (inr h) = b.most n h

        reached : (b.s ≡ 3) ⊎ Or b.s → (b.s ≡ 3) ⊎ (Is b.s ⊎ Or b.s)
        reached (inl e) = inl e
        reached (inr h) = inr (inr h)
    by (inr l) = record { s = a.s; at_least = a.at_least; most = most; reached = reached a.reached }
      where
        most : (n : ℕ) → Is n ⊎ Or n → n ≤ a.s
        most n (inl h) = a.most n h
        most n (inr h) = let x = b.most n h in omega (arith, x, l)

        reached : (a.s ≡ 3) ⊎ Is a.s → (a.s ≡ 3) ⊎ (Is a.s ⊎ Or a.s)
        reached (inl e) = inl e
        reached (inr h) = inr (inl h)

best_same : (Is Or : ℕ → Type 0) → ((n : ℕ) → Is n → Or n) → ((n : ℕ) → Or n → Is n) → Best Is → Best Or
best_same Is Or to from a = record { s = a.s; at_least = a.at_least; most = λ n h. a.most n (from n h); reached = by a.reached }
  where
    by : (a.s ≡ 3) ⊎ Is a.s → (a.s ≡ 3) ⊎ Or a.s
    by (inl e) = inl e
    by (inr h) = inr (to a.s h)

abbrev Below : ℕ → (ℕ → ℕ → Type 0) → ℕ → Type 0
Below n Is s = (k : ℕ) × (k < n) × Is k s

best_below : (n : ℕ) (Is : ℕ → ℕ → Type 0) → ((k : ℕ) → k < n → Best (Is k)) → Best (Below n Is)
best_below zero Is h = best_none (Below zero Is) (λ s b. omega (arith, b.1))
best_below (suc n) Is h = best_same (λ s. Below n Is s ⊎ Is n s) (Below (suc n) Is) to from (best_either (Below n Is) (Is n) (best_below n Is (λ k l. h k (omega (arith, l)))) (h n (omega arith)))
  where
    to : (s : ℕ) → Below n Is s ⊎ Is n s → Below (suc n) Is s
    to s (inl b) = (b.0, omega (arith, b.1), b.2)
    to s (inr i) = (n, omega arith, i)

    from : (s : ℕ) → Below (suc n) Is s → Below n Is s ⊎ Is n s
    from s b = pick (cases_lt b.0 n)
      where
        pick : (b.0 < n) ⊎ (n ≤ b.0) → Below n Is s ⊎ Is n s
        pick (inl l) = inl (b.0, l, b.2)
        pick (inr l) = let e : b.0 ≡ n = omega (arith, l, b.1) in inr (subst (λ k. Is k s) e b.2)

-- one contact
abbrev contact_of : ℕ → ℕ → ℕ → ℕ → ℕ → Contact
contact_of i zi part zj j = record { i = i; zi = zi; part = part; zj = zj; j = j }

best_contact : (job : Job) (c : Contact) → c.i < length job.objects → c.j < length job.objects → c.zi < length (object_at job c.i).zones → c.zj < length (object_at job c.j).zones → c.part < length job.printer.parts → Best (HasSides job c)
best_contact job c i_in j_in zi_in zj_in part_in = by (cases_eq c.i c.j) (zones_meet (zone_at job c.i c.zi) (part_at job c.part) (zone_at job c.j c.zj)) refl
  where
    one : IsContact job c → Best (HasSides job c)
    one is =
        let s = sides_of_contact job c is in
        let has : HasSides job c (length s.0) = record { is = is; dirs = s.0; sides = s.1; many = refl } in
        record {
          s = length s.0;
          at_least = three_at_contact job c (length s.0) has;
          most = λ n h. (let e = ap length (one_list_of_sides (points_of job c) h.dirs s.0 h.sides s.1) in omega (arith, e, h.many));
          reached = inr has;
        }

    by : ((c.i ≡ c.j) ⊎ (c.i ≡ c.j → ⊥)) → (m : Bool) → zones_meet (zone_at job c.i c.zi) (part_at job c.part) (zone_at job c.j c.zj) ≡ m → Best (HasSides job c)
    by (inl same) m e = best_none (HasSides job c) (λ n h. h.is.apart same)
    by (inr apart) true e = one (record { i_in = i_in; j_in = j_in; apart = apart; zi_in = zi_in; zj_in = zj_in; part_in = part_in; meet = e })
    by (inr apart) false e = best_none (HasSides job c) (λ n h. subst T (sym (sym e ∙ h.is.meet)) tt)

abbrev Any : Job → ℕ → Type 0
Any job s =
    Below (length job.objects) (λ i. Below (length job.objects) (λ j. Below (length (object_at job i).zones) (λ zi. Below (length (object_at job j).zones) (λ zj.
    Below (length job.printer.parts) (λ part. HasSides job (contact_of i zi part zj j)))))) s

best_of_job : (job : Job) → Best (Any job)
best_of_job job =
    best_below (length job.objects) _ (λ i il. best_below (length job.objects) _ (λ j jl. best_below (length (object_at job i).zones) _ (λ zi zil.
    best_below (length (object_at job j).zones) _ (λ zj zjl. best_below (length job.printer.parts) _ (λ part pl. best_contact job (contact_of i zi part zj j) il jl zil zjl pl)))))

pub most_sides : (job : Job) → (s : ℕ) × IsMostSides job s
most_sides job = let b = best_of_job job in (b.s, record { at_least = b.at_least; most = λ c n h. b.most n (any c n h); reached = by b.s b.reached })
  where
    any : (c : Contact) (n : ℕ) → HasSides job c n → Any job n
    any c n h = let is = h.is in (c.i, is.i_in, (c.j, is.j_in, (c.zi, is.zi_in, (c.zj, is.zj_in, (c.part, is.part_in, h)))))

    by : (s : ℕ) → (s ≡ 3) ⊎ Any job s → (s ≡ 3) ⊎ ((contact : Contact) × HasSides job contact s)
    by s (inl e) = inl e
    by s (inr a) = (let j = a.2 in let zi = j.2 in let zj = zi.2 in let part = zj.2 in inr (contact_of a.0 zi.0 part.0 zj.0 j.0, part.2))

pub some_full : (job : Job) → (full : ℕ) × Full job full
some_full job = let m = most_sides job in (full_of job m.0, record { s = m.0; sides = m.1; is = refl })
