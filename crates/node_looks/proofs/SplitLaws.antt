-- Leaves and splits meet what a look has to show.
use Rattle.std.proofs.Common.{◌≡◌, ℕ, suc, ◌<◌, ◌≤◌, List, [], ◌∷◌, ◌++◌, length, get_or, map, take, drop, All, length-append, refl, sym, ap, subst, ◌∙◌, arith, inl, inr}
use Rattle.std.proofs.lemmas.List.{length-map, get_or_default}
use Rattle.std.proofs.lemmas.List.Elements.{AllZip-get_or, All-head, All-tail, All-push}
use Rattle.std.proofs.lemmas.Slice.Zip.{AllZip-long}
use Rattle.std.specs.List.{AllZip}
use Rattle.cert_text.specs.TreeText.{IsSpeltContact}
use Rattle.node_looks.specs.Candidates.{IsOpenable, choices_of}
use Rattle.node_looks.specs.Looks.{IsVisit, SplitsBy}
use Rattle.node_looks.specs.Sites.{IsSite, values}
use Rattle.node_looks.specs.declared.site.Site.{Site}
use Rattle.pair_constraints.specs.Keeping.{IsKept}
use Rattle.pair_constraints.specs.Laws.Pairs.{few_of}
use Rattle.pair_constraints.specs.declared.kept.Kept.{Kept}
use Rattle.pair_constraints.specs.declared.limits.Limit.{Limit}
use Rattle.plan_laws.specs.Looking.{OnPath, IsOnOrEarned, EarnsPair}
use Rattle.search_laws.specs.Laws.FewSides.{few_at_contact}
use Rattle.search_laws.specs.Laws.SideCounts.{three_at_contact}
use Rattle.seq_model.specs.Contacts.{IsContact, points_of}
use Rattle.seq_model.specs.Sides.{AreSides}
use Rattle.seq_model.specs.Trees.{also, IsCycle}
use Rattle.seq_model.specs.declared.job.Job.{Job}
use Rattle.seq_model.specs.declared.tree.Choice.{Choice}
use Rattle.seq_model.specs.declared.tree.Choice.TheVariants as Choices
use Rattle.seq_model.specs.declared.tree.Contact.{Contact}
use Rattle.seq_model.specs.declared.tree.Dir.{Dir}
use Rattle.seq_model.specs.declared.tree.Node.TheVariants as Nodes

pub visits : (n : ℕ) (visit : List ℕ) → length visit ≡ n → ((k : ℕ) → k < n → get_or visit k 0 ≡ k) → IsVisit n visit
visits n visit long each = record {
  all = λ k. (λ c. below k c.0 c.1 c.2, λ l. (k, omega (arith, long, l), at k k l));
  once = λ p q d less within same. omega (arith, less, place p d (omega (arith, less, within)), place q d within, same);
}
  where
    at : (k d : ℕ) → k < n → get_or visit k d ≡ k
    at k d l = get_or_default visit k d 0 (omega (arith, long, l)) ∙ each k l

    place : (p d : ℕ) → p < length visit → get_or visit p d ≡ p
    place p d l = at p d (omega (arith, long, l))

    below : (k p : ℕ) → p < length visit → get_or visit p k ≡ k → k < n
    below k p l e = omega (arith, long, l, e, place p k l)

contact_fits : (job : Job) (c : Contact) → IsContact job c → IsSpeltContact c
contact_fits job c is =
    let a = few_of job c.i is.i_in in
    let b = few_of job c.j is.j_in in
    let z = is.zi_in in
    let w = is.zj_in in
    let i = is.i_in in
    let j = is.j_in in
    let p = is.part_in in
    let few = job.sound.few in
    let parts = job.printer.parts_are.few in
    record { i = omega (arith, few, i); zi = omega (arith, a, z); part = omega (arith, parts, p); zj = omega (arith, b, w); j = omega (arith, few, j) }

few_sides : (job : Job) (c : Contact) (dirs : List Dir) → IsContact job c → AreSides (points_of job c) dirs → length dirs ≤ 8_008_036
few_sides job c dirs is sides = few_at_contact job c (length dirs) (record { is = is; dirs = dirs; sides = sides; many = refl })

some_sides : (job : Job) (c : Contact) (dirs : List Dir) → IsContact job c → AreSides (points_of job c) dirs → 3 ≤ length dirs
some_sides job c dirs is sides = three_at_contact job c (length dirs) (record { is = is; dirs = dirs; sides = sides; many = refl })

abbrev dirs_of : Kept → List Dir
dirs_of k = map (λ (l : Limit). l.dir) k.limits

pub few_limits : (job : Job) (k : Kept) → IsKept job k → length k.limits ≤ 8_008_036
few_limits job k is =
    let l = few_sides job k.contact (dirs_of k) is.is is.limits.sides in
    omega (arith, l, length-map k.limits (λ (l : Limit). l.dir))

twice_mapped : (path : List Choice) (c : Contact) (limits : List Limit)
    → map (also path) (map (λ (l : Limit). Choices.Side c l.dir) limits) ≡ map (λ dir. also path (Choices.Side c dir)) (map (λ (l : Limit). l.dir) limits)
twice_mapped path c [] = refl
twice_mapped path c (l ∷ limits) = ap (λ t. also path (Choices.Side c l.dir) ∷ t) (twice_mapped path c limits)

pub many_choices : (k : Kept) → length (choices_of k) ≡ length k.limits
many_choices k = length-map k.limits (λ (l : Limit). Choices.Side k.contact l.dir)

pub opens : (site : Site) (k : Kept) (n : ℕ) (choices : List Choice) → IsSite site → IsOpenable site k → n ≡ length k.limits → choices ≡ choices_of k → SplitsBy site.job.now site.extent site.path.now (Nodes.Side k.contact n) choices
opens site k n choices is may count are = subst (SplitsBy site.job.now site.extent site.path.now (Nodes.Side k.contact n)) (sym are) by
  where
    c : Contact
    c = k.contact

    job : Job
    job = site.job.now

    many : length (choices_of k) ≡ length k.limits
    many = many_choices k

    sides : length (dirs_of k) ≡ length k.limits
    sides = length-map k.limits (λ (l : Limit). l.dir)

    some : 3 ≤ length k.limits
    some = let l = some_sides job c (dirs_of k) may.kept.is may.kept.limits.sides in omega (arith, l, sides)

    few : length k.limits ≤ 8_008_036
    few = few_limits job k may.kept

    by : SplitsBy job site.extent site.path.now (Nodes.Side c n) (choices_of k)
    by = record {
      sound = (may.kept.is, may.ordered);
      earned = record { at = values site; on = is.on; here = may.collides };
      children = (dirs_of k, may.kept.limits.sides, count ∙ sym sides, twice_mapped site.path.now c k.limits);
      many = many ∙ sym count;
      some = omega (arith, many, some);
      few = omega (arith, many, few);
      spelt = (contact_fits job c may.kept.is, omega (arith, count, some), omega (arith, count, few));
    }

-- ---- the neighbours of a cycle
zip_from : (R : ℕ → ℕ → Type 0) (xs ys : List ℕ) → length ys ≡ length xs → ((m : ℕ) → m < length xs → R (get_or xs m 0) (get_or ys m 0)) → AllZip R xs ys
zip_from R [] [] long each = tt
zip_from R [] (y ∷ ys) long each = absurd (omega arith)
zip_from R (x ∷ xs) [] long each = absurd (omega arith)
zip_from R (x ∷ xs) (y ∷ ys) long each = (each 0 (omega arith), zip_from R xs ys (omega arith) (λ m l. each (suc m) (omega arith)))

pub all_on_path : (job : Job) (e : ℕ) (path : List Choice) (objects : List ℕ) → IsCycle (IsOnOrEarned job e path) objects
    → ((m : ℕ) → m < length objects → OnPath path (get_or objects m 0) (get_or (drop 1 objects ++ take 1 objects) m 0)) → IsCycle (OnPath path) objects
all_on_path job e path objects c each = (c.0, zip_from (OnPath path) objects (drop 1 objects ++ take 1 objects) (AllZip-long (IsOnOrEarned job e path) objects (drop 1 objects ++ take 1 objects) c.1) each)

pub pair_earned : (job : Job) (e : ℕ) (path : List Choice) (objects : List ℕ) (k a b : ℕ) → IsCycle (IsOnOrEarned job e path) objects → k < length objects
    → a ≡ get_or objects k 0 → b ≡ get_or (drop 1 objects ++ take 1 objects) k 0 → (OnPath path a b → ⊥) → EarnsPair job e path a b
pair_earned job e path objects k a b c l p q off =
    by (subst (λ t. IsOnOrEarned job e path t b) (sym p) (subst (IsOnOrEarned job e path (get_or objects k 0)) (sym q) (AllZip-get_or (IsOnOrEarned job e path) objects (drop 1 objects ++ take 1 objects) k 0 0 c.1 l)))
  where
    by : IsOnOrEarned job e path a b → EarnsPair job e path a b
    by (inl on) = absurd (off on)
    by (inr earned) = earned

pub around_known : (objects : List ℕ) (k : ℕ) → All (λ o. o < 16) objects → k < length objects → get_or (drop 1 objects ++ take 1 objects) k 0 < 16
around_known [] k all l = absurd (omega arith)
around_known (x ∷ xs) k all l =
    All-push (λ o. o < 16) xs x (All-tail (λ o. o < 16) x xs all) (All-head (λ o. o < 16) x xs all) k 0 (omega (arith, l, length-append xs (x ∷ [])))
