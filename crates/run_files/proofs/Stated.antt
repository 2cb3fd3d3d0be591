-- Bytes state one plan, or none.
use Rattle.std.proofs.Common.{◌≡◌, ◌≢◌, ℕ, Bool, true, false, List, drop, Option, Some, None, Result, Ok, Err, refl, sym, ap, ◌∙◌, subst}
use Rattle.cert_text.specs.Heads.{IsRefusedTree}
use Rattle.cert_text.specs.Laws.Heads.{tree_all, tree_refuses}
use Rattle.cert_text.specs.declared.block.CertRead.{CertRead}
use Rattle.cert_text.specs.declared.block.Head.{Head}
use Rattle.cert_text.specs.declared.block.Kind.TheVariants.{Certificate}
use Rattle.plan_text.specs.PlanText.{IsPlanOf}
use Rattle.plan_text.specs.declared.file.PlanFile.{PlanFile}
use Rattle.plan_text.specs.declared.reading.PlanRead.{PlanRead}
use Rattle.plan_text.specs.declared.reading.PlanRead.TheVariants.{NoMemory}
use Rattle.seq_io.specs.Files.{GivesFile}
use Rattle.seq_io.specs.declared.mem_file.MemFile.{MemFile}
use Rattle.seq_model.specs.declared.tree.Tree.{Tree}
use Rattle.run_files.specs.Causes.{HasNoBlock}
use Rattle.run_files.specs.Files.{StatesPlan}
use Rattle.run_files.specs.Plans.{IsBlockOf, IsOnlyBy, IsStatedBy, reads_block}
use Rattle.run_files.specs.declared.plans.GivenPlan.{GivenPlan}
use Rattle.run_files.specs.declared.words.Task.{Task}

-- ---- a block is read as one thing, and none that is refused
abbrev ok_block : Head × Tree → Result (Head × Tree) CertRead
ok_block b = Ok b

block_of-one : (due : Bool) (rest : List ℕ) (b d : Option (Head × Tree)) → IsBlockOf due rest b → IsBlockOf due rest d → b ≡ d
block_of-one false rest None None p q = refl
block_of-one false rest None (Some d) p q = absurd q
block_of-one false rest (Some b) d p q = absurd p
block_of-one true rest None d p q = absurd p
block_of-one true rest (Some b) None p q = absurd q
block_of-one true rest (Some b) (Some d) p q =
    (let same : ok_block b ≡ ok_block d = tree_all Certificate rest (ok_block b) p tt d.0 d.1 q (λ e. absurd (cc e)) in cc same)

block_of-refused : (due : Bool) (rest : List ℕ) (b : Option (Head × Tree)) (e : CertRead) → due ≡ true → IsBlockOf due rest b → IsRefusedTree rest Certificate e → ⊥
block_of-refused false rest b e due is r = absurd (cc due)
block_of-refused true rest None e due is r = is
block_of-refused true rest (Some b) e due is r =
    (let same : ok_block b ≡ Err e = tree_refuses Certificate rest (ok_block b) is tt e r (λ x. absurd (cc x)) in absurd (cc same))

-- ---- so are the lines of a plan
abbrev IsAll : List ℕ → Result (PlanFile × ℕ) PlanRead → Type 0
IsAll bytes r = (f : PlanFile) (k : ℕ) → IsPlanOf bytes f k → r ≢ Err NoMemory → r ≡ Ok (f, k)

pub record IsOneFile (bytes : List ℕ) (file : PlanFile) (place : ℕ) : Type 0 where
  pub same : (f : PlanFile) (k : ℕ) → IsPlanOf bytes f k → (f ≡ file) × (k ≡ place)

abbrev ok_file : PlanFile × ℕ → Result (PlanFile × ℕ) PlanRead
ok_file x = Ok x

pub one_file : (bytes : List ℕ) (r : Result (PlanFile × ℕ) PlanRead) (file : PlanFile) (place : ℕ) → r ≡ Ok (file, place) → IsAll bytes r → IsOneFile bytes file place
one_file bytes r file place e all = record { same = λ f k is. inside (f, k) (file, place) (sym (all f k is (λ no. absurd (cc (e, no)))) ∙ e) }
  where
    inside : (x y : PlanFile × ℕ) → ok_file x ≡ ok_file y → (x.0 ≡ y.0) × (x.1 ≡ y.1)
    inside x y e = (let same : x ≡ y = cc in (ap (λ (p : PlanFile × ℕ). p.0) same, ap (λ (p : PlanFile × ℕ). p.1) same))

abbrev plan_with : PlanFile → Option (Head × Tree) → GivenPlan
plan_with f b = record { file = f; block = b }

pub only_stated : (task : Task) (bytes : List ℕ) (file : PlanFile) (place : ℕ) (block : Option (Head × Tree)) → IsOneFile bytes file place → IsBlockOf (reads_block task file) (drop place bytes) block
    → IsOnlyBy task bytes (record { file = file; block = block })
only_stated task bytes file place block one is = λ other s.
    (let same = one.same other.file s.place s.is in
    let there : IsBlockOf (reads_block task file) (drop place bytes) other.block =
    subst (λ k. IsBlockOf (reads_block task file) (drop k bytes) other.block) same.1 (subst (λ (f : PlanFile). IsBlockOf (reads_block task f) (drop s.place bytes) other.block) same.0 s.behind) in
    made other.file file other.block block same.0 (block_of-one (reads_block task file) (drop place bytes) other.block block there is))
  where
    made : (f g : PlanFile) (b d : Option (Head × Tree)) → f ≡ g → b ≡ d → plan_with f b ≡ plan_with g d
    made f g b d p q = cc

pub no_block : (task : Task) (bytes : List ℕ) (e : CertRead) (r : HasNoBlock task bytes e) → IsOneFile bytes r.file r.place → (plan : GivenPlan) → IsStatedBy task bytes plan → ⊥
no_block task bytes e r one plan s =
    let same = one.same plan.file s.place s.is in
    let there : IsBlockOf (reads_block task r.file) (drop r.place bytes) plan.block =
    subst (λ k. IsBlockOf (reads_block task r.file) (drop k bytes) plan.block) same.1 (subst (λ (f : PlanFile). IsBlockOf (reads_block task f) (drop s.place bytes) plan.block) same.0 s.behind) in
    block_of-refused (reads_block task r.file) (drop r.place bytes) plan.block e r.due there r.refused

-- ---- of the file that is named
pub one_named : (files : Option (List MemFile)) (task : Task) (name bytes : List ℕ) (plan : GivenPlan) → GivesFile files name bytes → IsOnlyBy task bytes plan
    → (told : List MemFile) (other : GivenPlan) → files ≡ Some told → StatesPlan (Some told) task name other → other ≡ plan
one_named files task name bytes plan gives only told other is s =
    let here : GivesFile (Some told) name bytes = subst (λ fs. GivesFile fs name bytes) is gives in
    only other (subst (λ b. IsStatedBy task b other) (s.gives ∙ sym here) s.is)
