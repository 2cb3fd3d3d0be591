-- When the block that a claim asks for is there.
--
--   has_no_block_due     where no block is due at all
--   has_block_read       where a block was read
use Rattle.std.proofs.Common.{◌≡◌, ℕ, zero, suc, ◌-◌, false, Option, Some, sym, subst, arith, nat_lt}
use Rattle.std.proofs.lemmas.Bool.Decides.{nat_tests}
use Rattle.cert_text.specs.declared.block.Head.{Head}
use Rattle.claim_checker.specs.Claims.{HasBlock, IsReadTree, excluded_in}
use Rattle.plan_text.specs.PlanText.{is_block_due}
use Rattle.plan_text.specs.declared.file.State.{State}
use Rattle.plan_text.specs.declared.file.State.TheVariants as States
use Rattle.seq_model.specs.declared.tree.Tree.{Tree}

has_none : (e : ℕ) (block : Option (Head × Tree)) → e ≡ 0 → HasBlock e block
has_none e block zeroed = subst (λ n. HasBlock n block) (sym zeroed) tt

below_one : (extent : ℕ) → nat_lt 1 extent ≡ false → extent - 1 ≡ 0
below_one extent undue = grind (arith, nat_tests)

pub has_no_block_due : (state : State) (grid extent : ℕ) (block : Option (Head × Tree)) → is_block_due state extent ≡ false → HasBlock (excluded_in state grid extent) block
has_no_block_due States.Found grid extent block undue = tt
has_no_block_due States.Least grid extent block undue = has_none (extent - 1) block (below_one extent undue)
has_no_block_due States.OpenBudget grid extent block undue = tt
has_no_block_due States.OpenWide grid extent block undue = tt
has_no_block_due States.NoPlan grid extent block undue = absurd (cc undue)
has_no_block_due States.UndecidedBudget grid extent block undue = tt
has_no_block_due States.UndecidedWide grid extent block undue = tt

pub has_block_read : (e : ℕ) (b : Head × Tree) → IsReadTree b.1 → HasBlock e (Some b)
has_block_read zero b read = tt
has_block_read (suc e) b read = read
