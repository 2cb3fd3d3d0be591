use Rattle.std.proofs.Common.{rules, ◌≡◌, ◌∙◌, ◌+◌, ◌-◌, ◌<◌, arith, sym, ap, subst, length, get_or, set, take, Contains, ℕ, List}
use Rattle.std.specs.List.{swap_remove}
use Rattle.std.specs.Vec.{vec_len}
use Rattle.row_laws.specs.Laws.OneForm.{any_default}
use Rattle.row_dictionary.specs.Seen.{Standing, IsPlaced}
use Rattle.row_dictionary.proofs.Fewer.{last_at, less_placed, any_removed, taken_long}
use Rattle.row_pivots.specs.Tables.{place_of}
use Rattle.row_dictionary.proofs.variables.Variables.shrink.Goals as goal

pub swap_remove-requires : goal.swap_remove-requires
swap_remove-requires c =
    let s = c.self.inside in
    let has : Contains s.basic.items (length s.basic.items + length s.free.items - 1) = subst (λ (t : Standing). Contains t.basic (length t.basic + length t.free - 1)) (sym c.self.view_is) c.requires in
    let long : c.len-last.result ≡ length s.places.items = search rules in
    let at = last_at s.places.items s.basic.items s.free.items (c.len-last.result - 1) c.index-at.result.now c.index-at.result.now c.self.invariant (omega (arith, long)) c.index-at.ensures has in
    let l : vec_len s.basic ≡ length s.basic.items = search rules in
    let h = at.inside in
    omega (arith, h, l)

pub index_mut-requires : goal.index_mut-requires
index_mut-requires c =
    let s = c.self.inside in
    let has : Contains s.basic.items (length s.basic.items + length s.free.items - 1) = subst (λ (t : Standing). Contains t.basic (length t.basic + length t.free - 1)) (sym c.self.view_is) c.requires in
    let long : c.len-last.result ≡ length s.places.items = search rules in
    let at = last_at s.places.items s.basic.items s.free.items (c.len-last.result - 1) c.index-at.result.now c.index-at.result.now c.self.invariant (omega (arith, long)) c.index-at.ensures has in
    let left : c.swap_remove.new.self.items ≡ swap_remove s.basic.items c.index-at.result.now 0 = c.swap_remove.ensures.items ∙ any_removed s.basic.items c.index-at.result.now c.swap_remove.result 0 at.inside in
    let placed = less_placed s.places.items s.basic.items s.free.items (c.len-last.result - 1) c.index-at.result.now c.self.invariant at.last at.inside at.is in
    let now : c.index-at.result.now < length c.swap_remove.new.self.items = search rules in
    let moved : c.index-moved.result.now ≡ get_or (swap_remove s.basic.items c.index-at.result.now 0) c.index-at.result.now 0 = c.index-moved.ensures ∙ any_default c.swap_remove.new.self.items c.index-at.result.now c.index-moved.result.now 0 now ∙ ap (λ (t : List ℕ). get_or t c.index-at.result.now 0) left in
    let come = placed.1 (subst (λ (t : List ℕ). c.index-at.result.now < length t) left now) c.index-moved.result.now moved in
    let few : length c.truncate.new.self.items ≡ c.len-last.result - 1 = ap length c.truncate.ensures.items ∙ taken_long s.places.items (c.len-last.result - 1) at.last in
    let l : vec_len c.truncate.new.self ≡ length c.truncate.new.self.items = search rules in
    let low = come.0 in
    omega (arith, low, few, l)

pub invariant_of-self : goal.invariant_of-self
invariant_of-self c =
    let s = c.self.inside in
    let has : Contains s.basic.items (length s.basic.items + length s.free.items - 1) = subst (λ (t : Standing). Contains t.basic (length t.basic + length t.free - 1)) (sym c.self.view_is) c.requires in
    let long : c.len-last.result ≡ length s.places.items = search rules in
    let at = last_at s.places.items s.basic.items s.free.items (c.len-last.result - 1) c.index-at.result.now c.index-at.result.now c.self.invariant (omega (arith, long)) c.index-at.ensures has in
    let left : c.swap_remove.new.self.items ≡ swap_remove s.basic.items c.index-at.result.now 0 = c.swap_remove.ensures.items ∙ any_removed s.basic.items c.index-at.result.now c.swap_remove.result 0 at.inside in
    let placed = less_placed s.places.items s.basic.items s.free.items (c.len-last.result - 1) c.index-at.result.now c.self.invariant at.last at.inside at.is in
    let now : c.index-at.result.now < length c.swap_remove.new.self.items = search rules in
    let moved : c.index-moved.result.now ≡ get_or (swap_remove s.basic.items c.index-at.result.now 0) c.index-at.result.now 0 = c.index-moved.ensures ∙ any_default c.swap_remove.new.self.items c.index-at.result.now c.index-moved.result.now 0 now ∙ ap (λ (t : List ℕ). get_or t c.index-at.result.now 0) left in
    let come = placed.1 (subst (λ (t : List ℕ). c.index-at.result.now < length t) left now) c.index-moved.result.now moved in
    subst (λ (t : List ℕ). IsPlaced (set t c.index-moved.result.now c.index-at.result.now) c.swap_remove.new.self.items c.self.inside.free.items) (sym c.truncate.ensures.items)
    (subst (λ (t : List ℕ). IsPlaced (set (take (c.len-last.result - 1) c.self.inside.places.items) c.index-moved.result.now c.index-at.result.now) t c.self.inside.free.items) (sym left) come.1)

pub invariant_of-self-else-at-len : goal.invariant_of-self-else-at-len
invariant_of-self-else-at-len c =
    let s = c.self.inside in
    let has : Contains s.basic.items (length s.basic.items + length s.free.items - 1) = subst (λ (t : Standing). Contains t.basic (length t.basic + length t.free - 1)) (sym c.self.view_is) c.requires in
    let long : c.len-last.result ≡ length s.places.items = search rules in
    let at = last_at s.places.items s.basic.items s.free.items (c.len-last.result - 1) c.index-at.result.now c.index-at.result.now c.self.invariant (omega (arith, long)) c.index-at.ensures has in
    let left : c.swap_remove.new.self.items ≡ swap_remove s.basic.items c.index-at.result.now 0 = c.swap_remove.ensures.items ∙ any_removed s.basic.items c.index-at.result.now c.swap_remove.result 0 at.inside in
    let placed = less_placed s.places.items s.basic.items s.free.items (c.len-last.result - 1) c.index-at.result.now c.self.invariant at.last at.inside at.is in
    let no : c.index-at.result.now < length c.swap_remove.new.self.items → ⊥ = search rules in
    subst (λ (t : List ℕ). IsPlaced t c.swap_remove.new.self.items c.self.inside.free.items) (sym c.truncate.ensures.items)
    (subst (λ (t : List ℕ). IsPlaced (take (c.len-last.result - 1) c.self.inside.places.items) t c.self.inside.free.items) (sym left)
    (placed.0 (λ h. no (subst (λ (t : List ℕ). c.index-at.result.now < length t) (sym left) h))))

pub returns-then-at-len-clause-place : goal.returns-then-at-len-clause-place
returns-then-at-len-clause-place c =
    let s = c.self.inside in
    let has : Contains s.basic.items (length s.basic.items + length s.free.items - 1) = subst (λ (t : Standing). Contains t.basic (length t.basic + length t.free - 1)) (sym c.self.view_is) c.requires in
    let long : c.len-last.result ≡ length s.places.items = search rules in
    let at = last_at s.places.items s.basic.items s.free.items (c.len-last.result - 1) c.index-at.result.now c.index-at.result.now c.self.invariant (omega (arith, long)) c.index-at.ensures has in
    subst (λ (t : Standing). c.index-at.result.now ≡ place_of (length t.basic + length t.free - 1) t.basic) c.self.view_is at.place

pub returns-else-at-len-clause-place : goal.returns-else-at-len-clause-place
returns-else-at-len-clause-place c =
    let s = c.self.inside in
    let has : Contains s.basic.items (length s.basic.items + length s.free.items - 1) = subst (λ (t : Standing). Contains t.basic (length t.basic + length t.free - 1)) (sym c.self.view_is) c.requires in
    let long : c.len-last.result ≡ length s.places.items = search rules in
    let at = last_at s.places.items s.basic.items s.free.items (c.len-last.result - 1) c.index-at.result.now c.index-at.result.now c.self.invariant (omega (arith, long)) c.index-at.ensures has in
    subst (λ (t : Standing). c.index-at.result.now ≡ place_of (length t.basic + length t.free - 1) t.basic) c.self.view_is at.place

pub returns-else-at-len-clause-inside : goal.returns-else-at-len-clause-inside
returns-else-at-len-clause-inside c =
    let s = c.self.inside in
    let has : Contains s.basic.items (length s.basic.items + length s.free.items - 1) = subst (λ (t : Standing). Contains t.basic (length t.basic + length t.free - 1)) (sym c.self.view_is) c.requires in
    let long : c.len-last.result ≡ length s.places.items = search rules in
    let at = last_at s.places.items s.basic.items s.free.items (c.len-last.result - 1) c.index-at.result.now c.index-at.result.now c.self.invariant (omega (arith, long)) c.index-at.ensures has in
    subst (λ (t : Standing). c.index-at.result.now < length t.basic) c.self.view_is at.inside
