use Rattle.std.proofs.Common.{sym, subst, ap, ◌∙◌, ◌∷◌, ◌++◌, [], reverse}
use Rattle.search_agenda.specs.Kept.{AreKept}
use Rattle.search_agenda.proofs.Keeping.{pushed, same_slots}
use Rattle.search_agenda.proofs.open_nodes.OpenNodes.push.Goals as goal

pub invariant_of-self-in_err-key : goal.invariant_of-self-in_err-key
invariant_of-self-in_err-key c =
    subst (λ ks. AreKept c.insert.new.self (reverse ks)) (sym c.in_ok-reserve.ensures.items)
    (subst (λ s. AreKept s (reverse c.self.inside.keys.items)) (sym c.in_err-key.ensures.err) (same_slots c.self.inside.nodes c.insert.new.self.capacity (reverse c.self.inside.keys.items) c.self.invariant))

pub invariant_of-self-2 : goal.invariant_of-self-2
invariant_of-self-2 c =
    (pushed _ _ _ _ c.self.inside.keys.items _ c.in_ok-key.ensures.updates c.in_ok-key.ensures.was_vacant c.self.invariant (c.push_reserved.ensures.items ∙ ap (λ ks. ks ++ c.in_ok-key.key ∷ []) c.in_ok-reserve.ensures.items)).kept

pub returns-clause-ok : goal.returns-clause-ok
returns-clause-ok c =
    (pushed _ _ _ _ c.self.inside.keys.items _ c.in_ok-key.ensures.updates c.in_ok-key.ensures.was_vacant c.self.invariant (c.push_reserved.ensures.items ∙ ap (λ ks. ks ++ c.in_ok-key.key ∷ []) c.in_ok-reserve.ensures.items)).values
    ∙ ap (λ l. c.args.node ∷ l) c.self.view_is
