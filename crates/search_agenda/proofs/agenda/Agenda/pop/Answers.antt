use Rattle.std.proofs.Common.{Some, ap, sym, ◌∙◌, ◌++◌, take, append-nil}
use Rattle.std.specs.Option.{option_to_list}
use Rattle.search_agenda.proofs.Nesting.{popped}
use Rattle.search_agenda.proofs.agenda.Agenda.pop.Goals as goal

pub invariant_of-self-in-Continue-1 : goal.invariant_of-self-in-Continue-1
invariant_of-self-in-Continue-1 c =
    let now = c.in_ok-push.ensures.items ∙ (ap (λ t. t ++ option_to_list (Some c.in-Some-choice.choice)) c.truncate.ensures.items ∙ ap (λ o. take c.in-Some.next.depth c.self.inside.trail.items ++ option_to_list o) (sym c.in-Some-choice.is)) in
    (popped _ _ _ _ c.in-Some.next c.in-Some.ensures.next now c.self.invariant).nested

pub returns-in_ok-push : goal.returns-in_ok-push
returns-in_ok-push c =
    let now = c.in_ok-push.ensures.items ∙ (ap (λ t. t ++ option_to_list (Some c.in-Some-choice.choice)) c.truncate.ensures.items ∙ ap (λ o. take c.in-Some.next.depth c.self.inside.trail.items ++ option_to_list o) (sym c.in-Some-choice.is)) in
    ap (λ p. p.open_nodes) (sym c.self.view_is) ∙ (popped _ _ _ _ c.in-Some.next c.in-Some.ensures.next now c.self.invariant).open_nodes

pub returns-in_default-choice : goal.returns-in_default-choice
returns-in_default-choice c =
    let now = c.truncate.ensures.items ∙ (sym (append-nil (take c.in-Some.next.depth c.self.inside.trail.items)) ∙ ap (λ o. take c.in-Some.next.depth c.self.inside.trail.items ++ option_to_list o) (sym c.in_default-choice.is)) in
    ap (λ p. p.open_nodes) (sym c.self.view_is) ∙ (popped _ _ _ _ c.in-Some.next c.in-Some.ensures.next now c.self.invariant).open_nodes
