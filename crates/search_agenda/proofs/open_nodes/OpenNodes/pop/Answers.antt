use Rattle.std.proofs.Common.{sym}
use Rattle.search_agenda.proofs.Keeping.{taken, not_none}
use Rattle.search_agenda.proofs.open_nodes.OpenNodes.pop.Goals as goal

pub invariant_of-self-2 : goal.invariant_of-self-2
invariant_of-self-2 c = (taken _ _ _ _ _ _ c.try_remove.ensures.updates c.try_remove.ensures.value c.self.invariant c.in-Some.ensures.items).kept

pub returns-clause-next : goal.returns-clause-next
returns-clause-next c = rw (sym c.self.view_is) ((taken _ _ _ _ _ _ c.try_remove.ensures.updates c.try_remove.ensures.value c.self.invariant c.in-Some.ensures.items).values)

pub returns-clause-none : goal.returns-clause-none
returns-clause-none c = not_none _ _ ((taken _ _ _ _ _ _ c.try_remove.ensures.updates c.try_remove.ensures.value c.self.invariant c.in-Some.ensures.items).some)
