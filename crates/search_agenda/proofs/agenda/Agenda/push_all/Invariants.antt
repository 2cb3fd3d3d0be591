use Rattle.std.proofs.Common.{◌≡◌, ◌-◌, ◌++◌, drop, map}
use Rattle.search_agenda.specs.Agendas.{child_of}
use Rattle.search_agenda.proofs.agenda.Agenda.push_all.Given as goal

abbrev pub invariant-loop-i : goal.invariant-loop-i
invariant-loop-i l =
    (l.self.path ≡ l.initial.self.path)
    × (l.self.open_nodes ≡ map (child_of l.first l.initial.self.path l.choices) (drop (l.count - l.i) l.visits) ++ l.initial.self.open_nodes)
