use Rattle.std.proofs.Common.{◌≡◌, ◌+◌, ◌-◌, ◌*◌, ◌<◌, ◌^◌, ◌++◌, IsTrue}
use Rattle.seq_trial.specs.Draws.{later}
use Rattle.seq_trial.specs.Towers.{fits, higher_text}
use Rattle.seq_trial.proofs.tower.put_higher.Given as goal

abbrev pub invariant-loop-k : goal.invariant-loop-k
invariant-loop-k l =
    (l.draws.state < 2 ^ 32) × IsTrue (fits l.size l.x)
    × (l.to.items ++ higher_text (l.higher - l.k) l.size (5 * (l.k + 1)) l.x l.draws.state ≡ l.initial.to.items ++ higher_text l.higher l.size 5 0 l.initial.draws.state)
    × (later (l.higher - l.k) l.draws.state ≡ later l.higher l.initial.draws.state)
