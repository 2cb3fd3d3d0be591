-- Numbers drawn one after the other from a seed.
--
--   next_state s     the state after a draw
--   drawn count s    the number below `count` that is drawn at the state s
--   later draws s    the state after so many draws
use Rattle.std.specs.Prelude.{ℕ, zero, suc, ◌+◌, ◌*◌, ◌/◌, ◌%◌, ◌^◌}

abbrev pub next_state : ℕ → ℕ
next_state s = (s * 1_103_515_245 + 12_345) % 2 ^ 31

abbrev pub drawn : ℕ → ℕ → ℕ
drawn count s = (next_state s / 65_536) % count

abbrev pub later : ℕ → ℕ → ℕ
later zero s = s
later (suc draws) s = later draws (next_state s)
