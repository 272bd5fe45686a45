-- The cycles that the verdict of one start may depend on, and the memory that working it out takes.
use Rattle.std.specs.Prelude.{ℕ, ◌+◌, ◌-◌, ◌*◌}

-- the first cycle of a start's span: never below cycle 0, since `-` stops at 0
abbrev pub span_first : (lookback start : ℕ) → ℕ
span_first l s = s - l

-- the last cycle of a start's span
abbrev pub span_last : (horizon start : ℕ) → ℕ
span_last h s = s + h

-- how many cycles the span of a late start has
abbrev pub widest_span : (horizon lookback : ℕ) → ℕ
widest_span h l = l + 1 + h

-- the values of scratch for a table of so many nodes: for each node, and twice over, a value for
-- every pair of boundaries of a window of horizon + 1 cycles, and one for every cycle looked back
abbrev pub scratch_length : (nodes horizon lookback : ℕ) → ℕ
scratch_length n h l = (n + 2) * ((h + 2) * (h + 2) + l)
