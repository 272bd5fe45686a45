-- What a property is tried on.
use Rattle.std.specs.Prelude.{◌≡◌, ℕ, ◌/◌, ◌%◌, ◌^◌, ◌<◌, ◌≤◌, Bool, List, ◌==◌, slice_index}

-- whether, in a cycle, a signal is high
abbrev pub Trace : Type 0
Trace = (cycle signal : ℕ) → Bool

-- signal k is bit k of a row
abbrev pub bit : (row k : ℕ) → Bool
bit row k = (row / 2 ^ k) % 2 == 1

-- the trace of a list of rows: row c is cycle c; behind the last one all signals are low
abbrev pub recorded : List ℕ → Trace
recorded rows c k = bit (slice_index rows c) k

-- two traces are alike in the cycles from first up to, but not including, end
abbrev pub Alike : (first end : ℕ) → Trace → Trace → Type 0
Alike first end τ υ = (c k : ℕ) → first ≤ c → c < end → τ c k ≡ υ c k
