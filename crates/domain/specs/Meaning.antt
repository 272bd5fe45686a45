-- What a Boolean domain means: the cycles that it holds, its readings with a trace each, the values
-- that it has issued with their truths, and its free places.
use Rattle.std.specs.Prelude.{◌≡◌, ℕ, ◌+◌, ◌≤◌, Bool, true, ◌&&◌, nat_le, nat_lt}
use Rattle.sva.specs.Trace.{Trace}

-- what never changes. R is a type of readings, of which those that pass the test are the domain's
pub record Frame (R : Type 0) : Type 0 where
  pub first : ℕ
  pub count : ℕ
  pub reading : R → Bool
  pub trace : R → Trace

pub record Meaning (V R : Type 0) : Type 0 where
  pub frame : Frame R
  pub issued : V → Bool
  pub truth : V → R → Bool
  pub free : ℕ

-- the cycles held are first to first + count - 1
abbrev pub held : {R : Type 0} → Frame R → (cycle : ℕ) → Bool
held g c = nat_le g.first c && nat_lt c (g.first + g.count)

-- no cycle past the last one is held
abbrev pub EndsBy : {R : Type 0} → (last : ℕ) → Frame R → Type 0
EndsBy last g = (c : ℕ) → held g c ≡ true → c ≤ last

-- v is issued, and is true under exactly the readings at which f is
pub record Denotes {V R : Type 0} (m : Meaning V R) (v : V) (f : R → Bool) : Type 0 where
  pub issued : m.issued v ≡ true
  pub truth : (ρ : R) → m.frame.reading ρ ≡ true → m.truth v ρ ≡ f ρ

-- from m to n cycles and readings are the same, what was issued is issued with the same truths, and
-- at most k places were taken and none was added
pub record Grown {V R : Type 0} (m n : Meaning V R) (k : ℕ) : Type 0 where
  pub frame : n.frame ≡ m.frame
  pub kept : (v : V) → m.issued v ≡ true → Denotes n v (m.truth v)
  pub taken : m.free ≤ n.free + k
  pub none_added : n.free ≤ m.free
