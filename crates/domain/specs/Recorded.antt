-- What recorded rows mean as a domain: one reading, the rows themselves; a value is its truth.
use Rattle.std.specs.Prelude.{◌≡◌, ℕ, ◌+◌, ◌-◌, ◌^◌, ◌<◌, ◌≤◌, Bool, true, false, cond, List, length, nat_le, slice_index}
use Rattle.sva.specs.Trace.{bit, recorded}
use Rattle.domain.specs.Meaning.{Frame, Meaning, held}
use Rattle.domain.specs.declared.rows.Rows.{Rows}

-- rows that would pass cycle 2^41 - 1 are not held at all
abbrev pub held_rows : (first : ℕ) → List ℕ → ℕ
held_rows first rows = cond (nat_le (first + length rows) (2 ^ 41)) (length rows) 0

abbrev pub rows_frame : (first : ℕ) → List ℕ → Frame (Unit {0})
rows_frame first rows = record {
  first = first;
  count = held_rows first rows;
  reading = λ _. true;
  trace = λ _ c. recorded rows (c - first);
}

abbrev pub rows_meaning : (first : ℕ) → List ℕ → Meaning Bool (Unit {0})
rows_meaning first rows = record {
  frame = rows_frame first rows;
  issued = λ _. true;
  truth = λ v _. v;
  free = 2 ^ 32;
}

abbrev pub meaning_of : Rows → Meaning Bool (Unit {0})
meaning_of d = rows_meaning d.first d.rows.now

-- there is one reading, in whose trace row i is cycle first + i, and exactly these cycles are held;
-- but none is where they would pass cycle 2^41 - 1. There are always 2^32 free places
pub record ReadsRows (first : ℕ) (rows : List ℕ) : Type 0 where
  pub reads : (ρ : Unit {0}) → (rows_frame first rows).reading ρ ≡ true
  pub row : (ρ : Unit {0}) (i k : ℕ) → (rows_frame first rows).trace ρ (first + i) k ≡ bit (slice_index rows i) k
  pub holds : first + length rows ≤ 2 ^ 41 → (i : ℕ) → i < length rows → held (rows_frame first rows) (first + i) ≡ true
  pub within : (c : ℕ) → held (rows_frame first rows) c ≡ true → (first ≤ c) × (c < first + length rows)
  pub none : 2 ^ 41 < first + length rows → (c : ℕ) → held (rows_frame first rows) c ≡ false
  pub free : (rows_meaning first rows).free ≡ 2 ^ 32
