-- What the contract of an operation allows and what it excludes, on a small domain.
use Rattle.std.specs.Prelude.{ℕ, zero, suc, Bool, true, false, Ok, Err, nat_lt}
use Rattle.fault.specs.declared.DomainFault.TheVariants.{Full, NotIssued, Atom as NotThere}
use Rattle.domain.specs.Meaning.{Frame, Meaning, EndsBy}
use Rattle.domain.specs.Operations.{Atom, Not, And, Or}

-- value 0 is never true, 1 always, and each further one at the reading `true` alone
abbrev pub small_truth : ℕ → Bool → Bool
small_truth zero ρ = false
small_truth (suc zero) ρ = true
small_truth (suc (suc v)) ρ = ρ

-- cycles from 5 on, and two readings: at `true` every signal is high, at `false` none
abbrev pub small_frame : (count : ℕ) → Frame Bool
small_frame n = record { first = 5; count = n; reading = λ _. true; trace = λ ρ _ _. ρ }

-- it holds cycles 5 and 6, and has issued so many values
abbrev pub small : (issued free : ℕ) → Meaning ℕ Bool
small n free = record { frame = small_frame 2; issued = λ v. nat_lt v n; truth = small_truth; free = free }

-- the same with another cycle, with the reading `true` alone, and with every value turned
abbrev pub longer : (issued free : ℕ) → Meaning ℕ Bool
longer n free = record { frame = small_frame 3; issued = λ v. nat_lt v n; truth = small_truth; free = free }

abbrev pub one_reading : (issued free : ℕ) → Meaning ℕ Bool
one_reading n free = record {
  frame = record { first = 5; count = 2; reading = λ ρ. ρ; trace = λ ρ _ _. ρ };
  issued = λ v. nat_lt v n;
  truth = small_truth;
  free = free;
}

abbrev pub constant_truths : (issued free : ℕ) → Meaning ℕ Bool
constant_truths n free = record { frame = small_frame 2; issued = λ v. nat_lt v n; truth = λ v _. small_truth v true; free = free }

pub record Examples : Type 0 where
  -- an accepted operation: one place or none, a new value or one that was there
  pub accepted :
      And (small 3 4) (small 3 3) 1 2 (Ok 2)
      × And (small 3 4) (small 3 4) 0 2 (Ok 0)
      × Or (small 3 4) (small 4 3) 2 2 (Ok 3)
      × Or (small 3 0) (small 3 0) 1 2 (Ok 1)
      × Not (small 3 1) (small 3 0) 1 (Ok 0)
      × Atom (small 3 4) (small 3 4) 63 6 (Ok 2)
  -- two places, or one more than before
  pub places :
      (And (small 3 4) (small 3 2) 1 2 (Ok 2) → ⊥)
      × (And (small 3 4) (small 3 5) 1 2 (Ok 2) → ⊥)
  -- a wrong truth at one of the readings; a reading that the domain does not have is not asked
  pub truths :
      (And (small 3 4) (small 3 3) 1 2 (Ok 1) → ⊥)
      × (And (small 3 4) (small 3 3) 1 2 (Ok 0) → ⊥)
      × (Or (small 3 4) (small 3 3) 0 2 (Ok 0) → ⊥)
      × (Not (small 3 4) (small 3 3) 1 (Ok 1) → ⊥)
      × (Atom (small 3 4) (small 3 3) 0 5 (Ok 1) → ⊥)
      × And (one_reading 3 4) (one_reading 3 3) 1 2 (Ok 1)
  -- an answer that is not issued, an operand that is not, an atom that is not there
  pub issued :
      (And (small 3 4) (small 3 3) 2 2 (Ok 3) → ⊥)
      × (And (small 2 4) (small 3 3) 2 1 (Ok 2) → ⊥)
      × (Or (small 2 4) (small 3 3) 0 2 (Ok 2) → ⊥)
      × (Not (small 3 4) (small 3 3) 3 (Ok 2) → ⊥)
      × (Atom (small 3 4) (small 3 3) 64 5 (Ok 2) → ⊥)
      × (Atom (small 3 4) (small 3 3) 0 4 (Ok 2) → ⊥)
      × (Atom (small 3 4) (small 3 3) 0 7 (Ok 2) → ⊥)
  -- what was issued is lost or has another truth; the cycles change
  pub kept :
      (And (small 3 4) (small 2 3) 1 1 (Ok 1) → ⊥)
      × (And (small 3 4) (constant_truths 3 3) 1 1 (Ok 1) → ⊥)
      × (And (small 3 4) (longer 3 3) 1 1 (Ok 1) → ⊥)
  -- refusals, each on its condition and in their order
  pub refused :
      Not (small 2 0) (small 2 0) 2 (Err NotIssued)
      × And (small 2 0) (small 2 0) 2 1 (Err NotIssued)
      × Or (small 2 0) (small 2 0) 1 2 (Err NotIssued)
      × And (small 3 0) (small 3 0) 1 2 (Err Full)
      × Atom (small 3 0) (small 3 0) 64 5 (Err NotThere)
      × Atom (small 3 0) (small 3 0) 0 7 (Err NotThere)
      × Atom (small 3 0) (small 3 0) 0 5 (Err Full)
  pub not_refused :
      (And (small 3 4) (small 3 4) 1 2 (Err NotIssued) → ⊥)
      × (And (small 3 1) (small 3 1) 1 2 (Err Full) → ⊥)
      × (And (small 3 0) (small 3 0) 1 2 (Err NotThere) → ⊥)
      × (And (small 2 0) (small 2 0) 1 2 (Err Full) → ⊥)
      × (Atom (small 3 4) (small 3 4) 63 6 (Err NotThere) → ⊥)
      × (Atom (small 3 4) (small 3 4) 64 5 (Err NotIssued) → ⊥)
      × (Atom (small 3 0) (small 3 0) 64 5 (Err Full) → ⊥)
      × (Not (small 3 4) (small 3 4) 1 (Err Full) → ⊥)
  -- a refused operation that leaves something else
  pub unchanged :
      (And (small 3 0) (small 4 0) 1 2 (Err Full) → ⊥)
      × (And (small 2 4) (small 2 3) 1 2 (Err NotIssued) → ⊥)
      × (And (small 2 4) (longer 2 4) 1 2 (Err NotIssued) → ⊥)
  -- the largest cycle
  pub ends :
      EndsBy 6 (small_frame 2)
      × (EndsBy 5 (small_frame 2) → ⊥)
