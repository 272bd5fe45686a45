-- What a computation over a domain comes to: some operations, one after the other.
use Rattle.std.specs.Prelude.{◌≡◌, ℕ, Bool, Ok, Err, Result}
use Rattle.fault.specs.declared.DomainFault.{DomainFault}
use Rattle.fault.specs.declared.DomainFault.TheVariants.{Full}
use Rattle.domain.specs.Meaning.{Meaning, Denotes, Grown}

-- it got its value, by at most k places
pub record Reached {V R : Type 0} (m n : Meaning V R) (k : ℕ) (f : R → Bool) (v : V) : Type 0 where
  pub denotes : Denotes n v f
  pub grown : Grown m n k

-- it was refused a place, when none was left
pub record Stopped {V R : Type 0} (m n : Meaning V R) (k : ℕ) (fault : DomainFault) : Type 0 where
  pub refused : fault ≡ Full
  pub full : n.free ≡ 0
  pub grown : Grown m n k

abbrev pub Outcome : {V R : Type 0} → (m n : Meaning V R) → ℕ → (R → Bool) → Result V DomainFault → Type 0
Outcome m n k f (Ok v) = Reached m n k f v
Outcome m n k f (Err fault) = Stopped m n k fault
