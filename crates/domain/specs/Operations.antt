-- What an operation of a domain answers.
use Rattle.std.specs.Prelude.{◌≡◌, ℕ, Bool, true, not, ◌&&◌, ◌||◌, List, [], ◌∷◌, Some, None, Ok, Err, Option, Result, nat_le}
use Rattle.fault.specs.First.{Rule, rule, first, allows}
use Rattle.fault.specs.Refusals.{refuse, domain_refusal}
use Rattle.fault.specs.declared.DomainFault.{DomainFault}
use Rattle.fault.specs.declared.Layer.TheVariants as In
use Rattle.fault.specs.declared.Refusal.{Refusal}
use Rattle.domain.specs.Meaning.{Meaning, Denotes, Grown, held}

-- what an operation is refused for before it asks for a place: an operand that is not issued, an
-- atom that is not there
abbrev pub operands : (issued : Bool) → Rule
operands issued = rule (not issued) (refuse In.Domain 25 0)

abbrev pub atom : (there : Bool) → Rule
atom there = rule (not there) (refuse In.Domain 26 0)

-- what is refused: exactly what the rules say, and where they say nothing, for want of a place alone
abbrev pub Due : {V R : Type 0} → Meaning V R → Option Refusal → Refusal → Type 0
Due m (Some due) refusal = refusal ≡ due
Due m None refusal = (refusal ≡ refuse In.Domain 24 0) × (m.free ≡ 0)

-- an operation that is accepted: no rule refuses it, its value has the truths f, and it takes one
-- place at most
pub record Accepted {V R : Type 0} (m n : Meaning V R) (rules : List Rule) (f : R → Bool) (v : V) : Type 0 where
  pub allowed : allows rules ≡ true
  pub denotes : Denotes n v f
  pub grown : Grown m n 1

-- one that is refused changes nothing
pub record Refused {V R : Type 0} (m n : Meaning V R) (rules : List Rule) (fault : DomainFault) : Type 0 where
  pub same : n ≡ m
  pub due : Due m (first rules) (domain_refusal fault)

abbrev pub Answered : {V R : Type 0} → (m n : Meaning V R) → List Rule → (R → Bool) → Result V DomainFault → Type 0
Answered m n rules f (Ok v) = Accepted m n rules f v
Answered m n rules f (Err fault) = Refused m n rules fault

-- the operations, from the meaning m before to the meaning n after
module _ {V R : Type 0} (m n : Meaning V R) where
  abbrev pub Atom : (signal cycle : ℕ) → Result V DomainFault → Type 0
  Atom k c = Answered m n (atom (nat_le k 63 && held m.frame c) ∷ []) (λ ρ. m.frame.trace ρ c k)

  abbrev pub Not : V → Result V DomainFault → Type 0
  Not a = Answered m n (operands (m.issued a) ∷ []) (λ ρ. not (m.truth a ρ))

  abbrev pub And : V → V → Result V DomainFault → Type 0
  And a b = Answered m n (operands (m.issued a && m.issued b) ∷ []) (λ ρ. m.truth a ρ && m.truth b ρ)

  abbrev pub Or : V → V → Result V DomainFault → Type 0
  Or a b = Answered m n (operands (m.issued a && m.issued b) ∷ []) (λ ρ. m.truth a ρ || m.truth b ρ)
