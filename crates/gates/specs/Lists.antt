-- What the calls on a list of gates do.
use Rattle.std.specs.Prelude.{◌≡◌, ℕ, ◌^◌, min, Bool, true, List, [], ◌∷◌, ◌++◌, length, IfOk, Ok, Err, vec_items, vec_capacity, Result, nat_lt}
use Rattle.fault.specs.declared.DomainFault.{DomainFault}
use Rattle.sva.specs.Trace.{Trace}
use Rattle.domain.specs.Meaning.{Meaning, held}
use Rattle.gates.specs.declared.gate.Variable.TheVariants.{Gate as Output}
use Rattle.gates.specs.declared.gate.Literal.{Literal}
use Rattle.gates.specs.declared.gate.Gate.{Gate}
use Rattle.gates.specs.declared.list.Gates.{Gates}
use Rattle.gates.specs.Graph.{gates_meaning}

abbrev pub gate_list : Gates → List Gate
gate_list d = vec_items d.gates

-- how many gates it has room for
abbrev pub places_of : Gates → ℕ
places_of d = vec_capacity d.gates

abbrev pub meaning_of : Gates → Meaning Literal Trace
meaning_of d = gates_meaning (gate_list d) (places_of d)

-- a list as it is made: no gate, as many free places as were asked for, but no more than 2^32; every
-- trace is a reading, over cycles 0 to 2^41 - 1
pub record Fresh (wanted : ℕ) (d : Gates) : Type 0 where
  pub gates : gate_list d ≡ []
  pub places : places_of d ≡ min wanted (2 ^ 32)
  pub free : (meaning_of d).free ≡ min wanted (2 ^ 32)
  pub reads : (τ : Trace) → (meaning_of d).frame.reading τ ≡ true
  pub trace : (τ : Trace) → (meaning_of d).frame.trace τ ≡ τ
  pub holds : (c : ℕ) → held (meaning_of d).frame c ≡ nat_lt c (2 ^ 41)

abbrev pub gate : (left right : Literal) → Gate
gate a b = record { left = a; right = b }

-- the literal of a gate, by its place
abbrev pub output : (place : ℕ) → (negated : Bool) → Literal
output i negated = record { variable = Output i; negated = negated }

-- an operation that takes no place answers this literal, or is refused; the list is as it was
pub record Gives (old new : Gates) (l : Literal) (r : Result Literal DomainFault) : Type 0 where
  pub same : new ≡ old
  pub literal : IfOk r (λ v. v ≡ l)

-- a gate was put behind the others, and the answer is its literal, negated or not
pub record Appended (old new : Gates) (g : Gate) (negated : Bool) (l : Literal) : Type 0 where
  pub gates : gate_list new ≡ gate_list old ++ g ∷ []
  pub places : places_of new ≡ places_of old
  pub literal : l ≡ output (length (gate_list old)) negated

-- an operation that takes a place, or is refused
abbrev pub Appends : (old new : Gates) → Gate → (negated : Bool) → Result Literal DomainFault → Type 0
Appends old new g negated (Ok l) = Appended old new g negated l
Appends old new g negated (Err _) = new ≡ old
