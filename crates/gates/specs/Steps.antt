-- How a list takes one more gate: what its inner functions are proved by. No promise of a public call
-- rests on these.
use Rattle.std.specs.Prelude.{◌≡◌, ℕ, ◌<◌, true, List, [], ◌∷◌, length, Ok, Err, Result}
use Rattle.fault.specs.First.{Rule, first}
use Rattle.fault.specs.Refusals.{domain_refusal}
use Rattle.fault.specs.declared.DomainFault.{DomainFault}
use Rattle.domain.specs.Operations.{operands, Due}
use Rattle.gates.specs.declared.gate.Gate.{Gate}
use Rattle.gates.specs.declared.list.Gates.{Gates}
use Rattle.gates.specs.Graph.{known_gate}
use Rattle.gates.specs.Lists.{gate_list, places_of, meaning_of}

-- what one more gate is refused for before it asks for a place
abbrev pub gate_rules : Gates → Gate → List Rule
gate_rules d g = operands (known_gate (length (gate_list d)) g) ∷ []

-- it gets the next place, if that is free
pub record Place (d : Gates) (g : Gate) (place : ℕ) : Type 0 where
  pub known : known_gate (length (gate_list d)) g ≡ true
  pub next : place ≡ length (gate_list d)
  pub room : place < places_of d

abbrev pub Placed : (d : Gates) → Gate → Result ℕ DomainFault → Type 0
Placed d g (Ok place) = Place d g place
Placed d g (Err fault) = Due (meaning_of d) (first (gate_rules d g)) (domain_refusal fault)
