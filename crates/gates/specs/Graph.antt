-- What a list of gates means: an and-inverter graph over the signals of a trace.
use Rattle.std.specs.Prelude.{◌≡◌, ℕ, suc, ◌-◌, ◌^◌, ◌<◌, Bool, true, false, cond, not, ◌&&◌, List, [], ◌∷◌, ◌++◌, length, nat_le, nat_lt, slice_index_or}
use Rattle.sva.specs.Trace.{Trace}
use Rattle.domain.specs.Meaning.{Frame, Meaning}
use Rattle.gates.specs.declared.gate.Variable.{Variable}
use Rattle.gates.specs.declared.gate.Variable.TheVariants.{False, Atom, Gate as Output}
use Rattle.gates.specs.declared.gate.Literal.{Literal}
use Rattle.gates.specs.declared.gate.Gate.{Gate}

-- whether a variable is there, with so many gates in the list
abbrev pub known : (gates : ℕ) → Variable → Bool
known n False = true
known n (Atom k c) = nat_le k 63 && nat_lt c (2 ^ 41)
known n (Output i) = nat_lt i n

abbrev pub known_gate : (gates : ℕ) → Gate → Bool
known_gate n g = known n g.left.variable && known n g.right.variable

-- each gate speaks of earlier gates alone, so many standing before the first
abbrev pub ordered_from : (before : ℕ) → List Gate → Bool
ordered_from n [] = true
ordered_from n (g ∷ gs) = known_gate n g && ordered_from (suc n) gs

abbrev pub ordered : List Gate → Bool
ordered gs = ordered_from 0 gs

-- the truth of a variable on a trace, where the gates have these truths
abbrev pub variable_truth : Trace → List Bool → Variable → Bool
variable_truth τ gates False = false
variable_truth τ gates (Atom k c) = τ c k
variable_truth τ gates (Output i) = slice_index_or gates i false

abbrev pub literal_truth : Trace → List Bool → Literal → Bool
literal_truth τ gates l = cond l.negated (not (variable_truth τ gates l.variable)) (variable_truth τ gates l.variable)

-- a gate is true where both its literals are
abbrev pub gate_truth : Trace → List Bool → Gate → Bool
gate_truth τ gates g = literal_truth τ gates g.left && literal_truth τ gates g.right

-- gate after gate, each from those before it
unfoldable pub truths_from : Trace → List Bool → List Gate → List Bool
truths_from τ before [] = before
truths_from τ before (g ∷ gs) = truths_from τ (before ++ gate_truth τ before g ∷ []) gs

abbrev pub truths : Trace → List Gate → List Bool
truths τ gs = truths_from τ [] gs

-- every trace is a reading, over cycles 0 to 2^41 - 1
abbrev pub gates_frame : Frame Trace
gates_frame = record { first = 0; count = 2 ^ 41; reading = λ _. true; trace = λ τ. τ }

abbrev pub gates_meaning : List Gate → (places : ℕ) → Meaning Literal Trace
gates_meaning gs places = record {
  frame = gates_frame;
  issued = λ l. known (length gs) l.variable;
  truth = λ l τ. literal_truth τ (truths τ gs) l;
  free = places - length gs;
}

-- the literals of the constants
abbrev pub constant_literal : Bool → Literal
constant_literal b = record { variable = False; negated = b }

-- the literal that is true where the variable is
abbrev pub positive : Variable → Literal
positive v = record { variable = v; negated = false }

abbrev pub atom_literal : (signal cycle : ℕ) → Literal
atom_literal k c = positive (Atom k c)

abbrev pub opposite : Literal → Literal
opposite l = record { variable = l.variable; negated = not l.negated }

-- what stands past the end of a list
abbrev pub absent : Gate
absent = record { left = constant_literal false; right = constant_literal false }

-- gate i of a list speaks of earlier gates alone, and on every trace it is true exactly where both
-- its literals are
pub record Stands (gs : List Gate) (i : ℕ) : Type 0 where
  pub earlier : known_gate i (slice_index_or gs i absent) ≡ true
  pub truth : (τ : Trace) → slice_index_or (truths τ gs) i false ≡ gate_truth τ (truths τ gs) (slice_index_or gs i absent)

abbrev pub IsGraph : List Gate → Type 0
IsGraph gs = (i : ℕ) → i < length gs → Stands gs i
