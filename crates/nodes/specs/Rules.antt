-- Which nodes may follow which.
use Rattle.std.specs.Prelude.{◌≡◌, ℕ, ◌<◌, min, max, Bool, true, false, not, ◌&&◌, ◌||◌, List, [], ◌∷◌, length, take, Some, None, Option, ◌==◌, nat_le, nat_lt, slice_index_or}
use Rattle.fault.specs.Refusals.{refuse}
use Rattle.fault.specs.First.{Rule, rule, allows}
use Rattle.fault.specs.declared.Layer.TheVariants.{Table}
use Rattle.nodes.specs.declared.node.Node.{Node}
use Rattle.nodes.specs.declared.node.BooleanNode.{BooleanNode}
use Rattle.nodes.specs.declared.node.SequenceNode.{SequenceNode}
use Rattle.nodes.specs.declared.node.PropertyNode.{PropertyNode}
use Rattle.nodes.specs.declared.node.Class.{Class}
use Rattle.nodes.specs.declared.node.Facts.{Facts}
use Rattle.nodes.specs.declared.node.Operand.{Operand}
use Rattle.nodes.specs.declared.node.Operands.{Operands}
use Rattle.nodes.specs.Trees.{build, tree_of, facts_of}

abbrev pub none : Operands
none = record { a = None; b = None }

abbrev pub one : Class → ℕ → Operands
one c a = record { a = Some (record { node = a; role = c }); b = None }

abbrev pub two : Class → ℕ → Class → ℕ → Operands
two c a d b = record { a = Some (record { node = a; role = c }); b = Some (record { node = b; role = d }) }

-- the operands of a node, and the class that each is taken as
abbrev pub boolean_operands : BooleanNode → Operands
boolean_operands (BooleanNode.Constant v) = none
boolean_operands (BooleanNode.Signal m) = none
boolean_operands (BooleanNode.Not a) = one Class.Boolean a
boolean_operands (BooleanNode.And a b) = two Class.Boolean a Class.Boolean b
boolean_operands (BooleanNode.Or a b) = two Class.Boolean a Class.Boolean b
boolean_operands (BooleanNode.Past a m) = one Class.Boolean a

abbrev pub sequence_operands : SequenceNode → Operands
sequence_operands (SequenceNode.Delay a b m n) = two Class.Sequence a Class.Sequence b
sequence_operands (SequenceNode.Fusion a b) = two Class.Sequence a Class.Sequence b
sequence_operands (SequenceNode.Repeat a m n) = one Class.Sequence a
sequence_operands (SequenceNode.Or a b) = two Class.Sequence a Class.Sequence b
sequence_operands (SequenceNode.Intersect a b) = two Class.Sequence a Class.Sequence b
sequence_operands (SequenceNode.And a b) = two Class.Sequence a Class.Sequence b
sequence_operands (SequenceNode.Throughout a b) = two Class.Boolean a Class.Sequence b
sequence_operands (SequenceNode.Within a b) = two Class.Sequence a Class.Sequence b
sequence_operands (SequenceNode.FirstMatch a) = one Class.Sequence a

abbrev pub property_operands : PropertyNode → Operands
property_operands (PropertyNode.Not a) = one Class.Property a
property_operands (PropertyNode.Or a b) = two Class.Property a Class.Property b
property_operands (PropertyNode.And a b) = two Class.Property a Class.Property b
property_operands (PropertyNode.Implies a b) = two Class.Sequence a Class.Property b
property_operands (PropertyNode.ImpliesNext a b) = two Class.Sequence a Class.Property b
property_operands (PropertyNode.Nexttime a m) = one Class.Property a
property_operands (PropertyNode.Always a m n) = one Class.Property a
property_operands (PropertyNode.Eventually a m n) = one Class.Property a

abbrev pub operands : Node → Operands
operands (Node.Boolean n) = boolean_operands n
operands (Node.Sequence n) = sequence_operands n
operands (Node.Property n) = property_operands n

-- a test of an operand, if there is one
abbrev pub each_of : (Operand → Bool) → Option Operand → Bool
each_of p None = true
each_of p (Some o) = p o

abbrev pub some_of : (Operand → Bool) → Option Operand → Bool
some_of p None = false
some_of p (Some o) = p o

abbrev pub every : (Operand → Bool) → Operands → Bool
every p os = each_of p os.a && each_of p os.b

abbrev pub some : (Operand → Bool) → Operands → Bool
some p os = some_of p os.a || some_of p os.b

-- a Boolean may stand for a sequence, and a sequence for a property, never the reverse
abbrev pub stands_for : Class → Class → Bool
stands_for Class.Boolean role = true
stands_for Class.Sequence Class.Boolean = false
stands_for Class.Sequence Class.Sequence = true
stands_for Class.Sequence Class.Property = true
stands_for Class.Property Class.Boolean = false
stands_for Class.Property Class.Sequence = false
stands_for Class.Property Class.Property = true

-- a sequence stands for a property
abbrev pub sequence_for_property : Class → Class → Bool
sequence_for_property Class.Sequence Class.Property = true
sequence_for_property Class.Sequence Class.Boolean = false
sequence_for_property Class.Sequence Class.Sequence = false
sequence_for_property Class.Boolean role = false
sequence_for_property Class.Property role = false

-- every operand is the number of a node before node i
abbrev pub earlier : ℕ → Operands → Bool
earlier i os = every (λ o. nat_lt o.node i) os

-- every operand is of a class that can stand where it does; `at` is what is known of each node
abbrev pub classed : (ℕ → Facts) → Operands → Bool
classed at os = every (λ o. stands_for (at o.node).class o.role) os

-- some operand is a sequence with lo 0 that stands for a property
abbrev pub empty : (ℕ → Facts) → Operands → Bool
empty at os = some (λ o. sequence_for_property (at o.node).class o.role && (at o.node).lo == 0) os

-- the numbers are in their ranges, with s signals
abbrev pub boolean_ranged : ℕ → BooleanNode → Bool
boolean_ranged s (BooleanNode.Constant v) = true
boolean_ranged s (BooleanNode.Signal m) = nat_lt m s
boolean_ranged s (BooleanNode.Not a) = true
boolean_ranged s (BooleanNode.And a b) = true
boolean_ranged s (BooleanNode.Or a b) = true
boolean_ranged s (BooleanNode.Past a m) = nat_le 1 m && nat_le m 16

abbrev pub sequence_ranged : SequenceNode → Bool
sequence_ranged (SequenceNode.Delay a b m n) = nat_le 1 m && nat_le m n && nat_le n 31
sequence_ranged (SequenceNode.Fusion a b) = true
sequence_ranged (SequenceNode.Repeat a m n) = nat_le m n && nat_le n 31
sequence_ranged (SequenceNode.Or a b) = true
sequence_ranged (SequenceNode.Intersect a b) = true
sequence_ranged (SequenceNode.And a b) = true
sequence_ranged (SequenceNode.Throughout a b) = true
sequence_ranged (SequenceNode.Within a b) = true
sequence_ranged (SequenceNode.FirstMatch a) = true

abbrev pub property_ranged : PropertyNode → Bool
property_ranged (PropertyNode.Not a) = true
property_ranged (PropertyNode.Or a b) = true
property_ranged (PropertyNode.And a b) = true
property_ranged (PropertyNode.Implies a b) = true
property_ranged (PropertyNode.ImpliesNext a b) = true
property_ranged (PropertyNode.Nexttime a m) = nat_le m 31
property_ranged (PropertyNode.Always a m n) = nat_le m n && nat_le n 31
property_ranged (PropertyNode.Eventually a m n) = nat_le m n && nat_le n 31

abbrev pub ranged : ℕ → Node → Bool
ranged s (Node.Boolean n) = boolean_ranged s n
ranged s (Node.Sequence n) = sequence_ranged n
ranged s (Node.Property n) = property_ranged n

-- the operands' lengths leave no match: an operand of a fusion that matches no cycle, an intersect
-- with lo above hi, a sequence within a shorter one
abbrev pub sequence_crossed : (ℕ → Facts) → SequenceNode → Bool
sequence_crossed at (SequenceNode.Delay a b m n) = false
sequence_crossed at (SequenceNode.Fusion a b) = (at a).hi == 0 || (at b).hi == 0
sequence_crossed at (SequenceNode.Repeat a m n) = false
sequence_crossed at (SequenceNode.Or a b) = false
sequence_crossed at (SequenceNode.Intersect a b) = nat_lt (min (at a).hi (at b).hi) (max (at a).lo (at b).lo)
sequence_crossed at (SequenceNode.And a b) = false
sequence_crossed at (SequenceNode.Throughout a b) = false
sequence_crossed at (SequenceNode.Within a b) = nat_lt (at b).hi (at a).lo
sequence_crossed at (SequenceNode.FirstMatch a) = false

-- or |-> after a sequence that matches no cycle
abbrev pub property_crossed : (ℕ → Facts) → PropertyNode → Bool
property_crossed at (PropertyNode.Not a) = false
property_crossed at (PropertyNode.Or a b) = false
property_crossed at (PropertyNode.And a b) = false
property_crossed at (PropertyNode.Implies a b) = (at a).hi == 0
property_crossed at (PropertyNode.ImpliesNext a b) = false
property_crossed at (PropertyNode.Nexttime a m) = false
property_crossed at (PropertyNode.Always a m n) = false
property_crossed at (PropertyNode.Eventually a m n) = false

abbrev pub crossed : (ℕ → Facts) → Node → Bool
crossed at (Node.Boolean n) = false
crossed at (Node.Sequence n) = sequence_crossed at n
crossed at (Node.Property n) = property_crossed at n

-- what is known of a node passes a limit
abbrev pub over_limit : Facts → Bool
over_limit f = nat_lt 32 f.hi || nat_lt 32 f.lookback || nat_lt 31 f.horizon

-- the refusals of node n with number i in their order, from what is known of the nodes, and of n
abbrev pub node_rules : (signals : ℕ) → (ℕ → Facts) → Facts → ℕ → Node → List Rule
node_rules s at f i n =
    rule (not (earlier i (operands n))) (refuse Table 4 i)
    ∷ rule (not (classed at (operands n))) (refuse Table 5 i)
    ∷ rule (not (ranged s n)) (refuse Table 6 i)
    ∷ rule (crossed at n) (refuse Table 7 i)
    ∷ rule (empty at (operands n)) (refuse Table 8 i)
    ∷ rule (over_limit f) (refuse Table 9 i)
    ∷ []

-- the refusals of a node that follows the nodes `before`
abbrev pub rules_after : (signals : ℕ) → List Node → Node → List Rule
rules_after s before n =
    node_rules s (λ a. facts_of (tree_of before a)) (facts_of (build (tree_of before) n)) (length before) n

-- what stands in an unused place
abbrev pub nothing : Node
nothing = Node.Boolean (BooleanNode.Constant false)

-- every node keeps the rules
abbrev pub Kept : (signals : ℕ) → List Node → Type 0
Kept s ns = (i : ℕ) → i < length ns → allows (rules_after s (take i ns) (slice_index_or ns i nothing)) ≡ true
