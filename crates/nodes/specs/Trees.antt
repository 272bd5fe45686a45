-- The tree that each node of a table stands for, and its lengths, horizon and lookback.
use Rattle.std.specs.Prelude.{ℕ, ◌-◌, max, false, List, [], ◌∷◌, ◌++◌, map, slice_index_or}
use Rattle.sva.specs.Formula.{Boolean, Sequence, Property}
use Rattle.sva.specs.Lengths.{lo, hi, horizon, boolean_lookback, sequence_lookback, lookback}
use Rattle.nodes.specs.declared.node.Node.{Node}
use Rattle.nodes.specs.declared.node.BooleanNode.{BooleanNode}
use Rattle.nodes.specs.declared.node.SequenceNode.{SequenceNode}
use Rattle.nodes.specs.declared.node.PropertyNode.{PropertyNode}
use Rattle.nodes.specs.declared.node.Class.{Class}
use Rattle.nodes.specs.declared.node.Facts.{Facts}

-- a tree of one of the three classes; `absent` is what an operand has that is the number of no node
pub data Tree : Type 0 where
  absent : Tree
  boolean : Boolean → Tree
  sequence : Sequence → Tree
  property : Property → Tree

-- what a tree gives where it cannot stand: no checked table has such a place
abbrev pub no_boolean : Boolean
no_boolean = Boolean.constant false

abbrev pub no_sequence : Sequence
no_sequence = Sequence.repeat 0 0 (Sequence.boolean no_boolean)

abbrev pub as_boolean : Tree → Boolean
as_boolean Tree.absent = no_boolean
as_boolean (Tree.boolean x) = x
as_boolean (Tree.sequence a) = no_boolean
as_boolean (Tree.property p) = no_boolean

-- a Boolean may stand for a sequence
abbrev pub as_sequence : Tree → Sequence
as_sequence Tree.absent = no_sequence
as_sequence (Tree.boolean x) = Sequence.boolean x
as_sequence (Tree.sequence a) = a
as_sequence (Tree.property p) = no_sequence

-- and a sequence for a property
abbrev pub as_property : Tree → Property
as_property Tree.absent = Property.sequence no_sequence
as_property (Tree.boolean x) = Property.sequence (Sequence.boolean x)
as_property (Tree.sequence a) = Property.sequence a
as_property (Tree.property p) = p

-- the tree of a node, from the trees of its operands
abbrev pub build_boolean : (ℕ → Tree) → BooleanNode → Boolean
build_boolean t (BooleanNode.Constant v) = Boolean.constant v
build_boolean t (BooleanNode.Signal m) = Boolean.signal m
build_boolean t (BooleanNode.Not a) = Boolean.not (as_boolean (t a))
build_boolean t (BooleanNode.And a b) = Boolean.and (as_boolean (t a)) (as_boolean (t b))
build_boolean t (BooleanNode.Or a b) = Boolean.or (as_boolean (t a)) (as_boolean (t b))
build_boolean t (BooleanNode.Past a m) = Boolean.past m (as_boolean (t a))

abbrev pub build_sequence : (ℕ → Tree) → SequenceNode → Sequence
build_sequence t (SequenceNode.Delay a b m n) = Sequence.delay m n (as_sequence (t a)) (as_sequence (t b))
build_sequence t (SequenceNode.Fusion a b) = Sequence.fusion (as_sequence (t a)) (as_sequence (t b))
build_sequence t (SequenceNode.Repeat a m n) = Sequence.repeat m n (as_sequence (t a))
build_sequence t (SequenceNode.Or a b) = Sequence.or (as_sequence (t a)) (as_sequence (t b))
build_sequence t (SequenceNode.Intersect a b) = Sequence.intersect (as_sequence (t a)) (as_sequence (t b))
build_sequence t (SequenceNode.And a b) = Sequence.and (as_sequence (t a)) (as_sequence (t b))
build_sequence t (SequenceNode.Throughout a b) = Sequence.throughout (as_boolean (t a)) (as_sequence (t b))
build_sequence t (SequenceNode.Within a b) = Sequence.within (as_sequence (t a)) (as_sequence (t b))
build_sequence t (SequenceNode.FirstMatch a) = Sequence.first_match (as_sequence (t a))

abbrev pub build_property : (ℕ → Tree) → PropertyNode → Property
build_property t (PropertyNode.Not a) = Property.not (as_property (t a))
build_property t (PropertyNode.Or a b) = Property.or (as_property (t a)) (as_property (t b))
build_property t (PropertyNode.And a b) = Property.and (as_property (t a)) (as_property (t b))
build_property t (PropertyNode.Implies a b) = Property.implies (as_sequence (t a)) (as_property (t b))
build_property t (PropertyNode.ImpliesNext a b) = Property.implies_next (as_sequence (t a)) (as_property (t b))
build_property t (PropertyNode.Nexttime a m) = Property.nexttime m (as_property (t a))
build_property t (PropertyNode.Always a m n) = Property.always m n (as_property (t a))
build_property t (PropertyNode.Eventually a m n) = Property.eventually m n (as_property (t a))

abbrev pub build : (ℕ → Tree) → Node → Tree
build t (Node.Boolean n) = Tree.boolean (build_boolean t n)
build t (Node.Sequence n) = Tree.sequence (build_sequence t n)
build t (Node.Property n) = Tree.property (build_property t n)

abbrev pub tree_in : List Tree → ℕ → Tree
tree_in ts a = slice_index_or ts a Tree.absent

-- the trees ts, and those of nodes that follow
unfoldable pub trees_from : List Tree → List Node → List Tree
trees_from ts [] = ts
trees_from ts (n ∷ ns) = trees_from (ts ++ build (tree_in ts) n ∷ []) ns

-- the trees of a table's nodes
abbrev pub trees : List Node → List Tree
trees ns = trees_from [] ns

abbrev pub tree_of : List Node → ℕ → Tree
tree_of ns i = tree_in (trees ns) i

-- what is known of a tree: its class, its lengths (0 for a property), its horizon and its lookback
abbrev pub boolean_facts : ℕ → Facts
boolean_facts l = record { class = Class.Boolean; lo = 1; hi = 1; horizon = 0; lookback = l }

abbrev pub sequence_facts : ℕ → ℕ → ℕ → Facts
sequence_facts s h l = record { class = Class.Sequence; lo = s; hi = h; horizon = h - 1; lookback = l }

abbrev pub property_facts : ℕ → ℕ → Facts
property_facts h l = record { class = Class.Property; lo = 0; hi = 0; horizon = h; lookback = l }

abbrev pub no_facts : Facts
no_facts = record { class = Class.Boolean; lo = 0; hi = 0; horizon = 0; lookback = 0 }

abbrev pub facts_of : Tree → Facts
facts_of Tree.absent = no_facts
facts_of (Tree.boolean x) = boolean_facts (boolean_lookback x)
facts_of (Tree.sequence a) = sequence_facts (lo a) (hi a) (sequence_lookback a)
facts_of (Tree.property p) = property_facts (horizon p) (lookback p)

-- what is known of each node of a table
abbrev pub all_facts : List Node → List Facts
all_facts ns = map facts_of (trees ns)

-- the largest lookback
abbrev pub largest_lookback : List Facts → ℕ
largest_lookback [] = 0
largest_lookback (f ∷ fs) = max f.lookback (largest_lookback fs)
