-- What inner functions promise, and what their proofs speak of. No public promise rests on these: they
-- are tied to the trees there.
use Rattle.std.specs.Prelude.{ℕ, ◌+◌, ◌-◌, ◌*◌, ◌<◌, ◌≤◌, min, max, List, length, slice_index_or}
use Rattle.nodes.specs.declared.node.Node.{Node}
use Rattle.nodes.specs.declared.node.BooleanNode.{BooleanNode}
use Rattle.nodes.specs.declared.node.SequenceNode.{SequenceNode}
use Rattle.nodes.specs.declared.node.PropertyNode.{PropertyNode}
use Rattle.nodes.specs.declared.node.Facts.{Facts}
use Rattle.nodes.specs.Trees.{boolean_facts, sequence_facts, property_facts, no_facts}

-- what stands in a list of facts
abbrev pub known : List Facts → ℕ → Facts
known fs a = slice_index_or fs a no_facts

-- the larger lookback of two nodes
abbrev pub back : (ℕ → Facts) → ℕ → ℕ → ℕ
back at a b = max (at a).lookback (at b).lookback

-- what is known of a node, from what is known of its operands
abbrev pub boolean_step : (ℕ → Facts) → BooleanNode → ℕ
boolean_step at (BooleanNode.Constant v) = 0
boolean_step at (BooleanNode.Signal m) = 0
boolean_step at (BooleanNode.Not a) = (at a).lookback
boolean_step at (BooleanNode.And a b) = back at a b
boolean_step at (BooleanNode.Or a b) = back at a b
boolean_step at (BooleanNode.Past a m) = (at a).lookback + m

abbrev pub sequence_step : (ℕ → Facts) → SequenceNode → Facts
sequence_step at (SequenceNode.Delay a b m n) = sequence_facts ((at a).lo + (at b).lo + (m - 1)) ((at a).hi + (at b).hi + (n - 1)) (back at a b)
sequence_step at (SequenceNode.Fusion a b) = sequence_facts (max (at a).lo 1 + max (at b).lo 1 - 1) ((at a).hi + (at b).hi - 1) (back at a b)
sequence_step at (SequenceNode.Repeat a m n) = sequence_facts (m * (at a).lo) (n * (at a).hi) (at a).lookback
sequence_step at (SequenceNode.Or a b) = sequence_facts (min (at a).lo (at b).lo) (max (at a).hi (at b).hi) (back at a b)
sequence_step at (SequenceNode.Intersect a b) = sequence_facts (max (at a).lo (at b).lo) (min (at a).hi (at b).hi) (back at a b)
sequence_step at (SequenceNode.And a b) = sequence_facts (max (at a).lo (at b).lo) (max (at a).hi (at b).hi) (back at a b)
sequence_step at (SequenceNode.Throughout a b) = sequence_facts (at b).lo (at b).hi (back at a b)
sequence_step at (SequenceNode.Within a b) = sequence_facts (max (at a).lo (at b).lo) (at b).hi (back at a b)
sequence_step at (SequenceNode.FirstMatch a) = sequence_facts (at a).lo (at a).hi (at a).lookback

abbrev pub property_step : (ℕ → Facts) → PropertyNode → Facts
property_step at (PropertyNode.Not a) = property_facts (at a).horizon (at a).lookback
property_step at (PropertyNode.Or a b) = property_facts (max (at a).horizon (at b).horizon) (back at a b)
property_step at (PropertyNode.And a b) = property_facts (max (at a).horizon (at b).horizon) (back at a b)
property_step at (PropertyNode.Implies a b) = property_facts ((at a).hi - 1 + (at b).horizon) (back at a b)
property_step at (PropertyNode.ImpliesNext a b) = property_facts ((at a).hi + (at b).horizon) (back at a b)
property_step at (PropertyNode.Nexttime a m) = property_facts (m + (at a).horizon) (at a).lookback
property_step at (PropertyNode.Always a m n) = property_facts (n + (at a).horizon) (at a).lookback
property_step at (PropertyNode.Eventually a m n) = property_facts (n + (at a).horizon) (at a).lookback

abbrev pub facts_step : (ℕ → Facts) → Node → Facts
facts_step at (Node.Boolean n) = boolean_facts (boolean_step at n)
facts_step at (Node.Sequence n) = sequence_step at n
facts_step at (Node.Property n) = property_step at n

-- what is known of a node keeps the limits
pub record Short (f : Facts) : Type 0 where
  pub ordered : f.lo ≤ f.hi
  pub short : f.hi ≤ 32
  pub back : f.lookback ≤ 32
  pub ahead : f.horizon ≤ 31

abbrev pub AllShort : List Facts → Type 0
AllShort fs = (k : ℕ) → k < length fs → Short (known fs k)
