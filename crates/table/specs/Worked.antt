-- The worked examples, with the table of one: as `intersect` in place of `and` it is none.
use Rattle.std.specs.Prelude.{◌≡◌, ℕ, List, [], ◌∷◌, ◌++◌, Ok, Err}
use Rattle.sva.specs.Examples.{Examples}
use Rattle.sva.specs.Formula.{Boolean, Sequence, Property}
use Rattle.fault.specs.Refusals.{refuse}
use Rattle.fault.specs.declared.Layer.TheVariants.{Table}
use Rattle.nodes.specs.declared.node.Node.{Node}
use Rattle.nodes.specs.declared.node.BooleanNode.{BooleanNode}
use Rattle.nodes.specs.declared.node.SequenceNode.{SequenceNode}
use Rattle.table.specs.Contents.{property, spelled}

-- six nodes over three signals, with a ceiling of 100 rows
abbrev header_bytes : List ℕ
header_bytes = 6 ∷ 3 ∷ 0 ∷ 0 ∷ 0 ∷ 0 ∷ 0 ∷ 0 ∷ 100 ∷ 0 ∷ 0 ∷ 0 ∷ 0 ∷ 0 ∷ 0 ∷ 0 ∷ []

abbrev word : (kind a b m n : ℕ) → List ℕ
word kind a b m n = kind ∷ a ∷ b ∷ 0 ∷ m ∷ n ∷ 0 ∷ 0 ∷ []

-- signals a, b and c, then a ##1 b and a ##2 c, joined by an operator of this kind
abbrev joined_by : ℕ → List ℕ
joined_by kind = header_bytes ++ word 2 0 0 0 0 ++ word 2 0 0 1 0 ++ word 2 0 0 2 0 ++ word 16 0 1 1 1 ++ word 16 0 2 2 2 ++ word kind 3 4 0 0

abbrev joined_nodes : List Node
joined_nodes =
    Node.Boolean (BooleanNode.Signal 0)
    ∷ Node.Boolean (BooleanNode.Signal 1)
    ∷ Node.Boolean (BooleanNode.Signal 2)
    ∷ Node.Sequence (SequenceNode.Delay 0 1 1 1)
    ∷ Node.Sequence (SequenceNode.Delay 0 2 2 2)
    ∷ Node.Sequence (SequenceNode.And 3 4)
    ∷ []

abbrev signal : ℕ → Sequence
signal k = Sequence.boolean (Boolean.signal k)

pub record Worked : Type 0 where
  -- what the meaning gives on rows
  pub verdicts : Examples
  -- (a ##1 b) and (a ##2 c), kind 21, is a table, and spells that property
  pub accepted : spelled (joined_by 21) ≡ Ok (record { signals = 3; ceiling = 100; nodes = joined_nodes })
  pub spells :
      property joined_nodes
      ≡ Property.sequence (Sequence.and (Sequence.delay 1 1 (signal 0) (signal 1)) (Sequence.delay 2 2 (signal 0) (signal 2)))
  -- with intersect, kind 20, it is refused 7 at that node: no length suits both
  pub refused : spelled (joined_by 20) ≡ Err (refuse Table 7 5)
