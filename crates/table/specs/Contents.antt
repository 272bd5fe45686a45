-- What a table's bytes spell.
use Rattle.std.specs.Prelude.{ℕ, zero, suc, ◌-◌, Bool, ◌&&◌, List, [], ◌∷◌, length, Ok, Err, Result, ◌==◌}
use Rattle.sva.specs.Formula.{Property}
use Rattle.fault.specs.Refusals.{refuse}
use Rattle.fault.specs.First.{Rule, rule, first, unless}
use Rattle.fault.specs.declared.Layer.TheVariants.{Table}
use Rattle.fault.specs.declared.Refusal.{Refusal}
use Rattle.nodes.specs.declared.node.Node.{Node}
use Rattle.nodes.specs.declared.node.Class.{Class}
use Rattle.nodes.specs.Format.{node_from}
use Rattle.nodes.specs.Rules.{sequence_for_property}
use Rattle.nodes.specs.Trees.{tree_of, facts_of, as_property}
use Rattle.nodes.specs.Lists.{pushed}
use Rattle.table.specs.declared.format.Header.{Header}
use Rattle.table.specs.Format.{header_from, node_bytes}

pub record Contents : Type 0 where
  pub signals : ℕ
  pub ceiling : ℕ
  pub nodes : List Node

-- the property is the last node
abbrev pub last : List Node → ℕ
last ns = length ns - 1

abbrev pub property : List Node → Property
property ns = as_property (tree_of ns (last ns))

-- the last node is a sequence with lo 0
abbrev pub last_empty : List Node → Bool
last_empty ns = sequence_for_property (facts_of (tree_of ns (last ns))).class Class.Property && (facts_of (tree_of ns (last ns))).lo == 0

-- the nodes, with one more that may be refused before it is looked at
abbrev pub with_node : (signals : ℕ) → List Node → Result Node Refusal → Result (List Node) Refusal
with_node s ns (Err r) = Err r
with_node s ns (Ok n) = pushed s ns n

abbrev pub next : List ℕ → (signals i : ℕ) → Result (List Node) Refusal → Result (List Node) Refusal
next bs s i (Err r) = Err r
next bs s i (Ok ns) = with_node s ns (node_from i (node_bytes bs i))

-- the first k nodes, or the first refusal that applies to one of them
unfoldable pub nodes_upto : List ℕ → (signals k : ℕ) → Result (List Node) Refusal
nodes_upto bs s zero = Ok []
nodes_upto bs s (suc k) = next bs s k (nodes_upto bs s k)

-- once all nodes are read, the last one stands for a property
abbrev pub last_rules : List Node → List Rule
last_rules ns = rule (last_empty ns) (refuse Table 8 (last ns)) ∷ []

abbrev pub as_contents : Header → Result (List Node) Refusal → Result Contents Refusal
as_contents h (Err r) = Err r
as_contents h (Ok ns) =
    unless (first (last_rules ns)) (record { signals = h.signals; ceiling = h.ceiling; nodes = ns })

abbrev pub after_header : List ℕ → Result Header Refusal → Result Contents Refusal
after_header bs (Err r) = Err r
after_header bs (Ok h) = as_contents h (nodes_upto bs h.signals h.count)

-- the table that bytes spell, or the first refusal that applies
abbrev pub spelled : List ℕ → Result Contents Refusal
spelled bs = after_header bs (header_from bs)
