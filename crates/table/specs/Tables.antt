-- What the calls on a table do.
use Rattle.std.specs.Prelude.{◌≡◌, ℕ, List, [], ◌∷◌, Ok, Err, Result}
use Rattle.sva.specs.Formula.{Property}
use Rattle.sva.specs.Lengths.{horizon}
use Rattle.fault.specs.Refusals.{table_refusal}
use Rattle.fault.specs.declared.TableFault.{TableFault}
use Rattle.nodes.specs.declared.list.Nodes.{Nodes}
use Rattle.nodes.specs.Rules.{nothing}
use Rattle.nodes.specs.Lists.{node_list}
use Rattle.nodes.specs.Trees.{all_facts, largest_lookback}
use Rattle.table.specs.declared.format.Header.{Header}
use Rattle.table.specs.declared.table.Table.{Table}
use Rattle.table.specs.Contents.{Contents, property, nodes_upto, spelled}

abbrev pub contents : Table → Contents
contents t = record { signals = t.nodes.signals; ceiling = t.ceiling; nodes = node_list t.nodes }

-- the table of one node, the constant 0
abbrev pub fresh : Contents
fresh = record { signals = 1; ceiling = 1; nodes = nothing ∷ [] }

-- the property that a table spells
abbrev pub property_of : Table → Property
property_of t = property (node_list t.nodes)

abbrev pub horizon_of : Table → ℕ
horizon_of t = horizon (property_of t)

-- the lookback of a table is the largest of all its nodes', used or not
abbrev pub lookback_of : Table → ℕ
lookback_of t = largest_lookback (all_facts (node_list t.nodes))

-- the nodes that were read from the bytes, or the refusal
abbrev pub Reads : List ℕ → Header → Result Nodes TableFault → Type 0
Reads bs h (Ok t) = (nodes_upto bs h.signals h.count ≡ Ok (node_list t)) × (t.signals ≡ h.signals)
Reads bs h (Err f) = nodes_upto bs h.signals h.count ≡ Err (table_refusal f)

-- a table that was read from the bytes, or the refusal
abbrev pub Spells : List ℕ → Result Table TableFault → Type 0
Spells bs (Ok t) = spelled bs ≡ Ok (contents t)
Spells bs (Err f) = spelled bs ≡ Err (table_refusal f)

-- what a check does: the place holds the table that the bytes spell, or is as it was, with the refusal
abbrev pub Fills : List ℕ → Table → Table → Result (Unit {0}) TableFault → Type 0
Fills bs old new (Ok _) = spelled bs ≡ Ok (contents new)
Fills bs old new (Err f) = (spelled bs ≡ Err (table_refusal f)) × (new ≡ old)
