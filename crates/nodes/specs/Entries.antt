-- What stands in the places of a list of nodes.
use Rattle.std.specs.Prelude.{ℕ, List, map, take}
use Rattle.nodes.specs.declared.node.Node.{Node}
use Rattle.nodes.specs.declared.node.Facts.{Facts}
use Rattle.nodes.specs.declared.list.Entry.{Entry}

-- the nodes of the first so many entries
abbrev pub nodes_in : (count : ℕ) → List Entry → List Node
nodes_in n es = map (λ e. e.node) (take n es)

-- and what is known of them
abbrev pub facts_in : (count : ℕ) → List Entry → List Facts
facts_in n es = map (λ e. e.facts) (take n es)
