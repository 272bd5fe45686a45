-- What the calls on a list of nodes do.
use Rattle.std.specs.Prelude.{◌≡◌, ℕ, ◌<◌, cond, List, [], ◌∷◌, ◌++◌, length, Some, None, Ok, Err, Option, Result, nat_le, nat_lt, slice_index_or}
use Rattle.fault.specs.Refusals.{refuse, table_refusal}
use Rattle.fault.specs.First.{Rule, rule, first, unless}
use Rattle.fault.specs.declared.Layer.TheVariants.{Table}
use Rattle.fault.specs.declared.Refusal.{Refusal}
use Rattle.fault.specs.declared.TableFault.{TableFault}
use Rattle.nodes.specs.declared.node.Node.{Node}
use Rattle.nodes.specs.declared.node.Facts.{Facts}
use Rattle.nodes.specs.declared.list.Nodes.{Nodes}
use Rattle.nodes.specs.Entries.{nodes_in}
use Rattle.nodes.specs.Rules.{nothing, rules_after}
use Rattle.nodes.specs.Trees.{tree_of, build, facts_of}

-- the nodes that a list holds
abbrev pub node_list : Nodes → List Node
node_list t = nodes_in t.count t.entries

-- what is known of node a; `no_facts` of a node that is not there
abbrev pub known_of : Nodes → ℕ → Facts
known_of t a = facts_of (tree_of (node_list t) a)

-- a list has room for 32 nodes, and each keeps the rules after those before it
abbrev pub push_rules : (signals : ℕ) → List Node → Node → List Rule
push_rules s ns n = rule (nat_le 32 (length ns)) (refuse Table 1 0) ∷ rules_after s ns n

-- the nodes with one more behind them, or the first refusal that applies
abbrev pub pushed : (signals : ℕ) → List Node → Node → Result (List Node) Refusal
pushed s ns n = unless (first (push_rules s ns n)) (ns ++ n ∷ [])

-- what a push does: the list has the node behind its others, or is as it was, with the refusal
abbrev pub Pushes : Nodes → Nodes → Node → Result (Unit {0}) TableFault → Type 0
Pushes old new n (Ok _) = (pushed old.signals (node_list old) n ≡ Ok (node_list new)) × (new.signals ≡ old.signals)
Pushes old new n (Err f) = (pushed old.signals (node_list old) n ≡ Err (table_refusal f)) × (new ≡ old)

-- node i, if there is one
abbrev pub node_at : List Node → ℕ → Option Node
node_at ns i = cond (nat_lt i (length ns)) (Some (slice_index_or ns i nothing)) None

-- what is known of node i, if there is one
abbrev pub facts_at : List Node → ℕ → Option Facts
facts_at ns i = cond (nat_lt i (length ns)) (Some (facts_of (tree_of ns i))) None

-- a node's tree is built from those of its operands
abbrev pub Built : List Node → ℕ → Type 0
Built ns i = i < length ns → tree_of ns i ≡ build (tree_of ns) (slice_index_or ns i nothing)
