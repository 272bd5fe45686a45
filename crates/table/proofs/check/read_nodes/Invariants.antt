use Rattle.std.proofs.Common.{◌≡◌, Ok}
use Rattle.nodes.specs.Lists.{node_list}
use Rattle.table.specs.Contents.{nodes_upto}
use Rattle.table.proofs.check.read_nodes.Given as goal

abbrev pub invariant-loop-i : goal.invariant-loop-i
invariant-loop-i l =
    (nodes_upto l.bytes l.initial.nodes.signals l.i ≡ Ok (node_list l.nodes))
    × (l.nodes.signals ≡ l.initial.nodes.signals)
