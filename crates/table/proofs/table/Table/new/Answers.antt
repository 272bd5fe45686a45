use Rattle.std.proofs.Common.{length, ap, arith}
use Rattle.nodes.specs.Trees.{trees_from}
use Rattle.table.specs.Contents.{last_empty}
use Rattle.table.proofs.Single.{first_node}
use Rattle.table.proofs.table.Table.new.Goals as goal

pub invariant_of-result : goal.invariant_of-result
unfolding trees_from
invariant_of-result c =
    let t = c.push.new.self in
    let e = c.new-nodes.ensures in
    let p = first_node c.new-nodes.result t c.push.result e.nodes e.signals c.push.ensures in
    let l = t.listed in
    let k = ap length p.0 in
    let s = p.1 in
    record {
      some = omega arith;
      least_signals = omega arith;
      most_signals = omega arith;
      least_rows = omega arith;
      most_rows = omega arith;
      filled = ap last_empty p.0;
    }
