use Rattle.std.proofs.Common.{ℕ, ◌-◌, Ok, Err, sym, ap, ◌∙◌, arith}
use Rattle.fault.specs.Refusals.{refuse}
use Rattle.fault.specs.declared.Layer.TheVariants.{Table}
use Rattle.nodes.specs.Lists.{node_list}
use Rattle.table.proofs.Headed.{headed, spelled_empty, spelled_whole}
use Rattle.table.proofs.Reading.{upto_length}
use Rattle.table.proofs.check.read.Goals as goal

pub returns-then-last_is_empty : goal.returns-then-last_is_empty
returns-then-last_is_empty c =
    let bs = c.args.bytes.now in
    let h = c.in_ok-header.header in
    let ns = node_list c.in_ok-nodes.nodes in
    let u = c.in_ok-nodes.ensures.0 in
    let e = spelled_empty bs h ns (sym c.in_ok-header.ensures) u (sym c.if-last_is_empty.ensures) in
    e ∙ ap (λ (k : ℕ). Err (refuse Table 8 (k - 1))) (upto_length bs h.signals h.count ns u)

pub invariant_of-result : goal.invariant_of-result
invariant_of-result c =
    let bs = c.args.bytes.now in
    let h = c.in_ok-header.header in
    let t = c.in_ok-nodes.nodes in
    let e = c.in_ok-nodes.ensures in
    let g = headed bs h (sym c.in_ok-header.ensures) in
    let l = upto_length bs h.signals h.count (node_list t) e.0 in
    let k = t.listed in
    let s = e.1 in
    let a = g.some in
    let b = g.least_signals in
    let d = g.most_signals in
    record {
      some = omega arith;
      least_signals = omega arith;
      most_signals = omega arith;
      least_rows = g.least_rows;
      most_rows = g.most_rows;
      filled = sym c.if-last_is_empty.ensures;
    }

pub returns : goal.returns
returns c =
    let bs = c.args.bytes.now in
    let h = c.in_ok-header.header in
    let t = c.in_ok-nodes.nodes in
    let e = c.in_ok-nodes.ensures in
    spelled_whole bs h (node_list t) (sym c.in_ok-header.ensures) e.0 (sym c.if-last_is_empty.ensures)
    ∙ ap (λ (s : ℕ). Ok (record { signals = s; ceiling = h.ceiling; nodes = node_list t })) (sym e.1)
