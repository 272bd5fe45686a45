-- A table's span covers what its property depends on.
use Rattle.std.proofs.Common.{◌≡◌, ℕ, zero, suc, ◌≤◌, List, [], ◌∷◌, ap, arith}
use Rattle.sva.specs.Lengths.{lookback}
use Rattle.sva.proofs.Depends.{spans}
use Rattle.nodes.specs.declared.node.Node.{Node}
use Rattle.nodes.specs.declared.node.Facts.{Facts}
use Rattle.nodes.specs.Steps.{known}
use Rattle.nodes.specs.Trees.{tree_of, facts_of, all_facts, largest_lookback}
use Rattle.nodes.proofs.Growth.{known_all}
use Rattle.nodes.proofs.Measured.{property_same}
use Rattle.table.specs.declared.table.Table.{Table}
use Rattle.table.specs.Contents.{last, property}
use Rattle.table.specs.Spans.{SpanSuffices}
use Rattle.table.specs.Tables.{property_of, horizon_of, lookback_of}

-- no node looks further back than the largest lookback
not_further : (fs : List Facts) (i : ℕ) → (known fs i).lookback ≤ largest_lookback fs
not_further [] i = omega arith
not_further (f ∷ fs) zero = omega arith
not_further (f ∷ fs) (suc i) = let h = not_further fs i in omega arith

property_back : (ns : List Node) → lookback (property ns) ≤ largest_lookback (all_facts ns)
property_back ns =
    let h = not_further (all_facts ns) (last ns) in
    let k : known (all_facts ns) (last ns) ≡ facts_of (tree_of ns (last ns)) = ap (λ (f : ℕ → Facts). f (last ns)) (known_all ns) in
    let e : (known (all_facts ns) (last ns)).lookback ≡ (facts_of (tree_of ns (last ns))).lookback = ap (λ (f : Facts). f.lookback) k in
    let b = (property_same (tree_of ns (last ns))).back in
    omega arith

pub suffices : (t : Table) (s : ℕ) → SpanSuffices t s
suffices t s = spans (horizon_of t) (lookback_of t) (property_of t) (omega arith) (property_back _) s
