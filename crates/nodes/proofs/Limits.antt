-- What is known of a node that no refusal applies to.
use Rattle.std.proofs.Common.{◌≡◌, ℕ, ◌≤◌, Bool, true, false, ◌&&◌, ◌||◌, eqb, ltb, leb, List, length, mul-le-mul, arith}
use Rattle.std.proofs.lemmas.Bool.{and_parts, or_parts, eqb-false, ltb-true, ltb-false, leb-true, not-false}
use Rattle.fault.specs.First.{allows}
use Rattle.fault.proofs.First.{allows_parts}
use Rattle.nodes.specs.declared.node.Node.{Node}
use Rattle.nodes.specs.declared.node.SequenceNode.{SequenceNode}
use Rattle.nodes.specs.declared.node.PropertyNode.{PropertyNode}
use Rattle.nodes.specs.declared.node.Facts.{Facts}
use Rattle.nodes.specs.Rules.{earlier, classed, ranged, crossed, empty, over_limit, sequence_operands, sequence_ranged, sequence_crossed, operands, node_rules}
use Rattle.nodes.specs.Steps.{known, sequence_step, property_step, facts_step, Short, AllShort}

pub record Allowed (s : ℕ) (at : ℕ → Facts) (f : Facts) (i : ℕ) (n : Node) : Type 0 where
  pub earlier : earlier i (operands n) ≡ true
  pub classed : classed at (operands n) ≡ true
  pub ranged : ranged s n ≡ true
  pub matched : crossed at n ≡ false
  pub filled : empty at (operands n) ≡ false
  pub limited : over_limit f ≡ false

pub allowed : (s : ℕ) (at : ℕ → Facts) (f : Facts) (i : ℕ) (n : Node) → allows (node_rules s at f i n) ≡ true → Allowed s at f i n
allowed s at f i n e =
    let p = allows_parts _ _ e in
    let q = allows_parts _ _ p.1 in
    let r = allows_parts _ _ q.1 in
    let u = allows_parts _ _ r.1 in
    let v = allows_parts _ _ u.1 in
    let w = allows_parts _ _ v.1 in
    record {
      earlier = not-false _ p.0;
      classed = not-false _ q.0;
      ranged = not-false _ r.0;
      matched = u.0;
      filled = v.0;
      limited = w.0;
    }

module _ (fs : List Facts) (short : AllShort fs) where
  -- the first operand, and the second
  first_of : (a : ℕ) (b : Bool) → (ltb a (length fs) && b) ≡ true → Short (known fs a)
  first_of a b h = short a (ltb-true a (length fs) (and_parts (ltb a (length fs)) b h).0)

  second_of : (a : Bool) (b : ℕ) → (a && ltb b (length fs)) ≡ true → Short (known fs b)
  second_of a b h = short b (ltb-true b (length fs) (and_parts a (ltb b (length fs)) h).1)

  -- no sequence is shortest above its longest
  sequence_ordered : (n : SequenceNode) → earlier (length fs) (sequence_operands n) ≡ true → sequence_ranged n ≡ true → sequence_crossed (known fs) n ≡ false
      → (sequence_step (known fs) n).lo ≤ (sequence_step (known fs) n).hi
  sequence_ordered (SequenceNode.Delay a b m n) e r c =
      let x = first_of a (ltb b (length fs)) e in
      let y = second_of (ltb a (length fs)) b e in
      let p = and_parts (leb 1 m && leb m n) (leb n 31) r in
      let q = leb-true m n (and_parts (leb 1 m) (leb m n) p.0).1 in
      omega arith
  sequence_ordered (SequenceNode.Fusion a b) e r c =
      let x = first_of a (ltb b (length fs)) e in
      let y = second_of (ltb a (length fs)) b e in
      let p = or_parts (eqb (known fs a).hi 0) (eqb (known fs b).hi 0) c in
      let u = eqb-false (known fs a).hi 0 p.0 in
      let v = eqb-false (known fs b).hi 0 p.1 in
      omega arith
  sequence_ordered (SequenceNode.Repeat a m n) e r c =
      let x = first_of a true e in
      let q = leb-true m n (and_parts (leb m n) (leb n 31) r).0 in
      mul-le-mul q x.ordered
  sequence_ordered (SequenceNode.Or a b) e r c =
      let x = first_of a (ltb b (length fs)) e in
      omega arith
  sequence_ordered (SequenceNode.Intersect a b) e r c = ltb-false _ _ c
  sequence_ordered (SequenceNode.And a b) e r c =
      let x = first_of a (ltb b (length fs)) e in
      let y = second_of (ltb a (length fs)) b e in
      omega arith
  sequence_ordered (SequenceNode.Throughout a b) e r c = (second_of (ltb a (length fs)) b e).ordered
  sequence_ordered (SequenceNode.Within a b) e r c =
      let y = second_of (ltb a (length fs)) b e in
      let p = ltb-false (known fs b).hi (known fs a).lo c in
      omega arith
  sequence_ordered (SequenceNode.FirstMatch a) e r c = (first_of a true e).ordered

  property_ordered : (n : PropertyNode) → (property_step (known fs) n).lo ≤ (property_step (known fs) n).hi
  property_ordered (PropertyNode.Not a) = omega arith
  property_ordered (PropertyNode.Or a b) = omega arith
  property_ordered (PropertyNode.And a b) = omega arith
  property_ordered (PropertyNode.Implies a b) = omega arith
  property_ordered (PropertyNode.ImpliesNext a b) = omega arith
  property_ordered (PropertyNode.Nexttime a m) = omega arith
  property_ordered (PropertyNode.Always a m n) = omega arith
  property_ordered (PropertyNode.Eventually a m n) = omega arith

  -- no node is
  ordered : (s : ℕ) (n : Node) → earlier (length fs) (operands n) ≡ true → ranged s n ≡ true → crossed (known fs) n ≡ false
      → (facts_step (known fs) n).lo ≤ (facts_step (known fs) n).hi
  ordered s (Node.Boolean n) e r c = omega arith
  ordered s (Node.Sequence n) e r c = sequence_ordered n e r c
  ordered s (Node.Property n) e r c = property_ordered n

  pub step_short : (s : ℕ) (n : Node) → Allowed s (known fs) (facts_step (known fs) n) (length fs) n → Short (facts_step (known fs) n)
  step_short s n a =
      let f = facts_step (known fs) n in
      let p = or_parts (ltb 32 f.hi || ltb 32 f.lookback) (ltb 31 f.horizon) a.limited in
      let q = or_parts (ltb 32 f.hi) (ltb 32 f.lookback) p.0 in
      record {
        ordered = ordered s n a.earlier a.ranged a.matched;
        short = ltb-false _ _ q.0;
        back = ltb-false _ _ q.1;
        ahead = ltb-false _ _ p.1;
      }
