-- What is known of a node, step by step, is what is known of its tree.
use Rattle.std.proofs.Common.{◌≡◌, ℕ, Bool, true, false, not, [], ◌∷◌, Result, sym, refl, ap, ◌∙◌}
use Rattle.std.proofs.lemmas.Bool.{and_parts, false≢true}
use Rattle.sva.specs.Lengths.{lo, hi, horizon, boolean_lookback, sequence_lookback, lookback}
use Rattle.fault.specs.First.{rule, first, unless}
use Rattle.fault.specs.Refusals.{refuse}
use Rattle.fault.specs.declared.Layer.TheVariants.{Table}
use Rattle.fault.specs.declared.Refusal.{Refusal}
use Rattle.nodes.specs.declared.node.Node.{Node}
use Rattle.nodes.specs.declared.node.BooleanNode.{BooleanNode}
use Rattle.nodes.specs.declared.node.SequenceNode.{SequenceNode}
use Rattle.nodes.specs.declared.node.PropertyNode.{PropertyNode}
use Rattle.nodes.specs.declared.node.Class.{Class}
use Rattle.nodes.specs.declared.node.Facts.{Facts}
use Rattle.nodes.specs.Trees.{Tree, as_boolean, as_sequence, as_property, build, build_boolean, build_sequence, build_property, facts_of, boolean_facts}
use Rattle.nodes.specs.Rules.{stands_for, earlier, classed, ranged, crossed, empty, over_limit, boolean_operands, sequence_operands, property_operands, operands, node_rules}
use Rattle.nodes.specs.Steps.{boolean_step, sequence_step, property_step, facts_step}

boolean_same : (t : Tree) → stands_for (facts_of t).class Class.Boolean ≡ true → boolean_lookback (as_boolean t) ≡ (facts_of t).lookback
boolean_same Tree.absent h = refl
boolean_same (Tree.boolean x) h = refl
boolean_same (Tree.sequence a) h = absurd (false≢true h)
boolean_same (Tree.property p) h = absurd (false≢true h)

record AsSequence (t : Tree) : Type 0 where
  least : lo (as_sequence t) ≡ (facts_of t).lo
  most : hi (as_sequence t) ≡ (facts_of t).hi
  back : sequence_lookback (as_sequence t) ≡ (facts_of t).lookback

sequence_same : (t : Tree) → stands_for (facts_of t).class Class.Sequence ≡ true → AsSequence t
sequence_same Tree.absent h = record { least = refl; most = refl; back = refl }
sequence_same (Tree.boolean x) h = record { least = refl; most = refl; back = refl }
sequence_same (Tree.sequence a) h = record { least = refl; most = refl; back = refl }
sequence_same (Tree.property p) h = absurd (false≢true h)

pub record AsProperty (t : Tree) : Type 0 where
  pub ahead : horizon (as_property t) ≡ (facts_of t).horizon
  pub back : lookback (as_property t) ≡ (facts_of t).lookback

pub property_same : (t : Tree) → AsProperty t
property_same Tree.absent = record { ahead = refl; back = refl }
property_same (Tree.boolean x) = record { ahead = refl; back = refl }
property_same (Tree.sequence a) = record { ahead = refl; back = refl }
property_same (Tree.property p) = record { ahead = refl; back = refl }

module _ (t : ℕ → Tree) where
  boolean_built : (n : BooleanNode) → classed (λ a. facts_of (t a)) (boolean_operands n) ≡ true → boolean_step (λ a. facts_of (t a)) n ≡ boolean_lookback (build_boolean t n)
  boolean_built (BooleanNode.Constant v) h = refl
  boolean_built (BooleanNode.Signal m) h = refl
  boolean_built (BooleanNode.Not a) h = sym (boolean_same (t a) (and_parts _ _ h).0)
  boolean_built (BooleanNode.And a b) h = let p = and_parts _ _ h in let x = boolean_same (t a) p.0 in let y = boolean_same (t b) p.1 in cc
  boolean_built (BooleanNode.Or a b) h = let p = and_parts _ _ h in let x = boolean_same (t a) p.0 in let y = boolean_same (t b) p.1 in cc
  boolean_built (BooleanNode.Past a m) h = let x = boolean_same (t a) (and_parts _ _ h).0 in cc

  sequence_built : (n : SequenceNode) → classed (λ a. facts_of (t a)) (sequence_operands n) ≡ true → sequence_step (λ a. facts_of (t a)) n ≡ facts_of (Tree.sequence (build_sequence t n))
  sequence_built (SequenceNode.Delay a b m n) h = let p = and_parts _ _ h in let x = sequence_same (t a) p.0 in let y = sequence_same (t b) p.1 in cc
  sequence_built (SequenceNode.Fusion a b) h = let p = and_parts _ _ h in let x = sequence_same (t a) p.0 in let y = sequence_same (t b) p.1 in cc
  sequence_built (SequenceNode.Or a b) h = let p = and_parts _ _ h in let x = sequence_same (t a) p.0 in let y = sequence_same (t b) p.1 in cc
  sequence_built (SequenceNode.Intersect a b) h = let p = and_parts _ _ h in let x = sequence_same (t a) p.0 in let y = sequence_same (t b) p.1 in cc
  sequence_built (SequenceNode.And a b) h = let p = and_parts _ _ h in let x = sequence_same (t a) p.0 in let y = sequence_same (t b) p.1 in cc
  sequence_built (SequenceNode.Within a b) h = let p = and_parts _ _ h in let x = sequence_same (t a) p.0 in let y = sequence_same (t b) p.1 in cc
  sequence_built (SequenceNode.Throughout a b) h = let p = and_parts _ _ h in let x = boolean_same (t a) p.0 in let y = sequence_same (t b) p.1 in cc
  sequence_built (SequenceNode.Repeat a m n) h = let x = sequence_same (t a) (and_parts _ _ h).0 in cc
  sequence_built (SequenceNode.FirstMatch a) h = let x = sequence_same (t a) (and_parts _ _ h).0 in cc

  property_built : (n : PropertyNode) → classed (λ a. facts_of (t a)) (property_operands n) ≡ true → property_step (λ a. facts_of (t a)) n ≡ facts_of (Tree.property (build_property t n))
  property_built (PropertyNode.Not a) h = let x = property_same (t a) in cc
  property_built (PropertyNode.Nexttime a m) h = let x = property_same (t a) in cc
  property_built (PropertyNode.Always a m n) h = let x = property_same (t a) in cc
  property_built (PropertyNode.Eventually a m n) h = let x = property_same (t a) in cc
  property_built (PropertyNode.Or a b) h = let x = property_same (t a) in let y = property_same (t b) in cc
  property_built (PropertyNode.And a b) h = let x = property_same (t a) in let y = property_same (t b) in cc
  property_built (PropertyNode.Implies a b) h = let x = sequence_same (t a) (and_parts _ _ h).0 in let y = property_same (t b) in cc
  property_built (PropertyNode.ImpliesNext a b) h = let x = sequence_same (t a) (and_parts _ _ h).0 in let y = property_same (t b) in cc

  pub step_build : (n : Node) → classed (λ a. facts_of (t a)) (operands n) ≡ true → facts_step (λ a. facts_of (t a)) n ≡ facts_of (build t n)
  step_build (Node.Boolean n) h = ap boolean_facts (boolean_built n h)
  step_build (Node.Sequence n) h = sequence_built n h
  step_build (Node.Property n) h = property_built n h

  -- so what is answered from the one is answered from the other
  pub admitted_same : (s i : ℕ) (n : Node)
      → unless (first (node_rules s (λ a. facts_of (t a)) (facts_step (λ a. facts_of (t a)) n) i n)) (facts_step (λ a. facts_of (t a)) n)
      ≡ unless (first (node_rules s (λ a. facts_of (t a)) (facts_of (build t n)) i n)) (facts_of (build t n))
  admitted_same s i n = by_class (classed (λ a. facts_of (t a)) (operands n)) refl
    where
      answer : Facts → Bool → Bool → Result Facts Refusal
      answer f c e =
          unless
          (first
          (rule (not e) (refuse Table 4 i)
          ∷ rule (not c) (refuse Table 5 i)
          ∷ rule (not (ranged s n)) (refuse Table 6 i)
          ∷ rule (crossed (λ a. facts_of (t a)) n) (refuse Table 7 i)
          ∷ rule (empty (λ a. facts_of (t a)) (operands n)) (refuse Table 8 i)
          ∷ rule (over_limit f) (refuse Table 9 i)
          ∷ []))
          f

      -- an operand of a wrong class is refused before the facts are asked
      unclassed : (f g : Facts) (e : Bool) → answer f false e ≡ answer g false e
      unclassed f g true = refl
      unclassed f g false = refl

      by_class : (c : Bool) → classed (λ a. facts_of (t a)) (operands n) ≡ c
          → answer (facts_step (λ a. facts_of (t a)) n) (classed (λ a. facts_of (t a)) (operands n)) (earlier i (operands n))
          ≡ answer (facts_of (build t n)) (classed (λ a. facts_of (t a)) (operands n)) (earlier i (operands n))
      by_class true c = ap (λ f. answer f (classed (λ a. facts_of (t a)) (operands n)) (earlier i (operands n))) (step_build n c)
      by_class false c =
          ap (λ x. answer (facts_step (λ a. facts_of (t a)) n) x (earlier i (operands n))) c
          ∙ unclassed (facts_step (λ a. facts_of (t a)) n) (facts_of (build t n)) (earlier i (operands n))
          ∙ ap (λ x. answer (facts_of (build t n)) x (earlier i (operands n))) (sym c)
