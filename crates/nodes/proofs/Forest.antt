-- A node's tree is built from the trees of its operands, and later nodes leave it as it is.
use Rattle.std.proofs.Common.{◌≡◌, ℕ, suc, ◌+◌, ◌<◌, ◌≤◌, true, ◌&&◌, ltb, List, [], ◌∷◌, ◌++◌, length, get_or, take, drop, sym, refl, ap, ◌∙◌, arith, length-append, take-append-drop, length-take-le, take-suc}
use lib.ListN.{get_or-append}
use lib.Seq.{get_or_at}
use Rattle.std.proofs.lemmas.Bool.{and_parts, ltb-true}
use Rattle.nodes.specs.declared.node.Node.{Node}
use Rattle.nodes.specs.declared.node.BooleanNode.{BooleanNode}
use Rattle.nodes.specs.declared.node.SequenceNode.{SequenceNode}
use Rattle.nodes.specs.declared.node.PropertyNode.{PropertyNode}
use Rattle.nodes.specs.Rules.{nothing, earlier, boolean_operands, sequence_operands, property_operands, operands}
use Rattle.nodes.specs.Trees.{Tree, build_boolean, build_sequence, build_property, build, tree_in, trees_from, trees, tree_of}

pub trees_from_snoc : (ts : List Tree) (ns : List Node) (n : Node)
    → trees_from ts (ns ++ n ∷ []) ≡ trees_from ts ns ++ build (tree_in (trees_from ts ns)) n ∷ []
unfolding trees_from
trees_from_snoc ts [] n = refl
trees_from_snoc ts (x ∷ ns) n = trees_from_snoc (ts ++ build (tree_in ts) x ∷ []) ns n

length_trees_from : (ts : List Tree) (ns : List Node) → length (trees_from ts ns) ≡ length ts + length ns
unfolding trees_from
length_trees_from ts [] = omega arith
length_trees_from ts (n ∷ ns) =
    let t : Tree = build (tree_in ts) n in
    length_trees_from (ts ++ t ∷ []) ns ∙ omega (arith, length-append ts (t ∷ []))

pub length_trees : (ns : List Node) → length (trees ns) ≡ length ns
length_trees ns = length_trees_from [] ns ∙ omega arith

module _ (f g : ℕ → Tree) (i : ℕ) (same : (a : ℕ) → a < i → f a ≡ g a) where
  only : (a : ℕ) → (ltb a i && true) ≡ true → f a ≡ g a
  only a h = same a (ltb-true a i (and_parts (ltb a i) true h).0)

  both : (a b : ℕ) → (ltb a i && ltb b i) ≡ true → (f a ≡ g a) × (f b ≡ g b)
  both a b h =
      let p = and_parts (ltb a i) (ltb b i) h in
      (same a (ltb-true a i p.0), same b (ltb-true b i p.1))

  boolean_alike : (n : BooleanNode) → earlier i (boolean_operands n) ≡ true → build_boolean f n ≡ build_boolean g n
  boolean_alike (BooleanNode.Constant v) h = refl
  boolean_alike (BooleanNode.Signal m) h = refl
  boolean_alike (BooleanNode.Not a) h = let p = only a h in cc
  boolean_alike (BooleanNode.Past a m) h = let p = only a h in cc
  boolean_alike (BooleanNode.And a b) h = let p = both a b h in cc
  boolean_alike (BooleanNode.Or a b) h = let p = both a b h in cc

  sequence_alike : (n : SequenceNode) → earlier i (sequence_operands n) ≡ true → build_sequence f n ≡ build_sequence g n
  sequence_alike (SequenceNode.Repeat a m n) h = let p = only a h in cc
  sequence_alike (SequenceNode.FirstMatch a) h = let p = only a h in cc
  sequence_alike (SequenceNode.Delay a b m n) h = let p = both a b h in cc
  sequence_alike (SequenceNode.Fusion a b) h = let p = both a b h in cc
  sequence_alike (SequenceNode.Or a b) h = let p = both a b h in cc
  sequence_alike (SequenceNode.Intersect a b) h = let p = both a b h in cc
  sequence_alike (SequenceNode.And a b) h = let p = both a b h in cc
  sequence_alike (SequenceNode.Throughout a b) h = let p = both a b h in cc
  sequence_alike (SequenceNode.Within a b) h = let p = both a b h in cc

  property_alike : (n : PropertyNode) → earlier i (property_operands n) ≡ true → build_property f n ≡ build_property g n
  property_alike (PropertyNode.Not a) h = let p = only a h in cc
  property_alike (PropertyNode.Nexttime a m) h = let p = only a h in cc
  property_alike (PropertyNode.Always a m n) h = let p = only a h in cc
  property_alike (PropertyNode.Eventually a m n) h = let p = only a h in cc
  property_alike (PropertyNode.Or a b) h = let p = both a b h in cc
  property_alike (PropertyNode.And a b) h = let p = both a b h in cc
  property_alike (PropertyNode.Implies a b) h = let p = both a b h in cc
  property_alike (PropertyNode.ImpliesNext a b) h = let p = both a b h in cc

  -- a node's tree depends on its operands' trees alone
  pub build_same : (n : Node) → earlier i (operands n) ≡ true → build f n ≡ build g n
  build_same (Node.Boolean n) h = ap Tree.boolean (boolean_alike n h)
  build_same (Node.Sequence n) h = ap Tree.sequence (sequence_alike n h)
  build_same (Node.Property n) h = ap Tree.property (property_alike n h)

-- later nodes leave the trees of earlier ones
tree_stays : (ts : List Tree) (ns : List Node) (a : ℕ) → a < length ts → tree_in (trees_from ts ns) a ≡ tree_in ts a
unfolding trees_from
tree_stays ts [] a h = refl
tree_stays ts (n ∷ ns) a h =
    let t : Tree = build (tree_in ts) n in
    let l = length-append ts (t ∷ []) in
    tree_stays (ts ++ t ∷ []) ns a (omega arith) ∙ get_or-append ts (t ∷ []) _ a h

trees_from_split : (ts : List Tree) (ns ms : List Node) → trees_from ts (ns ++ ms) ≡ trees_from (trees_from ts ns) ms
unfolding trees_from
trees_from_split ts [] ms = refl
trees_from_split ts (n ∷ ns) ms = trees_from_split (ts ++ build (tree_in ts) n ∷ []) ns ms

-- the nodes before i have the trees that they have in the whole list
pub tree_before : (ns : List Node) (i a : ℕ) → i ≤ length ns → a < i → tree_of ns a ≡ tree_of (take i ns) a
tree_before ns i a h l =
    let e : trees ns ≡ trees_from (trees (take i ns)) (drop i ns) =
    ap trees (sym (take-append-drop i ns)) ∙ trees_from_split [] (take i ns) (drop i ns) in
    let k : length (trees (take i ns)) ≡ i = length_trees (take i ns) ∙ length-take-le i ns h in
    ap (λ (ts : List Tree). tree_in ts a) e ∙ tree_stays (trees (take i ns)) (drop i ns) a (omega arith)

-- node i has the tree that it was built with
pub tree_here : (ns : List Node) (i : ℕ) → i < length ns → tree_of ns i ≡ build (tree_of (take i ns)) (get_or ns i nothing)
tree_here ns i h =
    let n : Node = get_or ns i nothing in
    let ts : List Tree = trees (take i ns) in
    let k : length ts ≡ i = length_trees (take i ns) ∙ length-take-le i ns (omega arith) in
    tree_before ns (suc i) i (omega arith) (omega arith)
    ∙ ap (λ (x : List Node). tree_of x i) (take-suc ns i nothing h)
    ∙ ap (λ (x : List Tree). tree_in x i) (trees_from_snoc [] (take i ns) n)
    ∙ get_or_at ts (build (tree_in ts) n) [] Tree.absent i k

-- so a node's tree is built from those of its operands
pub unfolds : (ns : List Node) (i : ℕ) → i < length ns → earlier i (operands (get_or ns i nothing)) ≡ true
    → tree_of ns i ≡ build (tree_of ns) (get_or ns i nothing)
unfolds ns i h e =
    tree_here ns i h
    ∙ sym (build_same (tree_of ns) (tree_of (take i ns)) i (λ a l. tree_before ns i a (omega arith) l) (get_or ns i nothing) e)
