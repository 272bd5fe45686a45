-- A list with no node has no last one that could be empty.
use Rattle.std.proofs.Common.{◌≡◌, ℕ, ◌-◌, ◌≤◌, Bool, true, false, cond, ltb, List, [], ◌∷◌, length, Some, None, refl, arith}
use Rattle.std.proofs.lemmas.Bool.{ltb-false}
use Rattle.nodes.specs.declared.node.Node.{Node}
use Rattle.nodes.specs.Lists.{facts_at}
use Rattle.nodes.specs.Trees.{trees_from, tree_of, facts_of}
use Rattle.table.specs.Contents.{last_empty}

none_there : {A : Type 0} (b : Bool) (x : A) → None ≡ cond b (Some x) None → b ≡ false
none_there true x e = let z : ◌≡◌ {A = ℕ} 0 1 = cc in let z' : ⊥ = omega arith in absurd z'
none_there false x e = refl

nothing_empty : (ns : List Node) → length ns ≡ 0 → false ≡ last_empty ns
unfolding trees_from
nothing_empty [] e = refl
nothing_empty (n ∷ ns) e = let z : ⊥ = omega arith in absurd z

pub last_none : (ns : List Node) (i : ℕ) → i ≡ length ns - 1 → None ≡ facts_at ns i → false ≡ last_empty ns
last_none ns i h e =
    let l : length ns ≤ i = ltb-false i (length ns) (none_there (ltb i (length ns)) (facts_of (tree_of ns i)) e) in
    nothing_empty ns (omega arith)
