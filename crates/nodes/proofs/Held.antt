-- What holds of a list of nodes that is held in an array.
use Rattle.std.proofs.Common.{◌≡◌, ℕ, suc, ◌+◌, ◌<◌, ◌≤◌, max, cond, ltb, List, [], ◌∷◌, ◌++◌, map, length, get_or, take, set, Some, None, Ok, Err, Option, Result, sym, ap, ◌∙◌, subst, inl, inr, arith, length-take-le, true}
use lib.ListN.{get_or-map}
use Rattle.std.proofs.lemmas.List.{map_push, get_or_past, length_push, take_more_set}
use Rattle.std.proofs.lemmas.Bool.{cases_lt, lt-leb}
use Rattle.fault.specs.Refusals.{refuse}
use Rattle.fault.specs.First.{Rule, first, unless}
use Rattle.fault.proofs.First.{unless_ok, unless_good, unless_bad}
use Rattle.fault.specs.declared.Layer.TheVariants.{Table}
use Rattle.fault.specs.declared.Refusal.{Refusal}
use Rattle.nodes.specs.declared.node.Node.{Node}
use Rattle.nodes.specs.declared.node.Facts.{Facts}
use Rattle.nodes.specs.declared.list.Entry.{Entry}
use Rattle.nodes.specs.declared.list.Nodes.{Nodes}
use Rattle.nodes.specs.Trees.{Tree, build, trees, tree_of, facts_of, all_facts, largest_lookback, no_facts}
use Rattle.nodes.specs.Entries.{nodes_in, facts_in}
use Rattle.nodes.specs.Rules.{nothing, node_rules, rules_after, Kept, operands, earlier}
use Rattle.nodes.specs.Steps.{facts_step, Short, AllShort}
use Rattle.nodes.specs.Lists.{node_list, known_of, facts_at, Built, pushed}
use Rattle.nodes.proofs.Forest.{unfolds, length_trees}
use Rattle.nodes.proofs.Limits.{allowed}
use Rattle.nodes.proofs.Measured.{admitted_same}
use Rattle.nodes.proofs.Growth.{known_all, length_all, kept_short, kept_snoc, all_facts_snoc, largest_snoc}

-- what is known of a node stands beside it
pub facts_there : (t : Nodes) (i : ℕ)
    → facts_at (node_list t) i
    ≡ cond (ltb i (length (facts_in t.count t.entries))) (Some (get_or (facts_in t.count t.entries) i no_facts)) None
facts_there t i =
    let ns : List Node = node_list t in
    let F : List Facts → Option Facts = λ fs. cond (ltb i (length fs)) (Some (get_or fs i no_facts)) None in
    sym
    (ap F t.right
    ∙ ap (λ (l : ℕ). cond (ltb i l) (Some (get_or (all_facts ns) i no_facts)) None) (length_all ns)
    ∙ ap (λ (f : Facts). cond (ltb i (length ns)) (Some f) None) (get_or-map facts_of (trees ns) i Tree.absent))

-- a node's tree is built from those of its operands
pub tree_unfolds : (t : Nodes) (i : ℕ) → Built (node_list t) i
tree_unfolds t i h =
    let ns : List Node = node_list t in
    let before : List Node = take i ns in
    let n : Node = get_or ns i nothing in
    let a = allowed t.signals (λ a. facts_of (tree_of before a)) (facts_of (build (tree_of before) n)) (length before) n (t.kept i h) in
    let E : ℕ → Type 0 = λ j. earlier j (operands n) ≡ true in
    unfolds ns i h (subst E (length-take-le i ns (omega arith)) a.earlier)

-- what is known of a node keeps the limits
pub node_short : (t : Nodes) (i : ℕ) → i < length (node_list t) → Short (known_of t i)
node_short t i h =
    let ns : List Node = node_list t in
    let l : i < length (all_facts ns) = omega (arith, length_all ns) in
    let S : (ℕ → Facts) → Type 0 = λ at. Short (at i) in
    subst S (known_all ns) (kept_short t.signals ns t.kept i l)

-- and of a node that is not there nothing is known
pub known_short : (t : Nodes) (a : ℕ) → Short (known_of t a)
known_short t a =
    elim (cases_lt a (length (node_list t))) [
      | inl l ↦ node_short t a l
      | inr l ↦
          let k : length (trees (node_list t)) ≤ a = omega (arith, length_trees (node_list t)) in
          let S : Tree → Type 0 = λ x. Short (facts_of x) in
          subst S (sym (get_or_past (trees (node_list t)) a Tree.absent k))
          (record { ordered = omega arith; short = omega arith; back = omega arith; ahead = omega arith })
    ]

-- what `admit` answers
abbrev pub answer : Nodes → Node → Result Facts Refusal
answer t n =
    unless (first (node_rules t.signals (known_of t) (facts_step (known_of t) n) (length (node_list t)) n)) (facts_step (known_of t) n)

module _ (t : Nodes) (n : Node) (room : t.count < 32) where
  -- there is room for one more
  roomy : pushed t.signals (node_list t) n ≡ unless (first (rules_after t.signals (node_list t) n)) (node_list t ++ n ∷ [])
  roomy =
      let l : length (node_list t) < 32 = omega (arith, t.listed) in
      let rs : List Rule = rules_after t.signals (node_list t) n in
      ap (λ b. unless (cond b (Some (refuse Table 1 0)) (first rs)) (node_list t ++ n ∷ [])) (lt-leb 32 (length (node_list t)) l)

  -- what is answered from what stands beside the nodes is answered from their trees
  tree_answer : answer t n ≡ unless (first (rules_after t.signals (node_list t) n)) (facts_of (build (tree_of (node_list t)) n))
  tree_answer = admitted_same (tree_of (node_list t)) t.signals (length (node_list t)) n

  -- a refusal of `admit` is the refusal of the push
  pub push_refused : (r : Refusal) → Err r ≡ answer t n → pushed t.signals (node_list t) n ≡ Err r
  push_refused r e =
      roomy
      ∙ unless_bad (first (rules_after t.signals (node_list t) n)) (facts_of (build (tree_of (node_list t)) n)) (node_list t ++ n ∷ []) r (sym tree_answer ∙ sym e)

-- nodes that keep the limits do not look back too far
largest_short : (fs : List Facts) → AllShort fs → largest_lookback fs ≤ 32
largest_short [] short = omega arith
largest_short (f ∷ fs) short =
    let x = short 0 (omega arith) in
    let y = largest_short fs (λ k h. short (suc k) (omega arith)) in
    omega arith

-- the places with one more node
abbrev pub more : Nodes → Node → Facts → List Entry
more t n f = set t.entries t.count (record { node = n; facts = f })

pub record Grown (t : Nodes) (n : Node) (f : Facts) : Type 0 where
  pub listed : length (nodes_in (t.count + 1) (more t n f)) ≡ t.count + 1
  pub kept : Kept t.signals (nodes_in (t.count + 1) (more t n f))
  pub right : facts_in (t.count + 1) (more t n f) ≡ all_facts (nodes_in (t.count + 1) (more t n f))
  pub widest : max t.lookback f.lookback ≡ largest_lookback (facts_in (t.count + 1) (more t n f))
  pub near : max t.lookback f.lookback ≤ 32
  pub pushed : pushed t.signals (node_list t) n ≡ Ok (nodes_in (t.count + 1) (more t n f))

pub grown : (t : Nodes) (n : Node) (f : Facts) → t.count < 32 → Ok f ≡ answer t n → Grown t n f
grown t n f room e =
    let ns : List Node = node_list t in
    let s : ℕ = t.signals in
    let rs : List Rule = rules_after s ns n in
    let g : Facts = facts_of (build (tree_of ns) n) in
    let x : Entry = record { node = n; facts = f } in
    let before : List Entry = take t.count t.entries in
    let places = t.places in
    let u : unless (first rs) g ≡ Ok f = sym (tree_answer t n room) ∙ sym e in
    let ok = unless_ok rs g f u in
    let all : take (t.count + 1) (more t n f) ≡ before ++ x ∷ [] = take_more_set t.entries t.count x (omega arith) in
    let nodes_more : nodes_in (t.count + 1) (more t n f) ≡ ns ++ n ∷ [] =
    ap (map (λ (y : Entry). y.node)) all ∙ map_push (λ (y : Entry). y.node) before x in
    let facts_more : facts_in (t.count + 1) (more t n f) ≡ facts_in t.count t.entries ++ f ∷ [] =
    ap (map (λ (y : Entry). y.facts)) all ∙ map_push (λ (y : Entry). y.facts) before x in
    let K : List Node → Type 0 = λ ms. Kept s ms in
    let kept : Kept s (ns ++ n ∷ []) = kept_snoc s ns n t.kept ok.0 in
    let right : facts_in (t.count + 1) (more t n f) ≡ all_facts (ns ++ n ∷ []) =
    facts_more
    ∙ ap (λ (fs : List Facts). fs ++ f ∷ []) t.right
    ∙ ap (λ (y : Facts). all_facts ns ++ y ∷ []) (sym ok.1)
    ∙ sym (all_facts_snoc ns n) in
    let widest : max t.lookback f.lookback ≡ largest_lookback (facts_in (t.count + 1) (more t n f)) =
    ap (λ (l : ℕ). max l f.lookback) t.widest
    ∙ sym (largest_snoc (facts_in t.count t.entries) f)
    ∙ ap largest_lookback (sym facts_more) in
    let least : largest_lookback (all_facts (ns ++ n ∷ [])) ≤ 32 = largest_short (all_facts (ns ++ n ∷ [])) (kept_short s (ns ++ n ∷ []) kept) in
    record {
      listed = ap length nodes_more ∙ length_push ns n ∙ ap (λ (k : ℕ). k + 1) t.listed;
      kept = subst K (sym nodes_more) kept;
      right = right ∙ ap all_facts (sym nodes_more);
      widest = widest;
      near = omega (arith, widest ∙ ap largest_lookback right);
      pushed = roomy t n room ∙ unless_good (first rs) g f (ns ++ n ∷ []) u ∙ ap Ok (sym nodes_more);
    }
