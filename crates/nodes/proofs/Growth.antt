-- What holds of a list of nodes, and of the list with one more that is allowed.
use Rattle.std.proofs.Common.{◌≡◌, ℕ, zero, suc, ◌<◌, ◌≤◌, max, true, List, [], ◌∷◌, ◌++◌, map, length, get_or, take, sym, refl, ap, ◌∙◌, subst, inl, inr, arith, take_all, take-suc, take_at}
use mathlib.Core.Path.{fun_ext}
use lib.ListN.{length-map, get_or-append, get_or-map}
use lib.Seq.{take-append-le}
use Rattle.std.proofs.lemmas.List.{map_push, length_push, get_or_push}
use Rattle.std.proofs.lemmas.Bool.{cases_lt}
use Rattle.fault.specs.First.{allows}
use Rattle.nodes.specs.declared.node.Node.{Node}
use Rattle.nodes.specs.declared.node.Facts.{Facts}
use Rattle.nodes.specs.Trees.{Tree, build, trees_from, trees, tree_of, facts_of, all_facts, largest_lookback}
use Rattle.nodes.specs.Rules.{nothing, rules_after, Kept}
use Rattle.nodes.specs.Steps.{known, facts_step, Short, AllShort}
use Rattle.nodes.proofs.Measured.{step_build}
use Rattle.nodes.proofs.Limits.{Allowed, allowed, step_short}
use Rattle.nodes.proofs.Forest.{trees_from_snoc, length_trees}

-- what holds at each place of a list, and of one more behind it
pub at_snoc : {A : Type 0} (P : ℕ → A → Type 0) (xs : List A) (x d : A)
    → ((i : ℕ) → i < length xs → P i (get_or xs i d)) → P (length xs) x
    → (i : ℕ) → i < length (xs ++ x ∷ []) → P i (get_or (xs ++ x ∷ []) i d)
at_snoc {A} P xs x d h p i l =
    elim (cases_lt i (length xs)) [
      | inl a ↦ let Q : A → Type 0 = λ y. P i y in subst Q (sym (get_or-append xs (x ∷ []) d i a)) (h i a)
      | inr b ↦
          let e : length xs ≡ i = omega (arith, length_push xs x) in
          let Q : A → Type 0 = λ y. P i y in
          let R : ℕ → Type 0 = λ j. P j x in
          subst Q (sym (get_or_push xs x d i e)) (subst R e p)
    ]

pub all_facts_snoc : (ns : List Node) (n : Node) → all_facts (ns ++ n ∷ []) ≡ all_facts ns ++ facts_of (build (tree_of ns) n) ∷ []
all_facts_snoc ns n = ap (map facts_of) (trees_from_snoc [] ns n) ∙ map_push facts_of (trees ns) (build (tree_of ns) n)

pub known_all : (ns : List Node) → known (all_facts ns) ≡ (λ a. facts_of (tree_of ns a))
known_all ns = fun_ext (λ a. get_or-map facts_of (trees ns) a Tree.absent)

pub length_all : (ns : List Node) → length (all_facts ns) ≡ length ns
length_all ns = length-map (trees ns) facts_of ∙ length_trees ns

-- what is known of a node that is allowed keeps the limits
pub after_short : (s : ℕ) (ns : List Node) (n : Node) → AllShort (all_facts ns) → allows (rules_after s ns n) ≡ true
    → Short (facts_of (build (tree_of ns) n))
after_short s ns n short e =
    let fs : List Facts = all_facts ns in
    let at : ℕ → Facts = λ a. facts_of (tree_of ns a) in
    let f : Facts = facts_of (build (tree_of ns) n) in
    let a : Allowed s at f (length ns) n = allowed s at f (length ns) n e in
    let p : facts_step at n ≡ f = step_build (tree_of ns) n a.classed in
    let F : Facts → Type 0 = λ x. Allowed s at x (length ns) n in
    let I : ℕ → Type 0 = λ i. Allowed s at (facts_step at n) i n in
    let T : (ℕ → Facts) → Type 0 = λ t. Allowed s t (facts_step t n) (length fs) n in
    let b : Allowed s (known fs) (facts_step (known fs) n) (length fs) n =
    subst T (sym (known_all ns)) (subst I (sym (length_all ns)) (subst F (sym p) a)) in
    let S : (ℕ → Facts) → Type 0 = λ t. Short (facts_step t n) in
    subst Short p (subst S (known_all ns) (step_short fs short s n b))

pub short_snoc : (s : ℕ) (ns : List Node) (n : Node) → AllShort (all_facts ns) → allows (rules_after s ns n) ≡ true → AllShort (all_facts (ns ++ n ∷ []))
short_snoc s ns n short e =
    subst AllShort (sym (all_facts_snoc ns n))
    (at_snoc (λ _ f. Short f) (all_facts ns) (facts_of (build (tree_of ns) n)) (facts_of Tree.absent) short (after_short s ns n short e))

pub kept_snoc : (s : ℕ) (ns : List Node) (n : Node) → Kept s ns → allows (rules_after s ns n) ≡ true → Kept s (ns ++ n ∷ [])
kept_snoc s ns n kept e =
    let K : ℕ → Node → Type 0 = λ i x. allows (rules_after s (take i (ns ++ n ∷ [])) x) ≡ true in
    let old : (i : ℕ) → i < length ns → K i (get_or ns i nothing) =
    λ i l. let le : i ≤ length ns = omega arith in rw (take-append-le i ns (n ∷ [])) (kept i l) in
    let here : K (length ns) n = rw (take_at ns (n ∷ []) (length ns) refl) e in
    at_snoc K ns n nothing old here

none_short : AllShort (all_facts [])
unfolding trees_from
none_short k h = let z : ⊥ = omega arith in absurd z

-- the first k nodes of a list that keeps the rules keep the limits
first_short : (s : ℕ) (ns : List Node) → Kept s ns → (k : ℕ) → k ≤ length ns → AllShort (all_facts (take k ns))
first_short s ns kept zero h = none_short
first_short s ns kept (suc k) h =
    let l : k < length ns = omega arith in
    let S : List Node → Type 0 = λ x. AllShort (all_facts x) in
    subst S (sym (take-suc ns k nothing l)) (short_snoc s (take k ns) (get_or ns k nothing) (first_short s ns kept k (omega arith)) (kept k l))

-- and so do all
pub kept_short : (s : ℕ) (ns : List Node) → Kept s ns → AllShort (all_facts ns)
kept_short s ns kept =
    let S : List Node → Type 0 = λ x. AllShort (all_facts x) in
    subst S (take_all (length ns) ns (omega arith)) (first_short s ns kept (length ns) (omega arith))

pub largest_snoc : (fs : List Facts) (f : Facts) → largest_lookback (fs ++ f ∷ []) ≡ max (largest_lookback fs) f.lookback
largest_snoc [] f = omega arith
largest_snoc (x ∷ fs) f = ap (max x.lookback) (largest_snoc fs f) ∙ omega arith
