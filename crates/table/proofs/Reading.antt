-- Reading the nodes one by one.
use Rattle.std.proofs.Common.{◌≡◌, ℕ, zero, suc, ◌+◌, ◌-◌, ◌<◌, List, [], ◌∷◌, ◌++◌, length, Ok, Err, Result, sym, refl, ap, ◌∙◌, subst, add-zero, add-suc, add-one, arith}
use Rattle.fault.specs.declared.Refusal.{Refusal}
use Rattle.nodes.specs.declared.node.Node.{Node}
use Rattle.nodes.specs.Format.{node_from}
use Rattle.nodes.specs.Lists.{push_rules, pushed}
use Rattle.fault.proofs.First.{not_both, unless_ok}
use Rattle.std.proofs.lemmas.List.{length_push}
use Rattle.table.specs.Format.{node_bytes}
use Rattle.table.specs.Contents.{nodes_upto, next, with_node}

-- one node more
pub upto_step : (bs : List ℕ) (s i : ℕ) (ns : List Node) → nodes_upto bs s i ≡ Ok ns → nodes_upto bs s (i + 1) ≡ with_node s ns (node_from i (node_bytes bs i))
unfolding nodes_upto
upto_step bs s i ns e = rw add-one (ap (next bs s i) e)

-- a refusal stays
upto_bad : (bs : List ℕ) (s k n : ℕ) (r : Refusal) → nodes_upto bs s k ≡ Err r → nodes_upto bs s (k + n) ≡ Err r
unfolding nodes_upto
upto_bad bs s k zero r e = rw add-zero e
upto_bad bs s k (suc n) r e = rw add-suc (rw (upto_bad bs s k n r e) refl)

upto_stays : (bs : List ℕ) (s i k : ℕ) (r : Refusal) → nodes_upto bs s (i + 1) ≡ Err r → i < k → nodes_upto bs s k ≡ Err r
upto_stays bs s i k r e h =
    let y : (i + 1) + (k - (i + 1)) ≡ k = omega arith in
    let P : ℕ → Type 0 = λ n. nodes_upto bs s n ≡ Err r in
    subst P y (upto_bad bs s (i + 1) (k - (i + 1)) r e)

-- node i spells no node
pub upto_unread : (bs : List ℕ) (s i k : ℕ) (ns : List Node) (r : Refusal) → nodes_upto bs s i ≡ Ok ns → Err r ≡ node_from i (node_bytes bs i) → i < k → nodes_upto bs s k ≡ Err r
upto_unread bs s i k ns r e f h = upto_stays bs s i k r (upto_step bs s i ns e ∙ ap (with_node s ns) (sym f)) h

-- node i is taken or refused
pub upto_pushed : (bs : List ℕ) (s i : ℕ) (ns : List Node) (n : Node) → nodes_upto bs s i ≡ Ok ns → Ok n ≡ node_from i (node_bytes bs i) → nodes_upto bs s (i + 1) ≡ pushed s ns n
upto_pushed bs s i ns n e f = upto_step bs s i ns e ∙ ap (with_node s ns) (sym f)

pub upto_refused : (bs : List ℕ) (s i k : ℕ) (ns : List Node) (n : Node) (r : Refusal)
    → nodes_upto bs s i ≡ Ok ns → Ok n ≡ node_from i (node_bytes bs i) → pushed s ns n ≡ Err r → i < k → nodes_upto bs s k ≡ Err r
upto_refused bs s i k ns n r e f p h = upto_stays bs s i k r (upto_pushed bs s i ns n e f ∙ p) h

-- a push leaves one node more
pushed_length : (s : ℕ) (ns ms : List Node) (n : Node) → pushed s ns n ≡ Ok ms → length ms ≡ length ns + 1
pushed_length s ns ms n e =
    let u = unless_ok (push_rules s ns n) (ns ++ n ∷ []) ms e in
    ap length (sym u.1) ∙ length_push ns n

with_length : (s k : ℕ) (ns ms : List Node) (o : Result Node Refusal) → length ns ≡ k → with_node s ns o ≡ Ok ms → length ms ≡ suc k
with_length s k ns ms (Err r) l e = not_both ms r (sym e)
with_length s k ns ms (Ok n) l e = let p = pushed_length s ns ms n e in omega arith

next_length : (bs : List ℕ) (s k : ℕ) (ms : List Node) (o : Result (List Node) Refusal)
    → ((ns : List Node) → o ≡ Ok ns → length ns ≡ k) → next bs s k o ≡ Ok ms → length ms ≡ suc k
next_length bs s k ms (Err r) h e = not_both ms r (sym e)
next_length bs s k ms (Ok ns) h e = with_length s k ns ms (node_from k (node_bytes bs k)) (h ns refl) e

-- as many nodes are read as were asked for
pub upto_length : (bs : List ℕ) (s k : ℕ) (ns : List Node) → nodes_upto bs s k ≡ Ok ns → length ns ≡ k
unfolding nodes_upto
upto_length bs s zero ns e = let p : [] ≡ ns = cc in ap length (sym p)
upto_length bs s (suc k) ns e = next_length bs s k ns (nodes_upto bs s k) (upto_length bs s k) e
