-- Exactly the bytes that are a table are accepted.
use Rattle.std.proofs.Common.{◌≡◌, ℕ, zero, suc, ◌+◌, ◌*◌, ◌^◌, ◌<◌, ◌≤◌, true, false, ◌&&◌, eqb, leb, List, [], ◌∷◌, ◌++◌, length, get_or, take, Ok, Err, Result, sym, refl, ap, ◌∙◌, subst, arith, length-take-le, take_all, take-suc}
use Rattle.std.proofs.lemmas.Bool.{and_from, not_from_false, not_from_true, le-leb, lt-leb, eq-eqb}
use Rattle.fault.specs.First.{allows}
use Rattle.fault.specs.declared.Refusal.{Refusal}
use Rattle.fault.proofs.First.{not_both, allows_parts, unless_ok, allowed_ok}
use Rattle.nodes.specs.Bytes.{zeros}
use Rattle.nodes.specs.Format.{node_from}
use Rattle.nodes.specs.Rules.{nothing, rules_after, Kept}
use Rattle.nodes.specs.Lists.{push_rules, pushed}
use Rattle.nodes.specs.declared.node.Node.{Node}
use Rattle.nodes.proofs.Growth.{at_snoc, kept_snoc}
use Rattle.table.specs.declared.format.Header.{Header}
use Rattle.table.specs.Format.{header, header_rules, header_from, node_bytes}
use Rattle.table.specs.Contents.{Contents, last_empty, last_rules, with_node, next, nodes_upto, as_contents, after_header, spelled}
use Rattle.table.specs.Exact.{IsTable, Exactly}
use Rattle.table.proofs.Headed.{headed, spelled_whole}
use Rattle.table.proofs.Reading.{upto_length}

-- the nodes that were read are those of the bytes, and keep the rules
record Told (bs : List ℕ) (s : ℕ) (ns : List Node) : Type 0 where
  nodes : (i : ℕ) → i < length ns → node_from i (node_bytes bs i) ≡ Ok (get_or ns i nothing)
  kept : Kept s ns

told_more : (bs : List ℕ) (s : ℕ) (ns ms : List Node) (n : Node) → Told bs s ns → node_from (length ns) (node_bytes bs (length ns)) ≡ Ok n → pushed s ns n ≡ Ok ms → Told bs s ms
told_more bs s ns ms n t e p =
    let u = unless_ok (push_rules s ns n) (ns ++ n ∷ []) ms p in
    let a = allows_parts (leb 32 (length ns)) (allows (rules_after s ns n)) u.0 in
    let T : List Node → Type 0 = λ x. Told bs s x in
    subst T u.1
    (record {
      nodes = at_snoc (λ i x. node_from i (node_bytes bs i) ≡ Ok x) ns n nothing t.nodes e;
      kept = kept_snoc s ns n t.kept a.1;
    })

with_told : (bs : List ℕ) (s : ℕ) (ns ms : List Node) (o : Result Node Refusal) → Told bs s ns → node_from (length ns) (node_bytes bs (length ns)) ≡ o → with_node s ns o ≡ Ok ms → Told bs s ms
with_told bs s ns ms (Err r) t e p = not_both ms r (sym p)
with_told bs s ns ms (Ok n) t e p = told_more bs s ns ms n t e p

next_told : (bs : List ℕ) (s k : ℕ) (ms : List Node) (o : Result (List Node) Refusal)
    → ((ns : List Node) → o ≡ Ok ns → Told bs s ns × (length ns ≡ k)) → next bs s k o ≡ Ok ms → Told bs s ms
next_told bs s k ms (Err r) h e = not_both ms r (sym e)
next_told bs s k ms (Ok ns) h e =
    let t = h ns refl in
    let W : ℕ → Type 0 = λ i. with_node s ns (node_from i (node_bytes bs i)) ≡ Ok ms in
    with_told bs s ns ms (node_from (length ns) (node_bytes bs (length ns))) t.0 refl (subst W (sym t.1) e)

upto_told : (bs : List ℕ) (s k : ℕ) (ns : List Node) → nodes_upto bs s k ≡ Ok ns → Told bs s ns
unfolding nodes_upto
upto_told bs s zero ns e =
    let p : [] ≡ ns = cc in
    let T : List Node → Type 0 = λ x. Told bs s x in
    subst T p (record { nodes = λ i h. none h; kept = λ i h. none h })
  where
    none : {i : ℕ} {X : Type 0} → i < 0 → X
    none {i} h = let z : ⊥ = omega arith in absurd z
upto_told bs s (suc k) ns e = next_told bs s k ns (nodes_upto bs s k) (λ ms q. (upto_told bs s k ms q, upto_length bs s k ms q)) e

-- what is accepted is a table
module _ (bs : List ℕ) (c : Contents) where
  from_nodes : (h : Header) → header_from bs ≡ Ok h → (o : Result (List Node) Refusal) → nodes_upto bs h.signals h.count ≡ o → as_contents h o ≡ Ok c → IsTable bs c
  from_nodes h e (Err r) u p = not_both c r (sym p)
  from_nodes h e (Ok ns) u p =
      let a = unless_ok (last_rules ns) (record { signals = h.signals; ceiling = h.ceiling; nodes = ns }) c p in
      let q = allows_parts (last_empty ns) true a.0 in
      let g = headed bs h e in
      let l = upto_length bs h.signals h.count ns u in
      let t = upto_told bs h.signals h.count ns u in
      let C : Contents → Type 0 = λ x. IsTable bs x in
      let some = g.some in
      let few = g.few in
      let long = g.long in
      subst C a.1
      (record {
        some = omega arith;
        few = omega arith;
        count = ap (λ (x : Header). x.count) g.is ∙ sym l;
        long = omega arith;
        signals = ap (λ (x : Header). x.signals) g.is;
        least_signals = g.least_signals;
        most_signals = g.most_signals;
        zero = g.zero;
        ceiling = ap (λ (x : Header). x.ceiling) g.is;
        least_rows = g.least_rows;
        most_rows = g.most_rows;
        nodes = t.nodes;
        kept = t.kept;
        filled = q.0;
      })

  from_header : (o : Result Header Refusal) → header_from bs ≡ o → after_header bs o ≡ Ok c → IsTable bs c
  from_header (Err r) e p = not_both c r (sym p)
  from_header (Ok h) e p = from_nodes h e (nodes_upto bs h.signals h.count) refl p

-- and a table is accepted
module _ (bs : List ℕ) (c : Contents) (t : IsTable bs c) where
  h : Header
  h = record { count = length c.nodes; signals = c.signals; ceiling = c.ceiling }

  same_header : header bs ≡ h
  unfolding h
  same_header = let p = t.count in let q = t.signals in let r = t.ceiling in cc

  good_header : allows (header_rules bs) ≡ true
  good_header =
      let n : ℕ = (header bs).count in
      let s : ℕ = (header bs).signals in
      let r : ℕ = (header bs).ceiling in
      let a = t.count in
      let b = t.long in
      let d = t.signals in
      let e = t.ceiling in
      let x = t.some in
      let y = t.few in
      let u = t.least_signals in
      let v = t.most_signals in
      let w = t.least_rows in
      let z = t.most_rows in
      let size : (leb 1 n && leb n 32 && eqb (length bs) (16 + 8 * n)) ≡ true =
      and_from _ _ (and_from _ _ (le-leb 1 n (omega arith)) (le-leb n 32 (omega arith))) (eq-eqb (length bs) (16 + 8 * n) (omega arith)) in
      let rest : (leb 1 s && leb s 64 && zeros bs 2 6 && leb 1 r && leb r (2 ^ 40)) ≡ true =
      and_from _ _
      (and_from _ _ (and_from _ _ (and_from _ _ (le-leb 1 s (omega arith)) (le-leb s 64 (omega arith))) t.zero) (le-leb 1 r (omega arith)))
      (le-leb r (2 ^ 40) (omega arith)) in
      and_from _ _ (not_from_false _ (not_from_true _ size)) (and_from _ _ (not_from_false _ (not_from_true _ rest)) refl)

  header_read : header_from bs ≡ Ok h
  header_read = allowed_ok (header_rules bs) (header bs) good_header ∙ ap Ok same_header

  push_allowed : (k : ℕ) → k < length c.nodes → pushed c.signals (take k c.nodes) (get_or c.nodes k nothing) ≡ Ok (take (suc k) c.nodes)
  push_allowed k l =
      let ns : List Node = c.nodes in
      let n : Node = get_or ns k nothing in
      let few = t.few in
      let m : length (take k ns) ≡ k = length-take-le k ns (omega arith) in
      let room : leb 32 (length (take k ns)) ≡ false = lt-leb 32 (length (take k ns)) (omega arith) in
      allowed_ok (push_rules c.signals (take k ns) n) (take k ns ++ n ∷ []) (and_from _ _ (not_from_false _ room) (t.kept k l))
      ∙ ap Ok (sym (take-suc ns k nothing l))

  nodes_read : (k : ℕ) → k ≤ length c.nodes → nodes_upto bs c.signals k ≡ Ok (take k c.nodes)
  unfolding nodes_upto
  nodes_read zero l = refl
  nodes_read (suc k) l =
      let m : k < length c.nodes = omega arith in
      ap (next bs c.signals k) (nodes_read k (omega arith))
      ∙ ap (with_node c.signals (take k c.nodes)) (t.nodes k m)
      ∙ push_allowed k m

  all_read : nodes_upto bs c.signals (length c.nodes) ≡ Ok c.nodes
  all_read = nodes_read (length c.nodes) (omega arith) ∙ ap Ok (take_all (length c.nodes) c.nodes (omega arith))

  accepted : spelled bs ≡ Ok c
  unfolding h
  accepted = spelled_whole bs h c.nodes header_read all_read t.filled

pub exactly : (bs : List ℕ) → Exactly bs
exactly bs c = (from_header bs c (header_from bs) refl, accepted bs c)
