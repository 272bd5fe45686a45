-- What a header that is not refused says.
use Rattle.std.proofs.Common.{◌≡◌, ℕ, ◌+◌, ◌*◌, ◌^◌, ◌≤◌, Bool, true, false, cond, ◌&&◌, eqb, leb, List, length, Some, None, Ok, Err, Result, ap, ◌∙◌, arith}
use Rattle.std.proofs.lemmas.Bool.{and_parts, not-false, leb-true, eqb-true}
use Rattle.fault.specs.Refusals.{refuse}
use Rattle.fault.specs.First.{unless}
use Rattle.fault.specs.declared.Layer.TheVariants.{Table}
use Rattle.fault.specs.declared.Refusal.{Refusal}
use Rattle.nodes.specs.Bytes.{zeros}
use Rattle.nodes.specs.declared.node.Node.{Node}
use Rattle.fault.proofs.First.{allows_parts, unless_ok}
use Rattle.table.specs.declared.format.Header.{Header}
use Rattle.table.specs.Format.{header, header_rules, header_from}
use Rattle.table.specs.Contents.{Contents, nodes_upto, as_contents, after_header, spelled, last, last_empty}

pub record Headed (bs : List ℕ) (h : Header) : Type 0 where
  pub is : header bs ≡ h
  pub some : 1 ≤ h.count
  pub few : h.count ≤ 32
  pub long : length bs ≡ 16 + 8 * h.count
  pub least_signals : 1 ≤ h.signals
  pub most_signals : h.signals ≤ 64
  pub zero : zeros bs 2 6 ≡ true
  pub least_rows : 1 ≤ h.ceiling
  pub most_rows : h.ceiling ≤ 2 ^ 40

pub headed : (bs : List ℕ) (h : Header) → header_from bs ≡ Ok h → Headed bs h
headed bs h e =
    let u = unless_ok (header_rules bs) (header bs) h e in
    let p = allows_parts _ _ u.0 in
    let q = allows_parts _ _ p.1 in
    let n : ℕ = (header bs).count in
    let s : ℕ = (header bs).signals in
    let c : ℕ = (header bs).ceiling in
    let a = and_parts (leb 1 n && leb n 32) (eqb (length bs) (16 + 8 * n)) (not-false _ p.0) in
    let b = and_parts (leb 1 n) (leb n 32) a.0 in
    let v = and_parts (leb 1 s && leb s 64 && zeros bs 2 6 && leb 1 c) (leb c (2 ^ 40)) (not-false _ q.0) in
    let w = and_parts (leb 1 s && leb s 64 && zeros bs 2 6) (leb 1 c) v.0 in
    let x = and_parts (leb 1 s && leb s 64) (zeros bs 2 6) w.0 in
    let y = and_parts (leb 1 s) (leb s 64) x.0 in
    let i = u.1 in
    let ni : n ≡ h.count = ap (λ (z : Header). z.count) i in
    let si : s ≡ h.signals = ap (λ (z : Header). z.signals) i in
    let ci : c ≡ h.ceiling = ap (λ (z : Header). z.ceiling) i in
    record {
      is = i;
      some = omega (arith, leb-true 1 n b.0);
      few = omega (arith, leb-true n 32 b.1);
      long = omega (arith, eqb-true (length bs) (16 + 8 * n) a.1);
      least_signals = omega (arith, leb-true 1 s y.0);
      most_signals = omega (arith, leb-true s 64 y.1);
      zero = x.1;
      least_rows = omega (arith, leb-true 1 c w.1);
      most_rows = omega (arith, leb-true c (2 ^ 40) v.1);
    }

-- a table's nodes are read, and its last one stands for the property
module _ (bs : List ℕ) (h : Header) (ns : List Node) (e : header_from bs ≡ Ok h) (u : nodes_upto bs h.signals h.count ≡ Ok ns) where
  read : spelled bs ≡ as_contents h (Ok ns)
  read = ap (after_header bs) e ∙ ap (as_contents h) u

  answer : Bool → Result Contents Refusal
  answer b = unless (cond b (Some (refuse Table 8 (last ns))) None) (record { signals = h.signals; ceiling = h.ceiling; nodes = ns })

  pub spelled_empty : last_empty ns ≡ true → spelled bs ≡ Err (refuse Table 8 (last ns))
  unfolding answer
  spelled_empty b = read ∙ ap answer b

  pub spelled_whole : last_empty ns ≡ false → spelled bs ≡ Ok (record { signals = h.signals; ceiling = h.ceiling; nodes = ns })
  unfolding answer
  spelled_whole b = read ∙ ap answer b
