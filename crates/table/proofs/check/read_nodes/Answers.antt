use Rattle.std.proofs.Common.{◌≡◌, ℕ, List, Ok, Err, sym, refl, ap, ◌∙◌, subst, arith}
use Rattle.std.proofs.lemmas.Result.{err_from_is_err_and}
use Rattle.fault.specs.Refusals.{table_refusal}
use Rattle.nodes.specs.Format.{node_from}
use Rattle.nodes.specs.declared.node.Node.{Node}
use Rattle.nodes.specs.Lists.{node_list, pushed}
use Rattle.table.specs.Contents.{nodes_upto}
use Rattle.table.proofs.Reading.{upto_unread, upto_pushed, upto_refused}
use Rattle.table.proofs.check.read_nodes.Goals as goal

pub loop-i-init : goal.loop-i-init
unfolding nodes_upto
loop-i-init c = (ap Ok (sym c.new-nodes.ensures.nodes), refl)

pub returns-in_err-node : goal.returns-in_err-node
returns-in_err-node c =
    let bs = c.args.bytes.now in
    let h = c.args.header in
    let i = c.loop-i.i in
    let p = err_from_is_err_and c.from_residual.result c.from_residual.ensures.1 in
    let P : ℕ → Type 0 = λ s. nodes_upto bs s h.count ≡ Err (table_refusal c.in_err-node.field-0.0) in
    rw (p.1, p.2)
    (subst P c.new-nodes.ensures.signals
    (upto_unread bs c.new-nodes.result.signals i h.count _ _ c.loop-i.invariant.0 (c.in_err-node.ensures ∙ ap (node_from i) c.node_bytes.ensures) (omega arith)))

pub returns-in_err-push : goal.returns-in_err-push
returns-in_err-push c =
    let bs = c.args.bytes.now in
    let h = c.args.header in
    let i = c.loop-i.i in
    let ns = node_list c.loop-i.nodes in
    let n = c.in_ok-node.node in
    let r = table_refusal c.in_err-push.field-0.0 in
    let p = err_from_is_err_and c.from_residual-in_err-push.result c.from_residual-in_err-push.ensures.1 in
    let P : ℕ → Type 0 = λ s. nodes_upto bs s h.count ≡ Err r in
    let Q : ℕ → Type 0 = λ s. pushed s ns n ≡ Err r in
    rw (p.1, p.2)
    (subst P c.new-nodes.ensures.signals
    (upto_refused bs c.new-nodes.result.signals i h.count ns n r c.loop-i.invariant.0 (c.in_ok-node.ensures ∙ ap (node_from i) c.node_bytes.ensures)
    (subst Q c.loop-i.invariant.1 c.in_err-push.ensures.0) (omega arith)))

pub loop-i-preserved : goal.loop-i-preserved
loop-i-preserved c =
    let bs = c.args.bytes.now in
    let i = c.loop-i.i in
    let ns = node_list c.loop-i.nodes in
    let n = c.in_ok-node.node in
    let e = c.in_ok-push.ensures in
    let Q : ℕ → Type 0 = λ s. pushed s ns n ≡ Ok (node_list c.push.new.self) in (
      upto_pushed bs c.new-nodes.result.signals i ns n c.loop-i.invariant.0 (c.in_ok-node.ensures ∙ ap (node_from i) c.node_bytes.ensures)
          ∙ subst Q c.loop-i.invariant.1 e.0,
      e.1 ∙ c.loop-i.invariant.1,
    )

-- the loop came to the end
ended : (bs : List ℕ) (s t i k : ℕ) (ns : List Node) → s ≡ t → i ≡ k → nodes_upto bs s i ≡ Ok ns → nodes_upto bs t k ≡ Ok ns
ended bs s t i k ns e f u = sym (ap (λ (x : ℕ). nodes_upto bs x k) e) ∙ sym (ap (nodes_upto bs s) f) ∙ u

pub returns : goal.returns
returns c =
    let h = c.args.header in
    let s = c.new-nodes.ensures.signals in
    (ended c.args.bytes.now c.new-nodes.result.signals h.signals c.loop-i.i h.count _ s (omega arith) c.loop-i.invariant.0, c.loop-i.invariant.1 ∙ s)
