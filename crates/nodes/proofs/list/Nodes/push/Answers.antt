use Rattle.std.proofs.Common.{refl, ◌∙◌, arith, length-set}
use Rattle.std.proofs.lemmas.Result.{err_from_is_err_and}
use Rattle.nodes.proofs.Held.{push_refused, grown}
use Rattle.nodes.proofs.list.Nodes.push.Goals as goal

pub returns-in_err-facts : goal.returns-in_err-facts
returns-in_err-facts c =
    let t = c.args.self.now in
    let p = err_from_is_err_and c.from_residual.result c.from_residual.ensures.1 in
    rw (p.1, p.2)
    (push_refused t c.args.node c.if-self-ge32.false _ c.in_err-facts.ensures, refl)

pub invariant_of-self : goal.invariant_of-self
invariant_of-self c =
    let t = c.args.self.now in
    let f = c.in_ok-facts.facts in
    let g = grown t c.args.node f c.if-self-ge32.false c.in_ok-facts.ensures in
    let places = t.places in
    let e = c.max-self.ensures in
    let near = g.near in
    record {
      places = simp length-set places;
      room = omega arith;
      listed = g.listed;
      kept = g.kept;
      right = g.right;
      widest = e ∙ g.widest;
      near = omega arith;
    }

pub returns : goal.returns
returns c =
    let t = c.args.self.now in
    let f = c.in_ok-facts.facts in
    let g = grown t c.args.node f c.if-self-ge32.false c.in_ok-facts.ensures in
    (g.pushed, refl)
