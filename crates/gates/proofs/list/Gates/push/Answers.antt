use Rattle.std.proofs.Common.{false, ap, ◌∙◌, arith}
use Rattle.gates.specs.Lists.{output}
use Rattle.gates.proofs.Truths.{ordered_push, pushed}
use Rattle.gates.proofs.list.Gates.push.Goals as goal

pub invariant_of-self-clause-order : goal.invariant_of-self-clause-order
invariant_of-self-clause-order c =
    let place = c.in_ok-place.ensures in
    ordered_push _ _ c.args.gate c.push_reserved.ensures.items c.args.self.now.order place.known

pub returns-clause-answer : goal.returns-clause-answer
returns-clause-answer c =
    let place = c.in_ok-place.ensures in
    let put = c.push_reserved.ensures in
    let literal = c.from.ensures ∙ ap (λ i. output i false) place.next in
    pushed _ _ c.args.gate _ _ _ place.known put.items put.capacity literal (omega arith)
