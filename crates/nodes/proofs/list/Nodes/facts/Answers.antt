use Rattle.std.proofs.Common.{arith}
use Rattle.std.proofs.lemmas.Grind.{common_steps}
use Rattle.nodes.proofs.Held.{facts_there}
use Rattle.nodes.proofs.list.Nodes.facts.Goals as goal

pub returns-clause-value : goal.returns-clause-value
returns-clause-value c = rw (facts_there c.args.self.now c.args.i) (grind (arith, common_steps))
