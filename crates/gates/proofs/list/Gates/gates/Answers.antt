use Rattle.std.proofs.Common.{ap, ◌∙◌}
use Rattle.gates.specs.Graph.{ordered}
use Rattle.gates.proofs.Truths.{is_graph}
use Rattle.gates.proofs.list.Gates.gates.Goals as goal

pub returns-clause-graph : goal.returns-clause-graph
returns-clause-graph c = is_graph _ (ap ordered c.as_slice.ensures.value ∙ c.args.self.now.order)
