use Rattle.domain.proofs.Examples.{examples}
use Rattle.domain.proofs.laws.contract_examples.Goals as goal

pub returns : goal.returns
returns c = examples
