use Rattle.sva.proofs.Decides.{decides}
use Rattle.sva.proofs.laws.tests_decide.Goals as goal

pub returns : goal.returns
returns c = decides
