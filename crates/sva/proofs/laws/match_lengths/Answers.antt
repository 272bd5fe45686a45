use Rattle.sva.proofs.Bounds.{bounds}
use Rattle.sva.proofs.laws.match_lengths.Goals as goal

pub returns : goal.returns
returns c = bounds
