use Rattle.sva.proofs.Depends.{match_same}
use Rattle.sva.proofs.laws.match_reads.Goals as goal

pub returns : goal.returns
returns c = λ a τ υ. match_same τ υ a
