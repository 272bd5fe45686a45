use Rattle.sva.proofs.Depends.{same}
use Rattle.sva.proofs.laws.span_suffices.Goals as goal

pub returns : goal.returns
returns c = λ p s τ υ. same τ υ p s
