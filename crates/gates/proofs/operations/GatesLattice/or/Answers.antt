use Rattle.std.proofs.Common.{rules}
use Rattle.gates.proofs.operations.GatesLattice.or.Goals as goal

pub returns-clause-answer : goal.returns-clause-answer
returns-clause-answer c = record {
  allowed = search rules;
  denotes = record { issued = search rules; truth = search rules };
  grown = c.in_ok-nor.ensures.answer.grown;
}
