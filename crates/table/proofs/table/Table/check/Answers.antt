use Rattle.table.proofs.Exact.{exactly}
use Rattle.table.proofs.table.Table.check.Goals as goal

pub returns-in_err-self-clause-exactly : goal.returns-in_err-self-clause-exactly
returns-in_err-self-clause-exactly c = exactly c.args.bytes.now

pub returns-clause-exactly : goal.returns-clause-exactly
returns-clause-exactly c = exactly c.args.bytes.now
