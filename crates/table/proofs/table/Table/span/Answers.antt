use Rattle.table.proofs.Spanned.{suffices}
use Rattle.table.proofs.table.Table.span.Goals as goal

pub returns-clause-suffices : goal.returns-clause-suffices
returns-clause-suffices c = suffices c.args.self.now c.args.start
