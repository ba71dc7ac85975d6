use Rattle.std.proofs.Common.{rules}
use Rattle.theory.proofs.Table.{table_shown}
use Rattle.theory.proofs.table_holds.Goals as goal

pub returns : goal.returns
returns c = search (rules, table_shown)
