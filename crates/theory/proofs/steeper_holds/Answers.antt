use Rattle.std.proofs.Common.{rules}
use Rattle.theory.proofs.Fields.{steeper, steeper_lowest}
use Rattle.theory.proofs.steeper_holds.Goals as goal

pub returns : goal.returns
returns c = search (rules, steeper, steeper_lowest)
