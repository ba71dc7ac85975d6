use Rattle.std.proofs.Common.{rules}
use Rattle.theory.proofs.Fields.{existence}
use Rattle.theory.proofs.existence_holds.Goals as goal

pub returns : goal.returns
returns c = search (rules, existence)
