use Rattle.std.proofs.Common.{rules}
use Rattle.theory.proofs.Fields.{total_net}
use Rattle.theory.proofs.same_total_holds.Goals as goal

pub returns : goal.returns
returns c = search (rules, total_net)
