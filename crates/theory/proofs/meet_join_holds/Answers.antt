use Rattle.std.proofs.Common.{rules}
use Rattle.theory.proofs.Fields.{meet_join}
use Rattle.theory.proofs.meet_join_holds.Goals as goal

pub returns : goal.returns
returns c = search (rules, meet_join)
