use Rattle.std.proofs.Common.{rules}
use Rattle.theory.proofs.Levels.{cut_sheet, cut_lowest}
use Rattle.theory.proofs.least_cut_holds.Goals as goal

pub returns : goal.returns
returns c = search (rules, cut_sheet, cut_lowest)
