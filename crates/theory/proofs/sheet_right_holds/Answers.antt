use Rattle.std.proofs.Common.{rules}
use Rattle.theory.proofs.Sheets.{sheet_right}
use Rattle.theory.proofs.sheet_right_holds.Goals as goal

pub returns : goal.returns
returns c = search (rules, sheet_right)
