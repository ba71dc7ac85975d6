use Rattle.std.proofs.Common.{rules}
use Rattle.theory.proofs.Sheets.{one_sheet}
use Rattle.theory.proofs.one_sheet_holds.Goals as goal

pub returns : goal.returns
returns c = search (rules, one_sheet)
