use Rattle.std.proofs.Common.{rules}
use Rattle.theory.proofs.Sheets.{sheet_certificate, certificate_sheet}
use Rattle.theory.proofs.sheet_net_holds.Goals as goal

pub returns : goal.returns
returns c = search (rules, sheet_certificate, certificate_sheet)
