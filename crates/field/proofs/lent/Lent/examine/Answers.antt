use Rattle.std.proofs.Common.{sym, ◌∙◌}
use Rattle.field.proofs.Verdicts.{looked_taken, not_looked}
use Rattle.field.proofs.lent.Lent.examine.Goals as goal

pub invariant_of-result : goal.invariant_of-result
invariant_of-result c =
    let m = c.in_ok-measured.measured in
    record { taken = looked_taken m.places m.top m.costs.now m.sides.now c.args.rooms m.sized m.laid (sym c.fits.ensures ∙ c.in_ok-fits.was) }

pub returns-in_err-fits-clause-complete : goal.returns-in_err-fits-clause-complete
returns-in_err-fits-clause-complete c t fit =
    let m = c.in_ok-measured.ensures in
    let given = c.args.self.now in
    let fits = rw (m.places, m.top, m.costs, m.sides) at c.fits.ensures in
    absurd (not_looked given.places given.top given.costs.now given.sides.now c.args.rooms _ t fit (sym fits ∙ c.in_err-fits.was))
