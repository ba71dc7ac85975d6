use Rattle.std.proofs.Common.{◌≡◌, length, true, false, sym}
use Rattle.field.specs.Given.{sides_of, side_in}
use Rattle.field.specs.Rules.{side_test, side_rule}
use Rattle.field.proofs.Firsts.{first_more, first_here, must_pass, must_stop}
use Rattle.field.proofs.measured.Measured.sides_fit.Goals as goal

pub returns-then-not-fits : goal.returns-then-not-fits
returns-then-not-fits c =
    let step = c.in-Some.ensures.steps in
    let told = c.if-not-fits.ensures in
    let numbers = c.loop-k.invariant.2 in
    let stops : side_test c.args.self.now.places (side_in c.args.self.now.sides.now c.loop-k.k-iterator.next) ≡ false = cc in
    rw step.number
    (first_here (side_rule c.args.self.now.places (length c.args.self.now.costs.now) c.args.self.now.sides.now) c.loop-k.k-iterator.next
    (sides_of c.args.self.now.sides.now) _ c.loop-k.invariant.3 (must_stop _ _ stops) (rw (← numbers) step.some))

pub loop-k-preserved : goal.loop-k-preserved
loop-k-preserved c =
    let step = c.in-Some.ensures.steps in
    let told = c.if-not-fits.ensures in
    let numbers = c.loop-k.invariant.2 in
    let passes : side_test c.args.self.now.places (side_in c.args.self.now.sides.now c.loop-k.k-iterator.next) ≡ true = cc in (
      tt,
      tt,
      rw step.numbers numbers,
      rw step.after
          (first_more (side_rule c.args.self.now.places (length c.args.self.now.costs.now) c.args.self.now.sides.now) _ c.loop-k.invariant.3 (must_pass _ _ passes)),
    )

pub returns : goal.returns
returns c =
    let numbers = c.loop-k.invariant.2 in
    let all : c.loop-k.k-iterator.next ≡ sides_of c.args.self.now.sides.now = rw (← numbers) c.in-None.ensures.steps.all in
    sym (rw all at c.loop-k.invariant.3)
