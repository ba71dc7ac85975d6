use Rattle.std.proofs.Common.{◌≡◌, ℕ, ◌≤◌, length, add-one, arith}
use Rattle.theory.proofs.Sums.{sum_more}
use Rattle.field.specs.Limits.{most_cost}
use Rattle.field.specs.Given.{cost_in, picture_in}
use Rattle.field.proofs.Rows.{row_within}
use Rattle.field.proofs.view.FieldView.values_cost.Goals as goal

pub bounds-self-place : goal.bounds-self-place
bounds-self-place c =
    let row = row_within c.loop-place.place c.args.self.now.places c.args.self.now.top (length c.args.self.now.costs.now) (omega arith) c.args.self.now.taken.laid.each in
    omega (arith, c.requires.low c.loop-place.place)

pub loop-place-preserved : goal.loop-place-preserved
loop-place-preserved c =
    let cost : ℕ → ℕ = λ i. cost_in c.args.self.now.top c.args.self.now.costs.now i (picture_in c.args.picture.now i) in
    let here : c.from-cost.result ≡ cost c.loop-place.place = rw (← add-one) c.from-cost.ensures in
    let cheap : c.from-cost.result ≤ most_cost = rw c.from-cost.ensures (c.args.self.now.taken.cheap _) in
    sum_more cost c.loop-place.place c.loop-place.cost c.from-cost.result most_cost c.loop-place.invariant.0 here
    c.loop-place.invariant.1 cheap
