use Rattle.std.proofs.Common.{◌≡◌, ◌<◌, ◌≤◌, ap, arith}
use Rattle.theory.specs.Pictures.{Picture}
use Rattle.theory.specs.Fields.{side_cost}
use Rattle.theory.proofs.Sums.{sum_more}
use Rattle.field.specs.Limits.{most_price, most_side_cost}
use Rattle.field.specs.Given.{sides_of, side_in, picture_in}
use Rattle.field.specs.Viewed.{side_of}
use Rattle.field.proofs.Rows.{steps_small, read_cost}
use Rattle.field.proofs.view.FieldView.sides_cost.Goals as goal

side : (c : goal.After-cost-cost) → side_of c.in-Some.side ≡ side_in c.args.self.now.sides.now c.loop-side.side-iterator.next
side c = rw (← c.loop-side.invariant.2) c.in-Some.ensures.steps.side

small : (c : goal.After-cost-cost) → c.cost-cost.result ≤ most_side_cost
small c =
    let price : c.in-Some.side.price ≤ most_price =
    rw (ap (λ s. s.price) (side c)) (c.args.self.now.taken.priced c.loop-side.side-iterator.next (rw (← c.loop-side.invariant.2) c.in-Some.ensures.steps.some)) in
    rw c.cost-cost.ensures (steps_small _ _ _ price (c.requires.low c.in-Some.side.first) (c.requires.low c.in-Some.side.second))

pub overflow_add-cost : goal.overflow_add-cost
overflow_add-cost c =
    let some : c.loop-side.side-iterator.next < sides_of c.args.self.now.sides.now = rw (← c.loop-side.invariant.2) c.in-Some.ensures.steps.some in
    omega (arith, small c, some, c.args.self.now.taken.laid.scarce)

pub loop-side-preserved : goal.loop-side-preserved
loop-side-preserved c =
    let step = c.in-Some.ensures.steps in
    let u : Picture = picture_in c.args.picture.now in
    let here = read_cost c.in-Some.side _ u c.cost-cost.result (side c) c.cost-cost.ensures in
    let more = sum_more (λ k. side_cost (side_in c.args.self.now.sides.now k) u) c.loop-side.side-iterator.next c.loop-side.cost c.cost-cost.result most_side_cost c.loop-side.invariant.3 here
    c.loop-side.invariant.4 (small c) in
    (tt, tt, rw step.numbers c.loop-side.invariant.2, rw step.after more.0, rw step.after more.1)

pub returns : goal.returns
returns c =
    let all : c.loop-side.side-iterator.next ≡ sides_of c.args.self.now.sides.now = rw (← c.loop-side.invariant.2) c.in-None.ensures.steps.all in
    record { sum = rw (← all) c.loop-side.invariant.3; small = omega (arith, c.loop-side.invariant.4, all, c.args.self.now.taken.laid.scarce) }
