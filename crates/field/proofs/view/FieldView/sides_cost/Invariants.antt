use Rattle.std.proofs.Common.{◌≡◌, ◌*◌, ◌≤◌}
use Rattle.theory.specs.Sums.{sum}
use Rattle.theory.specs.Fields.{side_cost}
use Rattle.field.specs.Limits.{most_side_cost}
use Rattle.field.specs.Given.{side_in, picture_in}
use Rattle.field.proofs.view.FieldView.sides_cost.Given as goal

abbrev pub invariant-loop-side : goal.invariant-loop-side
invariant-loop-side l =
    (goal.iterator-loop-side).can_next l.side-iterator × (goal.iterator-loop-side).is_finite l.side-iterator
    × (l.side-iterator.numbers.now ≡ l.self.sides.now)
    × (l.cost ≡ sum l.side-iterator.next (λ k. side_cost (side_in l.self.sides.now k) (picture_in l.picture)))
    × (l.cost ≤ l.side-iterator.next * most_side_cost)
