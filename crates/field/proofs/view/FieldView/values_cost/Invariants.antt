use Rattle.std.proofs.Common.{◌≡◌, ◌*◌, ◌≤◌}
use Rattle.theory.specs.Sums.{sum}
use Rattle.field.specs.Limits.{most_cost}
use Rattle.field.specs.Given.{cost_in, picture_in}
use Rattle.field.proofs.view.FieldView.values_cost.Given as goal

abbrev pub invariant-loop-place : goal.invariant-loop-place
invariant-loop-place l =
    (l.cost ≡ sum l.place (λ i. cost_in l.self.top l.self.costs.now i (picture_in l.picture i))) × (l.cost ≤ l.place * most_cost)
