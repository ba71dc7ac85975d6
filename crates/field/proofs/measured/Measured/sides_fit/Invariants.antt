use Rattle.std.proofs.Common.{◌≡◌, length, Ok}
use Rattle.field.specs.Firsts.{first}
use Rattle.field.specs.Rules.{side_rule}
use Rattle.field.proofs.measured.Measured.sides_fit.Given as goal

abbrev pub invariant-loop-k : goal.invariant-loop-k
invariant-loop-k l =
    (goal.iterator-loop-k).can_next l.k-iterator × (goal.iterator-loop-k).is_finite l.k-iterator
    × (l.k-iterator.numbers.now ≡ l.self.sides.now)
    × (first (side_rule l.self.places (length l.self.costs.now) l.self.sides.now) l.k-iterator.next ≡ Ok tt)
