use Rattle.std.proofs.Common.{ℕ, ◌+◌, ◌*◌, ◌≤◌, length, add-one, ◌∙◌, arith}
use Rattle.field.proofs.Rows.{front_of_equals, front_long, same_everywhere}
use Rattle.graph.specs.Few.{few_places, few_sides}
use Rattle.choice.proofs.work.Work.solve_few.Goals as goal

pub solve_in-requires-clause-roomy : goal.solve_in-requires-clause-roomy
solve_in-requires-clause-roomy c =
    let n : ℕ = c.args.self.now.field.places in
    let m : ℕ = length c.args.flows.now in
    let arcs : m ≤ 2 * few_sides = omega (arith, c.requires.flows, c.requires.sides) in
    let places : n + 1 ≤ few_places + 1 = omega (arith, c.requires.places) in
    record {
      arcs = front_long (2 * few_sides) m _ arcs ∙ c.requires.flows;
      starts = front_long {A = ℕ} (few_places + 1) (n + 1) 0 places ∙ add-one n;
      blank = λ i. rw (front_of_equals {A = ℕ} (few_places + 1) (n + 1) 0 places) (same_everywhere {A = ℕ} (n + 1) i 0);
      order = front_long {A = ℕ} (2 * few_sides) m 0 arcs ∙ c.requires.flows;
    }
