use Rattle.field.proofs.Aboves.{above_refused, above_passed}
use Rattle.field.specs.Limits.{most_cost}
use Rattle.word.specs.declared.refusal.Refusal.TheVariants.{CostTooHigh}
use Rattle.field.proofs.measured.Measured.costs_fit.Goals as goal

pub returns-in-Some : goal.returns-in-Some
returns-in-Some c = above_refused c.args.self.now.costs.now most_cost c.in-Some.k CostTooHigh c.in-Some.ensures

pub returns-in-None : goal.returns-in-None
returns-in-None c = above_passed c.args.self.now.costs.now most_cost CostTooHigh c.in-None.ensures
