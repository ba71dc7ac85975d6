use Rattle.std.proofs.Common.{◌≡◌, Ok, sym}
use Rattle.field.proofs.Aboves.{above_refused, above_passed}
use Rattle.field.proofs.Verdicts.{values_taken}
use Rattle.field.specs.Rules.{values_fit}
use Rattle.word.specs.declared.refusal.Refusal.TheVariants.{ValueTooHigh}
use Rattle.field.proofs.view.FieldView.values_fit.Goals as goal

pub returns-in-Some-clause-answer : goal.returns-in-Some-clause-answer
returns-in-Some-clause-answer c = above_refused c.args.picture.now c.args.self.now.top c.in-Some.place ValueTooHigh c.in-Some.ensures

all : (c : goal.In-None) → Ok tt ≡ values_fit c.args.self.now.top c.args.picture.now
all c = above_passed c.args.picture.now c.args.self.now.top ValueTooHigh c.in-None.ensures

pub returns-in-None-clause-answer : goal.returns-in-None-clause-answer
returns-in-None-clause-answer c = all c

pub returns-in-None-clause-taken : goal.returns-in-None-clause-taken
returns-in-None-clause-taken c = values_taken c.args.self.now.top c.args.picture.now (sym (all c))
