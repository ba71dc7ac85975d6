use Rattle.theory.specs.Fields.{Field}
use Rattle.theory.specs.Nets.{Flows}
use Rattle.theory.specs.Pictures.{Picture}
use Rattle.field.specs.Given.{picture_in, flows_in}
use Rattle.field.specs.Rules.{Verdict}
use Rattle.sheet.specs.Given.{lent_field, lent_fits}
use Rattle.sheet.specs.Words.{Answer}
use Rattle.sheet.proofs.Words.{said_answer, answer_sheet, taken_cheapest}
use Rattle.sheet.proofs.verdict.check.Goals as goal

pub returns : goal.returns
returns c =
    let a = c.args in
    let f : Field = lent_field a.lent in
    let u : Picture = picture_in a.picture.now in
    let x : Flows = flows_in a.flows.now in
    let t : Verdict = lent_fits a.lent a.picture.now a.flows.now in
    let answer : Answer t f u x c.answer.result = said_answer f u x t c.answer.result c.answer.ensures in
    record {
      answer = answer;
      cheapest =
          λ accepted.
          let s = answer_sheet f u x t c.answer.result answer accepted in
          taken_cheapest a.lent.places a.lent.top a.lent.costs.now a.lent.sides.now a.picture.now a.flows.now s.0 s.1;
    }
