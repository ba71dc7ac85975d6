use Rattle.std.proofs.Common.{◌≡◌, ℕ, true, arith}
use Rattle.std.specs.Iterator.Adapters.{zip_first}
use Rattle.theory.specs.Nets.{Flows}
use Rattle.theory.specs.Sheets.{TightAt, tight_at}
use Rattle.theory.specs.Fields.{Field}
use Rattle.theory.specs.Pictures.{Picture}
use Rattle.theory.proofs.Sheets.{tight_by}
use Rattle.field.proofs.Firsts.{first_more, first_here, must_pass, must_stop}
use Rattle.sheet.specs.Claimed.{claim_field, claim_picture, claim_flows}
use Rattle.sheet.specs.Words.{side_rule}
use Rattle.sheet.proofs.Balances.{counted_more}
use Rattle.sheet.proofs.Rules.{side_met, met_tested}
use Rattle.sheet.proofs.claim.Claim.sides_hold.Goals as goal

pub sides-preserved : goal.sides-preserved
sides-preserved c =
    let f : Field = claim_field c.args.self.now in
    let u : Picture = claim_picture c.args.self.now in
    let x : Flows = claim_flows c.args.self.now in
    let given = c.sides.invariant in
    let k : ℕ = (zip_first c.sides.k-iterator).next in
    let comes = c.in-Some.ensures.steps.0 in
    let flow = c.of-flow.ensures in
    let met = side_met c.args.self.now _ _ _ _ _ _ _ _ _ _ given.numbers comes c.in-Some.ensures.steps.1 given.pairs flow.side flow.there flow.back in
    let passes : tight_at f u x k ≡ true = met_tested c.args.self.now k _ _ _ _ _ _ met c.if-not-holds.ensures in
    let tight : TightAt f u x k = tight_by _ u _ _ passes in
    let starts = c.args.self.now.field.taken.starts k met.some in
    let ends = c.args.self.now.field.taken.ends k met.some in
    let counted =
    counted_more f x k c.sides.balance c.carry.new.balance _ _ _ met.side met.there_is met.back_is
    (omega (arith, starts)) (omega (arith, ends)) (omega (arith, tight.there_within, c.args.self.now.field.taken.priced k met.some))
    (omega (arith, tight.back_within, c.args.self.now.field.taken.priced k met.some)) c.carry.ensures given.counted in
    record {
      can_next = (tt, tt);
      finite = tt;
      verdict = given.verdict;
      numbers = rw comes.numbers given.numbers;
      left = omega (arith, given.left, met.long, comes.after);
      pairs = rw comes.after met.others;
      hold = rw comes.after (first_more (side_rule f u x) k given.hold (must_pass _ _ passes));
      counted = rw comes.after counted;
    }

pub returns-then-not-holds-clause-answer : goal.returns-then-not-holds-clause-answer
returns-then-not-holds-clause-answer c =
    let f : Field = claim_field c.args.self.now in
    let u : Picture = claim_picture c.args.self.now in
    let x : Flows = claim_flows c.args.self.now in
    let given = c.sides.invariant in
    let k : ℕ = (zip_first c.sides.k-iterator).next in
    let comes = c.in-Some.ensures.steps.0 in
    let flow = c.of-flow.ensures in
    let met = side_met c.args.self.now _ _ _ _ _ _ _ _ _ _ given.numbers comes c.in-Some.ensures.steps.1 given.pairs flow.side flow.there flow.back in
    let stops = met_tested c.args.self.now k _ _ _ _ _ _ met c.if-not-holds.ensures in
    rw comes.number (first_here (side_rule f u x) k f.sides _ given.hold (must_stop _ _ stops) met.some)
