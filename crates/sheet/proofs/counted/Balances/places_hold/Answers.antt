use Rattle.std.proofs.Common.{suc, sym, arith}
use Rattle.theory.specs.Nets.{Flows}
use Rattle.theory.specs.Fields.{Field}
use Rattle.theory.specs.Pictures.{Picture}
use Rattle.field.proofs.Firsts.{first_here, must_stop}
use Rattle.sheet.specs.Claimed.{claim_field, claim_picture, claim_flows}
use Rattle.sheet.specs.Words.{value_rule, place_rule}
use Rattle.sheet.proofs.counted.Balances.places_hold.Goals as goal

pub returns-then-not-value_holds : goal.returns-then-not-value_holds
returns-then-not-value_holds c =
    let f : Field = claim_field c.args.self.now.claim in
    let u : Picture = claim_picture c.args.self.now.claim in
    let x : Flows = claim_flows c.args.self.now.claim in
    let stops = must_stop _ _ (sym c.if-not-value_holds.ensures) in
    let here = first_here (value_rule f u x c.places.place) c.loop-other.other (suc f.top) _ c.loop-other.invariant.1 stops (omega arith) in
    first_here (place_rule f u x) c.places.place f.places _ c.places.invariant.1 (sym here) (omega arith)
