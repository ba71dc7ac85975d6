use Rattle.std.proofs.Common.{◌≡◌, Ok}
use Rattle.field.specs.Firsts.{first}
use Rattle.sheet.specs.Claimed.{claim_field, claim_picture, claim_flows}
use Rattle.sheet.specs.Words.{value_rule, place_rule}
use Rattle.sheet.proofs.counted.Balances.places_hold.Given as goal

abbrev pub invariant-places : goal.invariant-places
invariant-places l =
    (l.verdict ≡ Ok tt)
    × (first (place_rule (claim_field l.self.claim) (claim_picture l.self.claim) (claim_flows l.self.claim)) l.place ≡ Ok tt)

abbrev pub invariant-loop-other : goal.invariant-loop-other
invariant-loop-other l =
    (l.verdict ≡ Ok tt)
    × (first (value_rule (claim_field l.self.claim) (claim_picture l.self.claim) (claim_flows l.self.claim) l.place) l.other ≡ Ok tt)
