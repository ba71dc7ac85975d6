use Rattle.std.proofs.Common.{◌≡◌, get_or, ℤ, pos, refl, sym, arith, w64, to_z, of_z}
use Rattle.std.proofs.lemmas.Int.{ints}
use Rattle.sheet.specs.Claimed.{claim_field, claim_picture, claim_flows}
use Rattle.sheet.proofs.Rules.{value_tested}
use Rattle.sheet.proofs.counted.Balances.value_holds.Goals as goal

pub returns : goal.returns
returns c =
    let a = c.args in
    let z : ℤ = get_or a.self.now.numbers.now a.place (pos 0) in
    let exact = a.self.now.counted.exact a.place in
    let read : to_z w64 (of_z w64 z) ≡ z = omega (arith, ints, exact, a.self.now.counted.few_out a.place, a.self.now.counted.few_into a.place) in
    sym (value_tested (claim_field a.self.now.claim) (claim_picture a.self.now.claim) (claim_flows a.self.now.claim) a.place a.other.value _ z _ _ _ _ _ read
    exact c.requires.value refl (let cost = rw c.requires.value at c.requires.here.1 in cost) c.requires.other.1 c.no_dearer.ensures)
