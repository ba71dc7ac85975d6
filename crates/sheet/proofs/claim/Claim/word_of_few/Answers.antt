use Rattle.std.proofs.Common.{◌≤◌, ℤ, pos, arith}
use Rattle.field.proofs.Rows.{front_of_equals, same_everywhere}
use Rattle.sheet.specs.declared.verdict.TheConstants.{FEW_PLACES}
use Rattle.sheet.proofs.claim.Claim.word_of_few.Goals as goal

-- a part from the start of zeros is zeros
pub judge-requires-clause-blank : goal.judge-requires-clause-blank
judge-requires-clause-blank c =
    let n = c.args.self.field.places in
    let within : n ≤ FEW_PLACES = omega (arith, c.requires) in
    λ i. rw (front_of_equals {A = ℤ} FEW_PLACES n (pos 0) within) (same_everywhere {A = ℤ} n i (pos 0))
