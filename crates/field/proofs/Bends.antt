-- Three costs side by side, and the rule of convex costs.
use Rattle.std.proofs.Common.{◌≡◌, ℕ, suc, ◌+◌, ◌*◌, ◌<◌, ◌≤◌, false, List, get_or, Ok, Err, sym, arith}
use Rattle.std.proofs.lemmas.Bool.Decides.{nat_tests}
use Rattle.word.specs.declared.refusal.Refusal.TheVariants.{NotConvex}
use Rattle.field.specs.Firsts.{first}
use Rattle.field.specs.Rules.{convex_test, convex_rule, convex_place}
use Rattle.field.proofs.Firsts.{first_at, first_none, first_same, must_stop}
use Rattle.field.specs.Given.{cost_in}
use Rattle.field.proofs.Rows.{rule_same}
use Rattle.field.proofs.Verdicts.{convex_passes}

-- the middle cost is no higher than half way between the other two, of which the first is that of value v
abbrev pub Straight : (ℕ → ℕ) → ℕ → Type 0
Straight c v = 2 * c (v + 1) ≤ c v + c (v + 2)

passes : (i : ℕ) (c : ℕ → ℕ) (v : ℕ) → ((w : ℕ) → w + 1 ≡ v → Straight c w) → convex_rule i c v ≡ Ok tt
passes i c v h =
    convex_passes i c v
    (λ w e.
    let one : w + 1 ≡ suc w = omega arith in
    let two : w + 2 ≡ suc (suc w) = omega arith in
    let straight : Straight c w = h w (omega (arith, e)) in
    let s = rw (one, two) at straight in
    omega (arith, s))

pub bend_refused :
    (i top k : ℕ) (c : ℕ → ℕ) → k + 2 < top + 1 → c k + c (k + 2) < 2 * c (k + 1) → ((v : ℕ) → v < k → Straight c v) →
    Err (NotConvex i (k + 1)) ≡ first (convex_rule i c) top
bend_refused i top k c l high straight =
    let stops : convex_test c (k + 1) ≡ false = grind (arith, nat_tests) in
    first_at (convex_rule i c) top (k + 1) _ (λ j m. passes i c j (λ w e. straight w (omega arith))) (must_stop _ _ stops) (omega arith)

pub bend_passed : (i top : ℕ) (c : ℕ → ℕ) → ((v : ℕ) → v + 2 < top + 1 → Straight c v) → Ok tt ≡ first (convex_rule i c) top
bend_passed i top c straight = sym (first_none (convex_rule i c) top (λ j m. passes i c j (λ w e. straight w (omega arith))))

-- the costs that are looked at are those of the place
pub same_row :
    (top i : ℕ) (all row : List ℕ) → ((v : ℕ) → v ≤ top → get_or row v 0 ≡ cost_in top all i v) →
    first (convex_rule i (λ v. get_or row v 0)) top ≡ convex_place top all i
same_row top i all row each = first_same _ _ top (rule_same i (λ v. get_or row v 0) (cost_in top all i) top each)
