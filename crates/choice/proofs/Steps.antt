-- Steps that are laid down place by place, from two costs each.
use Rattle.std.proofs.Common.{◌≡◌, ℕ, suc, ◌<◌, List, [], ◌∷◌, ◌++◌, length, get_or, ℤ, pos, ◌-ℤ◌, sym, ap, ◌∙◌, inl, inr, arith}
use Rattle.std.proofs.lemmas.List.{get_or_push}
use Rattle.std.proofs.lemmas.Bool.{cases_eq}
use Rattle.std.proofs.Math.ListN.{get_or-append}
use Rattle.field.specs.Given.{cost_in}

-- what yes costs at a place less what no costs
abbrev pub step_of : List ℕ → ℕ → ℤ
step_of costs i = pos (cost_in 1 costs i 1) -ℤ pos (cost_in 1 costs i 0)

-- a step more
pub steps_more :
    (costs : List ℕ) (steps more : List ℤ) (step : ℤ) (k : ℕ) → more ≡ steps ++ step ∷ [] → length steps ≡ k → step ≡ step_of costs k →
    ((i : ℕ) → i < k → get_or steps i (pos 0) ≡ step_of costs i) → (i : ℕ) → i < suc k → get_or more i (pos 0) ≡ step_of costs i
steps_more costs steps more step k e long here before i l =
    elim (cases_eq i k) [
      | inl same ↦ ap (λ xs. get_or xs i (pos 0)) e ∙ get_or_push steps step (pos 0) i (long ∙ sym same) ∙ here ∙ ap (step_of costs) (sym same)
      | inr other ↦ ap (λ xs. get_or xs i (pos 0)) e ∙ get_or-append steps (step ∷ []) (pos 0) i (omega arith) ∙ before i (omega arith)
    ]
