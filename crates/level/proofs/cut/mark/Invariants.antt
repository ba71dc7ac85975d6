use Rattle.std.proofs.Common.{◌≡◌, ℕ, ◌<◌, ◌≢◌, get_or}
use Rattle.search.specs.Standing.{place_in}
use Rattle.level.proofs.cut.mark.Given as goal

abbrev pub invariant-loop-reached : goal.invariant-loop-reached
invariant-loop-reached l =
    ((j : ℕ) → j < l.reached-index → get_or l.marks (place_in l.reached-items j) 0 ≡ l.yes)
    × ((i : ℕ) → ((j : ℕ) → j < l.reached-index → place_in l.reached-items j ≢ i) → get_or l.marks i 0 ≡ get_or l.initial.marks i 0)
