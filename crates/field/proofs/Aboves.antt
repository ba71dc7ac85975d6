-- The first of some numbers that is above a limit, as a rule that turns away.
use Rattle.std.proofs.Common.{◌≡◌, ℕ, ◌<◌, ◌≤◌, List, length, get_or, Ok, Err, sym}
use Rattle.std.specs.Prelude.{nat_le}
use Rattle.std.proofs.lemmas.Bool.{le-leb, lt-leb}
use Rattle.field.specs.Firsts.{Tried, must, first}
use Rattle.field.proofs.Firsts.{first_at, first_none, must_pass, must_stop}

-- of each number, that it is no higher than the limit
abbrev pub above_rule : {E : Type 0} → List ℕ → (most : ℕ) → (ℕ → E) → ℕ → Tried E
above_rule xs most e k = must (nat_le (get_or xs k 0) most) (e k)

pub above_refused :
    {E : Type 0} (xs : List ℕ) (most k : ℕ) (e : ℕ → E) →
    (k < length xs) × (most < get_or xs k 0) × ((j : ℕ) → j < k → get_or xs j 0 ≤ most) →
    Err (e k) ≡ first (above_rule xs most e) (length xs)
above_refused xs most k e h =
    first_at (above_rule xs most e) (length xs) k (e k) (λ j l. must_pass _ _ (le-leb _ _ (h.2 j l))) (must_stop _ _ (lt-leb _ _ h.1)) h.0

pub above_passed :
    {E : Type 0} (xs : List ℕ) (most : ℕ) (e : ℕ → E) → ((j : ℕ) → j < length xs → get_or xs j 0 ≤ most) → Ok tt ≡ first (above_rule xs most e) (length xs)
above_passed xs most e h = sym (first_none (above_rule xs most e) (length xs) (λ j l. must_pass _ _ (le-leb _ _ (h j l))))
