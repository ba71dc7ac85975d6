-- What flows out of each place less what flows in, as one signed number. Assumes nothing: these are definitions.
use Rattle.std.specs.Prelude.{◌≡◌, ℕ, suc, ◌+◌, ◌*◌, ◌≤◌, Bool, List, ℤ, pos, negsuc, ◌+ℤ◌, ◌-ℤ◌, nat_le, slice_index_or, slice_set}
use Rattle.theory.specs.Nets.{Flows}
use Rattle.theory.specs.Fields.{Side, Field}
use Rattle.theory.specs.Sheets.{out_by, into_by}
use Rattle.field.specs.Limits.{most_sides, most_price}

-- so for each place, with the first n sides counted; each side adds at most its price at each of its two ends
pub record Counted (f : Field) (x : Flows) (n : ℕ) (balance : List ℤ) : Type 0 where
  pub exact : (i : ℕ) → slice_index_or balance i (pos 0) +ℤ pos (into_by f x n i) ≡ pos (out_by f x n i)
  pub few_out : (i : ℕ) → out_by f x n i ≤ n * (2 * most_price)
  pub few_into : (i : ℕ) → into_by f x n i ≤ n * (2 * most_price)

-- so no place has more than this
abbrev pub most_flow : ℕ
most_flow = most_sides * (2 * most_price)

-- balances after what flows out of a place and what flows in are counted there
abbrev pub counted_at : List ℤ → (p out into : ℕ) → List ℤ
counted_at xs p out into = slice_set xs p ((slice_index_or xs p (pos 0) +ℤ pos out) -ℤ pos into)

-- and after the flows of a side, a there and b back, are counted at both its ends
abbrev pub both_counted : List ℤ → Side → (a b : ℕ) → List ℤ
both_counted xs s a b = counted_at (counted_at xs s.first a b) s.second b a

-- with a balance z counted, the value a at the cost c is no dearer than the value b at the cost d
abbrev pub balanced_test : ℤ → (c a d b : ℕ) → Bool
balanced_test (pos n) c a d b = nat_le (c + n * a) (d + n * b)
balanced_test (negsuc n) c a d b = nat_le (c + suc n * b) (d + suc n * a)

-- a value that a place can have, with what it costs there
abbrev pub IsPriced : Field → ℕ → (value cost : ℕ) → Type 0
IsPriced f i v c = (v ≤ f.top) × (c ≡ f.cost i v)
