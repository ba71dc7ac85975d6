-- What holds of lent numbers that are taken, for every place, value and side. Assumes nothing: these are definitions.
use Rattle.std.specs.Prelude.{◌≡◌, ℕ, suc, ◌+◌, ◌*◌, ◌<◌, ◌≤◌, List, length, slice_index}
use Rattle.field.specs.Limits.{most_places, most_top, most_sides, most_cost, most_price, most_costs}
use Rattle.field.specs.Given.{cost_in, side_in, sides_of}

-- so many places and values
pub record Sized (places top : ℕ) : Type 0 where
  pub some : 1 ≤ places
  pub few : places ≤ most_places
  pub tall : 1 ≤ top
  pub low : top ≤ most_top

-- a cost for each place and value, and three numbers a side
pub record Laid (places top : ℕ) (costs sides : List ℕ) : Type 0 where
  pub each : length costs ≡ places * suc top
  pub light : length costs ≤ most_costs
  pub threes : length sides ≡ 3 * sides_of sides
  pub scarce : sides_of sides ≤ most_sides

-- each cost within its limit
abbrev pub Cheap : List ℕ → Type 0
Cheap costs = (k : ℕ) → slice_index costs k ≤ most_cost

-- each side from a place to a place, at a price within its limit
abbrev pub Starts : ℕ → List ℕ → Type 0
Starts places sides = (k : ℕ) → k < sides_of sides → (side_in sides k).first < places

abbrev pub Ends : ℕ → List ℕ → Type 0
Ends places sides = (k : ℕ) → k < sides_of sides → (side_in sides k).second < places

abbrev pub Priced : List ℕ → Type 0
Priced sides = (k : ℕ) → k < sides_of sides → (side_in sides k).price ≤ most_price

-- the costs of each place convex
abbrev pub Convex : ℕ → ℕ → List ℕ → Type 0
Convex places top costs =
    (i v : ℕ) → i < places → suc (suc v) ≤ top →
    cost_in top costs i (suc v) + cost_in top costs i (suc v) ≤ cost_in top costs i v + cost_in top costs i (suc (suc v))

-- all of it
pub record Taken (places top : ℕ) (costs sides : List ℕ) : Type 0 where
  pub sized : Sized places top
  pub laid : Laid places top costs sides
  pub cheap : Cheap costs
  pub starts : Starts places sides
  pub ends : Ends places sides
  pub priced : Priced sides
  pub convex : Convex places top costs
