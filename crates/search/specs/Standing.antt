-- How a search keeps what it has reached. Assumes nothing: these are definitions.
use Rattle.std.specs.Prelude.{◌≡◌, ℕ, ◌<◌, ◌≤◌, List, length, slice_index, slice_index_or}
use Rattle.search.specs.declared.reached.Reached.{Reached}

-- what stands past the last place that was reached
abbrev pub none_reached : Reached
none_reached = record { place = 0; arc = 0; amount = 0 }

-- the k-th place that was reached
abbrev pub place_in : List Reached → ℕ → ℕ
place_in reached k = (slice_index_or reached k none_reached).place

-- the places that were reached are places, no more than there are, and each slot says where its place stands
pub record Standing (n : ℕ) (reached : List Reached) (places : List ℕ) : Type 0 where
  pub few : length reached ≤ n
  pub inside : (k : ℕ) → k < length reached → place_in reached k < n
  pub slots : (k : ℕ) → k < length reached → slice_index places (place_in reached k) ≡ k

-- there is room for every place that has a slot, and only such places were reached
pub record Kept (reached : List Reached) (capacity : ℕ) (slots : List ℕ) : Type 0 where
  pub room : length slots ≤ capacity
  pub ordered : Standing (length slots) reached slots
