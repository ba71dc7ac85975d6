-- The limits of a field. Assumes nothing: these are definitions.
use Rattle.std.specs.Prelude.{ℕ, suc, ◌*◌}

abbrev pub most_places : ℕ
most_places = 65536

abbrev pub most_top : ℕ
most_top = 255

abbrev pub most_sides : ℕ
most_sides = 262144

abbrev pub most_cost : ℕ
most_cost = 1000000000

-- for each step
abbrev pub most_price : ℕ
most_price = 1000000

-- a cost for each place and value
abbrev pub most_costs : ℕ
most_costs = most_places * suc most_top

-- what a side costs from the bottom to the top
abbrev pub most_side_cost : ℕ
most_side_cost = most_price * most_top
