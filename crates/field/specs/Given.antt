-- The field that lent numbers stand for, costs place by place, sides as three numbers each; and pictures and flows. Assumes nothing: these are definitions.
use Rattle.std.specs.Prelude.{ℕ, suc, ◌+◌, ◌*◌, ◌/◌, List, length, slice_index}
use Rattle.theory.specs.Pictures.{Picture}
use Rattle.theory.specs.Nets.{Flows}
use Rattle.theory.specs.Fields.{Side, Field}

-- what a value costs at a place
abbrev pub cost_in : ℕ → List ℕ → ℕ → ℕ → ℕ
cost_in top costs i v = slice_index costs (i * suc top + v)

abbrev pub side_in : List ℕ → ℕ → Side
side_in sides k = record { first = slice_index sides (3 * k); second = slice_index sides (3 * k + 1); price = slice_index sides (3 * k + 2) }

-- how many sides
abbrev pub sides_of : List ℕ → ℕ
sides_of sides = length sides / 3

abbrev pub field_in : ℕ → ℕ → (costs sides : List ℕ) → Field
field_in places top costs sides = record { places = places; top = top; cost = cost_in top costs; sides = sides_of sides; side = side_in sides }

-- the picture that a list of values stands for
abbrev pub picture_in : List ℕ → Picture
picture_in xs i = slice_index xs i

-- the flows that a list stands for, two numbers a side: there and back
abbrev pub flows_in : List ℕ → Flows
flows_in xs e = slice_index xs e
