-- What is turned away: rules in a fixed order, of which the first that applies is the answer. Assumes nothing: these are definitions.
use Rattle.std.specs.Prelude.{ℕ, suc, ◌+◌, ◌-◌, ◌*◌, ◌%◌, Bool, true, ◌&&◌, ◌||◌, List, length, Some, None, Option, ◌==◌, nat_le, nat_lt, slice_index}
use Rattle.theory.specs.Fields.{Side}
use Rattle.word.specs.declared.refusal.Refusal.{Refusal}
use Rattle.word.specs.declared.refusal.Refusal.TheVariants.{Places, Top, CostsLength, SidesLength, PictureLength, FlowsLength, CostTooHigh, SideOutOfRange, NotConvex, ValueTooHigh}
use Rattle.field.specs.declared.rooms.Rooms.{Rooms}
use Rattle.field.specs.Limits.{most_places, most_top, most_sides, most_cost, most_price}
use Rattle.field.specs.Given.{cost_in, side_in, sides_of}
use Rattle.field.specs.Firsts.{Tried, must, and_then, first}

-- taken, or turned away
abbrev pub Verdict : Type 0
Verdict = Tried Refusal

-- 1: how many places, and the highest value
abbrev pub sizes : ℕ → ℕ → Verdict
sizes places top =
    and_then (must (nat_le 1 places && nat_le places most_places) Places) (must (nat_le 1 top && nat_le top most_top) Top)

-- 2: how many costs and sides
abbrev pub lengths : ℕ → ℕ → (costs sides : List ℕ) → Verdict
lengths places top costs sides =
    and_then (must (length costs == places * suc top) CostsLength)
    (must (length sides % 3 == 0 && nat_le (sides_of sides) most_sides) SidesLength)

-- 3: how much room, where any is lent
abbrev pub fits : Option ℕ → ℕ → Bool
fits None n = true
fits (Some m) n = m == n

abbrev pub rooms_fit : ℕ → (sides : List ℕ) → Rooms → Verdict
rooms_fit places sides rooms =
    and_then (must (fits rooms.picture places) PictureLength)
    (must (fits rooms.flows (2 * sides_of sides)) FlowsLength)

-- 4: a cost, a side
abbrev pub cost_rule : List ℕ → ℕ → Verdict
cost_rule costs k = must (nat_le (slice_index costs k) most_cost) (CostTooHigh k)

abbrev pub side_test : ℕ → Side → Bool
side_test places s = (nat_lt s.first places && nat_lt s.second places) && nat_le s.price most_price

abbrev pub side_rule : ℕ → ℕ → List ℕ → ℕ → Verdict
side_rule places count sides k = must (side_test places (side_in sides k)) (SideOutOfRange count k)

-- 5: costs of a place, at a value; 0 and the top have no value on one side
abbrev pub convex_test : (ℕ → ℕ) → ℕ → Bool
convex_test cost v = v == 0 || nat_le (2 * cost v) (cost (v - 1) + cost (v + 1))

abbrev pub convex_rule : ℕ → (ℕ → ℕ) → ℕ → Verdict
convex_rule i cost v = must (convex_test cost v) (NotConvex i v)

abbrev pub convex_place : ℕ → List ℕ → ℕ → Verdict
convex_place top costs i = first (convex_rule i (cost_in top costs i)) top

-- 6: a value of a picture
abbrev pub value_rule : ℕ → List ℕ → ℕ → Verdict
value_rule top picture i = must (nat_le (slice_index picture i) top) (ValueTooHigh i)

-- rules 3 to 5, of numbers of which there are as many as a field wants, and the rooms lent with them
abbrev pub fits_looked_at : ℕ → ℕ → (costs sides : List ℕ) → Rooms → Verdict
fits_looked_at places top costs sides rooms =
    and_then (rooms_fit places sides rooms)
    (and_then (first (cost_rule costs) (length costs))
    (and_then (first (side_rule places (length costs) sides) (sides_of sides))
    (first (convex_place top costs) places)))

-- rules 1 to 5, of a field and the rooms lent with it
abbrev pub verdict : ℕ → ℕ → (costs sides : List ℕ) → Rooms → Verdict
verdict places top costs sides rooms =
    and_then (sizes places top) (and_then (lengths places top costs sides) (fits_looked_at places top costs sides rooms))

-- rule 6, of a picture
abbrev pub values_fit : ℕ → List ℕ → Verdict
values_fit top picture = first (value_rule top picture) (length picture)
