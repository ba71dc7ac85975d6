-- Fields, what a picture of a field costs, and which pictures are cheapest. Assumes nothing: these are definitions.
use Rattle.std.specs.Prelude.{ℕ, suc, ◌+◌, ◌-◌, ◌*◌, ◌/◌, ◌%◌, ◌<◌, ◌≤◌, Bool, true, false, ◌==◌}
use Rattle.theory.specs.Sums.{sum}
use Rattle.theory.specs.Pictures.{Picture, Within, Least, Undermost}
use Rattle.theory.specs.Nets.{Arc, Net}

-- a side joins two places, and has a price for each step between their values
pub record Side : Type 0 where
  pub first : ℕ
  pub second : ℕ
  pub price : ℕ

-- a field: how many places, the highest value that a place can have, what each value costs at each place, and its sides, numbered from 0
pub record Field : Type 0 where
  pub places : ℕ
  pub top : ℕ
  pub cost : ℕ → ℕ → ℕ
  pub sides : ℕ
  pub side : ℕ → Side

-- each side joins two places of the field, and the costs of each place are convex: no step up costs less than the step before it
pub record Sound (f : Field) : Type 0 where
  pub inside : (k : ℕ) → k < f.sides → ((f.side k).first < f.places) × ((f.side k).second < f.places)
  pub convex : (i v : ℕ) → i < f.places → suc (suc v) ≤ f.top → f.cost i (suc v) + f.cost i (suc v) ≤ f.cost i v + f.cost i (suc (suc v))

-- a picture of the field: each place has a value up to the top
abbrev pub Of : Field → Picture → Type 0
Of f u = Within f.places f.top u

-- how far two values are apart
abbrev pub apart : ℕ → ℕ → ℕ
apart a b = (a - b) + (b - a)

-- what the values of the places cost, what a side costs and all sides, and what a picture costs
abbrev pub value_costs : Field → Picture → ℕ
value_costs f u = sum f.places (λ i. f.cost i (u i))

abbrev pub side_cost : Side → Picture → ℕ
side_cost s u = s.price * apart (u s.first) (u s.second)

abbrev pub side_costs : Field → Picture → ℕ
side_costs f u = sum f.sides (λ k. side_cost (f.side k) u)

abbrev pub total : Field → Picture → ℕ
total f u = value_costs f u + side_costs f u

-- none costs less
abbrev pub Cheapest : Field → Picture → Type 0
Cheapest f u = Least (Of f) (total f) u

-- none costs less, and no other that costs as little is lower anywhere
abbrev pub Lowest : Field → Picture → Type 0
Lowest f u = Undermost f.places (Of f) (total f) u

-- the two directions of a side: arc 2k of a field's net leads from the first place of side k to its second, arc 2k + 1 back
abbrev pub direction : Bool → Side → Arc
direction true s = record { from = s.first; to = s.second; offset = 0; price = s.price }
direction false s = record { from = s.second; to = s.first; offset = 0; price = s.price }

abbrev pub net_of : Field → Net
net_of f =
    record {
      places = f.places;
      top = f.top;
      cost = f.cost;
      arcs = 2 * f.sides;
      arc = λ e. direction (e % 2 == 0) (f.side (e / 2));
    }
