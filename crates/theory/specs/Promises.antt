-- What is promised of fields, in parts from which the contracts are put together. Assumes nothing: these are definitions.
use Rattle.std.specs.Prelude.{◌≡◌, ℕ, suc, ◌+◌, ◌<◌, ◌≤◌}
use Rattle.theory.specs.Pictures.{Picture, meet, join}
use Rattle.theory.specs.Fields.{Field, Cheapest, Lowest}

-- the lower values of two pictures, place by place, make a cheapest picture, and so do the higher ones
abbrev pub BothCheapest : Field → Picture → Picture → Type 0
BothCheapest f u v = Cheapest f (meet u v) × Cheapest f (join u v)

-- two fields that differ in costs only, and in the second each step up costs no more
pub record StepsUp (f g : Field) : Type 0 where
  pub places : g.places ≡ f.places
  pub top : g.top ≡ f.top
  pub sides : g.sides ≡ f.sides
  pub side : (k : ℕ) → k < f.sides → g.side k ≡ f.side k
  pub step : (i a : ℕ) → i < f.places → suc a ≤ f.top → g.cost i (suc a) + f.cost i a ≤ f.cost i (suc a) + g.cost i a

-- a lowest picture of the first field is nowhere higher than any cheapest one of the second
abbrev pub UnderCheapest : Field → Field → Type 0
UnderCheapest f g = (u v : Picture) → Lowest f u → Cheapest g v → (i : ℕ) → i < f.places → u i ≤ v i

-- nor than a lowest one
abbrev pub UnderLowest : Field → Field → Type 0
UnderLowest f g = (u v : Picture) → Lowest f u → Lowest g v → (i : ℕ) → i < f.places → u i ≤ v i
