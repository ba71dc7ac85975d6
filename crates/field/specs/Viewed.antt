-- The field that a view stands for, and one place's costs in it. Assumes nothing: these are definitions.
use Rattle.std.specs.Prelude.{◌≡◌, ℕ, ◌<◌, ◌≤◌, List, length, slice_index}
use Rattle.theory.specs.Fields.{Side, Field}
use Rattle.field.specs.declared.view.FieldView.{FieldView}
use Rattle.field.specs.declared.side as read
use Rattle.field.specs.Given.{field_in}

abbrev pub field_of : FieldView → Field
field_of f = field_in f.places f.top f.costs.now f.sides.now

-- the side that a side read from lent numbers stands for
abbrev pub side_of : read.Side.Side → Side
side_of s = record { first = s.first; second = s.second; price = s.price }

-- a place's costs by value, with 0 past the top
pub record RowOf (f : Field) (place : ℕ) (row : List ℕ) : Type 0 where
  pub size : length row ≡ 256
  pub each : (v : ℕ) → v ≤ f.top → slice_index row v ≡ f.cost place v
  pub past : (v : ℕ) → f.top < v → slice_index row v ≡ 0
