-- Which sides come, in which order. Assumes nothing: these are definitions.
use Rattle.std.specs.Prelude.{◌≡◌, ℕ, ◌+◌, ◌-◌, ◌<◌, List, Some, None, Option, slice_index}
use Rattle.std.specs.Iterator.{Count, at_most}
use Rattle.field.specs.declared.side as read
use Rattle.field.specs.declared.sides.Sides.{Sides}
use Rattle.field.specs.Given.{side_in, sides_of}
use Rattle.field.specs.Viewed.{side_of}

-- the side that three numbers are
pub record IsRead (numbers : List ℕ) (r : read.Side.Side) : Type 0 where
  pub first : r.first ≡ slice_index numbers 0
  pub second : r.second ≡ slice_index numbers 1
  pub price : r.price ≡ slice_index numbers 2

-- the next side comes, with its number
pub record Comes (s t : Sides) (k : ℕ) (r : read.Side.Side) : Type 0 where
  pub numbers : t.numbers ≡ s.numbers
  pub some : s.next < sides_of s.numbers.now
  pub number : k ≡ s.next
  pub side : side_of r ≡ side_in s.numbers.now s.next
  pub after : t.next ≡ s.next + 1

-- all have come
pub record NoneLeft (s t : Sides) : Type 0 where
  pub all : s.next ≡ sides_of s.numbers.now
  pub same : t ≡ s

abbrev pub GivesNext : Sides → Option (ℕ × read.Side.Side) → Sides → Type 0
GivesNext s None t = NoneLeft s t
GivesNext s (Some x) t = Comes s t x.0 x.1

-- so many are left
abbrev pub still_to_come : Sides → Count
still_to_come s = at_most (sides_of s.numbers.now - s.next)
