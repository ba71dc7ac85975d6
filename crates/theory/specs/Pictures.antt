-- Pictures, and which of them cost least, for any way to say what a picture costs. Assumes nothing: these are definitions.
use Rattle.std.specs.Prelude.{ℕ, ◌<◌, ◌≤◌, min, max}

-- a value for each place; what it gives to numbers that are no places is of no account
abbrev pub Picture : Type 0
Picture = ℕ → ℕ

-- the first n places have values up to the top
abbrev pub Within : ℕ → ℕ → Picture → Type 0
Within n top u = (i : ℕ) → i < n → u i ≤ top

-- the lower values of two pictures, place by place, and the higher ones
abbrev pub meet : Picture → Picture → Picture
meet u v i = min (u i) (v i)

abbrev pub join : Picture → Picture → Picture
join u v i = max (u i) (v i)

-- among the pictures that P allows none costs less than u; K says what a picture costs
pub record Least (P : Picture → Type 0) (K : Picture → ℕ) (u : Picture) : Type 0 where
  pub of : P u
  pub least : (v : Picture) → P v → K u ≤ K v

-- and of those that cost as little none is lower anywhere on the first n places
pub record Undermost (n : ℕ) (P : Picture → Type 0) (K : Picture → ℕ) (u : Picture) : Type 0 where
  pub cheapest : Least P K u
  pub under : (v : Picture) → Least P K v → (i : ℕ) → i < n → u i ≤ v i
