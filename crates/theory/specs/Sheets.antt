-- Sheets: flows along the sides of a field by which one sees that a picture is cheapest. Assumes nothing: these are definitions.
use Rattle.std.specs.Prelude.{◌≡◌, ℕ, ◌+◌, ◌*◌, ◌<◌, ◌≤◌, Bool, cond, ◌&&◌, ◌==◌, nat_le, nat_lt}
use Rattle.theory.specs.Sums.{sum}
use Rattle.theory.specs.Pictures.{Picture}
use Rattle.theory.specs.Nets.{Flows, NoDearer, no_dearer_test}
use Rattle.theory.specs.Fields.{Side, Field}

-- the flows of side k are those of its two arcs: there, from its first place to its second, and back
abbrev pub there : Flows → ℕ → ℕ
there x k = x (2 * k)

abbrev pub back : Flows → ℕ → ℕ
back x k = x (2 * k + 1)

-- what a side has at a place: a where it is the first place, b where it is the second, both where the side joins a place with itself
abbrev pub at_ends : Side → (a b : ℕ) → ℕ → ℕ
at_ends s a b i = cond (s.first == i) a 0 + cond (s.second == i) b 0

-- what flows out of a place and into it along the first n sides, and along all of them
abbrev pub out_by : Field → Flows → ℕ → ℕ → ℕ
out_by f x n i = sum n (λ k. at_ends (f.side k) (there x k) (back x k) i)

abbrev pub into_by : Field → Flows → ℕ → ℕ → ℕ
into_by f x n i = sum n (λ k. at_ends (f.side k) (back x k) (there x k) i)

abbrev pub out_of : Field → Flows → ℕ → ℕ
out_of f x i = out_by f x f.sides i

abbrev pub into : Field → Flows → ℕ → ℕ
into f x i = into_by f x f.sides i

-- the rule of a side with flows a there and b back: each within the price; full from the higher place to the lower, with nothing back
pub record Tight (s : Side) (u : Picture) (a b : ℕ) : Type 0 where
  pub there_within : a ≤ s.price
  pub back_within : b ≤ s.price
  pub falls : u s.second < u s.first → (a ≡ s.price) × (b ≡ 0)
  pub rises : u s.first < u s.second → (b ≡ s.price) × (a ≡ 0)

-- the rule of a side as a test
abbrev pub tight_test : Side → Picture → (a b : ℕ) → Bool
tight_test s u a b =
    cond (nat_lt (u s.second) (u s.first)) (a == s.price && b == 0)
    (cond (nat_lt (u s.first) (u s.second)) (b == s.price && a == 0)
    (nat_le a s.price && nat_le b s.price))

-- the rules at side k, and at place i against the value v
abbrev pub TightAt : Field → Picture → Flows → ℕ → Type 0
TightAt f u x k = Tight (f.side k) u (there x k) (back x k)

abbrev pub BestAt : Field → Picture → Flows → ℕ → ℕ → Type 0
BestAt f u x i v = NoDearer (f.cost i) (out_of f x i) (into f x i) (u i) v

abbrev pub tight_at : Field → Picture → Flows → ℕ → Bool
tight_at f u x k = tight_test (f.side k) u (there x k) (back x k)

abbrev pub best_at : Field → Picture → Flows → ℕ → ℕ → Bool
best_at f u x i v = no_dearer_test (f.cost i) (out_of f x i) (into f x i) (u i) v

-- a sheet for a picture: the rule holds at each side, and at each place against every value
pub record Sheet (f : Field) (u : Picture) (x : Flows) : Type 0 where
  pub tight : (k : ℕ) → k < f.sides → TightAt f u x k
  pub best : (i v : ℕ) → i < f.places → v ≤ f.top → BestAt f u x i v
