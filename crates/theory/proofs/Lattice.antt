-- The lower and the higher values of two pictures, for any costs of pictures that cross: K of the meet and L of the join cost no more than K of the one and L of the other.
use Rattle.std.proofs.Common.{ℕ, ◌+◌, ◌<◌, ◌≤◌, arith}
use Rattle.theory.specs.Pictures.{Picture, Within, meet, join, Least, Undermost}

-- for every two pictures that P allows
abbrev pub Crosses : (Picture → Type 0) → (K L : Picture → ℕ) → Type 0
Crosses P K L = (u v : Picture) → P u → P v → K (meet u v) + L (join u v) ≤ K u + L v

-- what P allows is kept by meet and join
pub record Closed (P : Picture → Type 0) : Type 0 where
  pub lower : (u v : Picture) → P u → P v → P (meet u v)
  pub higher : (u v : Picture) → P u → P v → P (join u v)

pub within_closed : (n top : ℕ) → Closed (Within n top)
within_closed n top =
    record {
      lower = λ u v p q i l. omega (arith, p i l);
      higher = λ u v p q i l. omega (arith, p i l, q i l);
    }

module _ (P : Picture → Type 0) (K L : Picture → ℕ) (closed : Closed P) (crosses : Crosses P K L) (u v : Picture) (p : Least P K u) (q : Least P L v) where
  pub meet_least : Least P K (meet u v)
  meet_least =
      record {
        of = closed.lower u v p.of q.of;
        least = λ w r. omega (arith, crosses u v p.of q.of, q.least (join u v) (closed.higher u v p.of q.of), p.least w r);
      }

  pub join_least : Least P L (join u v)
  join_least =
      record {
        of = closed.higher u v p.of q.of;
        least = λ w r. omega (arith, crosses u v p.of q.of, p.least (meet u v) (closed.lower u v p.of q.of), q.least w r);
      }

-- the lowest of the one is nowhere higher than any cheapest one of the other
pub under_all :
    (n : ℕ) (P : Picture → Type 0) (K L : Picture → ℕ) → Closed P → Crosses P K L → (u v : Picture) → Undermost n P K u → Least P L v → (i : ℕ) → i < n → u i ≤ v i
under_all n P K L closed crosses u v p q i l =
    omega (arith, p.under (meet u v) (meet_least P K L closed crosses u v p.cheapest q) i l)
