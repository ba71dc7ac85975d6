-- Nets cross, and read their own places only.
use Rattle.std.proofs.Common.{◌≡◌, ℕ, zero, suc, ◌+◌, ◌-◌, ◌*◌, ◌<◌, ◌≤◌, min, max, ◌⊎◌, ap, inl, inr, mul-le-mul_left, arith}
use Rattle.std.proofs.lemmas.Bool.{cases_lt}
use Rattle.theory.specs.Sums.{sum}
use Rattle.theory.specs.Pictures.{Picture, Within, meet, join}
use Rattle.theory.specs.Nets.{Arc, Net, Inside, gap, arc_costs, net_total}
use Rattle.theory.proofs.Sums.{sum_same, sum_cross}
use Rattle.theory.proofs.Lattice.{Crosses}
use Rattle.theory.proofs.Minimise.{Reads}

-- the gap of the lower values and that of the higher ones are together no larger
gap_cross : (a b c d o : ℕ) → ((min a b - min c d) - o) + ((max a b - max c d) - o) ≤ ((a - c) - o) + ((b - d) - o)
gap_cross a b c d o = grind arith

arc_cross : (p a b c d o : ℕ) → p * ((min a b - min c d) - o) + p * ((max a b - max c d) - o) ≤ p * ((a - c) - o) + p * ((b - d) - o)
arc_cross p a b c d o = omega (arith, mul-le-mul_left p (gap_cross a b c d o))

-- a second way to cost values, by which each step up costs no more than by the first
abbrev pub Gentler : (n top : ℕ) (c d : ℕ → ℕ → ℕ) → Type 0
Gentler n top c d = (i a : ℕ) → i < n → suc a ≤ top → d i (suc a) + c i a ≤ c i (suc a) + d i a

-- so for several steps at once
climb : (c d : ℕ → ℕ) (top a k : ℕ) → ((b : ℕ) → suc b ≤ top → d (suc b) + c b ≤ c (suc b) + d b) → k + a ≤ top → d (k + a) + c a ≤ c (k + a) + d a
climb c d top a zero h l = let e : 0 + a ≡ a = omega arith in rw e (omega arith)
climb c d top a (suc k) h l =
    let e : suc k + a ≡ suc (k + a) = omega arith in
    rw e (omega (arith, climb c d top a k h (omega arith), h (k + a) (omega arith)))

value_cross_by : (c d : ℕ → ℕ) (top a b : ℕ) → ((b : ℕ) → suc b ≤ top → d (suc b) + c b ≤ c (suc b) + d b) → a ≤ top → (b < a) ⊎ (a ≤ b) → c (min a b) + d (max a b) ≤ c a + d b
value_cross_by c d top a b h l (inl m) =
    let low : min a b ≡ b = omega arith in
    let high : max a b ≡ (a - b) + b = omega arith in
    let e : (a - b) + b ≡ a = omega arith in
    rw (low, high) (omega (arith, climb c d top b (a - b) h (omega arith), ap c e))
value_cross_by c d top a b h l (inr m) =
    let low : min a b ≡ a = omega arith in
    let high : max a b ≡ b = omega arith in
    rw (low, high) (omega arith)

-- nets that differ in costs only
pub nets_cross :
    (net : Net) (d : ℕ → ℕ → ℕ) → Gentler net.places net.top net.cost d →
    Crosses (Within net.places net.top) (net_total net) (λ u. sum net.places (λ i. d i (u i)) + arc_costs net u)
nets_cross net d gentler u v p q =
    omega (
      arith,
      sum_cross net.places (λ i. net.cost i (meet u v i)) (λ i. d i (join u v i)) (λ i. net.cost i (u i)) (λ i. d i (v i))
          (λ i l. value_cross_by (net.cost i) (d i) net.top (u i) (v i) (λ b. gentler i b l) (p i l) (cases_lt (v i) (u i))),
      sum_cross net.arcs (λ e. (net.arc e).price * gap (net.arc e) (meet u v)) (λ e. (net.arc e).price * gap (net.arc e) (join u v))
          (λ e. (net.arc e).price * gap (net.arc e) u) (λ e. (net.arc e).price * gap (net.arc e) v)
          (λ e l. arc_cross (net.arc e).price (u (net.arc e).from) (v (net.arc e).from) (u (net.arc e).to) (v (net.arc e).to) (net.arc e).offset),
    )

gap_same : (a : Arc) (u v : Picture) → u a.from ≡ v a.from → u a.to ≡ v a.to → a.price * gap a u ≡ a.price * gap a v
gap_same a u v e f = rw (e, f)

pub net_reads : (net : Net) → Inside net → Reads net.places (net_total net)
net_reads net inside u v h =
    omega (
      arith,
      sum_same net.places (λ i. net.cost i (u i)) (λ i. net.cost i (v i)) (λ i l. ap (net.cost i) (h i l)),
      sum_same net.arcs (λ e. (net.arc e).price * gap (net.arc e) u) (λ e. (net.arc e).price * gap (net.arc e) v)
          (λ e l. gap_same (net.arc e) u v (h (net.arc e).from (inside e l).0) (h (net.arc e).to (inside e l).1)),
    )
