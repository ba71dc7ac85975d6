-- Flows that make a certificate show that a picture of a net is cheapest, and one certificate does for all cheapest pictures.
use Rattle.std.proofs.Common.{◌≡◌, ℕ, ◌+◌, ◌-◌, ◌*◌, ◌<◌, ◌≤◌, ◌⊎◌, ap, inl, inr, mul-le-mul_right, mul-le-mul_left, arith}
use native.Mathlib.Nat.{mul-lt-mul_of_pos_left, eq_of_mul-eq-mul_right}
use Rattle.std.proofs.lemmas.Bool.{cases_lt}
use Rattle.theory.specs.Sums.{sum}
use Rattle.theory.specs.Pictures.{Picture, Within, Least}
use Rattle.theory.specs.Nets.{Arc, Net, Inside, gap, arc_costs, net_total, Flows, carried, net_out, net_into, NoDearer, Certificate}
use Rattle.theory.proofs.Sums.{sum_same, sum_le, sum_tight, sum_add_three, sum_exchange}

-- what flows by the chosen end, weighed by place: place by place as arc by arc
pub exchange :
    (end : Arc → ℕ) (net : Net) (x : Flows) (w : ℕ → ℕ) → ((e : ℕ) → e < net.arcs → end (net.arc e) < net.places) →
    sum net.places (λ i. carried end net x i * w i) ≡ sum net.arcs (λ e. x e * w (end (net.arc e)))
exchange end net x w inside = sum_exchange net.places net.arcs (λ e. end (net.arc e)) x w inside

-- a flow x up to the price p is worth no more at the first end, of value a, than the charge and its worth at the second, of value b, with the offset o
arc_above : (p x a b o : ℕ) → x ≤ p → x * a ≤ p * ((a - b) - o) + x * b + x * o
arc_above p x a b o h =
    let d : ℕ = (a - b) - o in
    let r : a ≤ d + b + o = omega arith in
    omega (arith, mul-le-mul_left x r, mul-le-mul_right d h)

-- it is worth as much where it is the price on a charged arc and nothing on a slack one
arc_even_by :
    (p x a b o : ℕ) → (b + o < a → x ≡ p) → (a < b + o → x ≡ 0) → (b + o < a) ⊎ (a ≤ b + o) → (a < b + o) ⊎ (b + o ≤ a) →
    x * a ≡ p * ((a - b) - o) + x * b + x * o
arc_even_by p x a b o full empty (inl m) s =
    let d : ℕ = (a - b) - o in
    let e : a ≡ d + b + o = omega arith in
    let f : x ≡ p = full m in
    omega (arith, ap (λ y. x * y) e, ap (λ y. y * d) f)
arc_even_by p x a b o full empty (inr m) (inl s) =
    let e : x ≡ 0 = empty s in
    let d : (a - b) - o ≡ 0 = omega arith in
    rw (e, d) (omega arith)
arc_even_by p x a b o full empty (inr m) (inr s) =
    let e : a ≡ b + o = omega arith in
    let d : (a - b) - o ≡ 0 = omega arith in
    rw d (omega (arith, ap (λ y. x * y) e))

-- and only there
arc_full : (p x a b o : ℕ) → x * a ≡ p * ((a - b) - o) + x * b + x * o → b + o < a → x ≡ p
arc_full p x a b o h m =
    let d : ℕ = (a - b) - o in
    let e : a ≡ d + b + o = omega arith in
    eq_of_mul-eq-mul_right d (omega arith) x p (omega (arith, ap (λ y. x * y) e))

arc_empty_by : (x a b o : ℕ) → x * a ≡ x * b + x * o → a < b + o → (0 < x) ⊎ (x ≤ 0) → x ≡ 0
arc_empty_by x a b o h m (inl l) = absurd (let k = mul-lt-mul_of_pos_left m l in omega arith)
arc_empty_by x a b o h m (inr l) = omega arith

arc_empty : (p x a b o : ℕ) → x * a ≡ p * ((a - b) - o) + x * b + x * o → a < b + o → x ≡ 0
arc_empty p x a b o h m =
    let d : (a - b) - o ≡ 0 = omega arith in
    arc_empty_by x a b o (omega (arith, rw d at h)) m (cases_lt 0 x)

-- of two values that cost the same with flows counted, the second is no dearer than c if the first is
no_dearer_same :
    (cost : ℕ → ℕ) (out into a b c : ℕ) → cost a + out * a + into * b ≡ cost b + out * b + into * a →
    NoDearer cost out into a c → NoDearer cost out into b c
no_dearer_same cost out into a b c e h = omega arith

module _ (net : Net) (u : Picture) (x : Flows) (inside : Inside net) (p : Within net.places net.top u) (c : Certificate net u x) where
  -- what a place costs with the flows counted, those out of it by its value in v and those into it by its value in w
  abbrev place : Picture → Picture → ℕ → ℕ
  place v w i = net.cost i (v i) + net_out net x i * v i + net_into net x i * w i

  -- what the flow of an arc is worth at its first end, and at its second with the charge and the offset
  abbrev worth : Picture → ℕ → ℕ
  worth v e = x e * v (net.arc e).from

  abbrev charged : Picture → ℕ → ℕ
  charged v e = (net.arc e).price * gap (net.arc e) v + x e * v (net.arc e).to + x e * (net.arc e).offset

  places_sum :
      (v w : Picture) →
      sum net.places (place v w) ≡ sum net.places (λ i. net.cost i (v i)) + sum net.arcs (worth v) + sum net.arcs (λ e. x e * w (net.arc e).to)
  places_sum v w =
      omega (
        arith,
        sum_add_three net.places (λ i. net.cost i (v i)) (λ i. net_out net x i * v i) (λ i. net_into net x i * w i),
        exchange (λ a. a.from) net x v (λ e l. (inside e l).0),
        exchange (λ a. a.to) net x w (λ e l. (inside e l).1),
      )

  charged_sum :
      (v : Picture) →
      sum net.arcs (charged v) ≡ arc_costs net v + sum net.arcs (λ e. x e * v (net.arc e).to) + sum net.arcs (λ e. x e * (net.arc e).offset)
  charged_sum v =
      sum_add_three net.arcs (λ e. (net.arc e).price * gap (net.arc e) v) (λ e. x e * v (net.arc e).to) (λ e. x e * (net.arc e).offset)

  -- at each place and each arc another picture does no better, and the certified one is even at each arc
  place_below : (v : Picture) → Within net.places net.top v → (i : ℕ) → i < net.places → place u v i ≤ place v u i
  place_below v q i l = c.best i (v i) l (q i l)

  arc_below : (v : Picture) (e : ℕ) → e < net.arcs → worth v e ≤ charged v e
  arc_below v e l =
      arc_above (net.arc e).price (x e) (v (net.arc e).from) (v (net.arc e).to) (net.arc e).offset (c.within e l)

  arc_even : (e : ℕ) → e < net.arcs → worth u e ≡ charged u e
  arc_even e l =
      let a : ℕ = u (net.arc e).from in
      let b : ℕ = u (net.arc e).to + (net.arc e).offset in
      arc_even_by (net.arc e).price (x e) a (u (net.arc e).to) (net.arc e).offset (c.full e l) (c.empty e l) (cases_lt b a) (cases_lt a b)

  -- so what another picture costs more is what it loses at the places and at the arcs together
  lost :
      (v : Picture) →
      net_total net v + sum net.places (place u v) + sum net.arcs (worth v) ≡
      net_total net u + sum net.places (place v u) + sum net.arcs (charged v)
  lost v =
      omega (
        arith,
        places_sum u v,
        places_sum v u,
        charged_sum u,
        charged_sum v,
        sum_same net.arcs (worth u) (charged u) arc_even,
      )

  places_below : (v : Picture) → Within net.places net.top v → sum net.places (place u v) ≤ sum net.places (place v u)
  places_below v q = sum_le net.places (place u v) (place v u) (place_below v q)

  arcs_below : (v : Picture) → sum net.arcs (worth v) ≤ sum net.arcs (charged v)
  arcs_below v = sum_le net.arcs (worth v) (charged v) (arc_below v)

  pub certificate_least : Least (Within net.places net.top) (net_total net) u
  certificate_least = record { of = p; least = λ v q. omega (arith, lost v, places_below v q, arcs_below v) }

  -- a picture that costs as little loses nothing anywhere, so that one certificate does for all cheapest pictures
  pub certificate_all : (v : Picture) → Least (Within net.places net.top) (net_total net) v → Certificate net v x
  certificate_all v q =
      let even_place : (i : ℕ) → i < net.places → place u v i ≡ place v u i =
      sum_tight net.places (place u v) (place v u) (place_below v q.of) (omega (arith, q.least u p, lost v, arcs_below v)) in
      let even_arc : (e : ℕ) → e < net.arcs → worth v e ≡ charged v e =
      sum_tight net.arcs (worth v) (charged v) (arc_below v) (omega (arith, q.least u p, lost v, places_below v q.of)) in
      record {
        within = c.within;
        full = λ e l. arc_full (net.arc e).price (x e) (v (net.arc e).from) (v (net.arc e).to) (net.arc e).offset (even_arc e l);
        empty = λ e l. arc_empty (net.arc e).price (x e) (v (net.arc e).from) (v (net.arc e).to) (net.arc e).offset (even_arc e l);
        best =
            λ i w l m.
            no_dearer_same (net.cost i) (net_out net x i) (net_into net x i) (u i) (v i) w (even_place i l) (c.best i w l m);
      }
