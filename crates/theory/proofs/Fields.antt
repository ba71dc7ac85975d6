-- What holds of fields, by their nets.
use Rattle.std.proofs.Common.{◌≡◌, ℕ, ◌+◌, ◌-◌, ◌*◌, ◌/◌, ◌%◌, ◌<◌, true, false, eqb, ◌⊎◌, refl, ap, subst, inl, inr, arith}
use mathlib.Core.Path.{subst⁻¹}
use Rattle.std.proofs.lemmas.Bool.{eq-eqb, ne_eqb, cases_eq}
use Rattle.theory.specs.Sums.{sum}
use Rattle.theory.specs.Pictures.{Picture, meet, join, Least}
use Rattle.theory.specs.Nets.{Arc, Inside, gap, net_total, arc_costs}
use Rattle.theory.specs.Fields.{Field, Sound, Of, side_cost, side_costs, total, Cheapest, Lowest, direction, net_of}
use Rattle.theory.specs.Promises.{BothCheapest, StepsUp, UnderCheapest, UnderLowest}
use Rattle.theory.proofs.Sums.{sum_same, sum_pairs}
use Rattle.theory.proofs.Lattice.{Crosses, Closed, within_closed, meet_least, join_least, under_all}
use Rattle.theory.proofs.Minimise.{Reads, lowest_exists}
use Rattle.theory.proofs.Nets.{nets_cross, net_reads}

pub arc_there : (f : Field) (k : ℕ) → (net_of f).arc (2 * k) ≡ direction true (f.side k)
arc_there f k =
    let half : (2 * k) / 2 ≡ k = omega arith in
    let even : eqb ((2 * k) % 2) 0 ≡ true = eq-eqb _ _ (omega arith) in
    rw (half, even)

pub arc_back : (f : Field) (k : ℕ) → (net_of f).arc (2 * k + 1) ≡ direction false (f.side k)
arc_back f k =
    let half : (2 * k + 1) / 2 ≡ k = omega arith in
    let odd : eqb ((2 * k + 1) % 2) 0 ≡ false = ne_eqb _ _ (omega arith) in
    rw (half, odd)

two_ways : (p a b : ℕ) → p * ((a - b) - 0) + p * ((b - a) - 0) ≡ p * ((a - b) + (b - a))
two_ways p a b =
    let there : (a - b) - 0 ≡ a - b = omega arith in
    let back : (b - a) - 0 ≡ b - a = omega arith in
    rw (there, back) (omega arith)

pair_cost :
    (f : Field) (u : Picture) (k : ℕ) →
    ((net_of f).arc (2 * k)).price * gap ((net_of f).arc (2 * k)) u + ((net_of f).arc (2 * k + 1)).price * gap ((net_of f).arc (2 * k + 1)) u ≡ side_cost (f.side k) u
pair_cost f u k = rw (arc_there f k, arc_back f k) (two_ways (f.side k).price (u (f.side k).first) (u (f.side k).second))

pub sides_by_arcs : (f : Field) (u : Picture) → side_costs f u ≡ arc_costs (net_of f) u
sides_by_arcs f u =
    let arcs : ℕ → ℕ = λ e. ((net_of f).arc e).price * gap ((net_of f).arc e) u in
    omega (
      arith,
      sum_pairs f.sides arcs,
      sum_same f.sides (λ k. arcs (2 * k) + arcs (2 * k + 1)) (λ k. side_cost (f.side k) u) (λ k l. pair_cost f u k),
    )

-- a property holds of both arcs of each side, or of each arc by its number; the one gives the other
abbrev pub BothArcs : Field → (ℕ → Arc → Type 0) → Type 0
BothArcs f P = (k : ℕ) → k < f.sides → P (2 * k) (direction true (f.side k)) × P (2 * k + 1) (direction false (f.side k))

abbrev pub EachArc : Field → (ℕ → Arc → Type 0) → Type 0
EachArc f P = (e : ℕ) → e < 2 * f.sides → P e ((net_of f).arc e)

pub each_arc : (f : Field) (P : ℕ → Arc → Type 0) → BothArcs f P → EachArc f P
each_arc f P h e l = each_arc_by (cases_eq (e % 2) 0)
  where
    each_arc_by : (e % 2 ≡ 0) ⊎ (e % 2 ≡ 0 → ⊥) → P e ((net_of f).arc e)
    each_arc_by (inl t) =
        let even : 2 * (e / 2) ≡ e = omega arith in
        subst (λ d. P d ((net_of f).arc d)) even (subst⁻¹ (P (2 * (e / 2))) (arc_there f (e / 2)) (h (e / 2) (omega arith)).0)
    each_arc_by (inr t) =
        let odd : 2 * (e / 2) + 1 ≡ e = omega arith in
        subst (λ d. P d ((net_of f).arc d)) odd (subst⁻¹ (P (2 * (e / 2) + 1)) (arc_back f (e / 2)) (h (e / 2) (omega arith)).1)

pub both_arcs : (f : Field) (P : ℕ → Arc → Type 0) → EachArc f P → BothArcs f P
both_arcs f P h k l =
    (subst (P (2 * k)) (arc_there f k) (h (2 * k) (omega arith)), subst (P (2 * k + 1)) (arc_back f k) (h (2 * k + 1) (omega arith)))

pub total_net : (f : Field) (u : Picture) → total f u ≡ net_total (net_of f) u
total_net f u = omega (arith, sides_by_arcs f u)

-- the net of a field whose sides join places of the field joins places of the net
pub net_inside : (f : Field) → ((k : ℕ) → k < f.sides → ((f.side k).first < f.places) × ((f.side k).second < f.places)) → Inside (net_of f)
net_inside f inside =
    each_arc f (λ e a. (a.from < f.places) × (a.to < f.places)) (λ k l. (inside k l, ((inside k l).1, (inside k l).0)))

field_reads : (f : Field) → Sound f → Reads f.places (total f)
field_reads f sound u v h =
    omega (arith, net_reads (net_of f) (net_inside f sound.inside) u v h, total_net f u, total_net f v)

-- what the second of two fields that differ in costs only costs, over the first one's places and arcs
total_over : (f g : Field) → StepsUp f g → (u : Picture) → total g u ≡ sum f.places (λ i. g.cost i (u i)) + arc_costs (net_of f) u
total_over f g s u =
    omega (
      arith,
      ap (λ n. sum n (λ i. g.cost i (u i))) s.places,
      ap (λ n. sum n (λ k. side_cost (g.side k) u)) s.sides,
      sum_same f.sides (λ k. side_cost (g.side k) u) (λ k. side_cost (f.side k) u) (λ k l. ap (λ x. side_cost x u) (s.side k l)),
      sides_by_arcs f u,
    )

fields_cross : (f g : Field) → StepsUp f g → Crosses (Of f) (total f) (total g)
fields_cross f g s u v p q =
    omega (
      arith,
      nets_cross (net_of f) g.cost s.step u v p q,
      sides_by_arcs f (meet u v),
      sides_by_arcs f u,
      total_over f g s (join u v),
      total_over f g s v,
    )

same_costs : (f : Field) → StepsUp f f
same_costs f = record { places = refl; top = refl; sides = refl; side = λ k l. refl; step = λ i a l m. omega arith }

pub meet_join : (f : Field) (u v : Picture) → Cheapest f u → Cheapest f v → BothCheapest f u v
meet_join f u v p q =
    let closed : Closed (Of f) = within_closed f.places f.top in
    let crosses : Crosses (Of f) (total f) (total f) = fields_cross f f (same_costs f) in
    (meet_least (Of f) (total f) (total f) closed crosses u v p q, join_least (Of f) (total f) (total f) closed crosses u v p q)

-- the two fields have the same pictures
cheapest_over : (f g : Field) → StepsUp f g → (v : Picture) → Cheapest g v → Least (Of f) (total g) v
cheapest_over f g s v q =
    record {
      of = λ i l. omega (arith, s.top, q.of i (omega (arith, s.places)));
      least = λ w r. q.least w (λ i l. omega (arith, s.top, r i (omega (arith, s.places))));
    }

pub steeper : (f g : Field) → StepsUp f g → UnderCheapest f g
steeper f g s u v p q =
    under_all f.places (Of f) (total f) (total g) (within_closed f.places f.top) (fields_cross f g s) u v p
    (cheapest_over f g s v q)

pub steeper_lowest : (f g : Field) → StepsUp f g → UnderLowest f g
steeper_lowest f g s u v p q = steeper f g s u v p q.cheapest

pub existence : (f : Field) → Sound f → (u : Picture) × Lowest f u
existence f sound =
    lowest_exists f.places f.top (total f) (field_reads f sound) (fields_cross f f (same_costs f))
