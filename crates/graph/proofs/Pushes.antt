-- A push along an arc: flows stay within their prices, and the amount goes from one end to the other.
use Rattle.std.proofs.Common.{◌≡◌, ℕ, ◌+◌, ◌-◌, ◌*◌, ◌/◌, ◌<◌, ◌≤◌, min, ◌≢◌, ◌⊎◌, List, length, get_or, set, sym, refl, ap, ◌∙◌, inl, inr, arith, length-set, get_or-set_other, get_or-set_same}
use Rattle.std.proofs.lemmas.Bool.{cases_eq}
use Rattle.theory.specs.Levels.{partner, room, room_of, Paired}
use Rattle.theory.proofs.Pairs.{partner_back, partner_below, partner_other}
use Rattle.theory.proofs.Levels.{push_moves}
use Rattle.field.specs.Given.{flows_in}
use Rattle.graph.specs.declared.arc.Arc.{Arc}
use Rattle.graph.specs.Arcs.{net_in, end_at, price_at}
use Rattle.graph.specs.Flowed.{WithinPrices, pushed, Pushed}

-- arcs over lent numbers lie in pairs
pub arcs_paired : (places : ℕ) (arcs : List Arc) → length arcs ≡ 2 * (length arcs / 2) → Paired (net_in places arcs)
arcs_paired places arcs even =
    record {
      partnered = λ e l. let half = partner_below (length arcs / 2) e (omega arith) in omega arith;
      back = λ e l. refl;
      forth = λ e l. ap (end_at arcs) (partner_back e);
      flat = λ e l. refl;
    }

-- the room of an arc over lent numbers
pub room_in : (places : ℕ) (arcs : List Arc) (flows : List ℕ) (e b : ℕ) → b ≡ partner e → (price_at arcs e - get_or flows e 0) + get_or flows b 0 ≡ room_of (net_in places arcs) (flows_in flows) e
unfolding room
room_in places arcs flows e b p = rw p

-- what an arc, its partner and the others carry after a push
module _ (flows : List ℕ) (e b t d : ℕ) (l : e < length flows) (m : b < length flows) (other : b ≢ e) where
  pushed_arc : get_or (pushed flows e b t d) e 0 ≡ get_or flows e 0 + (d - t)
  pushed_arc =
      let within : e < length (set flows b (get_or flows b 0 - t)) = rw length-set l in
      let ne : e ≢ b = λ s. other (sym s) in
      rw (get_or-set_same, get_or-set_other)

  pushed_partner : get_or (pushed flows e b t d) b 0 ≡ get_or flows b 0 - t
  pushed_partner = rw (get_or-set_other, get_or-set_same)

  pushed_else : (j : ℕ) → j ≢ e → j ≢ b → get_or (pushed flows e b t d) j 0 ≡ get_or flows j 0
  pushed_else j p q = rw (get_or-set_other, get_or-set_other)

  pushed_within :
      (price : ℕ → ℕ) → ((j : ℕ) → j < length flows → get_or flows j 0 ≤ price j) → get_or flows e 0 + (d - t) ≤ price e →
      (j : ℕ) → j < length flows → (j ≡ e) ⊎ (j ≢ e) → (j ≡ b) ⊎ (j ≢ b) → get_or (pushed flows e b t d) j 0 ≤ price j
  pushed_within price within room j k (inl s) q = rw (s, pushed_arc) room
  pushed_within price within room j k (inr p) (inl s) = rw (s, pushed_partner) (omega (arith, within b m))
  pushed_within price within room j k (inr p) (inr q) = omega (arith, pushed_else j p q, within j k)

pub push_done :
    (places : ℕ) (arcs : List Arc) (flows : List ℕ) (e b t d : ℕ) → length arcs ≡ 2 * (length arcs / 2) → length flows ≡ length arcs → e < length arcs →
    b ≡ partner e → WithinPrices (net_in places arcs) (flows_in flows) → d ≤ room_of (net_in places arcs) (flows_in flows) e →
    t ≡ min d (get_or flows b 0) → Pushed (net_in places arcs) (flows_in flows) (flows_in (pushed flows e b t d)) e d
push_done places arcs flows e b t d even long l p within most taken =
    let paired = arcs_paired places arcs even in
    let below : b < length flows = omega (arith, paired.partnered e l) in
    let above : e < length flows = omega arith in
    let other : b ≢ e = λ s. partner_other e (sym p ∙ s) in
    let room = room_in places arcs flows e b p in
    let here = pushed_arc flows e b t d above below other in
    let back = pushed_partner flows e b t d above below other in
    record {
      within =
          λ j k.
          pushed_within flows e b t d above below other (price_at arcs) (λ h n. within h (omega arith)) (omega (arith, within e l)) j (omega arith)
          (cases_eq j e) (cases_eq j b);
      others = λ j q r. pushed_else flows e b t d above below other j q (λ s. r (s ∙ p));
      carried =
          push_moves (net_in places arcs) (flows_in flows) (flows_in (pushed flows e b t d)) e t d paired l (omega arith)
          (rw (← p) (omega arith)) (omega arith) (λ j q r. pushed_else flows e b t d above below other j q (λ s. r (s ∙ p)));
    }
