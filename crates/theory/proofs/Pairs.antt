-- Arcs in pairs: the partner of an arc, and when an arc has no room.
use Rattle.std.proofs.Common.{◌≡◌, ℕ, ◌+◌, ◌*◌, ◌<◌, ◌≤◌, refl, arith}
use Rattle.theory.specs.Fields.{Field, net_of}
use Rattle.theory.specs.Levels.{partner, room, Paired}
use Rattle.theory.proofs.Fields.{arc_there, arc_back, each_arc}

-- the partner of the partner is the arc itself, and the partner is another arc of the same net
pub partner_back : (e : ℕ) → partner (partner e) ≡ e
unfolding partner
partner_back e = omega arith

pub partner_other : (e : ℕ) → partner e ≡ e → ⊥
unfolding partner
partner_other e h = omega arith

pub partner_below : (n e : ℕ) → e < 2 * n → partner e < 2 * n
unfolding partner
partner_below n e l = omega arith

-- the two arcs of side k
pub partner_even : (k : ℕ) → partner (2 * k) ≡ 2 * k + 1
unfolding partner
partner_even k = omega arith

pub partner_odd : (k : ℕ) → partner (2 * k + 1) ≡ 2 * k
unfolding partner
partner_odd k = omega arith

-- the arcs of a field's net lie in pairs
pub net_paired : (f : Field) → Paired (net_of f)
net_paired f =
    record {
      partnered = λ e l. partner_below f.sides e l;
      back =
          each_arc f (λ e a. ((net_of f).arc (partner e)).from ≡ a.to)
          (λ k l. (rw (partner_even k, arc_back f k), rw (partner_odd k, arc_there f k)));
      forth =
          each_arc f (λ e a. ((net_of f).arc (partner e)).to ≡ a.from)
          (λ k l. (rw (partner_even k, arc_back f k), rw (partner_odd k, arc_there f k)));
      flat = each_arc f (λ e a. a.offset ≡ 0) (λ k l. (refl, refl));
    }

-- an arc has no room where it is full and its partner empty, and only there
pub room_zero : (price x : ℕ → ℕ) (e : ℕ) → x e ≤ price e → room price x e ≡ 0 → (x e ≡ price e) × (x (partner e) ≡ 0)
unfolding room
room_zero price x e l h = (omega arith, omega arith)

pub room_none : (price x : ℕ → ℕ) (e : ℕ) → x e ≡ price e → x (partner e) ≡ 0 → room price x e ≡ 0
unfolding room
room_none price x e full empty = omega arith
