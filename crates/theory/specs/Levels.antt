-- One level: a choice of yes or no for each place, and flows along paired arcs that show it. Assumes nothing: these are definitions.
use Rattle.std.specs.Prelude.{◌≡◌, ℕ, ◌+◌, ◌-◌, ◌*◌, ◌/◌, ◌%◌, ◌<◌, ◌≤◌, Bool, true, ℤ, pos, ◌+ℤ◌, ◌≤ℤ◌, ◌<ℤ◌}
use Rattle.theory.specs.Pictures.{Picture}
use Rattle.theory.specs.Nets.{Net, Flows, net_out, net_into}

-- arcs 2k and 2k + 1 are the two directions of one side; the partner of an arc is the other of the two
unfoldable pub partner : ℕ → ℕ
partner e = 2 * (e / 2) + (1 - e % 2)

-- the room of an arc, by how much more can be sent along it: what is left of its price, and what its partner carries, which can be taken back
unfoldable pub room : (price x : ℕ → ℕ) → ℕ → ℕ
room price x e = (price e - x e) + x (partner e)

abbrev pub room_of : Net → Flows → ℕ → ℕ
room_of net x e = room (λ d. (net.arc d).price) x e

-- each arc has a partner, which leads back; and no arc has an offset
pub record Paired (net : Net) : Type 0 where
  pub partnered : (e : ℕ) → e < net.arcs → partner e < net.arcs
  pub back : (e : ℕ) → e < net.arcs → (net.arc (partner e)).from ≡ (net.arc e).to
  pub forth : (e : ℕ) → e < net.arcs → (net.arc (partner e)).to ≡ (net.arc e).from
  pub flat : (e : ℕ) → e < net.arcs → (net.arc e).offset ≡ 0

-- the step of a place at a level: what yes costs there less what no costs, plus what flows out less what flows in
abbrev pub Stepped : Net → Flows → (step : ℕ → ℤ) → Type 0
Stepped net x step =
    (i : ℕ) → i < net.places → (step i +ℤ pos (net.cost i 0)) +ℤ pos (net_into net x i) ≡ pos (net.cost i 1) +ℤ pos (net_out net x i)

-- a set of places holds each one whose step is negative
abbrev pub HoldsWanting : Net → (step : ℕ → ℤ) → (ℕ → Bool) → Type 0
HoldsWanting net step s = (i : ℕ) → i < net.places → step i <ℤ pos 0 → s i ≡ true

-- a set of places is closed: no arc with room leaves it
abbrev pub ClosedByRoom : Net → Flows → (ℕ → Bool) → Type 0
ClosedByRoom net x s = (e : ℕ) → e < net.arcs → 0 < room_of net x e → s (net.arc e).from ≡ true → s (net.arc e).to ≡ true

-- a cut: the places of yes have steps up to 0, the others from 0; no arc from yes to no has room; and yes lies in every closed set that holds the places whose step is negative
pub record LeastCut (net : Net) (x : Flows) (step : ℕ → ℤ) (u : Picture) : Type 0 where
  pub of : (i : ℕ) → i < net.places → u i ≤ 1
  pub within : (e : ℕ) → e < net.arcs → x e ≤ (net.arc e).price
  pub low : (i : ℕ) → i < net.places → u i ≡ 1 → step i ≤ℤ pos 0
  pub high : (i : ℕ) → i < net.places → u i ≡ 0 → pos 0 ≤ℤ step i
  pub full : (e : ℕ) → e < net.arcs → u (net.arc e).from ≡ 1 → u (net.arc e).to ≡ 0 → room_of net x e ≡ 0
  pub least : (s : ℕ → Bool) → HoldsWanting net step s → ClosedByRoom net x s → (i : ℕ) → i < net.places → u i ≡ 1 → s i ≡ true
