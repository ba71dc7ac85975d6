-- Nets of arcs: the one form in which every kind of side is reasoned about. Assumes nothing: these are definitions.
use Rattle.std.specs.Prelude.{◌≡◌, ℕ, ◌+◌, ◌-◌, ◌*◌, ◌<◌, ◌≤◌, Bool, cond, ◌==◌, nat_le}
use Rattle.theory.specs.Sums.{sum}
use Rattle.theory.specs.Pictures.{Picture}

-- an arc charges its price for each step by which its first end lies more than the offset above its second end; it charges nothing the other way round
pub record Arc : Type 0 where
  pub from : ℕ
  pub to : ℕ
  pub offset : ℕ
  pub price : ℕ

-- places with a cost for each value, and arcs numbered from 0
pub record Net : Type 0 where
  pub places : ℕ
  pub top : ℕ
  pub cost : ℕ → ℕ → ℕ
  pub arcs : ℕ
  pub arc : ℕ → Arc

-- each arc joins two places of the net
abbrev pub Inside : Net → Type 0
Inside net = (e : ℕ) → e < net.arcs → ((net.arc e).from < net.places) × ((net.arc e).to < net.places)

-- by how many steps an arc is charged
abbrev pub gap : Arc → Picture → ℕ
gap a u = (u a.from - u a.to) - a.offset

-- what the arcs cost, and what they and the values of the places cost together
abbrev pub arc_costs : Net → Picture → ℕ
arc_costs net u = sum net.arcs (λ e. (net.arc e).price * gap (net.arc e) u)

abbrev pub net_total : Net → Picture → ℕ
net_total net u = sum net.places (λ i. net.cost i (u i)) + arc_costs net u

-- how much flows along each arc, by its number
abbrev pub Flows : Type 0
Flows = ℕ → ℕ

-- the flows of the arcs that have a place as their chosen end: what flows out of it by their first end, what flows into it by their second
abbrev pub carried : (Arc → ℕ) → Net → Flows → ℕ → ℕ
carried end net x i = sum net.arcs (λ e. cond (end (net.arc e) == i) (x e) 0)

abbrev pub net_out : Net → Flows → ℕ → ℕ
net_out net x i = carried (λ a. a.from) net x i

abbrev pub net_into : Net → Flows → ℕ → ℕ
net_into net x i = carried (λ a. a.to) net x i

-- at a place, with what flows out and in counted, the value a costs no more than the value b; with no subtraction, so that numbers stay natural
abbrev pub NoDearer : (cost : ℕ → ℕ) (out into a b : ℕ) → Type 0
NoDearer cost out into a b = cost a + out * a + into * b ≤ cost b + out * b + into * a

abbrev pub no_dearer_test : (cost : ℕ → ℕ) (out into a b : ℕ) → Bool
no_dearer_test cost out into a b = nat_le (cost a + out * a + into * b) (cost b + out * b + into * a)

-- flows that show a picture to be cheapest: each within its arc's price, the price where the arc is charged, none where it is slack, and at each place no value is cheaper with flows counted
pub record Certificate (net : Net) (u : Picture) (x : Flows) : Type 0 where
  pub within : (e : ℕ) → e < net.arcs → x e ≤ (net.arc e).price
  pub full : (e : ℕ) → e < net.arcs → u (net.arc e).to + (net.arc e).offset < u (net.arc e).from → x e ≡ (net.arc e).price
  pub empty : (e : ℕ) → e < net.arcs → u (net.arc e).from < u (net.arc e).to + (net.arc e).offset → x e ≡ 0
  pub best : (i v : ℕ) → i < net.places → v ≤ net.top → NoDearer (net.cost i) (net_out net x i) (net_into net x i) (u i) v
