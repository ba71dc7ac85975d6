-- What a push along an arc does to flows, and what a view of a graph with flows stands for. Assumes nothing: these are definitions.
use Rattle.std.specs.Prelude.{◌≡◌, ℕ, ◌+◌, ◌-◌, ◌<◌, ◌≤◌, cond, List, ◌==◌, ◌≢◌, slice_index, slice_set}
use Rattle.theory.specs.Nets.{Net, Flows, net_out, net_into}
use Rattle.theory.specs.Levels.{partner}
use Rattle.graph.specs.declared.graph.Graph.{Graph}
use Rattle.graph.specs.Arcs.{net_in}

-- the net of a graph
abbrev pub graph_net : Graph → Net
graph_net g = net_in g.places g.arcs.now

-- an amount at one place, and nothing elsewhere
abbrev pub only : (p amount : ℕ) → ℕ → ℕ
only p amount i = cond (p == i) amount 0

-- the flows y are the flows x with an amount carried from place p to place q: at each place, what flows out less what flows in is as it was, but for the amount more at p and less at q
abbrev pub Carried : Net → (x y : Flows) → (p q amount : ℕ) → Type 0
Carried net x y p q amount = (i : ℕ) → net_out net y i + net_into net x i + only q amount i ≡ net_out net x i + net_into net y i + only p amount i

-- each flow up to its price
abbrev pub WithinPrices : Net → Flows → Type 0
WithinPrices net x = (e : ℕ) → e < net.arcs → x e ≤ (net.arc e).price

-- the numbers of flows after d more is sent along arc e, of which t is taken off its partner b
abbrev pub pushed : (flows : List ℕ) (e b t d : ℕ) → List ℕ
pushed flows e b t d = slice_set (slice_set flows b (slice_index flows b - t)) e (slice_index (slice_set flows b (slice_index flows b - t)) e + (d - t))

-- the flows y are the flows x with an amount more sent along arc e
pub record Pushed (net : Net) (x y : Flows) (e amount : ℕ) : Type 0 where
  pub within : WithinPrices net y
  pub others : (d : ℕ) → (d ≢ e) → (d ≢ partner e) → y d ≡ x d
  pub carried : Carried net x y (net.arc e).from (net.arc e).to amount
