-- Carrying an amount along the path by which a search reached a sink. Assumes nothing: these are definitions.
use Rattle.std.specs.Prelude.{◌≡◌, ℕ, ◌<◌, ◌≤◌, ◌⊎◌}
use Rattle.theory.specs.Nets.{Flows}
use Rattle.graph.specs.Flowed.{WithinPrices, Carried}
use Rattle.search.specs.declared.search.Search.{Search}
use Rattle.search.specs.Residuals.{Scene, net, flow, Open}
use Rattle.search.specs.Trees.{slot, reach, Seen}

-- the amount has been carried from place p to the sink, and the rest of the path, from the root to p, is unharmed: arcs between places that were reached no later than p are as they were
pub record Carrying (v : Scene) (s : Search) (y : Flows) (sink amount p : ℕ) : Type 0 where
  pub within : WithinPrices (net v) y
  pub carried : Carried (net v) (flow v) y p sink amount
  pub seen : Seen s p
  pub enough : amount ≤ reach s p
  pub unharmed : (e : ℕ) → e < (net v).arcs → slot s ((net v).arc e).from ≤ slot s p → slot s ((net v).arc e).to ≤ slot s p → y e ≡ flow v e
  pub outside : (e : ℕ) → e < (net v).arcs → (Open v ((net v).arc e).from → ⊥) ⊎ (Open v ((net v).arc e).to → ⊥) → y e ≡ flow v e
