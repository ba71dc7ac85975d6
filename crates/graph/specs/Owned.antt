-- What a contract sees of a graph that owns its arcs. Assumes nothing: these are definitions.
use Rattle.std.specs.Prelude.{◌≡◌, ℕ, ◌*◌, ◌<◌, List, length}
use Rattle.field.specs.declared.view.FieldView.{FieldView}
use Rattle.field.specs.Given.{sides_of}
use Rattle.graph.specs.declared.arc.Arc.{Arc}
use Rattle.graph.specs.Arcs.{BothWays}

-- how many places, and the arcs in their order
pub record Owned : Type 0 where
  pub places : ℕ
  pub arcs : List Arc

-- it is the graph of a field's sides: as many places, and two arcs a side, there and back
pub record OfField (f : FieldView) (own : Owned) : Type 0 where
  pub places : own.places ≡ f.places
  pub each : length own.arcs ≡ 2 * sides_of f.sides.now
  pub laid : (k : ℕ) → k < sides_of f.sides.now → BothWays f.sides.now own.arcs k
