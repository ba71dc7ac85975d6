-- What is laid down before a field with two values is solved. Assumes nothing: these are definitions.
use Rattle.std.specs.Prelude.{◌≡◌, ℕ, suc, ◌*◌, ◌<◌, List, length, ℤ, pos, ◌-ℤ◌, slice_index, slice_index_or}
use Rattle.field.specs.declared.view.FieldView.{FieldView}
use Rattle.field.specs.Given.{cost_in, sides_of}
use Rattle.graph.specs.declared.graph.Graph.{Graph}
use Rattle.graph.specs.Owned.{Owned}
use Rattle.search.specs.declared.search.Search.{Search}
use Rattle.search.specs.Trees.{Sized}
use Rattle.choice.specs.declared.room.Room.{Room}
use Rattle.choice.specs.declared.work.Work.{Work}

-- all of n places, in their order
pub record Listed (n : ℕ) (members : List ℕ) : Type 0 where
  pub many : length members ≡ n
  pub each : (i : ℕ) → i < n → slice_index members i ≡ i

-- the step of each of n places with no flows: what yes costs less what no costs
pub record Unflowed (n : ℕ) (costs : List ℕ) (steps : List ℤ) : Type 0 where
  pub many : length steps ≡ n
  pub each : (i : ℕ) → i < n → slice_index_or steps i (pos 0) ≡ pos (cost_in 1 costs i 1) -ℤ pos (cost_in 1 costs i 0)

-- all of it, of a field: its places, their steps, and a search with room for every place
pub record Laid (f : FieldView) (all : List ℕ) (first : List ℤ) (reach : Search) : Type 0 where
  pub two : f.top ≡ 1
  pub members : Listed f.places all
  pub steps : Unflowed f.places f.costs.now first
  pub search : Sized f.places reach

-- all of it is laid down for a work that is to begin
abbrev pub Ready : Work → Type 0
Ready w = Laid w.field w.members.now w.steps.now w.search.now

-- there is memory for a field's graph, with zeros where its rows are to begin
pub record Roomy (f : FieldView) (r : Room) : Type 0 where
  pub arcs : length r.arcs.now ≡ 2 * sides_of f.sides.now
  pub starts : length r.starts.now ≡ suc f.places
  pub blank : (i : ℕ) → slice_index r.starts.now i ≡ 0
  pub order : length r.order.now ≡ 2 * sides_of f.sides.now

-- the places and the arcs of a graph
abbrev pub owned_in : Graph → Owned
owned_in g = record { places = g.places; arcs = g.arcs.now }
