-- What a search looks at. Assumes nothing: these are definitions.
use Rattle.std.specs.Prelude.{◌≡◌, ℕ, List, ℤ, pos, slice_index, slice_index_or}
use Rattle.theory.specs.Nets.{Net, Flows}
use Rattle.theory.specs.Levels.{room_of}
use Rattle.field.specs.Given.{flows_in}
use Rattle.graph.specs.declared.arc.Arc.{Arc}
use Rattle.graph.specs.declared.residual.Residual.{Residual}
use Rattle.graph.specs.Arcs.{net_in}

-- what a residual graph has: how many places, its arcs and for each the flow, and for each place its step and its mark; open are the places with the group's mark
pub record Scene : Type 0 where
  pub places : ℕ
  pub arcs : List Arc
  pub flows : List ℕ
  pub steps : List ℤ
  pub marks : List ℕ
  pub group : ℕ

abbrev pub scene : Residual → Scene
scene r =
    record {
      places = r.graph.places;
      arcs = r.graph.arcs.now;
      flows = r.flows.now;
      steps = r.steps.now;
      marks = r.marks.now;
      group = r.group;
    }

abbrev pub net : Scene → Net
net v = net_in v.places v.arcs

abbrev pub flow : Scene → Flows
flow v = flows_in v.flows

-- a place's step: negative at a source, positive at a sink
abbrev pub step : Scene → ℕ → ℤ
step v i = slice_index_or v.steps i (pos 0)

-- searches stay inside the open places
abbrev pub Open : Scene → ℕ → Type 0
Open v i = slice_index v.marks i ≡ v.group

abbrev pub room_at : Scene → ℕ → ℕ
room_at v e = room_of (net v) (flow v) e
