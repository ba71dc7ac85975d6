use Rattle.field.specs.Given.{flows_in}
use Rattle.search.specs.Trees.{slot}
use Rattle.level.specs.Levels.{scene_of}
use Rattle.level.specs.Carries.{Carrying}
use Rattle.level.proofs.level.Level.carry.Given as goal

abbrev pub invariant-loop-place : goal.invariant-loop-place
invariant-loop-place l = Carrying (scene_of l.fn.self) l.search (flows_in l.flows) l.sink l.amount l.place

abbrev pub decreases-loop-place : goal.decreases-loop-place
decreases-loop-place l = slot l.search l.place
