use Rattle.std.proofs.Common.{◌≡◌, nat_abs}
use Rattle.search.specs.Residuals.{step}
use Rattle.level.specs.Levels.{scene_of, Worked}
use Rattle.level.proofs.level.Level.drain.Given as goal

abbrev pub invariant-loop-self : goal.invariant-loop-self
invariant-loop-self l =
    record {
      worked : Worked l.initial.self l.self;
      marks : l.self.marks.now ≡ l.initial.self.marks.now;
    }

abbrev pub decreases-loop-self : goal.decreases-loop-self
decreases-loop-self l = nat_abs (step (scene_of l.self) l.source)
