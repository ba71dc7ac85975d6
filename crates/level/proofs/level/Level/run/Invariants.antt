use Rattle.std.proofs.Common.{ℕ, ◌<◌, get_or, pos, ◌≤ℤ◌}
use Rattle.search.specs.Residuals.{step, Open}
use Rattle.level.specs.Levels.{scene_of, Worked}
use Rattle.level.proofs.level.Level.run.Given as goal

abbrev pub invariant-loop-member : goal.invariant-loop-member
invariant-loop-member l =
    record {
      worked : Worked l.initial.self l.self;
      high : (k : ℕ) → k < l.member-index → Open (scene_of l.self) (get_or l.members k 0) → pos 0 ≤ℤ step (scene_of l.self) (get_or l.members k 0);
    }
