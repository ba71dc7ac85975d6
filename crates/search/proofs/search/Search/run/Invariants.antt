use Rattle.std.proofs.Common.{◌≡◌, ◌-◌, ◌≤◌}
use Rattle.search.specs.Residuals.{scene}
use Rattle.search.specs.Trees.{count, at, Tree, Quiet, Explored}
use Rattle.search.proofs.search.Search.run.Given as goal

abbrev pub invariant-loop-done : goal.invariant-loop-done
invariant-loop-done l =
    record {
      tree : Tree (scene l.residual) l.self;
      first : at l.self 0 ≡ l.root;
      quiet : Quiet (scene l.residual) l.self;
      within : l.done ≤ count l.self;
      explored : Explored (scene l.residual) l.self l.done;
    }

abbrev pub decreases-loop-done : goal.decreases-loop-done
decreases-loop-done l = (scene l.residual).places - l.done
