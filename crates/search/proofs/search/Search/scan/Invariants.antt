use Rattle.std.specs.Iterator.Adapters.{rev_source}
use Rattle.std.specs.Slice.Iter.{iter_rest}
use Rattle.search.specs.Residuals.{scene}
use Rattle.search.specs.Trees.{Quiet, Left, Went}
use Rattle.search.proofs.search.Search.scan.Given as goal

abbrev pub invariant-loop-arc : goal.invariant-loop-arc
invariant-loop-arc l =
    record {
      can : (goal.iterator-loop-arc).can_next l.arc-iterator;
      finite : (goal.iterator-loop-arc).is_finite l.arc-iterator;
      went : Went (scene l.residual) l.initial.self l.self;
      quiet : Quiet (scene l.residual) l.self;
      left : Left (scene l.residual) l.self l.place (iter_rest (rev_source l.arc-iterator));
    }
