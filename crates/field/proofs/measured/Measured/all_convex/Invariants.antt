use Rattle.std.proofs.Common.{◌≡◌, suc, ◌*◌, Ok}
use Rattle.std.specs.Slice.Iter.{chunks_exact_rest, chunks_exact_size}
use Rattle.field.specs.Firsts.{first}
use Rattle.field.specs.Rules.{convex_place}
use Rattle.field.proofs.Chunks.{Rest}
use Rattle.field.proofs.measured.Measured.all_convex.Given as goal

abbrev pub invariant-loop-place : goal.invariant-loop-place
invariant-loop-place l =
    record {
      can : (goal.iterator-loop-place).can_next l.place-iterator;
      finite : (goal.iterator-loop-place).is_finite l.place-iterator;
      size : chunks_exact_size l.place-iterator.iter ≡ suc l.self.top;
      rest : Rest l.self.costs.now (chunks_exact_rest l.place-iterator.iter) (l.place-iterator.count * suc l.self.top);
      passed : first (convex_place l.self.top l.self.costs.now) l.place-iterator.count ≡ Ok tt;
    }
