use Rattle.std.proofs.Common.{◌≡◌, ℕ, ◌*◌, ◌<◌, ◌≤◌, length, get_or, pos, ◌-ℤ◌}
use Rattle.std.specs.Slice.Iter.{chunks_exact_rest, chunks_exact_size}
use Rattle.field.specs.Given.{cost_in}
use Rattle.field.proofs.Chunks.{Rest}
use Rattle.graph.specs.Few.{few_places}
use Rattle.choice.proofs.lay.lay_steps.Given as goal

abbrev pub invariant-loop-row : goal.invariant-loop-row
invariant-loop-row l =
    record {
      can : (goal.iterator-loop-row).can_next l.row-iterator;
      finite : (goal.iterator-loop-row).is_finite l.row-iterator;
      twos : chunks_exact_size l.row-iterator ≡ 2;
      rest : Rest l.field.costs.now (chunks_exact_rest l.row-iterator) (length l.yielded * 2);
      many : length l.steps.items ≡ length l.yielded;
      room : l.field.places ≤ l.steps.capacity;
      inline : l.field.places ≤ few_places → l.steps.capacity ≡ few_places;
      each : (i : ℕ) → i < length l.yielded → get_or l.steps.items i (pos 0) ≡ pos (cost_in 1 l.field.costs.now i 1) -ℤ pos (cost_in 1 l.field.costs.now i 0);
    }
