use Rattle.std.proofs.Common.{◌≡◌, ℕ, ◌<◌, ◌≤◌, length, get_or}
use Rattle.graph.specs.Few.{few_places}
use Rattle.choice.proofs.lay.list_places.Given as goal

abbrev pub invariant-loop-place : goal.invariant-loop-place
invariant-loop-place l =
    record {
      many : length l.places.items ≡ l.place;
      room : l.field.places ≤ l.places.capacity;
      inline : l.field.places ≤ few_places → l.places.capacity ≡ few_places;
      each : (i : ℕ) → i < l.place → get_or l.places.items i 0 ≡ i;
    }
