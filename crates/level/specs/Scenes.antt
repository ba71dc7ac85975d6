-- What the searches of a level look at. Assumes nothing: these are definitions.
use Rattle.std.specs.Prelude.{ℕ, List, ℤ}
use Rattle.search.specs.Residuals.{Scene}
use Rattle.level.specs.declared.task.Task.{Task}

-- a task's graph and group, with flows x, steps s and marks m
abbrev pub scene_in : Task → (x : List ℕ) (s : List ℤ) (m : List ℕ) → Scene
scene_in t x s m =
    record { places = t.graph.places; arcs = t.graph.arcs.now; flows = x; steps = s; marks = m; group = t.group }
