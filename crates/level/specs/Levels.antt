-- What a level in work stands for. Assumes nothing: these are definitions.
use Rattle.std.specs.Prelude.{◌≡◌, ℕ, pos, ◌<ℤ◌}
use Rattle.search.specs.Residuals.{Scene, step}
use Rattle.search.specs.Trees.{at, Tree}
use Rattle.level.specs.declared.level.Level.{Level}
use Rattle.level.specs.Scenes.{scene_in}
use Rattle.level.specs.Moves.{Closing}

-- what its searches look at
abbrev pub scene_of : Level → Scene
scene_of l = scene_in l.task l.flows.now l.steps.now l.marks.now

-- where its search began
abbrev pub root_of : Level → ℕ
root_of l = at l.search.now 0

-- its search began at a source, and what it reached is a tree
pub record Searched (l : Level) : Type 0 where
  pub tree : Tree (scene_of l) l.search.now
  pub wanting : step (scene_of l) (root_of l) <ℤ pos 0

-- the same task, and the same lent slices and search
pub record Same (k l : Level) : Type 0 where
  pub task : l.task ≡ k.task
  pub flows : l.flows.ghost_name ≡ k.flows.ghost_name
  pub steps : l.steps.ghost_name ≡ k.steps.ghost_name
  pub marks : l.marks.ghost_name ≡ k.marks.ghost_name
  pub search : l.search.ghost_name ≡ k.search.ghost_name

-- a part of a level's work: flow was sent inside the open places, and some of them were closed
pub record Worked (k l : Level) : Type 0 where
  pub closing : Closing (scene_of k) (scene_of l) k.task.yes
  pub same : Same k l
