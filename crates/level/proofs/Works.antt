-- Parts of a level's work, one after the other.
use Rattle.std.proofs.Common.{◌≡◌, ℕ, pos, ◌≤ℤ◌, sym, ap, ◌∙◌, subst}
use Rattle.search.specs.Residuals.{Scene, step, Open}
use Rattle.level.specs.declared.level.Level.{Level}
use Rattle.level.specs.Scenes.{scene_in}
use Rattle.level.specs.Moves.{Closing}
use Rattle.level.specs.Levels.{scene_of, Same, Worked}
use Rattle.level.proofs.Closings.{closing_more, high_more}

pub same_more : (k l m : Level) → Same k l → Same l m → Same k m
same_more k l m p q =
    record { task = q.task ∙ p.task; flows = q.flows ∙ p.flows; steps = q.steps ∙ p.steps; marks = q.marks ∙ p.marks; search = q.search ∙ p.search }

-- the task is as it was
pub worked_by :
    (k l : Level) → Same k l → Closing (scene_of k) (scene_in k.task l.flows.now l.steps.now l.marks.now) k.task.yes → Worked k l
worked_by k l same closing =
    record {
      closing = subst (λ t. Closing (scene_of k) (scene_in t l.flows.now l.steps.now l.marks.now) k.task.yes) (sym same.task) closing;
      same = same;
    }

-- one part after the other
module _ (k l m : Level) (p : Worked k l) (q : Worked l m) where
  abbrev start : Scene
  start = scene_of k

  abbrev middle : Scene
  middle = scene_in k.task l.flows.now l.steps.now l.marks.now

  abbrev end : Scene
  end = scene_in k.task m.flows.now m.steps.now m.marks.now

  first : Closing start middle k.task.yes
  first = subst (λ t. Closing start (scene_in t l.flows.now l.steps.now l.marks.now) k.task.yes) p.same.task p.closing

  second : Closing middle end k.task.yes
  second =
      subst (λ t. Closing (scene_in t l.flows.now l.steps.now l.marks.now) (scene_in t m.flows.now m.steps.now m.marks.now) t.yes) p.same.task
      (subst (λ t. Closing (scene_of l) (scene_in t m.flows.now m.steps.now m.marks.now) l.task.yes) q.same.task q.closing)

  pub worked_more : Worked k m
  worked_more =
      worked_by k m (same_more k l m p.same q.same)
      (closing_more k.task k.flows.now l.flows.now m.flows.now k.steps.now l.steps.now m.steps.now k.marks.now l.marks.now m.marks.now first second)

  -- an open place with a step from 0 keeps one
  pub worked_high : (i : ℕ) → (Open (scene_of l) i → pos 0 ≤ℤ step (scene_of l) i) → Open (scene_of m) i → pos 0 ≤ℤ step (scene_of m) i
  worked_high i high o =
      high_more k.task k.flows.now l.flows.now m.flows.now k.steps.now l.steps.now m.steps.now k.marks.now l.marks.now m.marks.now first second i
      (λ h. high (h ∙ ap (λ t. t.group) (sym p.same.task))) (o ∙ ap (λ t. t.group) (q.same.task ∙ p.same.task))

-- a level whose scene is as it was
pub worked_after : (k l m : Level) → scene_of l ≡ scene_of k → Same k l → Worked l m → Worked k m
worked_after k l m e p q =
    record {
      closing = subst (λ v. Closing v (scene_of m) k.task.yes) e (subst (λ t. Closing (scene_of l) (scene_of m) t.yes) p.task q.closing);
      same = same_more k l m p q.same;
    }
