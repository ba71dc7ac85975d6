use Rattle.std.proofs.Common.{◌≡◌, sym, subst, ◌∙◌, rules}
use Rattle.search.specs.Trees.{at}
use Rattle.level.specs.Levels.{scene_of}
use Rattle.level.specs.Scenes.{scene_in}
use Rattle.level.specs.Moves.{Fitting, Closing}
use Rattle.level.proofs.Augments.{augmented}
use Rattle.level.proofs.Works.{worked_by}
use Rattle.level.proofs.level.Level.augment.Goals as goal

pub returns-clause-worked : goal.returns-clause-worked
returns-clause-worked c =
    let k = c.args.self.now in
    let l = c.carry.new.self in
    let root : c.root-source.result ≡ at k.search.now 0 = c.root-source.ensures in
    let told = c.amount-amount.ensures in
    let carry = c.carry.ensures in
    let settle = c.settle.ensures in
    let fits : Fitting (scene_in k.task l.flows.now c.settle.new.steps k.marks.now) =
    record { carried = search rules; within = carry.carrying.within; stepped = search rules; marked = search rules } in
    let closing =
    augmented k.task k.flows.now l.flows.now k.steps.now c.settle.new.steps k.marks.now k.search.now c.args.sink c.amount-amount.result
    fits c.requires.searched.tree c.requires.searched.wanting c.requires.sink told.surplus told.need carry.carrying
    (rw (← root, ← carry.steps) settle.source) (rw (← carry.steps) settle.sink)
    (λ i d e. rw (← carry.steps) (settle.others i (λ h. d (h ∙ root)) e)) in
    worked_by k _ (search rules)
    (subst (λ m. Closing (scene_of k) (scene_in k.task l.flows.now c.settle.new.steps m) k.task.yes) (sym carry.marks) closing)
