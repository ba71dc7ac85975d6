use Rattle.std.proofs.Common.{◌≡◌, ℕ, ◌<◌, List, length, get_or, ℤ, pos, ◌≤ℤ◌, sym, refl, ap, subst, ◌∙◌, inl, inr, arith, rules}
use Rattle.std.proofs.lemmas.List.{get_or_past}
use Rattle.std.proofs.lemmas.Bool.{cases_lt}
use Rattle.field.specs.Viewed.{field_of}
use Rattle.search.specs.Residuals.{Scene}
use Rattle.level.specs.declared.task.Task.{Task}
use Rattle.level.specs.Scenes.{scene_in}
use Rattle.level.specs.Moves.{Closing}
use Rattle.choice.specs.Worked.{owned_in}
use Rattle.choice.specs.Solved.{Solved}
use Rattle.choice.proofs.Cuts.{level_solved}
use Rattle.choice.proofs.work.Work.solve.Goals as goal

-- what was filled with zeros has nothing else
blank : (xs ys : List ℕ) → length ys ≡ length xs → ((i : ℕ) → i < length xs → get_or ys i 0 ≡ 0) → (i : ℕ) → get_or ys i 0 ≡ 0
blank xs ys long zeros i = elim (cases_lt i (length xs)) [ inl l ↦ zeros i l | inr l ↦ get_or_past ys i 0 (omega arith) ]

-- a level keeps the task that it began with
first_task :
    (v : Scene) (t u : Task) (x : List ℕ) (s : List ℤ) (m : List ℕ) → u ≡ t → Closing v (scene_in u x s m) 1 → Closing v (scene_in t x s m) 1
first_task v t u x s m e h = subst (λ a. Closing v (scene_in a x s m) 1) e h

pub run-requires-clause-listed : goal.run-requires-clause-listed
run-requires-clause-listed c i l o =
    let laid = c.requires.ready in
    let place : i < c.args.self.now.field.places = omega (arith, c.requires.graph.places) in
    (i, omega (arith, laid.members.many), laid.members.each i place)

pub returns : goal.returns
returns c =
    let work = c.args.self.now in
    let laid = c.requires.ready in
    let run = c.run.ensures in
    let level = c.run.new.self in
    let closing = first_task _ _ level.task level.flows.now level.steps.now level.marks.now run.same.task run.closing in
    let high : (i : ℕ) → i < c.args.graph.places → get_or level.marks.now i 0 ≡ 0 → pos 0 ≤ℤ get_or level.steps.now i (pos 0) =
    λ i l o. run.high i l (o ∙ ap (λ t. t.group) (sym run.same.task)) in
    let unmarked = blank c.args.picture.now c.fill.new.self c.fill.ensures.len (λ i l. omega (arith, c.fill.ensures.clones i 0 l refl)) in
    let still = blank c.args.flows.now c.fill-2.new.self c.fill-2.ensures.len (λ i l. omega (arith, c.fill-2.ensures.clones i 0 l refl)) in
    let solved : Solved (field_of work.field) level.marks.now level.flows.now =
    level_solved work.field (owned_in c.args.graph) c.requires.graph laid.two _ level.flows.now work.steps.now level.steps.now _ level.marks.now unmarked still
    laid.steps closing high in
    search (rules, solved)
