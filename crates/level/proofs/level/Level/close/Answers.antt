use Rattle.std.proofs.Common.{inl, inr, rules}
use Rattle.search.specs.declared.search.Search.{Search}
use Rattle.search.proofs.Trees.{seen_cases}
use Rattle.level.specs.Scenes.{scene_in}
use Rattle.level.specs.Moves.{Fitting}
use Rattle.level.proofs.Closings.{closing_shut}
use Rattle.level.proofs.level.Level.close.Goals as goal

pub returns-clause-worked : goal.returns-clause-worked
returns-clause-worked c =
    let k = c.args.self.now in
    let q : Search = k.search.now in
    let m = c.mark.new.marks in
    let fits : Fitting (scene_in k.task k.flows.now k.steps.now m) =
    record { carried = k.facts.fitting.carried; within = k.facts.fitting.within; stepped = k.facts.fitting.stepped; marked = search rules } in
    record {
      closing =
          closing_shut k.task k.flows.now k.steps.now k.marks.now m q fits c.requires.searched.tree c.requires.quiet c.requires.explored
          c.requires.searched.wanting c.mark.ensures.reached
          (λ i. elim (seen_cases q i) [ inl h ↦ inl h | inr h ↦ inr (h, c.mark.ensures.others i h) ]);
      same = search rules;
    }
