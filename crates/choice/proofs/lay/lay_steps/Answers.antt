use Rattle.std.proofs.Common.{◌≡◌, suc, ◌+◌, ◌*◌, [], ◌∷◌, ◌++◌, length, get_or, ap, ◌∙◌, arith, rules}
use Rattle.std.proofs.lemmas.List.{length_push}
use Rattle.std.proofs.lemmas.Int.{ints}
use Rattle.std.specs.Slice.Iter.{chunks_exact_rest}
use Rattle.field.specs.Given.{cost_in}
use Rattle.field.proofs.Chunks.{Rest, chunk_turn}
use Rattle.choice.proofs.Steps.{steps_more}
use Rattle.choice.proofs.lay.lay_steps.Goals as goal

pub loop-row-preserved : goal.loop-row-preserved
loop-row-preserved c =
    let inv = c.loop-row.invariant in
    let costs = c.args.field.now.costs.now in
    let k = length c.loop-row.yielded in
    let two : length c.in-Some.row.now ≡ 2 = omega (arith, inv.twos, c.in-Some.ensures.steps.1.1) in
    let t = chunk_turn costs _ c.in-Some.row.now _ (k * 2) inv.rest c.in-Some.ensures.steps.1.0 in
    let no : get_or c.in-Some.row.now 0 0 ≡ cost_in 1 costs k 0 = t.each 0 (omega (arith, two)) in
    let yes : get_or c.in-Some.row.now 1 0 ≡ cost_in 1 costs k 1 = t.each 1 (omega (arith, two)) in
    let on : k * 2 + length c.in-Some.row.now ≡ suc k * 2 = omega (arith, two) in
    let others : Rest costs (chunks_exact_rest c.next.new.self) (suc k * 2) = rw (← on) t.others in
    let more : length (c.loop-row.yielded ++ c.in-Some.row ∷ []) ≡ suc k = length_push c.loop-row.yielded c.in-Some.row ∙ omega arith in
    let longer = ap length c.push_reserved.ensures.items ∙ length_push c.loop-row.steps.items _ in
    record {
      can = search rules;
      finite = search rules;
      twos = search rules;
      rest = rw more others;
      many = omega (arith, more, longer, inv.many);
      room = search rules;
      inline = search rules;
      each =
          rw more
          (steps_more costs c.loop-row.steps.items c.push_reserved.new.self.items _ k c.push_reserved.ensures.items inv.many
          (omega (arith, ints, c.from.ensures, c.from-in-loop-row.ensures, no, yes, c.args.field.now.taken.cheap (k * 2 + 1), c.args.field.now.taken.cheap (k * 2))) inv.each);
    }
