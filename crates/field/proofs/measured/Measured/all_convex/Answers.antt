use Rattle.std.proofs.Common.{◌≡◌, ℕ, suc, ◌+◌, ◌*◌, ◌<◌, ◌≤◌, length, get_or, sym, ap, ◌∙◌, rules, arith, length-append}
use Rattle.std.specs.Slice.Iter.{chunks_exact_rest}
use Rattle.field.specs.Given.{cost_in}
use Rattle.field.specs.Rules.{convex_place}
use Rattle.field.proofs.Firsts.{first_more, first_here}
use Rattle.field.proofs.Bends.{bend_refused, bend_passed, same_row}
use Rattle.field.proofs.Chunks.{Rest, chunk_turn, place_below, places_all}
use Rattle.field.proofs.measured.Measured.all_convex.Goals as goal

pub returns-in-Some-first_bend : goal.returns-in-Some-first_bend
returns-in-Some-first_bend c =
    let top = c.args.self.now.top in
    let costs = c.args.self.now.costs.now in
    let places = c.args.self.now.places in
    let k = c.loop-place.place-iterator.count in
    let row = c.in-Some.row.now in
    let step = c.in-Some.ensures.steps in
    let inv = c.loop-place.invariant in
    let long : length row ≡ suc top = step.0.1.1 ∙ inv.size in
    let turn = chunk_turn costs _ row _ (k * suc top) inv.rest step.0.1.0 in
    let each : (v : ℕ) → v ≤ top → get_or row v 0 ≡ cost_in top costs k v = λ v l. turn.each v (omega (arith, long)) in
    let told = c.in-Some-first_bend.ensures in
    let stops = bend_refused k top c.in-Some-first_bend.below (λ v. get_or row v 0) (omega (arith, long, told.0)) told.1 told.2 ∙ same_row top k costs row each in
    let left = chunks_exact_rest c.loop-place.place-iterator.iter in
    let below : k < places = place_below k places top (length left) (inv.rest.long ∙ c.args.self.now.laid.each) (omega (arith, ap length step.0.1.0, length-append row (chunks_exact_rest c.next.new.self.iter), long)) in
    rw step.1 (first_here (convex_place top costs) k places _ inv.passed (sym stops) below)

pub loop-place-preserved : goal.loop-place-preserved
loop-place-preserved c =
    let top = c.args.self.now.top in
    let costs = c.args.self.now.costs.now in
    let k = c.loop-place.place-iterator.count in
    let row = c.in-Some.row.now in
    let step = c.in-Some.ensures.steps in
    let inv = c.loop-place.invariant in
    let long : length row ≡ suc top = step.0.1.1 ∙ inv.size in
    let turn = chunk_turn costs _ row _ (k * suc top) inv.rest step.0.1.0 in
    let each : (v : ℕ) → v ≤ top → get_or row v 0 ≡ cost_in top costs k v = λ v l. turn.each v (omega (arith, long)) in
    let passes = bend_passed k top (λ v. get_or row v 0) (λ v l. c.in_default.ensures v (omega (arith, long, l))) ∙ same_row top k costs row each in
    let on : k * suc top + length row ≡ (k + 1) * suc top = omega (arith, long) in
    let others : Rest costs (chunks_exact_rest c.next.new.self.iter) ((k + 1) * suc top) = rw (← on) turn.others in
    record {
      can = search rules;
      finite = search rules;
      size = step.0.0 ∙ inv.size;
      rest = rw step.2 others;
      passed = rw step.2 (first_more (convex_place top costs) k inv.passed (sym passes));
    }

pub returns : goal.returns
returns c =
    let top = c.args.self.now.top in
    let costs = c.args.self.now.costs.now in
    let k = c.loop-place.place-iterator.count in
    let step = c.in-None.ensures.steps in
    let inv = c.loop-place.invariant in
    let left = chunks_exact_rest c.loop-place.place-iterator.iter in
    let all : k ≡ c.args.self.now.places = places_all k c.args.self.now.places top (length left) (inv.rest.long ∙ c.args.self.now.laid.each) (omega (arith, step.0.1.0, inv.size)) in
    sym (rw all at inv.passed)
