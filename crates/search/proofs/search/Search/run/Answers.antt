use Rattle.std.proofs.Common.{◌<◌, List, length, ap, ◌∙◌, subst, arith}
use Rattle.search.specs.declared.reached.Reached.{Reached}
use Rattle.search.specs.Standing.{place_in}
use Rattle.search.specs.Residuals.{scene}
use Rattle.search.specs.Trees.{FollowedFrom}
use Rattle.search.proofs.Trees.{explored_more}
use Rattle.search.proofs.search.Search.run.Goals as goal

pub loop-done-preserved : goal.loop-done-preserved
loop-done-preserved c =
    let v = scene c.args.residual.now in
    let s = c.loop-done.self in
    let t = c.scan.new.self in
    let went = c.in_default.ensures.went in
    let found = c.in_default.ensures.found in
    let inv = c.loop-done.invariant in
    let many = ap length c.reached.ensures in
    let below : c.loop-done.done < length s.reached.items = omega (arith, c.loop-done-test.true) in
    let here = subst (λ (xs : List Reached). FollowedFrom v t (place_in xs c.loop-done.done)) c.reached-in-loop-done.ensures found.1 in
    record {
      tree = went.tree;
      first = went.grown.kept 0 inv.tree.some ∙ inv.first;
      quiet = found.0;
      within = omega (arith, went.grown.longer);
      explored = explored_more v s t c.loop-done.done below inv.explored went.grown here;
    }
