use Rattle.std.proofs.Common.{◌≡◌, inr, rules}
use Rattle.std.specs.Iterator.Adapters.{rev_source}
use Rattle.std.specs.Slice.Iter.{iter_rest}
use Rattle.search.specs.Residuals.{scene}
use Rattle.search.proofs.Trees.{went_on, left_less}
use Rattle.search.proofs.search.Search.scan.Goals as goal

pub loop-arc-init : goal.loop-arc-init
loop-arc-init c =
    let all : iter_rest (rev_source c.into_iter-arc-iterator.result) ≡ c.leaving.result.now = cc in
    record {
      can = search rules;
      finite = search rules;
      went = search rules;
      quiet = search rules;
      left = rw all (record { leaves = c.leaving.ensures.each; others = λ e l f. inr (c.leaving.ensures.every e l f) });
    }

pub loop-arc-preserved : goal.loop-arc-preserved
loop-arc-preserved c =
    let v = scene c.args.residual.now in
    let s = c.loop-arc.self in
    let t = c.look.new.self in
    let inv = c.loop-arc.invariant in
    let went = c.look.ensures.went in
    let found = c.in_default.ensures.found in
    record {
      can = search rules;
      finite = search rules;
      went = went_on v c.args.self.now s t inv.went went;
      quiet = found.0;
      left = left_less v s t c.args.place _ _ c.in-Some.arc.now inv.left c.in-Some.ensures.steps went.grown found.1;
    }
