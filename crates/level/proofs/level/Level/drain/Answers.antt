use Rattle.std.proofs.Common.{rules}
use Rattle.level.proofs.Works.{worked_more, worked_after}
use Rattle.level.proofs.level.Level.drain.Goals as goal

pub loop-self-preserved : goal.loop-self-preserved
loop-self-preserved c =
    let k = c.args.self.now in
    let l = c.loop-self.self in
    let m = c.nearest_sink.new.self in
    let n = c.augment.new.self in
    let found = c.nearest_sink.ensures in
    record {
      worked = worked_more k l n c.loop-self.invariant.worked (worked_after l m n found.scene found.same c.augment.ensures.worked);
      marks = search rules;
    }

pub returns-in_default-clause-worked : goal.returns-in_default-clause-worked
returns-in_default-clause-worked c =
    let k = c.args.self.now in
    let l = c.loop-self.self in
    let m = c.nearest_sink.new.self in
    let n = c.close.new.self in
    let found = c.nearest_sink.ensures in
    worked_more k l n c.loop-self.invariant.worked (worked_after l m n found.scene found.same c.close.ensures.worked)
