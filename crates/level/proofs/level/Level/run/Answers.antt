use Rattle.std.proofs.Common.{get_or, below_more}
use Rattle.level.proofs.Works.{worked_more, worked_high}
use Rattle.level.proofs.level.Level.run.Goals as goal

pub loop-member-preserved : goal.loop-member-preserved
loop-member-preserved c =
    let k = c.args.self.now in
    let l = c.loop-member.self in
    let m = c.drain.new.self in
    let inv = c.loop-member.invariant in
    let after = c.drain.ensures in
    record {
      worked = worked_more k l m inv.worked after.worked;
      high = below_more _ _ (λ j below. worked_high k l m inv.worked after.worked (get_or c.args.members.now j 0) (inv.high j below)) after.high;
    }
