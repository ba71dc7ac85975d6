use Rattle.level.proofs.Carries.{carry_arc}
use Rattle.level.proofs.level.Level.carry.Goals as goal

pub push-requires-clause-amount : goal.push-requires-clause-amount
push-requires-clause-amount c =
    (carry_arc c.args.self.now c.args.sink c.args.amount _ c.root-root.result c.arc_to-arc.result c.loop-place.flows c.requires.searched c.loop-place.invariant
    c.root-root.ensures c.loop-place-test.true c.arc_to-arc.ensures).room

pub loop-place-preserved : goal.loop-place-preserved
loop-place-preserved c =
    (carry_arc c.args.self.now c.args.sink c.args.amount _ c.root-root.result c.arc_to-arc.result c.loop-place.flows c.requires.searched c.loop-place.invariant
    c.root-root.ensures c.loop-place-test.true c.arc_to-arc.ensures).more _ _ c.push.ensures c.tail-place.ensures.place
