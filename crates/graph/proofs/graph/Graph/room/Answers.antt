use Rattle.std.proofs.Common.{◌∙◌, arith}
use Rattle.graph.proofs.Pushes.{room_in}
use Rattle.graph.proofs.graph.Graph.room.Goals as goal

pub returns : goal.returns
returns c =
    let g = c.args.self.now in
    record {
      answer =
          c.room_left.ensures ∙
          room_in g.places g.arcs.now c.args.flows.now c.args.arc c.partner.result c.partner.ensures.value;
      small = omega (arith, c.room_left.ensures, g.laid.cheap c.args.arc, g.laid.cheap c.partner.result, c.requires.within c.partner.result);
    }
