use Rattle.std.proofs.Common.{sym, refl, subst, arith, rules}
use Rattle.field.specs.Given.{flows_in}
use Rattle.graph.specs.Flowed.{graph_net, Pushed}
use Rattle.graph.proofs.Pushes.{room_in, push_done}
use Rattle.graph.proofs.graph.Graph.push.Goals as goal

pub send-requires : goal.send-requires
send-requires c =
    let g = c.args.self.now in
    let b = c.partner.result in
    let room = room_in g.places g.arcs.now c.args.flows.now c.args.arc b c.partner.ensures.value in
    record {
      arc = search rules;
      back = search rules;
      apart = c.partner.ensures.apart;
      room = omega (arith, c.requires.amount, c.requires.within c.args.arc c.requires.arc, g.laid.cheap c.args.arc);
    }

pub returns : goal.returns
returns c =
    let g = c.args.self.now in
    subst (λ ys. Pushed (graph_net g) (flows_in c.args.flows.now) (flows_in ys) c.args.arc c.args.amount) (sym c.send.ensures)
    (push_done g.places g.arcs.now c.args.flows.now c.args.arc c.partner.result _ c.args.amount g.laid.even
    c.requires.each c.requires.arc c.partner.ensures.value c.requires.within c.requires.amount refl)
