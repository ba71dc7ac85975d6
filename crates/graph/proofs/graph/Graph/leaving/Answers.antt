use Rattle.graph.proofs.Leaving.{row_has}
use Rattle.graph.proofs.graph.Graph.leaving.Goals as goal

pub returns-clause-every : goal.returns-clause-every
returns-clause-every c =
    let g = c.args.self.now in
    row_has g.places g.arcs.now g.starts.now g.order.now c.row.result.now c.args.place g.laid c.row.ensures c.requires
