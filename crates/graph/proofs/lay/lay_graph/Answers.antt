use Rattle.std.proofs.Common.{◌≡◌, ◌*◌, length, arith}
use Rattle.field.specs.Given.{sides_of}
use Rattle.graph.proofs.Sides.{sided, arcs_fit, graphed}
use Rattle.graph.proofs.lay.lay_graph.Goals as goal

pub lay_rows-requires-clause-fit : goal.lay_rows-requires-clause-fit
lay_rows-requires-clause-fit c =
    let f = c.args.field.now in
    let each : length c.lay_arcs.new.arcs ≡ 2 * sides_of f.sides.now = omega (arith, c.lay_arcs.auto.arcs, c.requires.arcs) in
    rw c.requires.starts (arcs_fit f.places f.sides.now c.lay_arcs.new.arcs (sided f) each c.lay_arcs.ensures)

pub returns-clause-graphed : goal.returns-clause-graphed
returns-clause-graphed c =
    let f = c.args.field.now in
    let each : length c.lay_arcs.new.arcs ≡ 2 * sides_of f.sides.now = omega (arith, c.lay_arcs.auto.arcs, c.requires.arcs) in
    graphed f.places f.sides.now c.lay_arcs.new.arcs (sided f) each c.lay_arcs.ensures c.lay_rows.new.starts c.lay_rows.new.order
    (c.lay_rows.ensures f.places c.requires.starts)
