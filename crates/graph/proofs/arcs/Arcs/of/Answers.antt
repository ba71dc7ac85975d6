use Rattle.std.proofs.Common.{◌≡◌, List, ◌++◌, length, take, drop, ap, arith}
use Rattle.std.proofs.Math.Seq.{take-append_seam}
use Rattle.graph.proofs.arcs.Arcs.of.Goals as goal

-- what a vector holds after a write of all that it has
written : {A : Type 0} (xs ys : List A) → length ys ≡ length xs → take (length xs) (ys ++ drop (length ys) xs) ≡ ys
written xs ys e = rw (← e) (take-append_seam ys (drop (length ys) xs))

pub invariant_of-result : goal.invariant_of-result
invariant_of-result c =
    let arcs = written c.in_ok-arcs.arcs.items c.lay_graph.new.arcs (omega (arith, c.lay_graph.auto.arcs, ap length c.as_mut_slice.ensures.value)) in
    let starts = written c.in_ok-starts.starts.items c.lay_graph.new.starts (omega (arith, c.lay_graph.auto.starts, ap length c.as_mut_slice-2.ensures.value)) in
    let order = written c.in_ok-order.order.items c.lay_graph.new.order (omega (arith, c.lay_graph.auto.order, ap length c.as_mut_slice-3.ensures.value)) in
    rw (arcs, starts, order) c.lay_graph.ensures.graphed
