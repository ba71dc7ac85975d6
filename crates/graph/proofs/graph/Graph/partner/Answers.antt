use Rattle.std.proofs.Common.{refl, arith}
use Rattle.theory.specs.Levels.{partner}
use Rattle.graph.proofs.graph.Graph.partner.Goals as goal

pub returns : goal.returns
unfolding partner
returns c = record { value = refl; within = omega arith; apart = λ h. omega arith }
