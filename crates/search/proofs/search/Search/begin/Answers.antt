use Rattle.std.proofs.Common.{length, ◌∙◌, ap, arith}
use Rattle.search.specs.declared.search.Search.{Search}
use Rattle.search.specs.Residuals.{scene}
use Rattle.search.specs.Trees.{Sized}
use Rattle.search.proofs.Trees.{tree_one}
use Rattle.search.proofs.search.Search.begin.Goals as goal

pub returns : goal.returns
returns c =
    let s : Search = c.clear.new.self in
    let sized : Sized (scene c.args.residual.now).places s = ap length c.clear.ensures.slots ∙ c.requires.sized in
    let one = tree_one (scene c.args.residual.now) s c.add.new.self c.args.root _ sized c.requires.inside c.requires.from (omega arith) c.clear.ensures.none c.add.ensures in
    record { tree = one.0; one = one.1; first = one.2 }
