use Rattle.std.proofs.Common.{◌≡◌, ℕ, ◌<◌, length, refl, arith}
use Rattle.search.specs.declared.search.Search.{Search}
use Rattle.search.specs.Residuals.{Scene, scene, net}
use Rattle.search.specs.Trees.{reach, Added}
use Rattle.search.proofs.Trees.{went_more, seen_sent, quiet_more, added_seen}
use Rattle.search.proofs.search.Search.extend.Goals as goal

pub returns : goal.returns
returns c =
    let v : Scene = scene c.args.residual.now in
    let s : Search = c.args.self.now in
    let t : Search = c.add.new.self in
    let e : ℕ = c.args.arc in
    let p : ℕ = ((net v).arc e).to in
    let a : ℕ = c.min-amount.result in
    let much : c.amount_to.result ≡ reach s ((net v).arc e).from = rw c.tail.ensures.place at c.amount_to.ensures in
    let sent = seen_sent v s ((net v).arc e).from c.requires.tree c.requires.from in
    let least = c.min-amount.ensures in
    let room = c.requires.room in
    let inside : p < v.places = rw c.head.ensures.place at c.head.ensures.inside in
    let slotted : p < length s.slots.items = omega (arith, c.requires.tree.sized) in
    let added : Added s t p e a = rw c.head.ensures.place at c.add.ensures in
    record {
      went =
          went_more s t p e a slotted c.requires.new added v c.requires.tree c.requires.to c.requires.arc refl c.requires.from
          (omega (arith, c.requires.some)) (omega arith) (omega arith);
      seen = added_seen s t p e a slotted c.requires.new added;
      quiet = quiet_more s t p e a slotted c.requires.new added v c.requires.tree;
    }
