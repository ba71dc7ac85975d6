use Rattle.std.proofs.Common.{◌≡◌, ℕ, ◌<◌, set, length, ap, ◌∙◌, arith, length-set}
use Rattle.search.specs.declared.search.Search.{Search}
use Rattle.search.specs.Trees.{count, Seen}
use Rattle.search.proofs.Standings.{room_for, refill_all, kept_more}
use Rattle.search.proofs.search.Search.add.Goals as goal

-- where a place was not reached, fewer were reached than have slots
slots_left : (s : Search) (p : ℕ) → p < length s.slots.items → (Seen s p → ⊥) → count s < length s.slots.items
slots_left s p l new = room_for (length s.slots.items) s.reached.items s.slots.items s.kept.ordered p l (λ k m e. new (k, m, e))

pub settle-requires-clause-number : goal.settle-requires-clause-number
settle-requires-clause-number c =
    let s = c.args.self.now in
    let left = slots_left s c.args.place c.requires.place c.requires.new in
    omega (arith, ap length c.as_mut_slice.ensures.value)

pub push_reserved-requires : goal.push_reserved-requires
push_reserved-requires c =
    let s = c.args.self.now in
    let left = slots_left s c.args.place c.requires.place c.requires.new in
    (omega arith, omega (arith, s.kept.room))

pub invariant_of-self : goal.invariant_of-self
invariant_of-self c =
    let s = c.args.self.now in
    let t = c.push_reserved.new.self in
    let written : c.settle.new.slots ≡ set s.slots.items c.args.place (length s.reached.items) = cc in
    let same = refill_all s.slots.items c.settle.new.slots (ap length written ∙ length-set s.slots.items c.args.place (length s.reached.items)) in
    record {
      kept =
          kept_more s.reached.items t.items s.reached.capacity t.capacity s.slots.items _ _ s.kept c.requires.place (λ k l e. c.requires.new (k, l, e))
          c.push_reserved.ensures.items c.push_reserved.ensures.capacity (same ∙ written);
    }
