use Rattle.std.proofs.Common.{◌≡◌, ◌+◌, length, Ok}
use Rattle.std.specs.Iterator.Adapters.{zip_first, zip_second}
use Rattle.std.specs.Slice.Iter.{iter_rest}
use Rattle.sheet.proofs.Pairs.{PairsFrom}
use Rattle.field.specs.Firsts.{first}
use Rattle.sheet.specs.Claimed.{claim_field, claim_picture, claim_flows}
use Rattle.sheet.specs.Balanced.{Counted}
use Rattle.sheet.specs.Words.{side_rule}
use Rattle.sheet.proofs.claim.Claim.sides_hold.Given as goal

abbrev pub invariant-sides : goal.invariant-sides
invariant-sides l = record {
  can_next : (goal.iterator-sides).can_next l.k-iterator;
  finite : (goal.iterator-sides).is_finite l.k-iterator;
  verdict : l.verdict ≡ Ok tt;
  numbers : (zip_first l.k-iterator).numbers.now ≡ l.self.field.sides.now;
  left : length (iter_rest (zip_second l.k-iterator)) + (zip_first l.k-iterator).next ≡ (claim_field l.self).sides;
  pairs : PairsFrom (claim_flows l.self) (zip_first l.k-iterator).next (iter_rest (zip_second l.k-iterator));
  hold : first (side_rule (claim_field l.self) (claim_picture l.self) (claim_flows l.self)) (zip_first l.k-iterator).next ≡ Ok tt;
  counted : Counted (claim_field l.self) (claim_flows l.self) (zip_first l.k-iterator).next l.balance;
}
