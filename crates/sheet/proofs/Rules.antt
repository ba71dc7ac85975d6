-- What the code tests are the tests of the rules.
use Rattle.std.proofs.Common.{◌≡◌, ℕ, suc, ◌+◌, ◌<◌, Bool, List, ◌∷◌, length, get_or, ℤ, pos, ◌+ℤ◌, sym, ◌∙◌}
use Rattle.theory.specs.Pictures.{Picture}
use Rattle.theory.specs.Nets.{Flows}
use Rattle.theory.specs.Fields.{Side, Field}
use Rattle.theory.specs.Sheets.{there, back, out_of, into, tight_test, tight_at, best_at}
use Rattle.field.specs.declared.side as read
use Rattle.field.specs.declared.sides.Sides.{Sides}
use Rattle.field.specs.Sides.{Comes}
use Rattle.field.specs.Viewed.{side_of}
use Rattle.sheet.specs.declared.claim.Claim.{Claim}
use Rattle.sheet.specs.Claimed.{claim_field, claim_picture, claim_flows}
use Rattle.sheet.specs.Balanced.{balanced_test}
use Rattle.sheet.proofs.Balances.{balance_test}
use Rattle.sheet.proofs.Pairs.{PairsFrom, pair_turn}

pub side_tested :
    (f : Field) (u : Picture) (x : Flows) (k : ℕ) (s : Side) (a b : ℕ) (r : Bool) → s ≡ f.side k → a ≡ there x k → b ≡ back x k → r ≡ tight_test s u a b →
    tight_at f u x k ≡ r
side_tested f u x k s a b r e p q told = rw (← e, ← p, ← q) (sym told)

-- a side s with flows a and b is side k of a claim with its flows, and the pairs of flows left are those of the sides after it
pub record Met (m : Claim) (k : ℕ) (s : Side) (a b : ℕ) (rest after : List (List ℕ)) : Type 0 where
  pub some : k < (claim_field m).sides
  pub side : s ≡ (claim_field m).side k
  pub there_is : a ≡ there (claim_flows m) k
  pub back_is : b ≡ back (claim_flows m) k
  pub long : length rest ≡ suc (length after)
  pub others : PairsFrom (claim_flows m) (k + 1) after

-- what comes of the sides and of the pairs at once
pub side_met :
    (m : Claim) (now next : Sides) (n : ℕ) (came s : read.Side.Side) (pair : List ℕ) (a b : ℕ) (rest after : List (List ℕ)) →
    now.numbers.now ≡ m.field.sides.now → Comes now next n came → rest ≡ pair ∷ after → PairsFrom (claim_flows m) now.next rest → s ≡ came →
    a ≡ get_or pair 0 0 → b ≡ get_or pair 1 0 → Met m now.next (side_of s) a b rest after
side_met m now next n came s pair a b rest after numbers comes e pairs same first second =
    let turn = pair_turn (claim_flows m) now.next rest after pair e pairs in
    record {
      some = rw (← numbers) comes.some;
      side = rw (same, ← numbers) comes.side;
      there_is = first ∙ turn.0;
      back_is = second ∙ turn.1;
      long = turn.2;
      others = turn.3;
    }

-- so its test is that of the rule
pub met_tested :
    (m : Claim) (k : ℕ) (s : Side) (a b : ℕ) (rest after : List (List ℕ)) (r : Bool) → Met m k s a b rest after → r ≡ tight_test s (claim_picture m) a b →
    tight_at (claim_field m) (claim_picture m) (claim_flows m) k ≡ r
met_tested m k s a b rest after r met told =
    side_tested (claim_field m) (claim_picture m) (claim_flows m) k s a b r met.side met.there_is met.back_is told

-- a is the picture's value at the place at the cost c, b the other value at the cost d, and y the balance as it is read
pub value_tested :
    (f : Field) (u : Picture) (x : Flows) (i v : ℕ) (y z : ℤ) (a b c d : ℕ) (r : Bool) → y ≡ z → z +ℤ pos (into f x i) ≡ pos (out_of f x i) → a ≡ u i → b ≡ v →
    c ≡ f.cost i (u i) → d ≡ f.cost i v → r ≡ balanced_test y c a d b → best_at f u x i v ≡ r
value_tested f u x i v y z a b c d r e balanced p q here other told =
    let same = rw (e, p, q) at told in
    sym (same ∙ balance_test (f.cost i) z (out_of f x i) (into f x i) (u i) v c d balanced here other)
