-- One place's costs among all.
use Rattle.std.proofs.Common.{◌≡◌, ℕ, suc, ◌+◌, ◌-◌, ◌*◌, ◌<◌, ◌≤◌, ◌⊎◌, List, ◌++◌, length, get_or, take, drop, replicate, refl, inl, inr, mul-le-mul_right, mul-le-mul, arith}
use lib.ListN.{length-replicate}
use Rattle.std.proofs.lemmas.List.{get_or-append_right, get_or-drop, get_or_past, get_or-replicate, take-replicate}
use Rattle.std.proofs.lemmas.Bool.{cases_lt}
use Rattle.theory.specs.Pictures.{Picture}
use Rattle.theory.specs.Fields.{Side, apart, side_cost}
use Rattle.field.specs.declared.side as read
use Rattle.field.specs.Viewed.{side_of}
use Rattle.field.specs.Limits.{most_top, most_price, most_side_cost}
use Rattle.field.specs.Rules.{convex_rule}

-- the costs of n places lie one after the other, for the values up to t
pub row_within : (i n t count : ℕ) → i < n → count ≡ n * suc t → i * suc t + suc t ≤ count
row_within i n t count l e = omega (arith, mul-le-mul_right (suc t) l)

-- the rule of convex costs sees a place's costs only up to the top
pub rule_same : (i : ℕ) (c d : ℕ → ℕ) (top : ℕ) → ((v : ℕ) → v ≤ top → c v ≡ d v) → (v : ℕ) → v < top → convex_rule i c v ≡ convex_rule i d v
rule_same i c d top h v l = rw (h v (omega arith), h (v - 1) (omega arith), h (v + 1) (omega arith))

-- what a side costs at most
pub steps_small : (p a b : ℕ) → p ≤ most_price → a ≤ most_top → b ≤ most_top → p * apart a b ≤ most_side_cost
steps_small p a b h k l = let far : apart a b ≤ most_top = omega arith in mul-le-mul h far

-- what a side costs that is read from lent numbers
pub read_cost : (r : read.Side.Side) (s : Side) (u : Picture) (cost : ℕ) → side_of r ≡ s → cost ≡ r.price * apart (u r.first) (u r.second) → cost ≡ side_cost s u
read_cost r s u cost h e = rw (← h) e

-- the same wherever one looks
same_by : {A : Type 0} (n i : ℕ) (z : A) → (i < n) ⊎ (n ≤ i) → get_or (replicate n z) i z ≡ z
same_by n i z (inl l) = get_or-replicate n i z z l
same_by n i z (inr l) = let short : length (replicate n z) ≤ i = rw length-replicate l in get_or_past _ i z short

pub same_everywhere : {A : Type 0} (n i : ℕ) (z : A) → get_or (replicate n z) i z ≡ z
same_everywhere n i z = same_by n i z (cases_lt i n)

-- a part from the start of equal numbers, as it is lent on
pub front_of_equals : {A : Type 0} (n k : ℕ) (z : A) → k ≤ n → take (k - 0) (drop 0 (replicate n z)) ≡ replicate k z
front_of_equals n k z l = let whole : k - 0 ≡ k = omega arith in rw whole (take-replicate k n z l)

pub front_long : {A : Type 0} (n k : ℕ) (z : A) → k ≤ n → length (take (k - 0) (drop 0 (replicate n z))) ≡ k
front_long n k z l = rw (front_of_equals n k z l) (length-replicate k z)

-- what lies past a part that was written over zeros
pub past_written : (ys : List ℕ) (n k v : ℕ) → length ys ≤ v → get_or (ys ++ drop k (replicate n 0)) v 0 ≡ 0
past_written ys n k v h =
    let blank : List ℕ = replicate n 0 in
    let i : ℕ = v - length ys in
    rw (get_or-append_right ys (drop k blank) (length ys) v 0 refl h, get_or-drop k blank i 0) (same_everywhere n (k + i) 0)
