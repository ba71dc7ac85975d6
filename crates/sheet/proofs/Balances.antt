-- Laws of balances: what flows out of each place less what flows in.
use Rattle.std.proofs.Common.{◌≡◌, ℕ, suc, ◌+◌, ◌*◌, ◌<◌, ◌≤◌, cond, eqb, ◌≢◌, ◌⊎◌, List, length, get_or, ℤ, pos, negsuc, ◌+ℤ◌, sym, refl, inl, inr, add-one, arith, length-set, get_or-set_other, get_or-set_same}
use Rattle.std.proofs.lemmas.Int.{ints}
use Rattle.std.proofs.lemmas.Bool.Decides.{nat_tests}
use Rattle.std.proofs.lemmas.Bool.{cases_eq, eq-eqb, ne_eqb}
use Rattle.theory.specs.Nets.{Flows, no_dearer_test}
use Rattle.theory.specs.Fields.{Side, Field}
use Rattle.theory.specs.Sheets.{there, back, at_ends}
use Rattle.field.specs.Limits.{most_price}
use Rattle.sheet.specs.Balanced.{Counted, counted_at, both_counted, balanced_test}

counted_by :
    (xs : List ℤ) (p a b i : ℕ) → p < length xs → (i ≡ p) ⊎ (i ≢ p) →
    get_or (counted_at xs p a b) i (pos 0) +ℤ pos (cond (eqb p i) b 0) ≡ get_or xs i (pos 0) +ℤ pos (cond (eqb p i) a 0)
counted_by xs p a b i l (inl e) = rw (e, eq-eqb p p refl, get_or-set_same) (omega (arith, ints))
counted_by xs p a b i l (inr d) = rw (ne_eqb p i (λ e. d (sym e)), get_or-set_other)

-- the flows of a side, counted at one end and then at the other, add at each place what they have there
both_counted_at :
    (xs : List ℤ) (s : Side) (a b i : ℕ) → s.first < length xs → s.second < length xs →
    get_or (both_counted xs s a b) i (pos 0) +ℤ pos (at_ends s b a i) ≡ get_or xs i (pos 0) +ℤ pos (at_ends s a b i)
both_counted_at xs s a b i k l =
    let ys : List ℤ = counted_at xs s.first a b in
    let within : s.second < length ys = rw length-set l in
    omega (arith, ints, counted_by xs s.first a b i k (cases_eq i s.first), counted_by ys s.second b a i within (cases_eq i s.second))

ends_most : (s : Side) (a b i : ℕ) → a ≤ most_price → b ≤ most_price → at_ends s a b i ≤ 2 * most_price
ends_most s a b i h k = grind arith

-- one side more
pub counted_more :
    (f : Field) (x : Flows) (k : ℕ) (xs ys : List ℤ) (s : Side) (a b : ℕ) → s ≡ f.side k → a ≡ there x k → b ≡ back x k →
    (f.side k).first < length xs → (f.side k).second < length xs → there x k ≤ most_price → back x k ≤ most_price →
    ys ≡ both_counted xs s a b → Counted f x k xs → Counted f x (k + 1) ys
counted_more f x k xs ys s a b p q r start end h l e counted =
    record {
      exact = λ i. rw (add-one, e, p, q, r) (omega (arith, ints, both_counted_at xs (f.side k) (there x k) (back x k) i start end, counted.exact i));
      few_out = λ i. rw add-one (omega (arith, counted.few_out i, ends_most (f.side k) (there x k) (back x k) i h l));
      few_into = λ i. rw add-one (omega (arith, counted.few_into i, ends_most (f.side k) (back x k) (there x k) i l h));
    }

-- the test with a balance is the test with what flows out and in
pub balance_test :
    (cost : ℕ → ℕ) (z : ℤ) (out into a b c d : ℕ) → z +ℤ pos into ≡ pos out → c ≡ cost a → d ≡ cost b → balanced_test z c a d b ≡ no_dearer_test cost out into a b
balance_test cost (pos n) out into a b c d e p q =
    let all : out ≡ n + into = omega (arith, ints) in
    rw (all, ← p, ← q) (grind (arith, nat_tests))
balance_test cost (negsuc n) out into a b c d e p q =
    let all : into ≡ suc n + out = omega (arith, ints) in
    rw (all, ← p, ← q) (grind (arith, nat_tests))
