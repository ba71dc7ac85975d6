-- What is left of lent numbers that are gone over in chunks.
use Rattle.std.proofs.Common.{◌≡◌, ℕ, suc, ◌+◌, ◌*◌, ◌<◌, ◌≤◌, List, ◌++◌, length, get_or, sym, ap, refl, ◌∙◌, inl, inr, arith, length-append, mul-le-mul_right}
use Rattle.std.proofs.lemmas.Bool.{cases_lt}
use Rattle.std.proofs.lemmas.List.{get_or-append-add}
use Rattle.std.proofs.Math.ListN.{get_or-append}

-- what is left after the first n numbers
pub record Rest (all rest : List ℕ) (n : ℕ) : Type 0 where
  pub long : length rest + n ≡ length all
  pub same : (j : ℕ) → get_or rest j 0 ≡ get_or all (n + j) 0

pub rest_all : (all : List ℕ) → Rest all all 0
rest_all all = record { long = omega arith; same = λ j. let e : 0 + j ≡ j = omega arith in rw e refl }

-- the next chunk has the next numbers, and the others are left
pub record Turn (all chunk rest : List ℕ) (n : ℕ) : Type 0 where
  pub each : (j : ℕ) → j < length chunk → get_or chunk j 0 ≡ get_or all (n + j) 0
  pub others : Rest all rest (n + length chunk)

pub chunk_turn : (all left chunk rest : List ℕ) (n : ℕ) → Rest all left n → left ≡ chunk ++ rest → Turn all chunk rest n
chunk_turn all left chunk rest n h e =
    record {
      each = λ j l. sym (get_or-append chunk rest 0 j l) ∙ ap (λ xs. get_or xs j 0) (sym e) ∙ h.same j;
      others =
          record {
            long = omega (arith, h.long, ap length e, length-append chunk rest);
            same =
                λ j.
                let on : n + (length chunk + j) ≡ n + length chunk + j = omega arith in
                sym (get_or-append-add chunk rest j 0) ∙ ap (λ xs. get_or xs (length chunk + j) 0) (sym e) ∙ h.same (length chunk + j) ∙ ap (λ i. get_or all i 0) on;
          };
    }

-- where the chunks are the costs of one place each
pub place_below : (k n s len : ℕ) → len + k * suc s ≡ n * suc s → suc s ≤ len → k < n
place_below k n s len e l =
    elim (cases_lt k n) [
      | inl below ↦ below
      | inr past ↦ absurd (omega (arith, e, l, mul-le-mul_right (suc s) past))
    ]

pub places_all : (k n s len : ℕ) → len + k * suc s ≡ n * suc s → len < suc s → k ≡ n
places_all k n s len e l =
    elim (cases_lt k n) [
      | inl below ↦ absurd (omega (arith, e, l, mul-le-mul_right (suc s) below))
      | inr past ↦
          elim (cases_lt n k) [
            | inl above ↦ absurd (omega (arith, e, mul-le-mul_right (suc s) above))
            | inr here ↦ omega arith
          ]
    ]
