-- Lent numbers taken two by two.
use Rattle.std.proofs.Common.{◌≡◌, ℕ, suc, ◌+◌, ◌*◌, ◌/◌, ◌<◌, List, [], ◌∷◌, length, get_or, refl, add-zero, add-one, arith, drop-cons}
use Rattle.std.specs.Simd.{first_chunks}
use Rattle.theory.specs.Nets.{Flows}
use Rattle.theory.specs.Sheets.{there, back}
use Rattle.field.proofs.Triples.{chunk_at}

pub pair_at : (xs : List ℕ) (k : ℕ) (d : List ℕ) → k < length xs / 2 → get_or (first_chunks 2 (length xs / 2) xs) k d ≡ get_or xs (2 * k) 0 ∷ get_or xs (2 * k + 1) 0 ∷ []
pair_at xs k d l =
    let e : k * 2 ≡ 2 * k = omega arith in
    let one = drop-cons xs (2 * k) 0 (omega (arith, l)) in
    let two = drop-cons xs (suc (2 * k)) 0 (omega (arith, l)) in
    rw (chunk_at 2 (length xs / 2) xs k d l, e, one, two) (rw add-one refl)

-- the pairs of flows from side n on
abbrev pub PairsFrom : Flows → ℕ → List (List ℕ) → Type 0
PairsFrom x n rest = (j : ℕ) → j < length rest → get_or rest j [] ≡ there x (n + j) ∷ back x (n + j) ∷ []

-- the pair that comes is that of side n, and the others are those after it
pub pair_turn :
    (x : Flows) (n : ℕ) (rest after : List (List ℕ)) (pair : List ℕ) → rest ≡ pair ∷ after → PairsFrom x n rest →
    (get_or pair 0 0 ≡ there x n) × (get_or pair 1 0 ≡ back x n) × (length rest ≡ suc (length after)) × PairsFrom x (n + 1) after
pair_turn x n rest after pair e pairs =
    let long : length rest ≡ suc (length after) = rw e refl in
    let front = rw e at pairs 0 (omega (arith, long)) in
    let here = rw add-zero at front in (
      rw here refl,
      rw here refl,
      long,
      λ j l.
          let next = rw e at pairs (suc j) (omega (arith, l, long)) in
          let on : n + suc j ≡ n + 1 + j = omega arith in
          rw on at next,
    )
