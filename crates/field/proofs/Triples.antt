-- Lent numbers taken so many at a time.
use Rattle.std.proofs.Common.{◌≡◌, ℕ, zero, suc, ◌+◌, ◌*◌, ◌/◌, ◌<◌, List, [], ◌∷◌, length, get_or, take, drop, refl, ap, add-one, ◌∙◌, arith, drop-cons}
use Rattle.std.specs.Simd.{first_chunks}
use Rattle.std.proofs.lemmas.List.{drop-drop}

-- the k-th of n chunks stands k chunks on
pub chunk_at : {A : Type 0} (size n : ℕ) (xs : List A) (k : ℕ) (d : List A) → k < n → get_or (first_chunks size n xs) k d ≡ take size (drop (k * size) xs)
chunk_at size zero xs k d l = absurd (omega arith)
chunk_at size (suc n) xs zero d l = let none : 0 * size ≡ 0 = omega arith in rw none refl
chunk_at size (suc n) xs (suc k) d l =
    let on : size + k * size ≡ suc k * size = omega arith in
    chunk_at size n (drop size xs) k d (omega (arith, l)) ∙ ap (take size) (drop-drop (k * size) size xs ∙ ap (λ i. drop i xs) on)

pub triple_at :
    (xs : List ℕ) (k : ℕ) (d : List ℕ) → k < length xs / 3 →
    get_or (first_chunks 3 (length xs / 3) xs) k d ≡ get_or xs (3 * k) 0 ∷ get_or xs (3 * k + 1) 0 ∷ get_or xs (3 * k + 2) 0 ∷ []
triple_at xs k d l =
    let e : k * 3 ≡ 3 * k = omega arith in
    let one = drop-cons xs (3 * k) 0 (omega (arith, l)) in
    let two = drop-cons xs (suc (3 * k)) 0 (omega (arith, l)) in
    let three = drop-cons xs (suc (suc (3 * k))) 0 (omega (arith, l)) in
    let after : 3 * k + 2 ≡ suc (suc (3 * k)) = omega arith in
    rw (chunk_at 3 (length xs / 3) xs k d l, e, one, two, three) (rw (add-one, after) refl)
