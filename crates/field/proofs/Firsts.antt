-- Laws of the first rule that applies.
use Rattle.std.proofs.Common.{◌≡◌, ℕ, zero, suc, ◌+◌, ◌<◌, Bool, true, false, ◌⊎◌, Ok, Err, refl, inl, inr, add-one, arith}
use Rattle.std.proofs.lemmas.Bool.{cases_eq}
use Rattle.field.specs.Firsts.{Tried, must, and_then, first}

pub must_pass : {E : Type 0} (b : Bool) (e : E) → b ≡ true → must b e ≡ Ok tt
must_pass b e h = rw h

pub must_stop : {E : Type 0} (b : Bool) (e : E) → b ≡ false → must b e ≡ Err e
must_stop b e h = rw h

pub must_hold : {E : Type 0} (b : Bool) (e : E) → must b e ≡ Ok tt → b ≡ true
must_hold true e h = refl
must_hold false e h = absurd (let z : ◌≡◌ {A = ℕ} 0 1 = cc in omega arith)

pub both_ok : {E : Type 0} (r s : Tried E) → and_then r s ≡ Ok tt → (r ≡ Ok tt) × (s ≡ Ok tt)
both_ok (Ok u) s h = (refl, h)
both_ok (Err e) s h = (h, absurd (let z : ◌≡◌ {A = ℕ} 0 1 = cc in omega arith))

pub must_say : {E : Type 0} (b : Bool) (d e : E) → must b d ≡ Err e → (b ≡ false) × (d ≡ e)
must_say true d e h = absurd (let z : ◌≡◌ {A = ℕ} 0 1 = cc in omega arith)
must_say false d e h = (refl, cc)

pub both_err : {E : Type 0} (r s : Tried E) (e : E) → and_then r s ≡ Err e → (r ≡ Err e) ⊎ ((r ≡ Ok tt) × (s ≡ Err e))
both_err (Ok u) s e h = inr (refl, h)
both_err (Err d) s e h = inl h

pub first_more : {E : Type 0} (t : ℕ → Tried E) (n : ℕ) → first t n ≡ Ok tt → t n ≡ Ok tt → first t (n + 1) ≡ Ok tt
first_more t n h k = rw (add-one, h) k

first_here_step :
    {E : Type 0} (t : ℕ → Tried E) (n m : ℕ) (e : E) → first t n ≡ Ok tt → t n ≡ Err e → (n ≡ m) ⊎ (n ≡ m → ⊥) → (n < m → Err e ≡ first t m) → n < suc m →
    Err e ≡ and_then (first t m) (t m)
first_here_step t n m e h k (inl p) below l = rw (← p, h, k)
first_here_step t n m e h k (inr d) below l = rw (← (below (omega arith)))

-- the rules before n pass, and the one at n does not
pub first_here : {E : Type 0} (t : ℕ → Tried E) (n m : ℕ) (e : E) → first t n ≡ Ok tt → t n ≡ Err e → n < m → Err e ≡ first t m
first_here t n zero e h k l = absurd (omega arith)
first_here t n (suc m) e h k l = first_here_step t n m e h k (cases_eq n m) (first_here t n m e h k) l

first_all_step : {E : Type 0} (t : ℕ → Tried E) (n i : ℕ) → (i ≡ n) ⊎ (i ≡ n → ⊥) → i < suc n → t n ≡ Ok tt → (i < n → t i ≡ Ok tt) → t i ≡ Ok tt
first_all_step t n i (inl p) l here below = rw p here
first_all_step t n i (inr d) l here below = below (omega arith)

-- where no rule turns away, each passes
pub first_all : {E : Type 0} (t : ℕ → Tried E) (n : ℕ) → first t n ≡ Ok tt → (i : ℕ) → i < n → t i ≡ Ok tt
first_all t zero h i l = absurd (omega arith)
first_all t (suc n) h i l =
    let b = both_ok (first t n) (t n) h in
    first_all_step t n i (cases_eq i n) l b.1 (first_all t n b.0 i)

-- rules that agree have the same first
pub first_same : {E : Type 0} (s t : ℕ → Tried E) (n : ℕ) → ((i : ℕ) → i < n → s i ≡ t i) → first s n ≡ first t n
first_same s t zero h = refl
first_same s t (suc n) h = rw (first_same s t n (λ i l. h i (omega arith)), h n (omega arith))

-- and the other way round
pub first_none : {E : Type 0} (t : ℕ → Tried E) (n : ℕ) → ((i : ℕ) → i < n → t i ≡ Ok tt) → first t n ≡ Ok tt
first_none t zero h = refl
first_none t (suc n) h = rw (first_none t n (λ i l. h i (omega arith))) (h n (omega arith))

-- the rule that the first is found at
abbrev pub Found : {E : Type 0} → (ℕ → Tried E) → ℕ → E → Type 0
Found t n e = (k : ℕ) × (k < n) × (first t k ≡ Ok tt) × (t k ≡ Err e)

found_step : {E : Type 0} (t : ℕ → Tried E) (n : ℕ) (e : E) → (first t n ≡ Err e) ⊎ ((first t n ≡ Ok tt) × (t n ≡ Err e)) → (first t n ≡ Err e → Found t n e) → Found t (suc n) e
found_step t n e (inl h) below = let f = below h in (f.0, omega (arith, f.1), f.2, f.3)
found_step t n e (inr h) below = (n, omega arith, h.0, h.1)

pub first_found : {E : Type 0} (t : ℕ → Tried E) (n : ℕ) (e : E) → first t n ≡ Err e → Found t n e
first_found t zero e h = absurd (let z : ◌≡◌ {A = ℕ} 0 1 = cc in omega arith)
first_found t (suc n) e h = found_step t n e (both_err (first t n) (t n) e h) (first_found t n e)

-- the first that applies, by what is before it
pub first_at : {E : Type 0} (t : ℕ → Tried E) (n k : ℕ) (e : E) → ((j : ℕ) → j < k → t j ≡ Ok tt) → t k ≡ Err e → k < n → Err e ≡ first t n
first_at t n k e before here l = first_here t k n e (first_none t k before) here l
