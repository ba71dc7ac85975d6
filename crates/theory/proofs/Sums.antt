-- Laws of finite sums.
use Rattle.std.proofs.Common.{◌≡◌, ℕ, zero, suc, ◌+◌, ◌*◌, ◌<◌, ◌≤◌, true, false, cond, eqb, ◌⊎◌, sym, refl, ap, ◌∙◌, inl, inr, add-one, arith}
use Rattle.std.proofs.lemmas.Bool.{cases_eq, eq-eqb, ne_eqb}
use Rattle.theory.specs.Sums.{sum}

pub sum_same : (n : ℕ) (f g : ℕ → ℕ) → ((i : ℕ) → i < n → f i ≡ g i) → sum n f ≡ sum n g
sum_same zero f g h = refl
sum_same (suc n) f g h = omega (arith, h n, sum_same n f g (λ i l. h i (omega arith)))

-- four sums whose terms keep an inequality, which is how two pictures are compared with their meet and join
pub sum_cross : (n : ℕ) (a b c d : ℕ → ℕ) → ((i : ℕ) → i < n → a i + b i ≤ c i + d i) → sum n a + sum n b ≤ sum n c + sum n d
sum_cross zero a b c d h = omega arith
sum_cross (suc n) a b c d h = omega (arith, h n (omega arith), sum_cross n a b c d (λ i l. h i (omega arith)))

pub sum_le : (n : ℕ) (f g : ℕ → ℕ) → ((i : ℕ) → i < n → f i ≤ g i) → sum n f ≤ sum n g
sum_le zero f g h = omega arith
sum_le (suc n) f g h = omega (arith, h n (omega arith), sum_le n f g (λ i l. h i (omega arith)))

pub sum_bound : (n b : ℕ) (f : ℕ → ℕ) → ((i : ℕ) → i < n → f i ≤ b) → sum n f ≤ n * b
sum_bound zero b f h = omega arith
sum_bound (suc n) b f h = omega (arith, h n (omega arith), sum_bound n b f (λ i l. h i (omega arith)))

sum_tight_step : (n : ℕ) (f g : ℕ → ℕ) (i : ℕ) → (i ≡ n) ⊎ (i ≡ n → ⊥) → i < suc n → f n ≡ g n → (i < n → f i ≡ g i) → f i ≡ g i
sum_tight_step n f g i (inl e) l here below = ap f e ∙ (here ∙ sym (ap g e))
sum_tight_step n f g i (inr d) l here below = below (omega arith)

-- where no term is larger and the sum is no smaller, the terms are equal
pub sum_tight : (n : ℕ) (f g : ℕ → ℕ) → ((i : ℕ) → i < n → f i ≤ g i) → sum n g ≤ sum n f → (i : ℕ) → i < n → f i ≡ g i
sum_tight zero f g h s i l = omega arith
sum_tight (suc n) f g h s i l =
    let here : f n ≤ g n = h n (omega arith) in
    let below : (j : ℕ) → j < n → f j ≤ g j = λ j m. h j (omega arith) in
    let rest : sum n f ≤ sum n g = sum_le n f g below in
    sum_tight_step n f g i (cases_eq i n) l (omega arith) (sum_tight n f g below (omega arith) i)

-- terms that are themselves sums
pub sum_add : (n : ℕ) (f g : ℕ → ℕ) → sum n (λ i. f i + g i) ≡ sum n f + sum n g
sum_add zero f g = refl
sum_add (suc n) f g = omega (arith, sum_add n f g)

pub sum_add_three : (n : ℕ) (f g h : ℕ → ℕ) → sum n (λ i. f i + g i + h i) ≡ sum n f + sum n g + sum n h
sum_add_three n f g h = omega (arith, sum_add n (λ i. f i + g i) h, sum_add n f g)

pub sum_zero : (n : ℕ) (f : ℕ → ℕ) → ((i : ℕ) → i < n → f i ≡ 0) → sum n f ≡ 0
sum_zero zero f h = refl
sum_zero (suc n) f h = omega (arith, h n (omega arith), sum_zero n f (λ i l. h i (omega arith)))

-- a sum of which only the term at p counts
only_here : (p a i : ℕ) (w : ℕ → ℕ) → p ≡ i → cond (eqb p i) a 0 * w i ≡ a * w p
only_here p a i w e = let t : eqb p i ≡ true = eq-eqb p i e in rw t (rw e)

only_else : (p a i : ℕ) (w : ℕ → ℕ) → (p ≡ i → ⊥) → cond (eqb p i) a 0 * w i ≡ 0
only_else p a i w d = let t : eqb p i ≡ false = ne_eqb p i d in rw t (omega arith)

sum_only_step :
    (n p a : ℕ) (w : ℕ → ℕ) → (p ≡ n) ⊎ (p ≡ n → ⊥) → p < suc n →
    (p < n → sum n (λ i. cond (eqb p i) a 0 * w i) ≡ a * w p) → sum (suc n) (λ i. cond (eqb p i) a 0 * w i) ≡ a * w p
sum_only_step n p a w (inl e) l below =
    omega (arith, only_here p a n w e, sum_zero n (λ i. cond (eqb p i) a 0 * w i) (λ i m. only_else p a i w (λ same. omega arith)))
sum_only_step n p a w (inr d) l below = omega (arith, only_else p a n w d, below (omega arith))

pub sum_only : (n p a : ℕ) (w : ℕ → ℕ) → p < n → sum n (λ i. cond (eqb p i) a 0 * w i) ≡ a * w p
sum_only zero p a w l = omega arith
sum_only (suc n) p a w l = sum_only_step n p a w (cases_eq p n) l (sum_only n p a w)

-- amounts x e at places p e, weighed by place: place by place as one by one
pub sum_exchange :
    (n m : ℕ) (p x w : ℕ → ℕ) → ((e : ℕ) → e < m → p e < n) →
    sum n (λ i. sum m (λ e. cond (eqb (p e) i) (x e) 0) * w i) ≡ sum m (λ e. x e * w (p e))
sum_exchange n zero p x w h = sum_zero n (λ i. 0 * w i) (λ i l. omega arith)
sum_exchange n (suc m) p x w h =
    let one : ℕ → ℕ = λ i. cond (eqb (p m) i) (x m) 0 * w i in
    let others : ℕ → ℕ = λ i. sum m (λ e. cond (eqb (p e) i) (x e) 0) * w i in
    omega (
      arith,
      sum_same n (λ i. sum (suc m) (λ e. cond (eqb (p e) i) (x e) 0) * w i) (λ i. one i + others i) (λ i l. omega arith),
      sum_add n one others,
      sum_only n (p m) (x m) w (h m (omega arith)),
      sum_exchange n m p x w (λ e l. h e (omega arith)),
    )

-- terms two by two
pub sum_pairs : (n : ℕ) (g : ℕ → ℕ) → sum (2 * n) g ≡ sum n (λ k. g (2 * k) + g (2 * k + 1))
sum_pairs zero g = refl
sum_pairs (suc n) g =
    let two : 2 * suc n ≡ suc (suc (2 * n)) = omega arith in
    let one : suc (2 * n) ≡ 2 * n + 1 = omega arith in
    omega (arith, ap (λ m. sum m g) two, ap g one, sum_pairs n g)

-- one term more, for a loop that adds up terms of at most b
pub sum_more : (g : ℕ → ℕ) (n a x b : ℕ) → a ≡ sum n g → x ≡ g n → a ≤ n * b → x ≤ b → (a + x ≡ sum (n + 1) g) × (a + x ≤ (n + 1) * b)
sum_more g n a x b e f h l = (rw add-one (omega arith), omega arith)

-- two sums whose terms are equal but for one
sum_change_step :
    (n : ℕ) (f g : ℕ → ℕ) (k : ℕ) → (k ≡ n) ⊎ (k ≡ n → ⊥) → k < suc n → ((j : ℕ) → j < suc n → (j ≡ k → ⊥) → f j ≡ g j) →
    (k < n → sum n f + g k ≡ sum n g + f k) → sum (suc n) f + g k ≡ sum (suc n) g + f k
sum_change_step n f g k (inl e) l h below =
    omega (arith, ap f e, ap g e, sum_same n f g (λ j m. h j (omega arith) (λ same. omega arith)))
sum_change_step n f g k (inr d) l h below = omega (arith, h n (omega arith) (λ same. d (sym same)), below (omega arith))

pub sum_change :
    (n : ℕ) (f g : ℕ → ℕ) (k : ℕ) → k < n → ((j : ℕ) → j < n → (j ≡ k → ⊥) → f j ≡ g j) → sum n f + g k ≡ sum n g + f k
sum_change zero f g k l h = absurd (omega arith)
sum_change (suc n) f g k l h =
    sum_change_step n f g k (cases_eq k n) l h (λ m. sum_change n f g k m (λ j r d. h j (omega arith) d))

-- a function that is g at k and f elsewhere, between two that are equal but for k and l
between_same : (f g : ℕ → ℕ) (k j : ℕ) → (j ≡ k) ⊎ (j ≡ k → ⊥) → ((j ≡ k → ⊥) → f j ≡ g j) → cond (eqb j k) (g k) (f j) ≡ g j
between_same f g k j (inl e) h = let t : eqb j k ≡ true = eq-eqb j k e in rw t (sym (ap g e))
between_same f g k j (inr d) h = let t : eqb j k ≡ false = ne_eqb j k d in rw t (h d)

between_else : (f g : ℕ → ℕ) (k j : ℕ) → (j ≡ k → ⊥) → cond (eqb j k) (g k) (f j) ≡ f j
between_else f g k j d = let t : eqb j k ≡ false = ne_eqb j k d in rw t

-- two sums whose terms are equal but for two
pub sum_change_two :
    (n : ℕ) (f g : ℕ → ℕ) (k l : ℕ) → k < n → l < n → (k ≡ l → ⊥) → ((j : ℕ) → j < n → (j ≡ k → ⊥) → (j ≡ l → ⊥) → f j ≡ g j) →
    sum n f + (g k + g l) ≡ sum n g + (f k + f l)
sum_change_two n f g k l a b other h =
    let mid : ℕ → ℕ = λ j. cond (eqb j k) (g k) (f j) in
    let at_k : mid k ≡ g k = between_same f g k k (cases_eq k k) (λ d. absurd (d refl)) in
    let at_l : mid l ≡ f l = between_else f g k l (λ e. other (sym e)) in
    omega (
      arith,
      sum_change n f mid k a (λ j m d. sym (between_else f g k j d)),
      sum_change n mid g l b (λ j m d. between_same f g k j (cases_eq j k) (λ c. h j m c d)),
    )

pub sum_ones : (n : ℕ) → sum n (λ i. 1) ≡ n
sum_ones zero = refl
sum_ones (suc n) = omega (arith, sum_ones n)

-- of numbers that are all different at most one is i
abbrev hit : (p : ℕ → ℕ) (i e : ℕ) → ℕ
hit p i e = cond (eqb (p e) i) 1 0

hit_here : (p : ℕ → ℕ) (i e : ℕ) → p e ≡ i → hit p i e ≡ 1
hit_here p i e t = rw (eq-eqb (p e) i t)

hit_else : (p : ℕ → ℕ) (i e : ℕ) → (p e ≡ i → ⊥) → hit p i e ≡ 0
hit_else p i e d = rw (ne_eqb (p e) i d)

count_one_step :
    (m : ℕ) (p : ℕ → ℕ) (i : ℕ) → (p m ≡ i) ⊎ (p m ≡ i → ⊥) → ((j k : ℕ) → j < suc m → k < suc m → p j ≡ p k → j ≡ k) →
    sum m (hit p i) ≤ 1 → sum (suc m) (hit p i) ≤ 1
count_one_step m p i (inl t) differ below =
    omega (
      arith,
      hit_here p i m t,
      sum_zero m (hit p i) (λ e l. hit_else p i e (λ same. omega (arith, differ e m (omega arith) (omega arith) (same ∙ sym t)))),
    )
count_one_step m p i (inr d) differ below = omega (arith, hit_else p i m d)

count_one : (m : ℕ) (p : ℕ → ℕ) (i : ℕ) → ((j k : ℕ) → j < m → k < m → p j ≡ p k → j ≡ k) → sum m (hit p i) ≤ 1
count_one zero p i differ = omega arith
count_one (suc m) p i differ =
    count_one_step m p i (cases_eq (p m) i) differ (count_one m p i (λ j k a b. differ j k (omega arith) (omega arith)))

-- no more than n different numbers lie below n
pub pigeonhole :
    (n m : ℕ) (p : ℕ → ℕ) → ((k : ℕ) → k < m → p k < n) → ((j k : ℕ) → j < m → k < m → p j ≡ p k → j ≡ k) → m ≤ n
pigeonhole n m p below differ =
    omega (
      arith,
      sum_ones m,
      sum_exchange n m p (λ e. 1) (λ i. 1) below,
      sum_bound n 1 (λ i. sum m (hit p i) * 1) (λ i l. omega (arith, count_one m p i differ)),
    )
