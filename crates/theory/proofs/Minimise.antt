-- Every cost of pictures that reads the first n places only has a cheapest picture with values up to a top, and, where it crosses, a lowest one.
use Rattle.std.proofs.Common.{◌≡◌, ℕ, zero, suc, ◌+◌, ◌*◌, ◌<◌, ◌≤◌, ◌⊎◌, refl, ap, inl, inr, mul-le-mul_right, arith}
use Rattle.std.proofs.lemmas.Bool.{cases_lt, cases_eq}
use Rattle.theory.specs.Sums.{sum}
use Rattle.theory.specs.Pictures.{Picture, Within, meet, Least, Undermost}
use Rattle.theory.proofs.Sums.{sum_same, sum_bound, sum_tight}
use Rattle.theory.proofs.Lattice.{Crosses, within_closed, meet_least}

-- pictures that agree on the first n places have one cost
abbrev pub Reads : ℕ → (Picture → ℕ) → Type 0
Reads n K = (u v : Picture) → ((i : ℕ) → i < n → u i ≡ v i) → K u ≡ K v

-- a value at which g is least, up to t
abbrev AtLeast : ℕ → (ℕ → ℕ) → Type 0
AtLeast t g = (b : ℕ) × (b ≤ t) × ((c : ℕ) → c ≤ t → g b ≤ g c)

least_below : (t : ℕ) (g : ℕ → ℕ) (c b : ℕ) → (c ≡ suc t) ⊎ (c ≡ suc t → ⊥) → c ≤ suc t → g b ≤ g (suc t) → (c ≤ t → g b ≤ g c) → g b ≤ g c
least_below t g c b (inl e) l top below = rw e top
least_below t g c b (inr d) l top below = below (omega arith)

least_step : (t : ℕ) (g : ℕ → ℕ) (s : AtLeast t g) → (g s.0 < g (suc t)) ⊎ (g (suc t) ≤ g s.0) → AtLeast (suc t) g
least_step t g s (inl l) =
    (s.0, omega (arith, s.1), λ c m. least_below t g c s.0 (cases_eq c (suc t)) m (omega arith) (s.2 c))
least_step t g s (inr l) =
    (suc t, omega arith, λ c m. least_below t g c (suc t) (cases_eq c (suc t)) m (omega arith) (λ k. omega (arith, s.2 c k)))

least_value : (t : ℕ) (g : ℕ → ℕ) → AtLeast t g
least_value zero g = (0, omega arith, λ c l. let e : c ≡ 0 = omega arith in rw e (omega arith))
least_value (suc t) g = let s = least_value t g in least_step t g s (cases_lt (g s.0) (g (suc t)))

-- a picture with the value b in front of the picture u, and what is behind the front
abbrev first : ℕ → Picture → Picture
first b u zero = b
first b u (suc i) = u i

abbrev rest : Picture → Picture
rest u i = u (suc i)

first_rest : (u : Picture) (n i : ℕ) → i < n → u i ≡ first (u 0) (rest u) i
first_rest u n zero l = refl
first_rest u n (suc i) l = refl

first_agree : (n b : ℕ) (u v : Picture) → ((i : ℕ) → i < n → u i ≡ v i) → (i : ℕ) → i < suc n → first b u i ≡ first b v i
first_agree n b u v h zero l = refl
first_agree n b u v h (suc i) l = h i (omega arith)

first_within : (n top b : ℕ) (u : Picture) → b ≤ top → Within n top u → Within (suc n) top (first b u)
first_within n top b u l h zero m = l
first_within n top b u l h (suc i) m = h i (omega arith)

abbrev Minimal : ℕ → ℕ → (Picture → ℕ) → Type 0
Minimal n top K = (u : Picture) × Least (Within n top) K u

-- over the values of the first place, each with a cheapest choice of the others
best_step : (n top : ℕ) (K : Picture → ℕ) → Reads (suc n) K → ((b : ℕ) → Minimal n top (λ u. K (first b u))) → Minimal (suc n) top K
best_step n top K reads found =
    let value : AtLeast top (λ b. K (first b (found b).0)) = least_value top (λ b. K (first b (found b).0)) in
    let b : ℕ = value.0 in
    let u : Picture = (found b).0 in (
      first b u,
      record {
        of = first_within n top b u value.1 (found b).1.of;
        least =
            λ v w.
            omega (
              arith,
              reads v (first (v 0) (rest v)) (first_rest v (suc n)),
              (found (v 0)).1.least (rest v) (λ i l. w (suc i) (omega arith)),
              value.2 (v 0) (w 0 (omega arith)),
            );
      },
    )

pub best : (n top : ℕ) (K : Picture → ℕ) → Reads n K → Minimal n top K
best zero top K reads = (
  λ i. 0,
  record {
    of = λ i l. omega arith;
    least = λ v w. omega (arith, reads (λ i. 0) v (λ i l. omega arith));
  },
)
best (suc n) top K reads =
    best_step n top K reads
    (λ b. best n top (λ u. K (first b u)) (λ u v h. reads (first b u) (first b v) (first_agree n b u v h)))

-- cost first and then the sum of the values, in one number
abbrev ranked : ℕ → ℕ → (Picture → ℕ) → Picture → ℕ
ranked n top K u = K u * suc (n * top) + sum n u

rank_first : (a b s t w : ℕ) → a * suc w + s ≤ b * suc w + t → t ≤ w → a ≤ b
rank_first a b s t w h l = rank_first_by (cases_lt b a)
  where
    rank_first_by : (b < a) ⊎ (a ≤ b) → a ≤ b
    rank_first_by (inl m) = absurd (let k = mul-le-mul_right (suc w) m in omega arith)
    rank_first_by (inr m) = m

rank_then : (a b s t w : ℕ) → a * suc w + s ≤ b * suc w + t → b ≤ a → a ≤ b → s ≤ t
rank_then a b s t w h l m = let e : a ≡ b = omega arith in omega (arith, rw e at h)

pub lowest_exists : (n top : ℕ) (K : Picture → ℕ) → Reads n K → Crosses (Within n top) K K → (u : Picture) × Undermost n (Within n top) K u
lowest_exists n top K reads crosses = (u, record { cheapest = cheapest; under = under })
  where
    found : Minimal n top (ranked n top K)
    found =
        best n top (ranked n top K)
        (λ u v h. omega (arith, ap (λ k. k * suc (n * top)) (reads u v h), sum_same n u v h))

    u : Picture
    u = found.0

    cheapest : Least (Within n top) K u
    cheapest =
        record {
          of = found.1.of;
          least = λ v w. rank_first (K u) (K v) (sum n u) (sum n v) (n * top) (found.1.least v w) (sum_bound n top v w);
        }

    under : (v : Picture) → Least (Within n top) K v → (i : ℕ) → i < n → u i ≤ v i
    under v p i l =
        let m : Least (Within n top) K (meet u v) = meet_least (Within n top) K K (within_closed n top) crosses u v cheapest p in
        let s : sum n u ≤ sum n (meet u v) =
        rank_then (K u) (K (meet u v)) (sum n u) (sum n (meet u v)) (n * top) (found.1.least (meet u v) m.of)
        (m.least u cheapest.of) (cheapest.least (meet u v) m.of) in
        omega (arith, sum_tight n (meet u v) u (λ j k. omega arith) s i l)
