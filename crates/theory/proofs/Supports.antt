-- Places that no picture with the same certificate has lower, found by a test that computes.
use Rattle.std.proofs.Common.{◌≡◌, ℕ, zero, suc, ◌+◌, ◌*◌, ◌<◌, ◌≤◌, Bool, true, false, ◌&&◌, ◌||◌, eqb, ltb, leb, ◌⊎◌, refl, ap, inl, inr, arith}
use Rattle.std.proofs.lemmas.Bool.{ltb-true, leb-true, eqb-true, and_parts, or_cases, cases_lt}
use Rattle.std.proofs.lemmas.Bool.Decides.{Decides-below_and, Decides-below_or}
use Rattle.theory.specs.Pictures.{Picture, Within}
use Rattle.theory.specs.Nets.{Net, Inside, Flows, net_out, net_into, NoDearer, Certificate}

-- a test passes at every number below n, or at some
abbrev pub every : ℕ → (ℕ → Bool) → Bool
every zero p = true
every (suc n) p = p n && every n p

abbrev pub some : ℕ → (ℕ → Bool) → Bool
some zero p = false
some (suc n) p = p n || some n p

pub every_true : (n : ℕ) (p : ℕ → Bool) → every n p ≡ true → (k : ℕ) → k < n → p k ≡ true
every_true n p = (Decides-below_and p (λ k. p k ≡ true) (λ m. every m p) (λ k. (λ t. t, λ t. t)) refl (λ m. refl) n).0

pub some_true : (n : ℕ) (p : ℕ → Bool) → some n p ≡ true → (k : ℕ) × (k < n) × (p k ≡ true)
some_true n p = (Decides-below_or p (λ k. p k ≡ true) (λ m. some m p) (λ k. (λ t. t, λ t. t)) refl (λ m. refl) n).0

-- with flows counted, the value of place i costs less than the value w
abbrev pub cheaper_test : Net → Picture → Flows → (i w : ℕ) → Bool
cheaper_test net u x i w =
    ltb (net.cost i (u i) + net_out net x i * u i + net_into net x i * w) (net.cost i w + net_out net x i * w + net_into net x i * u i)

-- it costs less than every lower value
abbrev pub firm : Net → Picture → Flows → ℕ → Bool
firm net u x i = every (u i) (cheaper_test net u x i)

-- arc e holds up place i: it is below its price, and comes from a place that is held up and high enough
abbrev pub holds_up : Net → Picture → Flows → (up : ℕ → Bool) → (i e : ℕ) → Bool
holds_up net u x up i e =
    eqb (net.arc e).to i &&
    (leb (u i + (net.arc e).offset) (u (net.arc e).from) && (ltb (x e) (net.arc e).price && up (net.arc e).from))

-- a place is held up if it is firm, or by a firm place along at most n arcs
abbrev pub held : Net → Picture → Flows → ℕ → ℕ → Bool
held net u x zero i = firm net u x i
held net u x (suc n) i = held net u x n i || some net.arcs (holds_up net u x (held net u x n) i)

-- an arc that is full where it is charged, and is below its price, is not charged
not_charged : (y p a b o : ℕ) → (b + o < a → y ≡ p) → y < p → (b + o < a) ⊎ (a ≤ b + o) → a ≤ b + o
not_charged y p a b o full l (inl m) = absurd (let e = full m in omega arith)
not_charged y p a b o full l (inr m) = m

-- for two pictures u and v, where the flows are a certificate for v
module _ (net : Net) (u v : Picture) (x : Flows) (inside : Inside net) (p : Within net.places net.top u) (c : Certificate net v x) where
  -- the places that pass a test are nowhere lower in v
  abbrev Under : (ℕ → Bool) → Type 0
  Under up = (i : ℕ) → i < net.places → up i ≡ true → u i ≤ v i

  firm_under_by : (i : ℕ) → i < net.places → firm net u x i ≡ true → (v i < u i) ⊎ (u i ≤ v i) → u i ≤ v i
  firm_under_by i l h (inl m) =
      let less = ltb-true (net.cost i (u i) + net_out net x i * u i + net_into net x i * v i)
      (net.cost i (v i) + net_out net x i * v i + net_into net x i * u i) (every_true (u i) (cheaper_test net u x i) h (v i) m) in
      let best : NoDearer (net.cost i) (net_out net x i) (net_into net x i) (v i) (u i) = c.best i (u i) l (p i l) in
      absurd (omega arith)
  firm_under_by i l h (inr m) = m

  holds_up_under : (up : ℕ → Bool) → Under up → (i e : ℕ) → e < net.arcs → holds_up net u x up i e ≡ true → u i ≤ v i
  holds_up_under up under i e l h =
      let a = net.arc e in
      let one = and_parts (eqb a.to i) _ h in
      let two = and_parts (leb (u i + a.offset) (u a.from)) _ one.1 in
      let three = and_parts (ltb (x e) a.price) (up a.from) two.1 in
      let room = ltb-true (x e) a.price three.0 in
      omega (
        arith,
        ap v (eqb-true a.to i one.0),
        leb-true (u i + a.offset) (u a.from) two.0,
        under a.from (inside e l).0 three.1,
        not_charged (x e) a.price (v a.from) (v a.to) a.offset (c.full e l) room (cases_lt (v a.to + a.offset) (v a.from)),
      )

  held_step :
      (up : ℕ → Bool) → Under up → (i : ℕ) → i < net.places → (up i ≡ true) ⊎ (some net.arcs (holds_up net u x up i) ≡ true) → u i ≤ v i
  held_step up under i l (inl h) = under i l h
  held_step up under i l (inr h) =
      let found = some_true net.arcs (holds_up net u x up i) h in
      holds_up_under up under i found.0 found.1 found.2

  -- no place that is held up in u is lower in v
  pub held_under : (n : ℕ) → Under (held net u x n)
  held_under zero i l h = firm_under_by i l h (cases_lt (v i) (u i))
  held_under (suc n) i l h =
      held_step (held net u x n) (held_under n) i l (or_cases (held net u x n i) (some net.arcs (holds_up net u x (held net u x n) i)) h)
