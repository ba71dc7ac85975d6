-- An augmentation: an amount goes from a source to a sink, whose steps come nearer to 0 by it.
use Rattle.std.proofs.Common.{◌≡◌, ℕ, ◌≢◌, ◌⊎◌, List, get_or, ℤ, pos, ◌+ℤ◌, ◌-ℤ◌, ◌≤ℤ◌, ◌<ℤ◌, sym, refl, ap, inl, inr, arith}
use Rattle.std.proofs.lemmas.Int.{ints}
use Rattle.std.proofs.lemmas.Bool.{cases_eq, eq-eqb, ne_eqb}
use Rattle.field.specs.Given.{flows_in}
use Rattle.graph.specs.Flowed.{only}
use Rattle.search.specs.declared.search.Search.{Search}
use Rattle.search.specs.Residuals.{Scene, step}
use Rattle.search.specs.Trees.{at, Seen, Tree, Sink}
use Rattle.level.specs.declared.task.Task.{Task}
use Rattle.level.specs.Scenes.{scene_in}
use Rattle.level.specs.Moves.{Nearer, Fitting, Closing}
use Rattle.level.specs.Carries.{Carrying}
use Rattle.level.proofs.Carries.{seen_open}
use Rattle.level.proofs.Closings.{closing_still}

only_here : (p a : ℕ) → only p a p ≡ a
only_here p a = rw (eq-eqb p p refl)

only_else : (p a i : ℕ) → i ≢ p → only p a i ≡ 0
only_else p a i d = rw (ne_eqb p i (λ e. d (sym e)))

-- the steps t are the steps s, with the amount a more at p and less at q
module _ (s t : List ℤ) (p q a : ℕ) (other : p ≢ q)
    (up : get_or t p (pos 0) ≡ get_or s p (pos 0) +ℤ pos a) (down : get_or t q (pos 0) ≡ get_or s q (pos 0) -ℤ pos a)
    (others : (i : ℕ) → i ≢ p → i ≢ q → get_or t i (pos 0) ≡ get_or s i (pos 0)) where
  -- at every place at once
  settled_by : (i : ℕ) → (i ≡ p) ⊎ (i ≢ p) → (i ≡ q) ⊎ (i ≢ q) → get_or t i (pos 0) +ℤ pos (only q a i) ≡ get_or s i (pos 0) +ℤ pos (only p a i)
  settled_by i (inl d) e =
      let apart : p ≢ q = other in
      rw d (rw (up, only_here p a, only_else q a p apart) (omega (arith, ints)))
  settled_by i (inr d) (inl e) =
      let apart : q ≢ p = λ h. other (sym h) in
      rw e (rw (down, only_here q a, only_else p a q apart) (omega (arith, ints)))
  settled_by i (inr d) (inr e) = rw (others i d e, only_else q a i e, only_else p a i d)

  nearer_by :
      (i : ℕ) → (get_or s p (pos 0) +ℤ pos a) ≤ℤ pos 0 → pos a ≤ℤ get_or s q (pos 0) → (i ≡ p) ⊎ (i ≢ p) → (i ≡ q) ⊎ (i ≢ q) →
      Nearer (get_or s i (pos 0)) (get_or t i (pos 0))
  nearer_by i most need (inl d) e =
      rw d
      (record {
        low = λ h. (omega (arith, ints, up), omega (arith, ints, up));
        high = λ h. (omega (arith, ints, up), omega (arith, ints, up));
      })
  nearer_by i most need (inr d) (inl e) =
      rw e
      (record {
        low = λ h. (omega (arith, ints, down), omega (arith, ints, down));
        high = λ h. (omega (arith, ints, down), omega (arith, ints, down));
      })
  nearer_by i most need (inr d) (inr e) =
      let same = others i d e in
      record { low = λ h. (omega (arith, ints), omega (arith, ints)); high = λ h. (omega (arith, ints), omega (arith, ints)) }

module _ (task : Task) (x y : List ℕ) (s t : List ℤ) (m : List ℕ) (q : Search) (sink a : ℕ) where
  abbrev before : Scene
  before = scene_in task x s m

  abbrev after : Scene
  after = scene_in task y t m

  pub augmented :
      Fitting after → Tree before q → step before (at q 0) <ℤ pos 0 → Sink before q sink →
      (step before (at q 0) +ℤ pos a) ≤ℤ pos 0 → pos a ≤ℤ step before sink → Carrying before q (flows_in y) sink a (at q 0) →
      step after (at q 0) ≡ step before (at q 0) +ℤ pos a → step after sink ≡ step before sink -ℤ pos a →
      ((i : ℕ) → i ≢ at q 0 → i ≢ sink → step after i ≡ step before i) → Closing before after task.yes
  augmented fits tree wanting goal most need c up down others =
      let p : ℕ = at q 0 in
      let root : Seen q p = (0, tree.some, refl) in
      let apart : p ≢ sink = λ e. signs_apart p sink e wanting goal.wanted in
      closing_still task x y s t m fits
      (record {
        within = c.within;
        balance = λ i. let moved = settled_by s t p sink a apart up down others i (cases_eq i p) (cases_eq i sink) in omega (arith, ints, c.carried i);
        nearer = λ i. nearer_by s t p sink a apart up down others i most need (cases_eq i p) (cases_eq i sink);
        steps =
            λ i shut.
            others i (λ e. shut (rw e (seen_open before q tree p root))) (λ e. shut (rw e (seen_open before q tree sink goal.seen)));
        flows = c.outside;
      })
    where
      signs_apart : (p q : ℕ) → p ≡ q → get_or s p (pos 0) <ℤ pos 0 → pos 0 <ℤ get_or s q (pos 0) → ⊥
      signs_apart p q e low high = let same = ap (λ i. get_or s i (pos 0)) e in omega (arith, ints)
