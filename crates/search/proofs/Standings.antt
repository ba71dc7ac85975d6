-- What a search keeps: a place more that was reached keeps each place where its slot says.
use Rattle.std.proofs.Common.{◌≡◌, ℕ, suc, ◌<◌, ◌≤◌, cond, ltb, ◌≢◌, ◌⊎◌, List, [], ◌∷◌, ◌++◌, length, get_or, set, drop, sym, ap, ◌∙◌, inl, inr, arith, length-set, get_or-set_other, get_or-set_same}
use Rattle.std.proofs.Math.ListN.{get_or-append, drop_of_length-le}
use Rattle.std.proofs.Math.Seq.{get_or-append_seam}
use Rattle.std.proofs.lemmas.Bool.{cases_lt, lt-ltb, le-ltb}
use Rattle.std.proofs.lemmas.List.{append-nil, length-append, take_all}
use Rattle.std.specs.List.{refill}
use Rattle.theory.proofs.Sums.{pigeonhole}
use Rattle.search.specs.declared.reached.Reached.{Reached}
use Rattle.search.specs.Standing.{none_reached, place_in, Standing, Kept}

-- a list that was written over as a whole
pub refill_all : (xs ws : List ℕ) → length ws ≡ length xs → refill (length xs) xs ws ≡ ws
refill_all xs ws e =
    let past : drop (length ws) xs ≡ [] = drop_of_length-le xs (omega arith) in
    rw (past, append-nil) (take_all (length xs) ws (omega arith))

-- where there is a place more than were reached, it is one that was not
module _ (n : ℕ) (reached : List Reached) (slots : List ℕ) (o : Standing n reached slots) (p : ℕ) (l : p < n) (new : (k : ℕ) → k < length reached → place_in reached k ≢ p) where
  next : ℕ → ℕ
  next k = cond (ltb k (length reached)) (place_in reached k) p

  next_old : (k : ℕ) → k < length reached → next k ≡ place_in reached k
  unfolding next
  next_old k m = rw (lt-ltb k (length reached) m)

  next_new : (k : ℕ) → length reached ≤ k → next k ≡ p
  unfolding next
  next_new k m = rw (le-ltb k (length reached) m)

  next_inside : (k : ℕ) → (k < length reached) ⊎ (length reached ≤ k) → next k < n
  next_inside k (inl m) = rw (next_old k m) (o.inside k m)
  next_inside k (inr m) = rw (next_new k m) l

  next_apart :
      (j k : ℕ) → j < suc (length reached) → k < suc (length reached) → next j ≡ next k → (j < length reached) ⊎ (length reached ≤ j) →
      (k < length reached) ⊎ (length reached ≤ k) → j ≡ k
  next_apart j k a b e (inl i) (inl m) = sym (o.slots j i) ∙ (ap (λ i. get_or slots i 0) (sym (next_old j i) ∙ (e ∙ next_old k m)) ∙ o.slots k m)
  next_apart j k a b e (inl i) (inr m) = absurd (new j i (sym (next_old j i) ∙ (e ∙ next_new k m)))
  next_apart j k a b e (inr i) (inl m) = absurd (new k m (sym (next_old k m) ∙ (sym e ∙ next_new j i)))
  next_apart j k a b e (inr i) (inr m) = omega arith

  pub room_for : length reached < n
  room_for =
      let most = pigeonhole n (suc (length reached)) next (λ k m. next_inside k (cases_lt k (length reached)))
      (λ j k a b e. next_apart j k a b e (cases_lt j (length reached)) (cases_lt k (length reached))) in
      omega arith

-- one place more
module _ (reached : List Reached) (slots : List ℕ) (r : Reached) (l : r.place < length slots) where
  pub place_old : (k : ℕ) → k < length reached → place_in (reached ++ r ∷ []) k ≡ place_in reached k
  place_old k m = ap (λ (q : Reached). q.place) (get_or-append reached (r ∷ []) none_reached k m)

  pub place_new : place_in (reached ++ r ∷ []) (length reached) ≡ r.place
  place_new = ap (λ (q : Reached). q.place) (get_or-append_seam reached r [] none_reached)

  module _ (o : Standing (length slots) reached slots) (new : (k : ℕ) → k < length reached → place_in reached k ≢ r.place) where
    inside_by : (k : ℕ) → k < suc (length reached) → (k < length reached) ⊎ (length reached ≤ k) → place_in (reached ++ r ∷ []) k < length slots
    inside_by k m (inl b) = rw (place_old k b) (o.inside k b)
    inside_by k m (inr b) = let last : k ≡ length reached = omega arith in rw (last, place_new) l

    slots_by :
        (k : ℕ) → k < suc (length reached) → (k < length reached) ⊎ (length reached ≤ k) →
        get_or (set slots r.place (length reached)) (place_in (reached ++ r ∷ []) k) 0 ≡ k
    slots_by k m (inl b) =
        let other : place_in reached k ≢ r.place = new k b in
        rw (place_old k b, get_or-set_other) (o.slots k b)
    slots_by k m (inr b) = let last : k ≡ length reached = omega arith in rw (last, place_new, get_or-set_same)

    pub standing_more : Standing (length slots) (reached ++ r ∷ []) (set slots r.place (length reached))
    standing_more =
        let many : length (reached ++ r ∷ []) ≡ suc (length reached) = rw length-append (omega arith) in
        record {
          few = omega (arith, room_for (length slots) reached slots o r.place l new);
          inside = λ k m. inside_by k (omega arith) (cases_lt k (length reached));
          slots = λ k m. slots_by k (omega arith) (cases_lt k (length reached));
        }

pub kept_more :
    (reached rs : List Reached) (capacity c : ℕ) (slots ss : List ℕ) (r : Reached) → Kept reached capacity slots → r.place < length slots →
    ((k : ℕ) → k < length reached → place_in reached k ≢ r.place) → rs ≡ reached ++ r ∷ [] → c ≡ capacity → ss ≡ set slots r.place (length reached) →
    Kept rs c ss
kept_more reached rs capacity c slots ss r kept l new e f g =
    let long : length ss ≡ length slots = ap length g ∙ length-set slots r.place (length reached) in
    let more : Standing (length slots) rs ss = rw (e, g) (standing_more reached slots r l kept.ordered new) in
    record { room = omega (arith, kept.room); ordered = rw long more }
