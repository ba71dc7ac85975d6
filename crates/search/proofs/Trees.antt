-- Trees that searches grow: one place more keeps a tree a tree, and what is reached lies in every closed set that holds the root.
use Rattle.std.proofs.Common.{◌≡◌, ℕ, zero, suc, ◌+◌, ◌<◌, ◌≤◌, Bool, true, ◌≢◌, ◌⊎◌, List, [], ◌∷◌, ◌++◌, length, get_or, pos, ◌≤ℤ◌, sym, refl, ap, ◌∙◌, subst, inl, inr, arith, length-set, get_or-set_other, get_or-set_same}
use Rattle.std.proofs.Math.ListN.{get_or-append}
use Rattle.std.proofs.Math.Seq.{get_or-append_seam}
use Rattle.std.proofs.lemmas.Bool.{cases_eq, cases_lt}
use Rattle.std.proofs.lemmas.List.{length-append, length_push, get_or_push}
use Rattle.search.specs.declared.reached.Reached.{Reached}
use Rattle.search.specs.declared.search.Search.{Search}
use Rattle.search.specs.Standing.{none_reached}
use Rattle.search.specs.Residuals.{Scene, net, step, Open, room_at}
use Rattle.search.specs.Trees.{count, at, slot, parent, reach, Sized, Seen, Ordered, Added, Led, Tree, Quiet, Followed, FollowedFrom, Left, Explored, Grown, Went}

-- what a search keeps, said of as many places as have slots
pub ordered_by : (n : ℕ) (s : Search) → Sized n s → Ordered n s
ordered_by n s sized = rw sized at s.kept.ordered

-- a place that was reached stands where its slot says
pub seen_slot : (s : Search) (i : ℕ) → Seen s i → (slot s i < count s) × (at s (slot s i) ≡ i)
seen_slot s i (k, l, e) =
    let here : slot s i ≡ k = ap (slot s) (sym e) ∙ s.kept.ordered.slots k l in
    (omega arith, ap (at s) here ∙ e)

-- a place was reached or not
seen_by : (s : Search) (i : ℕ) → (slot s i < count s) ⊎ (count s ≤ slot s i) → (at s (slot s i) ≡ i) ⊎ (at s (slot s i) ≢ i) → Seen s i ⊎ (Seen s i → ⊥)
seen_by s i (inl l) (inl e) = inl (slot s i, l, e)
seen_by s i (inl l) (inr d) = inr (λ h. d (seen_slot s i h).1)
seen_by s i (inr l) e = inr (λ h. omega (arith, (seen_slot s i h).0))

pub seen_cases : (s : Search) (i : ℕ) → Seen s i ⊎ (Seen s i → ⊥)
seen_cases s i = seen_by s i (cases_lt (slot s i) (count s)) (cases_eq (at s (slot s i)) i)

-- one place more
module _ (s t : Search) (p e a : ℕ) (l : p < length s.slots.items) (new : Seen s p → ⊥) (added : Added s t p e a) where
  pub added_count : count t ≡ suc (count s)
  added_count = rw (added.reached, length-append) (omega arith)

  pub added_sized : (n : ℕ) → Sized n s → Sized n t
  added_sized n sized = rw (added.slots, length-set) sized

  -- what was written down for the places before, and for the new one
  kept_old : (k : ℕ) → k < count s → get_or t.reached.items k none_reached ≡ get_or s.reached.items k none_reached
  kept_old k m = rw added.reached (get_or-append s.reached.items _ none_reached k m)

  kept_new : get_or t.reached.items (count s) none_reached ≡ record { place = p; arc = e; amount = a }
  kept_new = rw added.reached (get_or-append_seam s.reached.items _ [] none_reached)

  pub added_new : at t (count s) ≡ p
  added_new = ap (λ (r : Reached). r.place) kept_new

  pub added_old : (k : ℕ) → k < count s → at t k ≡ at s k
  added_old k m = ap (λ (r : Reached). r.place) (kept_old k m)

  -- a place that was reached before is another one
  other : (k : ℕ) → k < count s → at s k ≢ p
  other k m h = new (k, m, h)

  -- at another place nothing is written
  slot_old : (i : ℕ) → i ≢ p → slot t i ≡ slot s i
  slot_old i d = rw (added.slots, get_or-set_other)

  slot_new : slot t p ≡ count s
  slot_new = rw (added.slots, get_or-set_same)

  -- the place of the k-th stands there before and after
  slot_at : (k : ℕ) → k < count s → slot t (at s k) ≡ k
  slot_at k m = slot_old (at s k) (other k m) ∙ s.kept.ordered.slots k m

  same_at : (k : ℕ) → k < count s → get_or t.reached.items (slot t (at s k)) none_reached ≡ get_or s.reached.items (slot s (at s k)) none_reached
  same_at k m = rw (slot_at k m, s.kept.ordered.slots k m) (kept_old k m)

  parent_old : (k : ℕ) → k < count s → parent t (at s k) ≡ parent s (at s k)
  parent_old k m = ap (λ (r : Reached). r.arc) (same_at k m)

  parent_new : parent t p ≡ e
  parent_new = rw (slot_new, parent) (ap (λ (r : Reached). r.arc) kept_new)

  reach_old : (k : ℕ) → k < count s → reach t (at s k) ≡ reach s (at s k)
  reach_old k m = ap (λ (r : Reached). r.amount) (same_at k m)

  reach_new : reach t p ≡ a
  reach_new = rw (slot_new, reach) (ap (λ (r : Reached). r.amount) kept_new)

  reach_seen : (i : ℕ) → Seen s i → reach t i ≡ reach s i
  reach_seen i (k, m, h) = ap (reach t) (sym h) ∙ (reach_old k m ∙ ap (reach s) h)

  pub added_grown : Grown s t
  added_grown = record { longer = omega (arith, added_count); kept = added_old }

  pub added_seen : Seen t p
  added_seen = (count s, omega (arith, added_count), added_new)

  module _ (v : Scene) (tree : Tree v s) where
    -- a place that led to another is not the new one, and is found as before
    led_old : (k d : ℕ) → k < count s → Led v s k d → Led v t k d
    led_old k d m led =
        let q : ℕ = ((net v).arc d).from in
        let before : slot s q < count s = omega (arith, led.earlier) in
        let elsewhere : q ≢ p = λ h. other (slot s q) before (led.from ∙ h) in
        let where_q : slot t q ≡ slot s q = slot_old q elsewhere in
        let here : at t k ≡ at s k = added_old k m in
        let much : reach t (at t k) ≡ reach s (at s k) = ap (reach t) here ∙ reach_old k m in
        record {
          arc = led.arc;
          to = led.to ∙ sym here;
          earlier = omega (arith, led.earlier);
          from = ap (at t) where_q ∙ (added_old (slot s q) before ∙ led.from);
          room = omega (arith, led.room);
          chain = omega (arith, led.chain, reach_seen q (slot s q, before, led.from));
        }

    led_new :
        e < (net v).arcs → ((net v).arc e).to ≡ p → Seen s ((net v).arc e).from → a ≤ room_at v e → a ≤ reach s ((net v).arc e).from →
        Led v t (count s) e
    led_new arc to from room chain =
        let q : ℕ = ((net v).arc e).from in
        let stands = seen_slot s q from in
        let elsewhere : q ≢ p = λ h. other (slot s q) stands.0 (stands.1 ∙ h) in
        let where_q : slot t q ≡ slot s q = slot_old q elsewhere in
        let much : reach t (at t (count s)) ≡ a = ap (reach t) added_new ∙ reach_new in
        record {
          arc = arc;
          to = to ∙ sym added_new;
          earlier = omega (arith, stands.0);
          from = ap (at t) where_q ∙ (added_old (slot s q) stands.0 ∙ stands.1);
          room = omega arith;
          chain = omega (arith, reach_seen q from);
        }

    led_by :
        (k : ℕ) → k < count t → 1 ≤ k → Led v t (count s) e → (k < count s) ⊎ (count s ≤ k) → Led v t k (parent t (at t k))
    led_by k m one new_led (inl b) =
        let d : parent t (at t k) ≡ parent s (at s k) = ap (parent t) (added_old k b) ∙ parent_old k b in
        subst (λ z. Led v t k z) (sym d) (led_old k (parent s (at s k)) b (tree.led k b one))
    led_by k m one new_led (inr b) =
        let last : k ≡ count s = omega (arith, added_count) in
        let d : parent t (at t (count s)) ≡ e = ap (parent t) added_new ∙ parent_new in
        subst (λ z. Led v t z (parent t (at t z))) (sym last) (subst (λ z. Led v t (count s) z) (sym d) new_led)

    opened_by : (k : ℕ) → k < count t → Open v p → (k < count s) ⊎ (count s ≤ k) → Open v (at t k)
    opened_by k m opened (inl b) = rw (added_old k b) (tree.opened k b)
    opened_by k m opened (inr b) =
        let last : k ≡ count s = omega (arith, added_count) in
        rw (last, added_new) opened

    sent_by : (k : ℕ) → k < count t → 1 ≤ a → (k < count s) ⊎ (count s ≤ k) → 1 ≤ reach t (at t k)
    sent_by k m some (inl b) = omega (arith, ap (reach t) (added_old k b), reach_old k b, tree.sent k b)
    sent_by k m some (inr b) =
        let last : k ≡ count s = omega (arith, added_count) in
        omega (arith, ap (λ j. reach t (at t j)) last, ap (reach t) added_new, reach_new)

    pub tree_more :
        Open v p → e < (net v).arcs → ((net v).arc e).to ≡ p → Seen s ((net v).arc e).from → 1 ≤ a → a ≤ room_at v e →
        a ≤ reach s ((net v).arc e).from → Tree v t
    tree_more opened arc to from some room chain =
        record {
          some = omega (arith, added_count);
          sized = added_sized v.places tree.sized;
          ordered = ordered_by v.places t (added_sized v.places tree.sized);
          opened = λ k m. opened_by k m opened (cases_lt k (count s));
          sent = λ k m. sent_by k m some (cases_lt k (count s));
          led = λ k m one. led_by k m one (led_new arc to from room chain) (cases_lt k (count s));
        }

    -- what holds after one place more
    pub went_more :
        Open v p → e < (net v).arcs → ((net v).arc e).to ≡ p → Seen s ((net v).arc e).from → 1 ≤ a → a ≤ room_at v e →
        a ≤ reach s ((net v).arc e).from → Went v s t
    went_more opened arc to from some room chain = record { tree = tree_more opened arc to from some room chain; grown = added_grown }

    quiet_by : (k : ℕ) → k < count t → Quiet v s → step v p ≤ℤ pos 0 → (k < count s) ⊎ (count s ≤ k) → step v (at t k) ≤ℤ pos 0
    quiet_by k m quiet low (inl b) = rw (added_old k b) (quiet k b)
    quiet_by k m quiet low (inr b) =
        let last : k ≡ count s = omega (arith, added_count) in
        rw (last, added_new) low

    pub quiet_more : Quiet v s → step v p ≤ℤ pos 0 → Quiet v t
    quiet_more quiet low k m = quiet_by k m quiet low (cases_lt k (count s))

-- something can be sent to a place that was reached
pub seen_sent : (v : Scene) (s : Search) (i : ℕ) → Tree v s → Seen s i → 1 ≤ reach s i
seen_sent v s i tree (k, l, e) = rw e at (tree.sent k l)

-- growing: one after the other, and what was reached stays
pub grown_more : (s t u : Search) → Grown s t → Grown t u → Grown s u
grown_more s t u g h =
    record {
      longer = omega (arith, g.longer, h.longer);
      kept = λ k l. h.kept k (omega (arith, g.longer)) ∙ g.kept k l;
    }

pub went_on : (v : Scene) (s t u : Search) → Went v s t → Went v t u → Went v s u
went_on v s t u g h = record { tree = h.tree; grown = grown_more s t u g.grown h.grown }

pub seen_more : (s t : Search) (i : ℕ) → Grown s t → Seen s i → Seen t i
seen_more s t i g (k, l, e) = (k, omega (arith, g.longer), g.kept k l ∙ e)

-- what is reached lies in every set that holds the root and that no arc with room between open places leaves
module _ (v : Scene) (s : Search) (tree : Tree v s) (set : ℕ → Bool) (has : set (at s 0) ≡ true)
    (closed : (e : ℕ) → e < (net v).arcs → 0 < room_at v e → Seen s ((net v).arc e).from → Seen s ((net v).arc e).to → set ((net v).arc e).from ≡ true → set ((net v).arc e).to ≡ true) where
  reached_by : (k : ℕ) → k < count s → ((j : ℕ) → j < k → j < count s → set (at s j) ≡ true) → (k ≡ 0) ⊎ (k ≢ 0) → set (at s k) ≡ true
  reached_by k l before (inl z) = ap (λ j. set (at s j)) z ∙ has
  reached_by k l before (inr z) =
      let led = tree.led k l (omega arith) in
      let e : ℕ = parent s (at s k) in
      let q : ℕ = ((net v).arc e).from in
      let below : slot s q < count s = omega (arith, led.earlier) in
      let held : set q ≡ true = ap set (sym led.from) ∙ before (slot s q) led.earlier below in
      ap set (sym led.to) ∙ closed e led.arc (omega (arith, tree.sent k l, led.room)) (slot s q, below, led.from) (k, l, sym led.to) held

  reached_below : (n : ℕ) → (k : ℕ) → k < n → k < count s → set (at s k) ≡ true
  reached_below zero k m l = absurd (omega arith)
  reached_below (suc n) k m l = reached_by k l (λ j i h. reached_below n j (omega arith) h) (cases_eq k 0)

  pub reached_held : (i : ℕ) → Seen s i → set i ≡ true
  reached_held i (k, l, e) = ap set (sym e) ∙ reached_below (suc k) k (omega arith) l

-- what was followed stays followed
pub followed_more : (v : Scene) (s t : Search) (e : ℕ) → Grown s t → Followed v s e → Followed v t e
followed_more v s t e g h room opened = seen_more s t ((net v).arc e).to g (h room opened)

-- of the arcs that were left, the last one was followed
left_by :
    (v : Scene) (s t : Search) (left rest : List ℕ) (arc e : ℕ) → Grown s t → Followed v t arc → left ≡ rest ++ arc ∷ [] →
    Followed v s e ⊎ ((k : ℕ) × (k < length left) × (get_or left k 0 ≡ e)) → Followed v t e ⊎ ((k : ℕ) × (k < length rest) × (get_or rest k 0 ≡ e))
left_by v s t left rest arc e g here is (inl f) = inl (followed_more v s t e g f)
left_by v s t left rest arc e g here is (inr (k, l, at)) =
    let one : length left ≡ suc (length rest) = rw is (omega (arith, length_push rest arc)) in
    elim (cases_lt k (length rest)) [
      | inl b ↦ inr (k, b, sym (get_or-append rest (arc ∷ []) 0 k b) ∙ ap (λ xs. get_or xs k 0) (sym is) ∙ at)
      | inr b ↦
          let last : k ≡ length rest = omega arith in
          let same : arc ≡ e =
          sym (get_or_push rest arc 0 (length rest) refl) ∙ ap (λ xs. get_or xs (length rest) 0) (sym is) ∙ ap (λ j. get_or left j 0) (sym last) ∙ at in
          inl (subst (Followed v t) same here)
    ]

pub left_less :
    (v : Scene) (s t : Search) (i : ℕ) (left rest : List ℕ) (arc : ℕ) → Left v s i left → left ≡ rest ++ arc ∷ [] → Grown s t → Followed v t arc → Left v t i rest
left_less v s t i left rest arc h is g here =
    let one : length left ≡ suc (length rest) = rw is (omega (arith, length_push rest arc)) in
    record {
      leaves = λ k l.
          let same : get_or left k 0 ≡ get_or rest k 0 = ap (λ xs. get_or xs k 0) is ∙ get_or-append rest (arc ∷ []) 0 k l in
          rw same at (h.leaves k (omega arith));
      others = λ e l f. left_by v s t left rest arc e g here is (h.others e l f);
    }

-- the last of the arcs that are left is one of the place's
pub left_last :
    (v : Scene) (s : Search) (i : ℕ) (left rest : List ℕ) (arc : ℕ) → Left v s i left → left ≡ rest ++ arc ∷ [] → (arc < (net v).arcs) × (((net v).arc arc).from ≡ i)
left_last v s i left rest arc h is =
    let one : length left ≡ suc (length rest) = rw is (omega (arith, length_push rest arc)) in
    let same : get_or left (length rest) 0 ≡ arc = ap (λ xs. get_or xs (length rest) 0) is ∙ get_or_push rest arc 0 (length rest) refl in
    rw same at (h.leaves (length rest) (omega arith))

-- none is left
none_by : (v : Scene) (s : Search) (left : List ℕ) (e : ℕ) → length left ≡ 0 → Followed v s e ⊎ ((k : ℕ) × (k < length left) × (get_or left k 0 ≡ e)) → Followed v s e
none_by v s left e z (inl f) = f
none_by v s left e z (inr h) = absurd (omega (arith, h.1))

pub left_none : (v : Scene) (s : Search) (i : ℕ) (left : List ℕ) → Left v s i left → length left ≡ 0 → FollowedFrom v s i
left_none v s i left h z e l f = none_by v s left e z (h.others e l f)

-- one place more is explored
explored_by :
    (v : Scene) (s t : Search) (n k : ℕ) → n < count s → Explored v s n → Grown s t → FollowedFrom v t (at s n) → k < suc n → (k < n) ⊎ (n ≤ k) →
    FollowedFrom v t (at t k)
explored_by v s t n k l before g here m (inl b) =
    let same : at t k ≡ at s k = g.kept k (omega arith) in
    λ e arc f. followed_more v s t e g (before k b e arc (f ∙ same))
explored_by v s t n k l before g here m (inr b) =
    let last : k ≡ n = omega arith in
    let same : at t k ≡ at s n = ap (at t) last ∙ g.kept n l in
    λ e arc f. here e arc (f ∙ same)

pub explored_more :
    (v : Scene) (s t : Search) (n : ℕ) → n < count s → Explored v s n → Grown s t → FollowedFrom v t (at s n) → Explored v t (n + 1)
explored_more v s t n l before g here k m = explored_by v s t n k l before g here (omega arith) (cases_lt k n)

-- the tree of a root alone
pub tree_one :
    (v : Scene) (s t : Search) (root a : ℕ) → Sized v.places s → root < v.places → Open v root → 1 ≤ a → count s ≡ 0 → Added s t root 0 a →
    Tree v t × (count t ≡ 1) × (at t 0 ≡ root)
tree_one v s t root a sized l opened some none added =
    let new : Seen s root → ⊥ = λ h. omega (arith, h.1) in
    let m : root < length s.slots.items = omega arith in
    let one : count t ≡ 1 = omega (arith, added_count s t root 0 a m new added) in
    let first : at t 0 ≡ root = ap (at t) (sym none) ∙ added_new s t root 0 a m new added in
    let held : Sized v.places t = added_sized s t root 0 a m new added v.places sized in
    let zero_only : (k : ℕ) → k < count t → k ≡ 0 = λ k h. omega arith in (
      record {
        some = omega arith;
        sized = held;
        ordered = ordered_by v.places t held;
        opened = λ k h. let z = zero_only k h in rw (z, first) opened;
        sent = λ k h. omega (arith, ap (λ j. reach t (at t j)) (zero_only k h), ap (reach t) first, reach_new s t root 0 a m new added);
        led = λ k h one. absurd (omega (arith, zero_only k h));
      },
      one,
      first,
    )
