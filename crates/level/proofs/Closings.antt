-- Parts of a level, one after the other: flow that is sent, and places that are closed.
use Rattle.std.proofs.Common.{◌≡◌, ℕ, ◌<◌, ◌≤◌, Bool, true, ◌≢◌, ◌⊎◌, List, [], get_or, ℤ, pos, ◌≤ℤ◌, ◌<ℤ◌, sym, refl, ◌∙◌, inl, inr, arith}
use Rattle.std.proofs.lemmas.Int.{ints}
use Rattle.std.proofs.lemmas.Bool.{cases_eq, cases_lt}
use Rattle.theory.specs.Nets.{Net, Flows}
use Rattle.theory.specs.Levels.{partner, Paired}
use Rattle.graph.specs.Flowed.{WithinPrices}
use Rattle.search.specs.declared.search.Search.{Search}
use Rattle.search.specs.Residuals.{Scene, net, flow, step, Open, room_at}
use Rattle.search.specs.Trees.{count, at, Seen, Tree, Quiet, Explored}
use Rattle.search.proofs.Trees.{reached_held}
use Rattle.graph.proofs.Pushes.{arcs_paired}
use Rattle.level.specs.declared.task.Task.{Task}
use Rattle.level.specs.Scenes.{scene_in}
use Rattle.level.specs.Moves.{Nearer, Moved, Fitting, Closed, Closing}
use Rattle.level.proofs.Carries.{room_same, seen_open}

nearer_same : (a : ℤ) → Nearer a a
nearer_same a = record { low = λ h. (omega (arith, ints), h); high = λ h. (omega (arith, ints), h) }

nearer_more : (a b c : ℤ) → Nearer a b → Nearer b c → Nearer a c
nearer_more a b c p q =
    record {
      low = λ h. let x = p.low h in let y = q.low x.1 in (omega (arith, ints, x.0, y.0), y.1);
      high = λ h. let x = p.high h in let y = q.high x.1 in (omega (arith, ints, x.0, y.0), y.1);
    }

pub moved_none : (n : Net) (opened : ℕ → Type 0) (x : Flows) (s : ℕ → ℤ) → WithinPrices n x → Moved n opened x x s s
moved_none n opened x s within =
    record { within = within; balance = λ i. refl; nearer = λ i. nearer_same (s i); steps = λ i shut. refl; flows = λ e l shut. refl }

-- one after the other, where no more places are open for the second
pub moved_more :
    (n : Net) (opened still : ℕ → Type 0) (x y z : Flows) (s t u : ℕ → ℤ) → ((i : ℕ) → still i → opened i) → Moved n opened x y s t → Moved n still y z t u →
    Moved n opened x z s u
moved_more n opened still x y z s t u fewer p q =
    record {
      within = q.within;
      balance = λ i. omega (arith, ints, p.balance i, q.balance i);
      nearer = λ i. nearer_more (s i) (t i) (u i) (p.nearer i) (q.nearer i);
      steps = λ i shut. q.steps i (λ h. shut (fewer i h)) ∙ p.steps i shut;
      flows = λ e l shut. q.flows e l (narrow e shut) ∙ p.flows e l shut;
    }
  where
    narrow :
        (e : ℕ) → (opened (n.arc e).from → ⊥) ⊎ (opened (n.arc e).to → ⊥) → (still (n.arc e).from → ⊥) ⊎ (still (n.arc e).to → ⊥)
    narrow e (inl shut) = inl (λ h. shut (fewer (n.arc e).from h))
    narrow e (inr shut) = inr (λ h. shut (fewer (n.arc e).to h))

module _ (task : Task) where
  -- flow is sent, and no place is closed
  pub closing_still :
      (x y : List ℕ) (s t : List ℤ) (m : List ℕ) →
      let v : Scene = scene_in task x s m in
      let w : Scene = scene_in task y t m in
      Fitting w → Moved (net v) (Open v) (flow v) (flow w) (step v) (step w) → Closing v w task.yes
  closing_still x y s t m fitting moved =
      record {
        fitting = fitting;
        moved = moved;
        kept = λ i shut. refl;
        split = λ i o. inl o;
        low = λ i c. absurd (task.other (sym c.1 ∙ c.0));
        full = λ e l c o. absurd (task.other (sym c.1 ∙ c.0));
        least = λ set holds closed i c. absurd (task.other (sym c.1 ∙ c.0));
      }

  -- what a search reached that found no sink is closed
  module _ (x : List ℕ) (s : List ℤ) (m k : List ℕ) (q : Search) where
    abbrev before : Scene
    before = scene_in task x s m

    abbrev after : Scene
    after = scene_in task x s k

    pub closing_shut :
        Fitting after → Tree before q → Quiet before q → Explored before q (count q) → step before (at q 0) <ℤ pos 0 →
        ((i : ℕ) → Seen q i → get_or k i 0 ≡ task.yes) → ((i : ℕ) → (Seen q i) ⊎ ((Seen q i → ⊥) × (get_or k i 0 ≡ get_or m i 0))) → Closing before after task.yes
    closing_shut fitting tree quiet explored source marked each =
        record {
          fitting = fitting;
          moved = moved_none (net before) (Open before) (flow before) (step before) fitting.within;
          kept = λ i shut. kept_by i shut (each i);
          split = λ i o. split_by i o (each i);
          low = λ i c. low_by i (seen_by i c (each i));
          full = λ e l c o. full_by e l (seen_by ((net before).arc e).from c (each ((net before).arc e).from)) o (cases_lt 0 (room_at after e));
          least =
              λ set holds closed i c.
              reached_held before q tree set (holds (at q 0) (root_closed) source)
              (λ e l room from to h. closed e l room (seen_closed ((net before).arc e).from from) (seen_closed ((net before).arc e).to to) h) i
              (seen_by i c (each i));
        }
      where
        seen_closed : (i : ℕ) → Seen q i → Closed before after task.yes i
        seen_closed i h = (seen_open before q tree i h, marked i h)

        root_closed : Closed before after task.yes (at q 0)
        root_closed = seen_closed (at q 0) (0, tree.some, refl)

        seen_by : (i : ℕ) → Closed before after task.yes i → (Seen q i) ⊎ ((Seen q i → ⊥) × (get_or k i 0 ≡ get_or m i 0)) → Seen q i
        seen_by i c (inl h) = h
        seen_by i c (inr h) = absurd (task.other (sym c.1 ∙ (h.1 ∙ c.0)))

        kept_by : (i : ℕ) → (Open before i → ⊥) → (Seen q i) ⊎ ((Seen q i → ⊥) × (get_or k i 0 ≡ get_or m i 0)) → get_or k i 0 ≡ get_or m i 0
        kept_by i shut (inl h) = absurd (shut (seen_open before q tree i h))
        kept_by i shut (inr h) = h.1

        split_by : (i : ℕ) → Open before i → (Seen q i) ⊎ ((Seen q i → ⊥) × (get_or k i 0 ≡ get_or m i 0)) → Open after i ⊎ (get_or k i 0 ≡ task.yes)
        split_by i o (inl h) = inr (marked i h)
        split_by i o (inr h) = inl (h.1 ∙ o)

        low_by : (i : ℕ) → Seen q i → step after i ≤ℤ pos 0
        low_by i (j, l, e) = rw e at (quiet j l)

        -- an arc with room to a place that is still open would have been followed
        full_by : (e : ℕ) → e < (net before).arcs → Seen q ((net before).arc e).from → Open after ((net before).arc e).to → (0 < room_at after e) ⊎ (room_at after e ≤ 0) → room_at after e ≡ 0
        full_by e l (j, b, h) o (inl room) = absurd (open_by (each ((net before).arc e).to))
          where
            open_by : (Seen q ((net before).arc e).to) ⊎ ((Seen q ((net before).arc e).to → ⊥) × (get_or k ((net before).arc e).to 0 ≡ get_or m ((net before).arc e).to 0)) → ⊥
            open_by (inl t) = task.other (sym (marked ((net before).arc e).to t) ∙ o)
            open_by (inr t) = t.0 (explored j b e l (sym h) room (sym t.1 ∙ o))
        full_by e l h o (inr none) = omega arith

  -- one after the other
  module _ (x y z : List ℕ) (s t u : List ℤ) (m k j : List ℕ) where
    paired : Paired (net (scene_in task [] [] []))
    paired = arcs_paired task.graph.places task.graph.arcs.now task.graph.laid.even

    abbrev first : Scene
    first = scene_in task x s m

    abbrev second : Scene
    second = scene_in task y t k

    abbrev third : Scene
    third = scene_in task z u j

    module _ (p : Closing first second task.yes) (q : Closing second third task.yes) where
      -- a place that was closed before is not open any more, and stays as it is
      shut_by : (i : ℕ) → get_or k i 0 ≡ task.yes → Open second i → ⊥
      shut_by i c o = task.other (sym c ∙ o)

      pub still_open : (i : ℕ) → Open second i → Open first i
      still_open i o = by (cases_eq (get_or m i 0) task.group)
        where
          by : (get_or m i 0 ≡ task.group) ⊎ (get_or m i 0 ≢ task.group) → Open first i
          by (inl h) = h
          by (inr h) = sym (p.kept i h) ∙ o

      -- so is one that is open at the end
      open_before : (i : ℕ) → Open third i → Open second i
      open_before i o = by (cases_eq (get_or k i 0) task.group)
        where
          by : (get_or k i 0 ≡ task.group) ⊎ (get_or k i 0 ≢ task.group) → Open second i
          by (inl h) = h
          by (inr h) = sym (q.kept i h) ∙ o

      -- a place is closed at the end if it was closed first, or then
      closed_old : (i : ℕ) → Closed first second task.yes i → Closed first third task.yes i
      closed_old i c = (c.0, q.kept i (shut_by i c.1) ∙ c.1)

      closed_new : (i : ℕ) → Closed second third task.yes i → Closed first third task.yes i
      closed_new i c = (still_open i c.0, c.1)

      which : (i : ℕ) → Closed first third task.yes i → Closed first second task.yes i ⊎ Closed second third task.yes i
      which i c = by (p.split i c.0)
        where
          by : Open second i ⊎ (get_or k i 0 ≡ task.yes) → Closed first second task.yes i ⊎ Closed second third task.yes i
          by (inl o) = inr (o, c.1)
          by (inr h) = inl (c.0, h)

      -- what has an end that was closed first is as it was
      step_old : (i : ℕ) → get_or k i 0 ≡ task.yes → step third i ≡ step second i
      step_old i c = q.moved.steps i (shut_by i c)

      room_old : (e : ℕ) → e < (net first).arcs → get_or k ((net first).arc e).from 0 ≡ task.yes → room_at third e ≡ room_at second e
      room_old e l c =
          let back : get_or k ((net first).arc (partner e)).to 0 ≡ task.yes = rw (paired.forth e l) c in
          room_same (λ d. ((net first).arc d).price) (flow third) (flow second) e (q.moved.flows e l (inl (shut_by ((net first).arc e).from c)))
          (q.moved.flows (partner e) (paired.partnered e l) (inr (shut_by ((net first).arc (partner e)).to back)))

      low_by : (i : ℕ) → Closed first second task.yes i ⊎ Closed second third task.yes i → step third i ≤ℤ pos 0
      low_by i (inl c) = rw (step_old i c.1) (p.low i c)
      low_by i (inr c) = q.low i c

      full_then :
          (e : ℕ) → e < (net first).arcs → Closed first second task.yes ((net first).arc e).from ⊎ Closed second third task.yes ((net first).arc e).from →
          Open third ((net first).arc e).to → room_at third e ≡ 0
      full_then e l (inl c) o = room_old e l c.1 ∙ p.full e l c (open_before ((net first).arc e).to o)
      full_then e l (inr c) o = q.full e l c o

      module _
          (set : ℕ → Bool) (holds : (i : ℕ) → Closed first third task.yes i → step third i <ℤ pos 0 → set i ≡ true)
          (closed : (e : ℕ) → e < (net first).arcs → 0 < room_at third e → Closed first third task.yes ((net first).arc e).from → Closed first third task.yes ((net first).arc e).to → set ((net first).arc e).from ≡ true → set ((net first).arc e).to ≡ true) where
        least_then : (i : ℕ) → Closed first second task.yes i ⊎ Closed second third task.yes i → set i ≡ true
        least_then i (inl c) =
            p.least set (λ d h l. holds d (closed_old d h) (rw (step_old d h.1) l))
            (λ e l room from to h. closed e l (rw (room_old e l from.1) room) (closed_old ((net first).arc e).from from) (closed_old ((net first).arc e).to to) h) i c
        least_then i (inr c) =
            q.least set (λ d h l. holds d (closed_new d h) l)
            (λ e l room from to h. closed e l room (closed_new ((net first).arc e).from from) (closed_new ((net first).arc e).to to) h) i c

      pub closing_more : Closing first third task.yes
      closing_more =
          record {
            fitting = q.fitting;
            moved =
                moved_more (net first) (Open first) (Open second) (flow first) (flow second) (flow third) (step first) (step second) (step third) still_open p.moved
                q.moved;
            kept = λ i shut. q.kept i (λ o. shut (still_open i o)) ∙ p.kept i shut;
            split = λ i o. split_then i (p.split i o);
            low = λ i c. low_by i (which i c);
            full = λ e l c o. full_then e l (which ((net first).arc e).from c) o;
            least = λ set holds closed i c. least_then set holds closed i (which i c);
          }
        where
          split_then : (i : ℕ) → Open second i ⊎ (get_or k i 0 ≡ task.yes) → Open third i ⊎ (get_or j i 0 ≡ task.yes)
          split_then i (inl o) = q.split i o
          split_then i (inr h) = inr (q.kept i (shut_by i h) ∙ h)

      -- an open place with a step from 0 keeps one
      pub high_more : (i : ℕ) → (Open second i → pos 0 ≤ℤ step second i) → Open third i → pos 0 ≤ℤ step third i
      high_more i h o = ((q.moved.nearer i).high (h (open_before i o))).1
