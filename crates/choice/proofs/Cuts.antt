-- What a level leaves behind that begins with no flows and all places open is a least cut of the field's net, so that the picture is the lowest cheapest one and the flows are a sheet for it.
use Rattle.std.proofs.Common.{◌≡◌, ℕ, ◌*◌, ◌<◌, ◌≤◌, Bool, true, false, cond, eqb, ◌⊎◌, List, length, get_or, ℤ, pos, ◌≤ℤ◌, sym, refl, ap, ◌∙◌, inl, inr, arith}
use Rattle.std.proofs.lemmas.List.{get_or_past}
use Rattle.std.proofs.lemmas.Int.{ints}
use Rattle.std.proofs.lemmas.Bool.{cases_lt}
use Rattle.theory.specs.Sums.{sum}
use Rattle.theory.specs.Nets.{Arc, Flows, carried}
use Rattle.theory.specs.Fields.{Field, net_of}
use Rattle.theory.specs.Levels.{room, room_of, Stepped, LeastCut}
use Rattle.theory.proofs.Sums.{sum_same, sum_zero}
use Rattle.theory.proofs.Fields.{each_arc}
use Rattle.theory.proofs.Pairs.{partner_even, partner_odd}
use Rattle.theory.proofs.Levels.{cut_sheet, cut_lowest}
use Rattle.field.specs.declared.view.FieldView.{FieldView}
use Rattle.field.specs.Given.{cost_in, picture_in, flows_in}
use Rattle.field.specs.Viewed.{field_of}
use Rattle.field.proofs.Verdicts.{sound_by}
use Rattle.graph.specs.Arcs.{net_in}
use Rattle.graph.specs.Owned.{Owned, OfField}
use Rattle.search.specs.Residuals.{Scene, net, flow, step, Open, room_at}
use Rattle.level.specs.Moves.{Closing}
use Rattle.choice.specs.Worked.{Unflowed}
use Rattle.choice.specs.Solved.{Solved}

-- the room of an arc reads its own price alone
room_price : (p q x : ℕ → ℕ) (e : ℕ) → p e ≡ q e → room p x e ≡ room q x e
unfolding room
room_price p q x e h = rw h

module _ (view : FieldView) (own : Owned) (of : OfField view own) where
  abbrev f : Field
  f = field_of view

  -- the arcs that were laid down are those of the field's net
  same_arc : (e : ℕ) → e < 2 * f.sides → (net_in own.places own.arcs).arc e ≡ (net_of f).arc e
  same_arc =
      each_arc f (λ e a. (net_in own.places own.arcs).arc e ≡ a)
      (λ k l.
      let both = of.laid k l in
      (rw (partner_even k, both.there, both.back, both.price), rw (partner_odd k, both.there, both.back, both.same)))

  same_carried : (end : Arc → ℕ) (x : Flows) (i : ℕ) → carried end (net_in own.places own.arcs) x i ≡ carried end (net_of f) x i
  same_carried end x i =
      ap (λ m. sum m (λ e. cond (eqb (end ((net_in own.places own.arcs).arc e)) i) (x e) 0)) of.each ∙
      sum_same (2 * f.sides) (λ e. cond (eqb (end ((net_in own.places own.arcs).arc e)) i) (x e) 0) (λ e. cond (eqb (end ((net_of f).arc e)) i) (x e) 0)
      (λ e l. ap (λ a. cond (eqb (end a) i) (x e) 0) (same_arc e l))

  -- with no flows nothing is carried
  none_carried : (end : Arc → ℕ) (x : Flows) (i : ℕ) → ((e : ℕ) → x e ≡ 0) → carried end (net_in own.places own.arcs) x i ≡ 0
  none_carried end x i none =
      sum_zero (length own.arcs) (λ e. cond (eqb (end ((net_in own.places own.arcs).arc e)) i) (x e) 0)
      (λ e l. nothing (eqb (end ((net_in own.places own.arcs).arc e)) i) (x e) (none e))
    where
      nothing : (b : Bool) (y : ℕ) → y ≡ 0 → cond b y 0 ≡ 0
      nothing true y h = h
      nothing false y h = refl

  module _ (two : f.top ≡ 1) (x y : List ℕ) (s t : List ℤ) (m p : List ℕ) (blank : (i : ℕ) → get_or m i 0 ≡ 0) (none : (e : ℕ) → get_or x e 0 ≡ 0)
      (first : Unflowed f.places view.costs.now s) where
    abbrev v : Scene
    v = record { places = own.places; arcs = own.arcs; flows = x; steps = s; marks = m; group = 0 }

    abbrev w : Scene
    w = record { places = own.places; arcs = own.arcs; flows = y; steps = t; marks = p; group = 0 }

    module _ (c : Closing v w 1) (high : (i : ℕ) → i < own.places → Open w i → pos 0 ≤ℤ step w i) where
      cost : (i a : ℕ) → f.cost i a ≡ cost_in 1 view.costs.now i a
      cost i a = ap (λ top. cost_in top view.costs.now i a) two

      stepped : Stepped (net_of f) (flows_in y) (step w)
      stepped i l =
          omega (
            arith,
            ints,
            c.moved.balance i,
            none_carried (λ a. a.from) (flow v) i none,
            none_carried (λ a. a.to) (flow v) i none,
            same_carried (λ a. a.from) (flow w) i,
            same_carried (λ a. a.to) (flow w) i,
            first.each i l,
            cost i 0,
            cost i 1,
          )

      below : (i : ℕ) → get_or p i 0 ≡ 1 → i < own.places
      below i h = by (cases_lt i (length p))
        where
          by : (i < length p) ⊎ (length p ≤ i) → i < own.places
          by (inl l) = omega (arith, c.fitting.marked)
          by (inr l) = absurd (let past = get_or_past p i 0 l in omega arith)

      one : (i : ℕ) → Open w i ⊎ (get_or p i 0 ≡ 1) → get_or p i 0 ≤ 1
      one i (inl h) = omega arith
      one i (inr h) = omega arith

      same_room : (e : ℕ) → e < 2 * f.sides → room_at w e ≡ room_of (net_of f) (flows_in y) e
      same_room e l =
          room_price (λ d. ((net_in own.places own.arcs).arc d).price) (λ d. ((net_of f).arc d).price) (flows_in y) e (ap (λ a. a.price) (same_arc e l))

      cut : LeastCut (net_of f) (flows_in y) (step w) (picture_in p)
      cut =
          record {
            of = λ i l. one i (c.split i (blank i));
            within = λ e l. let price = ap (λ a. a.price) (same_arc e l) in omega (arith, c.fitting.within e (omega (arith, of.each)));
            low = λ i l h. c.low i (blank i, h);
            high = λ i l h. high i (omega (arith, of.places)) h;
            full =
                λ e l a b.
                let same = same_arc e l in
                sym (same_room e l) ∙
                c.full e (omega (arith, of.each)) (blank ((net v).arc e).from, ap (λ d. get_or p d.from 0) same ∙ a) (ap (λ d. get_or p d.to 0) same ∙ b);
            least =
                λ set holds closed i l h.
                c.least set (λ j k neg. holds j (omega (arith, below j k.1, of.places)) neg)
                (λ e k some from to has.
                let arc : e < 2 * f.sides = omega (arith, of.each) in
                let same = same_arc e arc in
                ap (λ d. set d.to) same ∙ closed e arc (rw (← (same_room e arc)) some) (sym (ap (λ d. set d.from) same) ∙ has)) i (blank i, h);
          }

      pub level_solved : Solved f p y
      level_solved =
          let sound = sound_by view.places view.top view.costs.now view.sides.now view.taken in
          record {
            lowest = cut_lowest f (flows_in y) (step w) (picture_in p) sound two stepped cut;
            sheet = cut_sheet f (flows_in y) (step w) (picture_in p) sound two stepped cut;
          }
