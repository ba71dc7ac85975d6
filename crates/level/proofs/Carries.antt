-- An amount is carried along the path of a search, arc by arc, from the sink back to the root.
use Rattle.std.proofs.Common.{◌≡◌, ℕ, List, ◌<◌, ◌≤◌, ◌≢◌, ◌⊎◌, sym, ap, ◌∙◌, subst, inl, inr, arith}
use Rattle.theory.specs.Nets.{Net, Flows}
use Rattle.theory.specs.Levels.{partner, room, room_of, Paired}
use Rattle.field.specs.Given.{flows_in}
use Rattle.graph.specs.Flowed.{only, Carried, Pushed}
use Rattle.graph.proofs.Pushes.{arcs_paired}
use Rattle.search.specs.declared.search.Search.{Search}
use Rattle.search.specs.Residuals.{Scene, net, flow, Open}
use Rattle.search.specs.Trees.{count, at, slot, parent, reach, Seen, Led, Tree}
use Rattle.search.proofs.Trees.{seen_slot}
use Rattle.level.specs.declared.level.Level.{Level}
use Rattle.level.specs.Levels.{scene_of, root_of, Searched}
use Rattle.level.specs.Carries.{Carrying}

-- the room of an arc depends on its flow and its partner's alone
pub room_same : (price x y : ℕ → ℕ) (e : ℕ) → x e ≡ y e → x (partner e) ≡ y (partner e) → room price x e ≡ room price y e
unfolding room
room_same price x y e h k = rw (h, k)

-- carrying from q to p and from p to r is carrying from q to r
carried_more :
    (n : Net) (x y z : Flows) (p q r t a : ℕ) → t ≡ p → Carried n x y p r a → Carried n y z q t a → Carried n x z q r a
carried_more n x y z p q r t a e first second i =
    let same : only t a i ≡ only p a i = ap (λ j. only j a i) e in
    omega (arith, first i, second i)

-- the path of a tree: a place that was reached and is not the root was reached by an arc
module _ (v : Scene) (s : Search) (tree : Tree v s) where
  led_by : (p k : ℕ) → k < count s → at s k ≡ p → p ≢ at s 0 → Led v s (slot s p) (parent s p)
  led_by p k l e other =
      let first : 1 ≤ k = positive k (λ z. other (sym e ∙ ap (at s) z)) in
      let here : slot s p ≡ k = ap (slot s) (sym e) ∙ tree.ordered.slots k l in
      subst (λ j. Led v s j (parent s p)) (sym here) (subst (λ q. Led v s k (parent s q)) e (tree.led k l first))
    where
      positive : (k : ℕ) → k ≢ 0 → 1 ≤ k
      positive k d = omega arith

  pub seen_led : (p : ℕ) → Seen s p → p ≢ at s 0 → Led v s (slot s p) (parent s p)
  seen_led p (k, l, e) other = led_by p k l e other

  pub seen_open : (p : ℕ) → Seen s p → Open v p
  seen_open p (k, l, e) = rw e at (tree.opened k l)

  -- one arc of the path
  module _ (paired : Paired (net v)) (y : Flows) (sink a p : ℕ) (c : Carrying v s y sink a p) (other : p ≢ at s 0) where
    led : Led v s (slot s p) (parent s p)
    led = seen_led p c.seen other

    to : ((net v).arc (parent s p)).to ≡ p
    to = led.to ∙ (seen_slot s p c.seen).1

    from_seen : Seen s ((net v).arc (parent s p)).from
    from_seen = (slot s ((net v).arc (parent s p)).from, omega (arith, led.earlier, (seen_slot s p c.seen).0), led.from)

    pub carrying_room : a ≤ room_of (net v) y (parent s p)
    carrying_room =
        let e : ℕ = parent s p in
        let ends : slot s ((net v).arc e).to ≡ slot s p = ap (slot s) to in
        let here : y e ≡ flow v e = c.unharmed e led.arc (omega (arith, led.earlier)) (omega arith) in
        let starts : slot s ((net v).arc (partner e)).from ≡ slot s p = ap (slot s) (paired.back e led.arc ∙ to) in
        let leads : slot s ((net v).arc (partner e)).to ≡ slot s ((net v).arc e).from = ap (slot s) (paired.forth e led.arc) in
        let back : y (partner e) ≡ flow v (partner e) = c.unharmed (partner e) (paired.partnered e led.arc) (omega arith) (omega (arith, led.earlier)) in
        let stands : at s (slot s p) ≡ p = (seen_slot s p c.seen).1 in
        let much : reach s (at s (slot s p)) ≡ reach s p = ap (reach s) stands in
        omega (arith, led.room, c.enough, room_same (λ d. ((net v).arc d).price) y (flow v) e here back)

    -- another arc is neither this one nor its partner, if p is not its end
    not_arc : (d : ℕ) → ((net v).arc d).to ≢ p → d ≢ parent s p
    not_arc d away h = away (ap (λ j. ((net v).arc j).to) h ∙ to)

    not_partner : (d : ℕ) → ((net v).arc d).from ≢ p → d ≢ partner (parent s p)
    not_partner d away h = away (ap (λ j. ((net v).arc j).from) h ∙ (paired.back (parent s p) led.arc ∙ to))

    from_open : Open v ((net v).arc (parent s p)).from
    from_open = seen_open ((net v).arc (parent s p)).from from_seen

    to_open : Open v ((net v).arc (parent s p)).to
    to_open = rw to (seen_open p c.seen)

    -- an arc with an end that is not open is neither of them
    closed_apart : (d : ℕ) → (Open v ((net v).arc d).from → ⊥) ⊎ (Open v ((net v).arc d).to → ⊥) → (d ≢ parent s p) × (d ≢ partner (parent s p))
    closed_apart d (inl shut) = (
      λ h. shut (subst (λ j. Open v ((net v).arc j).from) (sym h) from_open),
      λ h. shut (subst (λ j. Open v ((net v).arc j).from) (sym h) (subst (Open v) (sym (paired.back (parent s p) led.arc)) to_open)),
    )
    closed_apart d (inr shut) = (
      λ h. shut (subst (λ j. Open v ((net v).arc j).to) (sym h) to_open),
      λ h. shut (subst (λ j. Open v ((net v).arc j).to) (sym h) (subst (Open v) (sym (paired.forth (parent s p) led.arc)) from_open)),
    )

    pub carrying_more : (z : Flows) → Pushed (net v) y z (parent s p) a → Carrying v s z sink a ((net v).arc (parent s p)).from
    carrying_more z pushed =
        let e : ℕ = parent s p in
        let q : ℕ = ((net v).arc e).from in
        let less : slot s q < slot s p = led.earlier in
        let stands : at s (slot s p) ≡ p = (seen_slot s p c.seen).1 in
        let much : reach s (at s (slot s p)) ≡ reach s p = ap (reach s) stands in
        record {
          within = pushed.within;
          carried = carried_more (net v) (flow v) y z p q sink ((net v).arc e).to a to c.carried pushed.carried;
          seen = from_seen;
          enough = omega (arith, c.enough, led.chain);
          unharmed =
              λ d l m n.
              pushed.others d (not_arc d (λ h. let k = ap (slot s) h in omega arith)) (not_partner d (λ h. let k = ap (slot s) h in omega arith)) ∙
              c.unharmed d l (omega arith) (omega arith);
          outside = λ d l shut. let apart = closed_apart d shut in pushed.others d apart.0 apart.1 ∙ c.outside d l shut;
        }

-- the arc by which place p was reached: the amount has room on it, and once it is pushed it has been carried from the arc's start
pub record ArcCarried (v : Scene) (s : Search) (y : Flows) (sink a e : ℕ) : Type 0 where
  pub room : a ≤ room_of (net v) y e
  pub more : (z : Flows) (q : ℕ) → Pushed (net v) y z e a → q ≡ ((net v).arc e).from → Carrying v s z sink a q

pub carry_arc :
    (l : Level) (sink a p root e : ℕ) (flows : List ℕ) → Searched l → Carrying (scene_of l) l.search.now (flows_in flows) sink a p → root ≡ root_of l →
    p ≢ root → e ≡ parent l.search.now p → ArcCarried (scene_of l) l.search.now (flows_in flows) sink a e
carry_arc l sink a p root e flows searched c start apart led =
    let v : Scene = scene_of l in
    let s : Search = l.search.now in
    let other : p ≢ at s 0 = subst (λ r. p ≢ r) start apart in
    let paired : Paired (net v) = arcs_paired v.places v.arcs l.task.graph.laid.even in
    subst (ArcCarried v s (flows_in flows) sink a) (sym led)
    (record {
      room = carrying_room v s searched.tree paired (flows_in flows) sink a p c other;
      more =
          λ z q pushed from.
          subst (Carrying v s z sink a) (sym from) (carrying_more v s searched.tree paired (flows_in flows) sink a p c other z pushed);
    })
