-- What sending flow inside the open places, and closing places, does to a level. Assumes nothing: these are definitions.
use Rattle.std.specs.Prelude.{◌≡◌, ℕ, ◌<◌, Bool, true, ◌⊎◌, length, ℤ, pos, ◌+ℤ◌, ◌≤ℤ◌, ◌<ℤ◌, slice_index}
use Rattle.theory.specs.Nets.{Net, Flows, net_out, net_into}
use Rattle.graph.specs.Arcs.{Furnished}
use Rattle.graph.specs.Flowed.{WithinPrices}
use Rattle.search.specs.declared.search.Search.{Search}
use Rattle.search.specs.Residuals.{Scene, net, flow, step, Open, room_at}
use Rattle.search.specs.Trees.{Sized}

-- b lies between a and 0, so that a step that was negative only rises, to at most 0, one that was positive only falls, to at least 0, and 0 stays
pub record Nearer (a b : ℤ) : Type 0 where
  pub low : a ≤ℤ pos 0 → (a ≤ℤ b) × (b ≤ℤ pos 0)
  pub high : pos 0 ≤ℤ a → (b ≤ℤ a) × (pos 0 ≤ℤ b)

-- flows x and steps s became y and t: flows within prices, each step changed by just what flows out of its place less what flows in, and only towards 0; places that are not open, and arcs with an end at one, are untouched
pub record Moved (n : Net) (opened : ℕ → Type 0) (x y : Flows) (s t : ℕ → ℤ) : Type 0 where
  pub within : WithinPrices n y
  pub balance : (i : ℕ) → (t i +ℤ pos (net_into n y i)) +ℤ pos (net_out n x i) ≡ (s i +ℤ pos (net_into n x i)) +ℤ pos (net_out n y i)
  pub nearer : (i : ℕ) → Nearer (s i) (t i)
  pub steps : (i : ℕ) → (opened i → ⊥) → t i ≡ s i
  pub flows : (e : ℕ) → e < n.arcs → (opened (n.arc e).from → ⊥) ⊎ (opened (n.arc e).to → ⊥) → y e ≡ x e

-- flows, steps and marks as many as there are arcs and places, and flows within prices
abbrev pub Fitting : Scene → Type 0
Fitting v = Furnished v.places v.arcs v.flows (length v.steps) (length v.marks)

-- what holds of every level: its flows, steps and marks fit its graph, and its search has room for every place
pub record Facts (v : Scene) (s : Search) : Type 0 where
  pub fitting : Fitting v
  pub sized : Sized v.places s

-- a place that was open and has the mark of yes now
abbrev pub Closed : (v w : Scene) → (mark i : ℕ) → Type 0
Closed v w mark i = Open v i × (slice_index w.marks i ≡ mark)

-- a level went from v to w, of one graph: flow was sent inside the open places, and some of them were closed as yes. These have steps up to 0; no arc from them to a place that is still open has room; and they are the least set that holds those of them whose step is negative and that no arc with room among them leaves
pub record Closing (v w : Scene) (mark : ℕ) : Type 0 where
  pub fitting : Fitting w
  pub moved : Moved (net v) (Open v) (flow v) (flow w) (step v) (step w)
  pub kept : (i : ℕ) → (Open v i → ⊥) → slice_index w.marks i ≡ slice_index v.marks i
  pub split : (i : ℕ) → Open v i → Open w i ⊎ (slice_index w.marks i ≡ mark)
  pub low : (i : ℕ) → Closed v w mark i → step w i ≤ℤ pos 0
  pub full : (e : ℕ) → e < (net v).arcs → Closed v w mark ((net v).arc e).from → Open w ((net v).arc e).to → room_at w e ≡ 0
  pub least :
      (s : ℕ → Bool) → ((i : ℕ) → Closed v w mark i → step w i <ℤ pos 0 → s i ≡ true) →
      ((e : ℕ) → e < (net v).arcs → 0 < room_at w e → Closed v w mark ((net v).arc e).from → Closed v w mark ((net v).arc e).to →
      s ((net v).arc e).from ≡ true → s ((net v).arc e).to ≡ true) →
      (i : ℕ) → Closed v w mark i → s i ≡ true
