-- Laws of two arcs that are laid down for each side.
use Rattle.std.proofs.Common.{◌≡◌, ℕ, suc, ◌+◌, ◌*◌, ◌/◌, ◌<◌, ◌≤◌, ◌≢◌, ◌⊎◌, List, [], ◌∷◌, length, get_or, set, sym, ap, subst, ◌∙◌, inl, inr, arith, length-set}
use Rattle.std.proofs.lemmas.Bool.{cases_eq, cases_lt}
use Rattle.std.proofs.lemmas.List.{get_or-set_same, get_or-set_other, get_or_past}
use Rattle.field.specs.declared.view.FieldView.{FieldView}
use Rattle.field.specs.Limits.{most_places, most_sides, most_price}
use Rattle.field.specs.Given.{sides_of}
use Rattle.field.specs.Taken.{Starts, Ends, Priced}
use Rattle.graph.specs.declared.arc.Arc.{Arc}
use Rattle.graph.specs.Fit.{Fit}
use Rattle.graph.specs.Arcs.{no_arc, end_at, price_at, paired, Rows, Graphed, BothWays}

-- two arcs written side by side
pair_first : (xs : List Arc) (k : ℕ) (a b : Arc) → 2 * k + 1 < length xs → get_or (paired xs k a b) (2 * k) no_arc ≡ a
pair_first xs k a b l =
    let other : 2 * k ≢ 2 * k + 1 = omega arith in
    let within : 2 * k < length xs = omega arith in
    rw (get_or-set_other, get_or-set_same)

pair_second : (xs : List Arc) (k : ℕ) (a b : Arc) → 2 * k + 1 < length xs → get_or (paired xs k a b) (2 * k + 1) no_arc ≡ b
pair_second xs k a b l =
    let within : 2 * k + 1 < length (set xs (2 * k) a) = rw length-set l in
    rw get_or-set_same

pair_else : (xs : List Arc) (k : ℕ) (a b : Arc) (j : ℕ) → j ≢ 2 * k → j ≢ 2 * k + 1 → get_or (paired xs k a b) j no_arc ≡ get_or xs j no_arc
pair_else xs k a b j d e = rw (get_or-set_other, get_or-set_other)

-- the arcs of one side more
module _ (sides side : List ℕ) (arcs more : List Arc) (k : ℕ) (l : 2 * k + 1 < length arcs)
    (read : side ≡ get_or sides (3 * k) 0 ∷ get_or sides (3 * k + 1) 0 ∷ get_or sides (3 * k + 2) 0 ∷ [])
    (laid : more ≡ paired arcs k (record { end = get_or side 0 0; price = get_or side 2 0 }) (record { end = get_or side 1 0; price = get_or side 2 0 })) where
  at_arc : (j : ℕ) (a : Arc) → get_or (paired arcs k (record { end = get_or side 0 0; price = get_or side 2 0 }) (record { end = get_or side 1 0; price = get_or side 2 0 })) j no_arc ≡ a → get_or more j no_arc ≡ a
  at_arc j a h = ap (λ xs. get_or xs j no_arc) laid ∙ h

  ways_here : BothWays sides more k
  ways_here =
      let there = at_arc (2 * k) _ (pair_first arcs k _ _ l) in
      let back = at_arc (2 * k + 1) _ (pair_second arcs k _ _ l) in
      record {
        there = ap (λ a. a.end) there ∙ ap (λ xs. get_or xs 0 0) read;
        back = ap (λ a. a.end) back ∙ ap (λ xs. get_or xs 1 0) read;
        price = ap (λ a. a.price) there ∙ ap (λ xs. get_or xs 2 0) read;
        same = ap (λ a. a.price) back ∙ ap (λ xs. get_or xs 2 0) read;
      }

  ways_by : (j : ℕ) → j < suc k → (j < k → BothWays sides arcs j) → (j ≡ k) ⊎ (j ≢ k) → BothWays sides more j
  ways_by j n h (inl e) = rw e ways_here
  ways_by j n h (inr d) =
      let before = h (omega arith) in
      let there = at_arc (2 * j) _ (pair_else arcs k _ _ (2 * j) (omega arith) (omega arith)) in
      let back = at_arc (2 * j + 1) _ (pair_else arcs k _ _ (2 * j + 1) (omega arith) (omega arith)) in
      record {
        there = ap (λ a. a.end) there ∙ before.there;
        back = ap (λ a. a.end) back ∙ before.back;
        price = ap (λ a. a.price) there ∙ before.price;
        same = ap (λ a. a.price) back ∙ before.same;
      }

  pub ways_more : ((j : ℕ) → j < k → BothWays sides arcs j) → (j : ℕ) → j < k + 1 → BothWays sides more j
  ways_more h j n = ways_by j (omega arith) (h j) (cases_eq j k)

-- what a graph needs to know of the numbers of sides
pub record Sided (places : ℕ) (sides : List ℕ) : Type 0 where
  pub few : places ≤ most_places
  pub scarce : sides_of sides ≤ most_sides
  pub starts : Starts places sides
  pub ends : Ends places sides
  pub priced : Priced sides

-- what holds of the two arcs of each side holds of each arc
module _ (places : ℕ) (sides : List ℕ) (arcs : List Arc) (known : Sided places sides) (each : length arcs ≡ 2 * sides_of sides)
    (laid : (k : ℕ) → k < sides_of sides → BothWays sides arcs k) where
  -- each is the first or the second of its side's two
  by_sides : (P : ℕ → Type 0) → ((k : ℕ) → k < sides_of sides → P (2 * k) × P (2 * k + 1)) → (e : ℕ) → e < length arcs → P e
  by_sides P h e l =
      let both = h (e / 2) (omega arith) in
      elim (cases_eq e (2 * (e / 2))) [ inl s ↦ subst P (sym s) both.0 | inr d ↦ let s : 2 * (e / 2) + 1 ≡ e = omega arith in subst P s both.1 ]

  arcs_inside : (e : ℕ) → e < length arcs → end_at arcs e < places
  arcs_inside =
      by_sides (λ e. end_at arcs e < places)
      (λ k l. (omega (arith, (laid k l).there, known.starts k l), omega (arith, (laid k l).back, known.ends k l)))

  arcs_cheap : (e : ℕ) → price_at arcs e ≤ most_price
  arcs_cheap e =
      elim (cases_lt e (length arcs)) [
        | inl l ↦ by_sides (λ d. price_at arcs d ≤ most_price)
            (λ k m. (omega (arith, (laid k m).price, known.priced k m), omega (arith, (laid k m).same, known.priced k m))) e l
        | inr l ↦ let none : price_at arcs e ≡ 0 = ap (λ a. a.price) (get_or_past arcs e no_arc l) in omega arith
      ]

  pub arcs_fit : Fit arcs (suc places)
  arcs_fit = record { few = omega (arith, known.scarce); inside = λ e l. omega (arith, arcs_inside e l) }

  pub graphed : (starts order : List ℕ) → Rows places arcs starts order → Graphed places arcs starts order
  graphed starts order rows =
      record {
        few = known.few;
        scarce = omega (arith, known.scarce);
        even = omega arith;
        inside = arcs_inside;
        cheap = arcs_cheap;
        rows = rows;
      }

-- what a field's view says of its sides
pub sided : (f : FieldView) → Sided f.places f.sides.now
sided f =
    record {
      few = f.taken.sized.few;
      scarce = f.taken.laid.scarce;
      starts = f.taken.starts;
      ends = f.taken.ends;
      priced = f.taken.priced;
    }
