-- Every row of the table is shown, by one test that computes.
use Rattle.std.proofs.Common.{◌≡◌, ℕ, zero, suc, ◌<◌, Bool, true, ◌&&◌, eqb, leb, List, [], ◌∷◌, length, get_or, refl, arith}
use Rattle.std.proofs.lemmas.Bool.{leb-true, eqb-true, and_parts}
use Rattle.theory.specs.Pictures.{Picture}
use Rattle.theory.specs.Nets.{Inside, Flows}
use Rattle.theory.specs.Fields.{Field, Of, total, Lowest, net_of}
use Rattle.theory.specs.Sheets.{there, back, out_of, into, tight_at, best_at, Sheet}
use Rattle.theory.specs.Table.{Row, row_field, row_picture, row_flows, Shown, no_row, table}
use Rattle.theory.proofs.Fields.{net_inside}
use Rattle.theory.proofs.Sheets.{sheet_certificate, sheet_cheapest, sheet_all, tight_by, best_by}
use Rattle.theory.proofs.Supports.{every, every_true, held, held_under}

-- the values are up to the top
abbrev pub within_test : Field → Picture → Bool
within_test f u = every f.places (λ i. leb (u i) f.top)

-- the flows are a sheet
abbrev pub sheet_test : Field → Picture → Flows → Bool
sheet_test f u x = every f.sides (tight_at f u x) && every f.places (λ i. every (suc f.top) (best_at f u x i))

-- each place is held up along at most n arcs
abbrev pub held_test : ℕ → Field → Picture → Flows → Bool
held_test n f u x = every f.places (held (net_of f) u x n)

pub within_by : (f : Field) (u : Picture) → within_test f u ≡ true → Of f u
within_by f u h i l = leb-true (u i) f.top (every_true f.places (λ j. leb (u j) f.top) h i l)

pub sheet_by : (f : Field) (u : Picture) (x : Flows) → sheet_test f u x ≡ true → Sheet f u x
sheet_by f u x h =
    let both = and_parts (every f.sides (tight_at f u x)) (every f.places (λ i. every (suc f.top) (best_at f u x i))) h in
    record {
      tight = λ k l. tight_by (f.side k) u (there x k) (back x k) (every_true f.sides (tight_at f u x) both.0 k l);
      best =
          λ i v l m.
          best_by (f.cost i) (out_of f x i) (into f x i) (u i) v
          (every_true (suc f.top) (best_at f u x i)
          (every_true f.places (λ j. every (suc f.top) (best_at f u x j)) both.1 i l) v (omega arith));
    }

-- a picture with a sheet of which each place is held up is the lowest cheapest one
pub lowest_by : (f : Field) (u : Picture) (x : Flows) (n : ℕ) → Inside (net_of f) → Of f u → Sheet f u x → held_test n f u x ≡ true → Lowest f u
lowest_by f u x n inside p s h =
    record {
      cheapest = sheet_cheapest f u x inside p s;
      under =
          λ v q i l.
          held_under (net_of f) u v x inside p (sheet_certificate f v x (sheet_all f u v x inside p s q)) n i l
          (every_true f.places (held (net_of f) u x n) h i l);
    }

abbrev pub row_test : Row → Bool
row_test r =
    within_test (row_field r) (row_picture r) &&
    (sheet_test (row_field r) (row_picture r) (row_flows r) &&
    (held_test 2 (row_field r) (row_picture r) (row_flows r) && eqb (total (row_field r) (row_picture r)) r.costs))

pub row_shown : (r : Row) → row_test r ≡ true → Shown r
row_shown r h =
    let f : Field = row_field r in
    let u : Picture = row_picture r in
    let x : Flows = row_flows r in
    let one = and_parts (within_test f u) _ h in
    let two = and_parts (sheet_test f u x) _ one.1 in
    let three = and_parts (held_test 2 f u x) (eqb (total f u) r.costs) two.1 in
    let p : Of f u = within_by f u one.0 in
    let s : Sheet f u x = sheet_by f u x two.0 in
    record {
      lowest = lowest_by f u x 2 (net_inside f (λ k l. (omega arith, omega arith))) p s three.0;
      sheet = s;
      costs = eqb-true (total f u) r.costs three.1;
    }

abbrev pub table_test : List Row → Bool
table_test [] = true
table_test (r ∷ rs) = row_test r && table_test rs

table_row : (rs : List Row) → table_test rs ≡ true → (k : ℕ) → k < length rs → row_test (get_or rs k no_row) ≡ true
table_row [] h k l = absurd (omega arith)
table_row (r ∷ rs) h zero l = (and_parts (row_test r) (table_test rs) h).0
table_row (r ∷ rs) h (suc k) l = table_row rs (and_parts (row_test r) (table_test rs) h).1 k (omega arith)

table_passes : table_test table ≡ true
table_passes = refl

pub table_shown : (k : ℕ) → k < length table → Shown (get_or table k no_row)
table_shown k l = row_shown (get_or table k no_row) (table_row table table_passes k l)
