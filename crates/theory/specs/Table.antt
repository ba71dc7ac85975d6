-- Small fields whose lowest cheapest picture is known. Assumes nothing: these are definitions.
use Rattle.std.specs.Prelude.{◌≡◌, ℕ, ◌+◌, ◌-◌, ◌*◌, List, [], ◌∷◌, length, slice_index}
use Rattle.theory.specs.Pictures.{Picture}
use Rattle.theory.specs.Nets.{Flows}
use Rattle.theory.specs.Fields.{Field, apart, total, Lowest}
use Rattle.theory.specs.Sheets.{Sheet}

-- how the cost of a value grows with its distance from the measured one
pub data Kind : Type 0 where
  distance : Kind
  square : Kind

abbrev pub grown : Kind → ℕ → ℕ
grown distance d = d
grown square d = d * d

-- places in a row with one side between neighbours, a picture of them, flows for its sides, and what the picture costs
pub record Row : Type 0 where
  pub measured : List ℕ
  pub top : ℕ
  pub price : ℕ
  pub kind : Kind
  pub picture : List ℕ
  pub flows : List ℕ
  pub costs : ℕ

abbrev pub row_field : Row → Field
row_field r =
    record {
      places = length r.measured;
      top = r.top;
      cost = λ i v. grown r.kind (apart v (slice_index r.measured i));
      sides = length r.measured - 1;
      side = λ k. record { first = k; second = k + 1; price = r.price };
    }

abbrev pub row_picture : Row → Picture
row_picture r i = slice_index r.picture i

abbrev pub row_flows : Row → Flows
row_flows r e = slice_index r.flows e

-- the picture is the lowest cheapest one at the stated cost, and the flows are a sheet for it
pub record Shown (r : Row) : Type 0 where
  pub lowest : Lowest (row_field r) (row_picture r)
  pub sheet : Sheet (row_field r) (row_picture r) (row_flows r)
  pub costs : total (row_field r) (row_picture r) ≡ r.costs

abbrev pub no_row : Row
no_row = record { measured = []; top = 0; price = 0; kind = distance; picture = []; flows = []; costs = 0 }

abbrev pub table : List Row
table =
    record { measured = 0 ∷ 0 ∷ 5 ∷ 0 ∷ 0 ∷ []; top = 5; price = 1; kind = distance; picture = 0 ∷ 0 ∷ 0 ∷ 0 ∷ 0 ∷ []; flows = 0 ∷ 0 ∷ 0 ∷ 1 ∷ 0 ∷ 0 ∷ 0 ∷ 0 ∷ []; costs = 5 }
    ∷ record { measured = 0 ∷ 0 ∷ 5 ∷ 0 ∷ 0 ∷ []; top = 5; price = 1; kind = square; picture = 0 ∷ 0 ∷ 4 ∷ 0 ∷ 0 ∷ []; flows = 0 ∷ 0 ∷ 0 ∷ 1 ∷ 1 ∷ 0 ∷ 0 ∷ 0 ∷ []; costs = 9 }
    ∷ record { measured = 0 ∷ 5 ∷ 5 ∷ 5 ∷ 0 ∷ []; top = 5; price = 1; kind = distance; picture = 0 ∷ 5 ∷ 5 ∷ 5 ∷ 0 ∷ []; flows = 0 ∷ 1 ∷ 0 ∷ 1 ∷ 0 ∷ 0 ∷ 1 ∷ 0 ∷ []; costs = 10 }
    ∷ record { measured = 0 ∷ 3 ∷ []; top = 3; price = 1; kind = distance; picture = 0 ∷ 0 ∷ []; flows = 0 ∷ 1 ∷ []; costs = 3 }
    ∷ record { measured = 0 ∷ 3 ∷ []; top = 3; price = 3; kind = square; picture = 1 ∷ 1 ∷ []; flows = 0 ∷ 3 ∷ []; costs = 5 }
    ∷ []
