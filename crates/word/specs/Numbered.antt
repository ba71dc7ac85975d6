-- The number and the place of each refusal. Assumes nothing: these are definitions.
use Rattle.std.specs.Prelude.{ℕ, ◌+◌, ◌*◌}
use Rattle.word.specs.declared.refusal.Refusal.{Refusal}
use Rattle.word.specs.declared.refusal.Refusal.TheVariants.{Places, Top, CostsLength, SidesLength, PictureLength, FlowsLength, CostTooHigh, SideOutOfRange, NotConvex, ValueTooHigh}

abbrev pub number_of : Refusal → ℕ
number_of Places = 1
number_of Top = 1
number_of CostsLength = 2
number_of SidesLength = 2
number_of PictureLength = 3
number_of FlowsLength = 3
number_of (CostTooHigh k) = 4
number_of (SideOutOfRange n k) = 4
number_of (NotConvex i v) = 5
number_of (ValueTooHigh i) = 6

abbrev pub place_of : Refusal → ℕ
place_of Places = 0
place_of Top = 1
place_of CostsLength = 0
place_of SidesLength = 1
place_of PictureLength = 0
place_of FlowsLength = 1
place_of (CostTooHigh k) = k
place_of (SideOutOfRange n k) = n + k
place_of (NotConvex i v) = i * 256 + v
place_of (ValueTooHigh i) = i
