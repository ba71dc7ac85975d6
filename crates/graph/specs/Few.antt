-- A field that is no larger than this is served with no memory but the stack. Assumes nothing: these are definitions.
use Rattle.std.specs.Prelude.{ℕ}

abbrev pub few_places : ℕ
few_places = 1024

abbrev pub few_sides : ℕ
few_sides = 2048
