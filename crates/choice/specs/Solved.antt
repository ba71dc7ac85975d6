-- What an entry answers that finds a picture and its flows, and what it leaves behind. Assumes nothing: these are definitions.
use Rattle.std.specs.Prelude.{◌≡◌, ℕ, ◌<◌, ◌⊎◌, List, Ok, Err, Result}
use Rattle.theory.specs.Fields.{Field, Lowest}
use Rattle.theory.specs.Sheets.{Sheet}
use Rattle.word.specs.declared.unsolved.Unsolved.{Unsolved}
use Rattle.word.specs.declared.unsolved.Unsolved.TheVariants.{Refused, NoMemory}
use Rattle.field.specs.Given.{picture_in, flows_in}
use Rattle.field.specs.Rules.{Verdict}
use Rattle.graph.specs.Few.{few_places, few_sides}

-- the picture is the lowest cheapest one, and the flows are a sheet for it
pub record Solved (f : Field) (picture flows : List ℕ) : Type 0 where
  pub lowest : Lowest f (picture_in picture)
  pub sheet : Sheet f (picture_in picture) (flows_in flows)

-- a field that is larger wants memory from the heap
abbrev pub Large : Field → Type 0
Large f = (few_places < f.places) ⊎ (few_sides < f.sides)

-- what is answered, with the picture p and the flows x that were lent and the numbers q and y that stand there afterwards: what is turned away changes nothing; what is taken is solved, or it is large and there was no memory, which changes nothing
abbrev pub Answered : Verdict → Field → (p x : List ℕ) → Result (Unit {0}) Unsolved → (q y : List ℕ) → Type 0
Answered (Ok o) f p x (Ok r) q y = Solved f q y
Answered (Ok o) f p x (Err r) q y = (r ≡ NoMemory) × Large f × (q ≡ p) × (y ≡ x)
Answered (Err e) f p x r q y = (r ≡ Err (Refused e)) × (q ≡ p) × (y ≡ x)
