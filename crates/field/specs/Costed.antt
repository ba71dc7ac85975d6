-- What is answered when it is asked what a picture costs. Assumes nothing: these are definitions.
use Rattle.std.specs.Prelude.{ℕ, List, length, Some, None, Ok, Err, Result, ◌==◌}
use Rattle.word.specs.declared.refusal.Refusal.{Refusal}
use Rattle.word.specs.declared.refusal.Refusal.TheVariants.{PictureLength}
use Rattle.field.specs.declared.rooms.Rooms.{Rooms}
use Rattle.field.specs.Firsts.{must, and_then}
use Rattle.field.specs.Rules.{Verdict, verdict, values_fit}

-- what is turned away has no cost
abbrev pub answered : Verdict → ℕ → Result ℕ Refusal
answered (Ok u) n = Ok n
answered (Err e) n = Err e

-- of a field that is taken, only the picture can be wrong
abbrev pub picture_fits : ℕ → ℕ → List ℕ → Verdict
picture_fits places top picture = and_then (must (length picture == places) PictureLength) (values_fit top picture)

-- a picture is lent, and no flows
abbrev pub one_picture : List ℕ → Rooms
one_picture picture = record { picture = Some (length picture); flows = None }

-- a picture and flows are lent
abbrev pub both_rooms : (picture flows : List ℕ) → Rooms
both_rooms picture flows = record { picture = Some (length picture); flows = Some (length flows) }

-- rules 1 to 6, of a field, the rooms lent with it and a picture
abbrev pub all_fits : ℕ → ℕ → (costs sides : List ℕ) → Rooms → List ℕ → Verdict
all_fits places top costs sides rooms picture = and_then (verdict places top costs sides rooms) (values_fit top picture)
