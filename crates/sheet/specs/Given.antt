-- The field that lent numbers stand for, and when they are taken with a picture and flows. Assumes nothing: these are definitions.
use Rattle.std.specs.Prelude.{ℕ, List}
use Rattle.theory.specs.Fields.{Field}
use Rattle.field.specs.declared.lent.Lent.{Lent}
use Rattle.field.specs.Given.{field_in}
use Rattle.field.specs.Rules.{Verdict}
use Rattle.field.specs.Costed.{both_rooms, all_fits}

-- rules 1 to 6
abbrev pub claim_fits : ℕ → ℕ → (costs sides picture flows : List ℕ) → Verdict
claim_fits places top costs sides picture flows = all_fits places top costs sides (both_rooms picture flows) picture

-- of the numbers that a caller lends for a field
abbrev pub lent_field : Lent → Field
lent_field l = field_in l.places l.top l.costs.now l.sides.now

abbrev pub lent_fits : Lent → (picture flows : List ℕ) → Verdict
lent_fits l picture flows = claim_fits l.places l.top l.costs.now l.sides.now picture flows
