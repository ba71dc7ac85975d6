-- What is printed of each word, as the bytes of its text. Assumes nothing: these are definitions.
use Rattle.std.specs.Prelude.{ℕ, List, ◌++◌, codes, decimal}
use Rattle.word.specs.declared.broken.Broken.{Broken}
use Rattle.word.specs.declared.broken.Broken.TheVariants.{Side, Place}
use Rattle.word.specs.declared.refusal.Refusal.{Refusal}
use Rattle.word.specs.declared.objection.Objection.{Objection}
use Rattle.word.specs.declared.objection.Objection as objected
use Rattle.word.specs.declared.unsolved.Unsolved.{Unsolved}
use Rattle.word.specs.declared.unsolved.Unsolved as unsolved
use Rattle.word.specs.Numbered.{number_of, place_of}

abbrev pub refusal_text : Refusal → List ℕ
refusal_text e = codes "refused " ++ decimal (number_of e) ++ codes " at " ++ decimal (place_of e)

abbrev pub broken_text : Broken → List ℕ
broken_text (Side k) = codes "side " ++ decimal k
broken_text (Place i v) = codes "place " ++ decimal i ++ codes " value " ++ decimal v

abbrev pub no_memory_text : List ℕ
no_memory_text = codes "no memory"

abbrev pub objection_text : Objection → List ℕ
objection_text (objected.TheVariants.Broken b) = broken_text b
objection_text (objected.TheVariants.Refused e) = refusal_text e
objection_text objected.TheVariants.NoMemory = no_memory_text

abbrev pub unsolved_text : Unsolved → List ℕ
unsolved_text (unsolved.TheVariants.Refused e) = refusal_text e
unsolved_text unsolved.TheVariants.NoMemory = no_memory_text
