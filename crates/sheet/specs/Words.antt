-- What the checker says of a picture and a sheet. Assumes nothing: these are definitions.
use Rattle.std.specs.Prelude.{◌≡◌, ℕ, suc, ◌<◌, ◌≤◌, ◌⊎◌, Ok, Err, Result}
use Rattle.theory.specs.Pictures.{Picture}
use Rattle.theory.specs.Nets.{Flows}
use Rattle.theory.specs.Fields.{Field, total}
use Rattle.theory.specs.Sheets.{TightAt, BestAt, tight_at, best_at, Sheet}
use Rattle.field.specs.Firsts.{Tried, must, and_then, first}
use Rattle.field.specs.Rules.{Verdict}
use Rattle.word.specs.declared.broken.Broken.{Broken}
use Rattle.word.specs.declared.broken.Broken.TheVariants.{Side, Place}
use Rattle.word.specs.declared.objection.Objection.{Objection}
use Rattle.word.specs.declared.objection.Objection.TheVariants.{Broken as OfBroken, Refused, NoMemory}

-- what the checker says: what the picture costs, which is cheapest, or why it does not accept
abbrev pub Word : Type 0
Word = Result ℕ Objection

-- the rules of a sheet in the order in which they are tried: each side, then each place against each value
abbrev pub side_rule : Field → Picture → Flows → ℕ → Tried Broken
side_rule f u x k = must (tight_at f u x k) (Side k)

abbrev pub value_rule : Field → Picture → Flows → ℕ → ℕ → Tried Broken
value_rule f u x i v = must (best_at f u x i v) (Place i v)

abbrev pub place_rule : Field → Picture → Flows → ℕ → Tried Broken
place_rule f u x i = first (value_rule f u x i) (suc f.top)

abbrev pub rules : Field → Picture → Flows → Tried Broken
rules f u x = and_then (first (side_rule f u x) f.sides) (first (place_rule f u x) f.places)

-- the word of a claim whose numbers are taken, by the first rule that is broken
abbrev pub word_of : Tried Broken → ℕ → Word
word_of (Ok o) cost = Ok cost
word_of (Err b) cost = Err (OfBroken b)

-- a field of so many places is checked with no memory but the stack
abbrev pub few_places : ℕ
few_places = 4096

-- there was no memory, of which only larger fields want any
abbrev pub Wanting : Field → Word → Type 0
Wanting f r = (r ≡ Err NoMemory) × (few_places < f.places)

-- the answer is that word, or there was no memory to find it
abbrev pub Judged : Field → Word → Tried Broken → ℕ → Type 0
Judged f r t cost = (r ≡ word_of t cost) ⊎ Wanting f r

-- the answer of any lent numbers, of which the verdict says whether they are taken
abbrev pub Said : Field → Word → Verdict → Tried Broken → ℕ → Type 0
Said f r (Ok o) t cost = Judged f r t cost
Said f r (Err e) t cost = r ≡ Err (Refused e)

-- the first side whose rule is broken
pub record FirstSide (f : Field) (u : Picture) (x : Flows) (k : ℕ) : Type 0 where
  pub side : k < f.sides
  pub before : (j : ℕ) → j < k → TightAt f u x j
  pub broken : TightAt f u x k → ⊥

-- all sides hold, and this is the first place with its first other value where the rule is broken
pub record FirstPlace (f : Field) (u : Picture) (x : Flows) (i v : ℕ) : Type 0 where
  pub sides : (k : ℕ) → k < f.sides → TightAt f u x k
  pub place : i < f.places
  pub value : v ≤ f.top
  pub before : (j w : ℕ) → j < i → w ≤ f.top → BestAt f u x j w
  pub below : (w : ℕ) → w < v → BestAt f u x i w
  pub broken : BestAt f u x i v → ⊥

-- when a rule of a sheet is the first that is broken
abbrev pub FirstBroken : Field → Picture → Flows → Broken → Type 0
FirstBroken f u x (Side k) = FirstSide f u x k
FirstBroken f u x (Place i v) = FirstPlace f u x i v

-- when a word is right, with its numbers; t says whether the lent numbers are taken. Want of memory is never right: it says nothing of them
abbrev pub Right : Verdict → Field → Picture → Flows → Word → Type 0
Right t f u x (Ok cost) = (t ≡ Ok tt) × Sheet f u x × (cost ≡ total f u)
Right t f u x (Err (OfBroken b)) = (t ≡ Ok tt) × FirstBroken f u x b
Right t f u x (Err (Refused e)) = t ≡ Err e
Right t f u x (Err NoMemory) = ⊥

-- the answer is right, and no other word is; or the numbers are taken and there was no memory for a large field
pub record Answer (t : Verdict) (f : Field) (u : Picture) (x : Flows) (r : Word) : Type 0 where
  pub says : Right t f u x r ⊎ (Wanting f r × (t ≡ Ok tt))
  pub only : (w : Word) → Right t f u x w → (r ≡ w) ⊎ Wanting f r

-- the checker accepts
abbrev pub Accepted : Word → Type 0
Accepted r = (cost : ℕ) × (r ≡ Ok cost)
