-- The first rule that applies, of rules in a fixed order. Assumes nothing: these are definitions.
use Rattle.std.specs.Prelude.{ℕ, zero, suc, Bool, cond, Ok, Err, Result}

-- no rule applies, or what the first that does says
abbrev pub Tried : Type 0 → Type 0
Tried E = Result (Unit {0}) E

-- a rule: it applies to whoever does not pass the test
abbrev pub must : {E : Type 0} → Bool → E → Tried E
must b e = cond b (Ok tt) (Err e)

-- the first of two that applies, and the first of n
abbrev pub and_then : {E : Type 0} → Tried E → Tried E → Tried E
and_then (Ok u) s = s
and_then (Err e) s = Err e

abbrev pub first : {E : Type 0} → (ℕ → Tried E) → ℕ → Tried E
first t zero = Ok tt
first t (suc n) = and_then (first t n) (t n)

-- an answer with its value forgotten
abbrev pub said : {T E : Type 0} → Result T E → Tried E
said (Ok x) = Ok tt
said (Err e) = Err e
