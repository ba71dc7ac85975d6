-- What the rules tried in their order come to: a sheet, or the first rule that is broken; and the other way round.
use Rattle.std.proofs.Common.{◌≡◌, ℕ, suc, ◌<◌, ◌≤◌, Bool, true, false, ◌⊎◌, List, Ok, Err, sym, refl, ◌∙◌, subst, inl, inr, arith}
use Rattle.std.proofs.lemmas.Bool.{true_from_ne_false}
use Rattle.theory.specs.Pictures.{Picture}
use Rattle.theory.specs.Nets.{Flows}
use Rattle.theory.specs.Fields.{Field, total, Cheapest}
use Rattle.theory.specs.Sheets.{there, back, out_of, into, TightAt, BestAt, tight_at, best_at, Sheet}
use Rattle.theory.proofs.Sheets.{tight_by, tight_not, best_by, best_not, sheet_right}
use Rattle.field.specs.Firsts.{Tried, first}
use Rattle.word.specs.declared.refusal.Refusal.{Refusal}
use Rattle.field.specs.Rules.{Verdict}
use Rattle.field.specs.Given.{field_in, picture_in, flows_in}
use Rattle.field.specs.Costed.{both_rooms}
use Rattle.field.proofs.Verdicts.{sizes_taken, lengths_taken, looked_taken, sound_by, values_taken}
use Rattle.field.proofs.Firsts.{must_pass, must_stop, must_hold, must_say, both_ok, both_err, first_here, first_all, first_none, first_found}
use Rattle.word.specs.declared.broken.Broken.{Broken}
use Rattle.word.specs.declared.broken.Broken.TheVariants.{Side, Place}
use Rattle.word.specs.declared.objection.Objection.TheVariants.{Broken as OfBroken, Refused, NoMemory}
use Rattle.sheet.specs.Given.{claim_fits}
use Rattle.sheet.specs.Words.{Word, side_rule, value_rule, place_rule, rules, word_of, Wanting, Said, FirstBroken, Right, Answer, Accepted}

module _ (f : Field) (u : Picture) (x : Flows) where
  -- each rule passes exactly where it holds
  side_holds : (k : ℕ) → side_rule f u x k ≡ Ok tt → TightAt f u x k
  side_holds k h = tight_by (f.side k) u (there x k) (back x k) (must_hold _ _ h)

  side_passes : (k : ℕ) → TightAt f u x k → side_rule f u x k ≡ Ok tt
  side_passes k h = must_pass _ _ (true_from_ne_false _ (λ no. tight_not (f.side k) u (there x k) (back x k) no h))

  side_stops : (k : ℕ) → (TightAt f u x k → ⊥) → side_rule f u x k ≡ Err (Side k)
  side_stops k h = stops (tight_at f u x k) refl
    where
      stops : (b : Bool) → tight_at f u x k ≡ b → side_rule f u x k ≡ Err (Side k)
      stops true e = absurd (h (tight_by (f.side k) u (there x k) (back x k) e))
      stops false e = must_stop _ _ e

  value_holds : (i v : ℕ) → value_rule f u x i v ≡ Ok tt → BestAt f u x i v
  value_holds i v h = best_by (f.cost i) (out_of f x i) (into f x i) (u i) v (must_hold _ _ h)

  value_passes : (i v : ℕ) → BestAt f u x i v → value_rule f u x i v ≡ Ok tt
  value_passes i v h = must_pass _ _ (true_from_ne_false _ (λ no. best_not (f.cost i) (out_of f x i) (into f x i) (u i) v no h))

  value_stops : (i v : ℕ) → (BestAt f u x i v → ⊥) → value_rule f u x i v ≡ Err (Place i v)
  value_stops i v h = stops (best_at f u x i v) refl
    where
      stops : (b : Bool) → best_at f u x i v ≡ b → value_rule f u x i v ≡ Err (Place i v)
      stops true e = absurd (h (best_by (f.cost i) (out_of f x i) (into f x i) (u i) v e))
      stops false e = must_stop _ _ e

  -- the rules of all sides, and of all values at the first n places
  sides_hold : first (side_rule f u x) f.sides ≡ Ok tt → (k : ℕ) → k < f.sides → TightAt f u x k
  sides_hold h k l = side_holds k (first_all (side_rule f u x) f.sides h k l)

  sides_pass : (n : ℕ) → ((k : ℕ) → k < n → TightAt f u x k) → first (side_rule f u x) n ≡ Ok tt
  sides_pass n h = first_none (side_rule f u x) n (λ k l. side_passes k (h k l))

  places_hold : (n : ℕ) → first (place_rule f u x) n ≡ Ok tt → (i v : ℕ) → i < n → v ≤ f.top → BestAt f u x i v
  places_hold n h i v l m =
      value_holds i v (first_all (value_rule f u x i) (suc f.top) (first_all (place_rule f u x) n h i l) v (omega arith))

  places_pass : (n : ℕ) → ((i v : ℕ) → i < n → v ≤ f.top → BestAt f u x i v) → first (place_rule f u x) n ≡ Ok tt
  places_pass n h =
      first_none (place_rule f u x) n (λ i l. first_none (value_rule f u x i) (suc f.top) (λ v m. value_passes i v (h i v l (omega arith))))

  -- no rule is broken exactly if the flows are a sheet
  pub rules_sheet : rules f u x ≡ Ok tt → Sheet f u x
  rules_sheet h =
      let b = both_ok _ _ h in
      record { tight = sides_hold b.0; best = places_hold f.places b.1 }

  pub sheet_rules : Sheet f u x → rules f u x ≡ Ok tt
  sheet_rules s = rw (sides_pass f.sides s.tight, places_pass f.places s.best)

  -- a rule is found broken exactly if it is the first that is
  side_found : (b : Broken) → first (side_rule f u x) f.sides ≡ Err b → FirstBroken f u x b
  side_found b h =
      let g = first_found (side_rule f u x) f.sides b h in
      let m = must_say (tight_at f u x g.0) (Side g.0) b g.3 in
      subst (FirstBroken f u x) m.1
      (record {
        side = g.1;
        before = λ j l. side_holds j (first_all (side_rule f u x) g.0 g.2 j l);
        broken = tight_not (f.side g.0) u (there x g.0) (back x g.0) m.0;
      })

  place_found : (b : Broken) → first (side_rule f u x) f.sides ≡ Ok tt → first (place_rule f u x) f.places ≡ Err b → FirstBroken f u x b
  place_found b h k =
      let g = first_found (place_rule f u x) f.places b k in
      let i : ℕ = g.0 in
      let d = first_found (value_rule f u x i) (suc f.top) b g.3 in
      let v : ℕ = d.0 in
      let m = must_say (best_at f u x i v) (Place i v) b d.3 in
      subst (FirstBroken f u x) m.1
      (record {
        sides = sides_hold h;
        place = g.1;
        value = omega (arith, d.1);
        before = places_hold i g.2;
        below = λ w l. value_holds i w (first_all (value_rule f u x i) v d.2 w l);
        broken = best_not (f.cost i) (out_of f x i) (into f x i) (u i) v m.0;
      })

  pub rules_broken : (b : Broken) → rules f u x ≡ Err b → FirstBroken f u x b
  rules_broken b h =
      elim (both_err (first (side_rule f u x) f.sides) (first (place_rule f u x) f.places) b h)
      [ inl s ↦ side_found b s | inr p ↦ place_found b p.0 p.1 ]

  pub broken_rules : (b : Broken) → FirstBroken f u x b → rules f u x ≡ Err b
  broken_rules (Side k) h =
      rw (← (first_here (side_rule f u x) k f.sides (Side k) (sides_pass k h.before) (side_stops k h.broken) h.side))
  broken_rules (Place i v) h =
      let below : first (value_rule f u x i) v ≡ Ok tt = first_none (value_rule f u x i) v (λ w l. value_passes i w (h.below w l)) in
      let here = first_here (value_rule f u x i) v (suc f.top) (Place i v) below (value_stops i v h.broken) (omega (arith, h.value)) in
      rw (sides_pass f.sides h.sides, ← (first_here (place_rule f u x) i f.places (Place i v) (places_pass i h.before) (sym here) h.place))

  -- so the word that the rules come to is right, and it is the only one
  word_right : (t : Tried Broken) (cost : ℕ) → rules f u x ≡ t → cost ≡ total f u → Right (Ok tt) f u x (word_of t cost)
  word_right (Ok o) cost h e = (refl, rules_sheet h, e)
  word_right (Err b) cost h e = (refl, rules_broken b h)

  right_word : (w : Word) → Right (Ok tt) f u x w → word_of (rules f u x) (total f u) ≡ w
  right_word (Ok cost) h = rw (sheet_rules h.1, h.2)
  right_word (Err (OfBroken b)) h = rw (broken_rules b h.1)
  right_word (Err (Refused e)) h = cc
  right_word (Err NoMemory) h = absurd h

  refused_word : (e : Refusal) (w : Word) → Right (Err e) f u x w → ◌≡◌ {A = Word} (Err (Refused e)) w
  refused_word e (Ok cost) h = let z = h.0 in cc
  refused_word e (Err (OfBroken b)) h = let z = h.0 in cc
  refused_word e (Err (Refused d)) h = cc
  refused_word e (Err NoMemory) h = absurd h

  pub said_answer : (t : Verdict) (r : Word) → Said f r t (rules f u x) (total f u) → Answer t f u x r
  said_answer (Ok o) r (inl e) =
      record {
        says = inl (subst (Right (Ok tt) f u x) (sym e) (word_right (rules f u x) (total f u) refl refl));
        only = λ w h. inl (e ∙ right_word w h);
      }
  said_answer (Ok o) r (inr e) = record { says = inr (e, refl); only = λ w h. inr e }
  said_answer (Err e) r h =
      record {
        says = inl (subst (Right (Err e) f u x) (sym h) refl);
        only = λ w k. inl (h ∙ refused_word e w k);
      }

  -- where the checker accepts, the numbers are taken and the flows are a sheet
  pub answer_sheet : (t : Verdict) (r : Word) → Answer t f u x r → Accepted r → (t ≡ Ok tt) × Sheet f u x
  answer_sheet t r a accepted = by a.says
    where
      by : Right t f u x r ⊎ (Wanting f r × (t ≡ Ok tt)) → (t ≡ Ok tt) × Sheet f u x
      by (inl h) = let right = subst (Right t f u x) accepted.1 h in (right.0, right.1)
      by (inr h) = let n = h.0.0 in let e = accepted.1 in absurd (let z : ◌≡◌ {A = ℕ} 0 1 = cc in omega arith)

-- of lent numbers that are taken, a picture with a sheet is cheapest
pub taken_cheapest :
    (places top : ℕ) (costs sides picture flows : List ℕ) → claim_fits places top costs sides picture flows ≡ Ok tt →
    Sheet (field_in places top costs sides) (picture_in picture) (flows_in flows) → Cheapest (field_in places top costs sides) (picture_in picture)
taken_cheapest places top costs sides picture flows h s =
    let b = both_ok _ _ h in
    let sized = both_ok _ _ b.0 in
    let laid = both_ok _ _ sized.1 in
    let size = sizes_taken places top sized.0 in
    let long = lengths_taken places top costs sides size laid.0 in
    let taken = looked_taken places top costs sides (both_rooms picture flows) size long laid.1 in
    sheet_right (field_in places top costs sides) (picture_in picture) (flows_in flows) (sound_by places top costs sides taken)
    (λ i l. values_taken top picture b.1 i) s
