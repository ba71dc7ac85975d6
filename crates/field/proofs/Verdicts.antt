-- What a verdict says, read back for every place, value and side, and the other way round.
use Rattle.std.proofs.Common.{◌≡◌, ℕ, zero, suc, ◌+◌, ◌-◌, ◌*◌, ◌%◌, ◌<◌, ◌≤◌, true, eqb, ◌⊎◌, List, length, get_or, IfOk, Ok, Err, refl, inl, inr, mul-le-mul, arith}
use Rattle.std.proofs.lemmas.List.{get_or_past}
use Rattle.std.proofs.lemmas.Bool.{cases_lt, leb-true, ltb-true, eqb-true, and_parts, le-leb, lt-ltb, and_from, or_right}
use Rattle.std.proofs.lemmas.Bool.Decides.{nat_tests}
use Rattle.field.specs.Limits.{most_top, most_cost, most_price}
use Rattle.word.specs.declared.refusal.Refusal.{Refusal}
use Rattle.field.specs.declared.rooms.Rooms.{Rooms}
use Rattle.theory.specs.Fields.{Sound}
use Rattle.field.specs.Given.{cost_in, side_in, sides_of, field_in}
use Rattle.field.specs.Firsts.{first}
use Rattle.field.specs.Rules.{Verdict, sizes, lengths, rooms_fit, cost_rule, side_rule, convex_test, convex_rule, convex_place, value_rule, values_fit, fits_looked_at, verdict}
use Rattle.field.specs.Taken.{Sized, Laid, Taken}
use Rattle.field.specs.Costed.{both_rooms}
use Rattle.field.proofs.Firsts.{both_ok, must_hold, must_pass, first_all, first_none}

pub sizes_taken : (places top : ℕ) → sizes places top ≡ Ok tt → Sized places top
sizes_taken places top h =
    let b = both_ok _ _ h in
    let p = and_parts _ _ (must_hold _ _ b.0) in
    let t = and_parts _ _ (must_hold _ _ b.1) in
    record {
      some = leb-true _ _ p.0;
      few = leb-true _ _ p.1;
      tall = leb-true _ _ t.0;
      low = leb-true _ _ t.1;
    }

pub lengths_taken : (places top : ℕ) (costs sides : List ℕ) → Sized places top → lengths places top costs sides ≡ Ok tt → Laid places top costs sides
lengths_taken places top costs sides size h =
    let b = both_ok _ _ h in
    let s = and_parts _ _ (must_hold _ _ b.1) in
    let each : length costs ≡ places * suc top = eqb-true _ _ (must_hold _ _ b.0) in
    let rest : length sides % 3 ≡ 0 = eqb-true _ _ s.0 in
    let values : suc top ≤ suc most_top = omega arith in
    record {
      each = each;
      light = rw each (mul-le-mul size.few values);
      threes = omega arith;
      scarce = leb-true _ _ s.1;
    }

-- past a list's end there is 0
at_most : (xs : List ℕ) (m k : ℕ) → (k < length xs) ⊎ (length xs ≤ k) → (k < length xs → get_or xs k 0 ≤ m) → get_or xs k 0 ≤ m
at_most xs m k (inl l) h = h l
at_most xs m k (inr l) h = rw (get_or_past xs k 0 l) (omega arith)

cost_taken : (costs : List ℕ) → first (cost_rule costs) (length costs) ≡ Ok tt → (k : ℕ) → get_or costs k 0 ≤ most_cost
cost_taken costs h k =
    at_most costs most_cost k (cases_lt k (length costs))
    (λ l. leb-true _ _ (must_hold _ _ (first_all (cost_rule costs) (length costs) h k l)))

pub values_taken : (top : ℕ) (picture : List ℕ) → values_fit top picture ≡ Ok tt → (i : ℕ) → get_or picture i 0 ≤ top
values_taken top picture h i =
    at_most picture top i (cases_lt i (length picture))
    (λ l. leb-true _ _ (must_hold _ _ (first_all (value_rule top picture) (length picture) h i l)))

side_taken :
    (places count : ℕ) (sides : List ℕ) → first (side_rule places count sides) (sides_of sides) ≡ Ok tt → (k : ℕ) → k < sides_of sides →
    ((side_in sides k).first < places) × ((side_in sides k).second < places) × ((side_in sides k).price ≤ most_price)
side_taken places count sides h k l =
    let t = and_parts _ _ (must_hold _ _ (first_all (side_rule places count sides) (sides_of sides) h k l)) in
    let e = and_parts _ _ t.0 in
    (ltb-true _ _ e.0, ltb-true _ _ e.1, leb-true _ _ t.1)

-- the rule at a value in the middle, in both directions
bend : (cost : ℕ → ℕ) (v : ℕ) → convex_test cost (suc v) ≡ true → cost (suc v) + cost (suc v) ≤ cost v + cost (suc (suc v))
bend cost v h =
    let below : suc v - 1 ≡ v = omega arith in
    let above : suc v + 1 ≡ suc (suc v) = omega arith in
    let test = rw (below, above) at h in
    grind (arith, nat_tests)

convex_taken :
    (places top : ℕ) (costs : List ℕ) → first (convex_place top costs) places ≡ Ok tt → (i v : ℕ) → i < places → suc (suc v) ≤ top →
    cost_in top costs i (suc v) + cost_in top costs i (suc v) ≤ cost_in top costs i v + cost_in top costs i (suc (suc v))
convex_taken places top costs h i v l m =
    bend (cost_in top costs i) v
    (must_hold _ _ (first_all (convex_rule i (cost_in top costs i)) top (first_all (convex_place top costs) places h i l) (suc v) m))

-- nothing applies, so all this holds
pub looked_taken :
    (places top : ℕ) (costs sides : List ℕ) (rooms : Rooms) → Sized places top → Laid places top costs sides → fits_looked_at places top costs sides rooms ≡ Ok tt →
    Taken places top costs sides
looked_taken places top costs sides rooms size long h =
    let r = both_ok _ _ h in
    let k = both_ok _ _ r.1 in
    let e = both_ok _ _ k.1 in
    let side = side_taken places (length costs) sides e.0 in
    record {
      sized = size;
      laid = long;
      cheap = cost_taken costs k.0;
      starts = λ j m. (side j m).0;
      ends = λ j m. (side j m).1;
      priced = λ j m. (side j m).2;
      convex = convex_taken places top costs e.1;
    }

-- the same of a whole verdict
pub taken_by : (places top : ℕ) (costs sides : List ℕ) (rooms : Rooms) → verdict places top costs sides rooms ≡ Ok tt → Taken places top costs sides
taken_by places top costs sides rooms h =
    let s = both_ok (sizes places top) _ h in
    let l = both_ok (lengths places top costs sides) _ s.1 in
    let size = sizes_taken places top s.0 in
    looked_taken places top costs sides rooms size (lengths_taken places top costs sides size l.0) l.1

pub rooms_by : (places top : ℕ) (costs sides : List ℕ) (rooms : Rooms) → verdict places top costs sides rooms ≡ Ok tt → rooms_fit places sides rooms ≡ Ok tt
rooms_by places top costs sides rooms h =
    let s = both_ok (sizes places top) _ h in
    let l = both_ok (lengths places top costs sides) _ s.1 in
    (both_ok (rooms_fit places sides rooms) _ l.1).0

pub sound_by : (places top : ℕ) (costs sides : List ℕ) → Taken places top costs sides → Sound (field_in places top costs sides)
sound_by places top costs sides t =
    record { inside = λ k l. (t.starts k l, t.ends k l); convex = t.convex }

-- and where all this holds and the rooms fit, nothing applies
cost_passes : (costs : List ℕ) (k : ℕ) → get_or costs k 0 ≤ most_cost → cost_rule costs k ≡ Ok tt
cost_passes costs k h = must_pass _ _ (le-leb _ _ h)

side_passes : (places count : ℕ) (sides : List ℕ) (k : ℕ) → (side_in sides k).first < places → (side_in sides k).second < places → (side_in sides k).price ≤ most_price → side_rule places count sides k ≡ Ok tt
side_passes places count sides k s e p = must_pass _ _ (and_from _ _ (and_from _ _ (lt-ltb _ _ s) (lt-ltb _ _ e)) (le-leb _ _ p))

pub convex_passes : (i : ℕ) (cost : ℕ → ℕ) (v : ℕ) → ((w : ℕ) → suc w ≡ v → cost (suc w) + cost (suc w) ≤ cost w + cost (suc (suc w))) → convex_rule i cost v ≡ Ok tt
convex_passes i cost zero h = refl
convex_passes i cost (suc v) h =
    let below : suc v - 1 ≡ v = omega arith in
    let above : suc v + 1 ≡ suc (suc v) = omega arith in
    let order : 2 * cost (suc v) ≤ cost v + cost (suc (suc v)) = omega (arith, h v refl) in
    must_pass _ _ (rw (below, above) (or_right (eqb (suc v) 0) _ (le-leb _ _ order)))

pub verdict_by :
    (places top : ℕ) (costs sides : List ℕ) (rooms : Rooms) → Taken places top costs sides → rooms_fit places sides rooms ≡ Ok tt →
    verdict places top costs sides rooms ≡ Ok tt
verdict_by places top costs sides rooms t h =
    let size : sizes places top ≡ Ok tt = grind (arith, nat_tests) in
    let long : lengths places top costs sides ≡ Ok tt = grind (arith, nat_tests) in
    let cheap : first (cost_rule costs) (length costs) ≡ Ok tt = first_none (cost_rule costs) (length costs) (λ k l. cost_passes costs k (t.cheap k)) in
    let inside : first (side_rule places (length costs) sides) (sides_of sides) ≡ Ok tt =
    first_none (side_rule places (length costs) sides) (sides_of sides) (λ k l. side_passes places (length costs) sides k (t.starts k l) (t.ends k l) (t.priced k l)) in
    let convex : first (convex_place top costs) places ≡ Ok tt =
    first_none (convex_place top costs) places
    (λ i l.
    first_none (convex_rule i (cost_in top costs i)) top
    (λ v m. convex_passes i (cost_in top costs i) v (λ w e. t.convex i w l (omega arith)))) in
    rw (size, long, h, cheap, inside, convex)

-- so none of rules 3 to 5 turns it away
pub not_looked :
    (places top : ℕ) (costs sides : List ℕ) (rooms : Rooms) (e : Refusal) → Taken places top costs sides → rooms_fit places sides rooms ≡ Ok tt →
    fits_looked_at places top costs sides rooms ≡ Err e → ⊥
not_looked places top costs sides rooms e t fit stops =
    let passes = verdict_by places top costs sides rooms t fit in
    let looked : fits_looked_at places top costs sides rooms ≡ Ok tt = (both_ok (lengths places top costs sides) _ (both_ok (sizes places top) _ passes).1).1 in
    absurd (let z : ◌≡◌ {A = ℕ} 0 1 = cc in omega arith)

pub made_if : (r : Verdict) (P : Type 0) → (r ≡ Ok tt → P) → IfOk r (λ _. P)
made_if (Ok u) P h = h refl
made_if (Err e) P h = tt

-- a picture and flows that are lent have the lengths that they should
pub rooms_taken :
    (places top : ℕ) (costs sides picture flows : List ℕ) → verdict places top costs sides (both_rooms picture flows) ≡ Ok tt →
    (length picture ≡ places) × (length flows ≡ 2 * sides_of sides)
rooms_taken places top costs sides picture flows h =
    let fit = rooms_by places top costs sides (both_rooms picture flows) h in
    (grind (arith, nat_tests), grind (arith, nat_tests))
