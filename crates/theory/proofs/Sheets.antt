-- A sheet is a certificate of the field's net: it shows a picture to be cheapest, and does for every cheapest picture.
use Rattle.std.proofs.Common.{◌≡◌, ℕ, ◌+◌, ◌*◌, ◌<◌, ◌≤◌, true, false, cond, eqb, sym, ◌∙◌, arith}
use Rattle.std.proofs.lemmas.Bool.{leb-true, leb-false}
use Rattle.std.proofs.lemmas.Bool.Decides.{nat_tests}
use Rattle.theory.specs.Sums.{sum}
use Rattle.theory.specs.Pictures.{Picture, Least}
use Rattle.theory.specs.Nets.{Arc, Inside, net_total, Flows, carried, net_out, net_into, NoDearer, no_dearer_test, Certificate}
use Rattle.theory.specs.Fields.{Side, Field, Sound, Of, Cheapest, direction, net_of}
use Rattle.theory.specs.Sheets.{there, back, at_ends, out_of, into, Tight, tight_test, Sheet}
use Rattle.theory.proofs.Sums.{sum_same, sum_pairs}
use Rattle.theory.proofs.Fields.{arc_there, arc_back, each_arc, both_arcs, total_net, net_inside}
use Rattle.theory.proofs.Certificates.{certificate_least, certificate_all}

-- what flows by the chosen end, side by side
carried_sides :
    (end : Arc → ℕ) (f : Field) (x : Flows) (i : ℕ) →
    carried end (net_of f) x i ≡
    sum f.sides (λ k. cond (eqb (end (direction true (f.side k))) i) (there x k) 0 + cond (eqb (end (direction false (f.side k))) i) (back x k) 0)
carried_sides end f x i =
    let flow : ℕ → ℕ = λ e. cond (eqb (end ((net_of f).arc e)) i) (x e) 0 in
    sum_pairs f.sides flow ∙
    sum_same f.sides (λ k. flow (2 * k) + flow (2 * k + 1))
    (λ k. cond (eqb (end (direction true (f.side k))) i) (there x k) 0 + cond (eqb (end (direction false (f.side k))) i) (back x k) 0)
    (λ k l. rw (arc_there f k, arc_back f k))

pub out_net : (f : Field) (x : Flows) (i : ℕ) → out_of f x i ≡ net_out (net_of f) x i
out_net f x i = sym (carried_sides (λ a. a.from) f x i)

pub into_net : (f : Field) (x : Flows) (i : ℕ) → into f x i ≡ net_into (net_of f) x i
into_net f x i =
    omega (
      arith,
      carried_sides (λ a. a.to) f x i,
      sum_same f.sides (λ k. at_ends (f.side k) (back x k) (there x k) i)
          (λ k. cond (eqb (f.side k).second i) (there x k) 0 + cond (eqb (f.side k).first i) (back x k) 0) (λ k l. omega arith),
    )

no_dearer_at : (cost : ℕ → ℕ) (o p m n a b : ℕ) → o ≡ p → m ≡ n → NoDearer cost o m a b → NoDearer cost p n a b
no_dearer_at cost o p m n a b e d h = rw (e, d) at h

pub sheet_certificate : (f : Field) (u : Picture) (x : Flows) → Sheet f u x → Certificate (net_of f) u x
sheet_certificate f u x s =
    record {
      within = each_arc f (λ e a. x e ≤ a.price) (λ k l. ((s.tight k l).there_within, (s.tight k l).back_within));
      full =
          each_arc f (λ e a. u a.to + a.offset < u a.from → x e ≡ a.price)
          (λ k l. (λ m. ((s.tight k l).falls (omega arith)).0, λ m. ((s.tight k l).rises (omega arith)).0));
      empty =
          each_arc f (λ e a. u a.from < u a.to + a.offset → x e ≡ 0)
          (λ k l. (λ m. ((s.tight k l).rises (omega arith)).1, λ m. ((s.tight k l).falls (omega arith)).1));
      best =
          λ i v l m.
          no_dearer_at (f.cost i) (out_of f x i) (net_out (net_of f) x i) (into f x i) (net_into (net_of f) x i) (u i) v (out_net f x i)
          (into_net f x i) (s.best i v l m);
    }

pub certificate_sheet : (f : Field) (u : Picture) (x : Flows) → Certificate (net_of f) u x → Sheet f u x
certificate_sheet f u x c =
    let within = both_arcs f (λ e a. x e ≤ a.price) c.within in
    let full = both_arcs f (λ e a. u a.to + a.offset < u a.from → x e ≡ a.price) c.full in
    let empty = both_arcs f (λ e a. u a.from < u a.to + a.offset → x e ≡ 0) c.empty in
    record {
      tight =
          λ k l.
          record {
            there_within = (within k l).0;
            back_within = (within k l).1;
            falls = λ m. ((full k l).0 (omega arith), (empty k l).1 (omega arith));
            rises = λ m. ((full k l).1 (omega arith), (empty k l).0 (omega arith));
          };
      best =
          λ i v l m.
          no_dearer_at (f.cost i) (net_out (net_of f) x i) (out_of f x i) (net_into (net_of f) x i) (into f x i) (u i) v (sym (out_net f x i))
          (sym (into_net f x i)) (c.best i v l m);
    }

-- what is cheapest in a field is so in its net, and the other way
cheapest_net : (f : Field) (u : Picture) → Cheapest f u → Least (Of f) (net_total (net_of f)) u
cheapest_net f u p = record { of = p.of; least = λ v q. omega (arith, p.least v q, total_net f u, total_net f v) }

net_cheapest : (f : Field) (u : Picture) → Least (Of f) (net_total (net_of f)) u → Cheapest f u
net_cheapest f u p = record { of = p.of; least = λ v q. omega (arith, p.least v q, total_net f u, total_net f v) }

-- a picture with a sheet is cheapest, whether or not the costs are convex
pub sheet_cheapest : (f : Field) (u : Picture) (x : Flows) → Inside (net_of f) → Of f u → Sheet f u x → Cheapest f u
sheet_cheapest f u x inside p s =
    net_cheapest f u (certificate_least (net_of f) u x inside p (sheet_certificate f u x s))

-- a sheet for one picture is a sheet for every cheapest one
pub sheet_all : (f : Field) (u v : Picture) (x : Flows) → Inside (net_of f) → Of f u → Sheet f u x → Cheapest f v → Sheet f v x
sheet_all f u v x inside p s q =
    certificate_sheet f v x (certificate_all (net_of f) u x inside p (sheet_certificate f u x s) v (cheapest_net f v q))

pub sheet_right : (f : Field) (u : Picture) (x : Flows) → Sound f → Of f u → Sheet f u x → Cheapest f u
sheet_right f u x sound = sheet_cheapest f u x (net_inside f sound.inside)

pub one_sheet : (f : Field) (u v : Picture) (x : Flows) → Sound f → Of f u → Sheet f u x → Cheapest f v → Sheet f v x
one_sheet f u v x sound = sheet_all f u v x (net_inside f sound.inside)

-- the tests tell the rules
pub tight_by : (s : Side) (u : Picture) (a b : ℕ) → tight_test s u a b ≡ true → Tight s u a b
tight_by s u a b h =
    record {
      there_within = grind (arith, nat_tests);
      back_within = grind (arith, nat_tests);
      falls = λ l. (grind (arith, nat_tests), grind (arith, nat_tests));
      rises = λ l. (grind (arith, nat_tests), grind (arith, nat_tests));
    }

pub tight_not : (s : Side) (u : Picture) (a b : ℕ) → tight_test s u a b ≡ false → Tight s u a b → ⊥
tight_not s u a b h t = grind (arith, nat_tests, t.there_within, t.back_within, t.falls, t.rises)

pub best_by : (cost : ℕ → ℕ) (out into a b : ℕ) → no_dearer_test cost out into a b ≡ true → NoDearer cost out into a b
best_by cost out into a b h = leb-true (cost a + out * a + into * b) (cost b + out * b + into * a) h

pub best_not : (cost : ℕ → ℕ) (out into a b : ℕ) → no_dearer_test cost out into a b ≡ false → NoDearer cost out into a b → ⊥
best_not cost out into a b h t = omega (arith, leb-false (cost a + out * a + into * b) (cost b + out * b + into * a) h)
