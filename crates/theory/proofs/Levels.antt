-- One level: how a push along an arc moves what flows, and a least cut is the lowest cheapest choice of yes or no.
use Rattle.std.proofs.Common.{◌≡◌, ℕ, zero, suc, ◌+◌, ◌<◌, ◌≤◌, Bool, true, false, cond, eqb, leb, ◌⊎◌, ℤ, pos, ◌+ℤ◌, ◌≤ℤ◌, ◌<ℤ◌, sym, refl, ap, inl, inr, arith}
use Rattle.std.proofs.lemmas.Bool.{leb-true, le-leb, cases_lt}
use Rattle.std.proofs.lemmas.Int.{ints}
use Rattle.theory.specs.Pictures.{Picture}
use Rattle.theory.specs.Nets.{Arc, Net, Inside, Flows, carried, net_out, net_into, NoDearer, Certificate}
use Rattle.theory.specs.Fields.{Field, Sound, Of, Lowest, net_of}
use Rattle.theory.specs.Sheets.{Sheet}
use Rattle.theory.specs.Levels.{partner, room_of, Paired, Stepped, HoldsWanting, ClosedByRoom, LeastCut}
use Rattle.theory.proofs.Sums.{sum_change_two}
use Rattle.theory.proofs.Fields.{net_inside}
use Rattle.theory.proofs.Sheets.{sheet_certificate, certificate_sheet, sheet_right, one_sheet}
use Rattle.theory.proofs.Pairs.{partner_back, partner_other, net_paired, room_zero, room_none}

-- what flows by the chosen end changes by the arc and its partner alone
carried_change :
    (end : Arc → ℕ) (net : Net) (x y : Flows) (e : ℕ) → Paired net → e < net.arcs →
    ((j : ℕ) → (j ≡ e → ⊥) → (j ≡ partner e → ⊥) → y j ≡ x j) → (i : ℕ) →
    carried end net x i + (cond (eqb (end (net.arc e)) i) (y e) 0 + cond (eqb (end (net.arc (partner e))) i) (y (partner e)) 0) ≡
    carried end net y i + (cond (eqb (end (net.arc e)) i) (x e) 0 + cond (eqb (end (net.arc (partner e))) i) (x (partner e)) 0)
carried_change end net x y e paired l same i =
    let flow : Flows → ℕ → ℕ = λ z j. cond (eqb (end (net.arc j)) i) (z j) 0 in
    sum_change_two net.arcs (flow x) (flow y) e (partner e) l (paired.partnered e l) (λ t. partner_other e (sym t))
    (λ j m c d. ap (λ z. cond (eqb (end (net.arc j)) i) z 0) (sym (same j c d)))

-- a and b say whether the place is the arc's first end and its second; o and i are what flows out and in, p and q the flows of the arc and its partner, before and after
push_count :
    (a b : Bool) (o o' i i' p p' q q' t d : ℕ) → q ≡ q' + t → p' + t ≡ p + d →
    o + (cond a p' 0 + cond b q' 0) ≡ o' + (cond a p 0 + cond b q 0) → i + (cond b p' 0 + cond a q' 0) ≡ i' + (cond b p 0 + cond a q 0) →
    o' + i + cond b d 0 ≡ o + i' + cond a d 0
push_count true true o o' i i' p p' q q' t d taken put out into = omega arith
push_count true false o o' i i' p p' q q' t d taken put out into = omega arith
push_count false true o o' i i' p p' q q' t d taken put out into = omega arith
push_count false false o o' i i' p p' q q' t d taken put out into = omega arith

-- to send d along an arc, of which t is taken back from its partner, moves d from its first end to its second
pub push_moves :
    (net : Net) (x y : Flows) (e t d : ℕ) → Paired net → e < net.arcs → t ≤ d → x (partner e) ≡ y (partner e) + t → y e + t ≡ x e + d →
    ((j : ℕ) → (j ≡ e → ⊥) → (j ≡ partner e → ⊥) → y j ≡ x j) → (i : ℕ) →
    net_out net y i + net_into net x i + cond (eqb (net.arc e).to i) d 0 ≡ net_out net x i + net_into net y i + cond (eqb (net.arc e).from i) d 0
push_moves net x y e t d paired l most taken put same i =
    push_count (eqb (net.arc e).from i) (eqb (net.arc e).to i) (net_out net x i) (net_out net y i) (net_into net x i) (net_into net y i) (x e) (y e)
    (x (partner e)) (y (partner e)) t d taken put
    (rw (paired.back e l) at (carried_change (λ a. a.from) net x y e paired l same i))
    (rw (paired.forth e l) at (carried_change (λ a. a.to) net x y e paired l same i))

-- of the values 0 and 1 the one that goes with the step costs no more, with flows counted
step_best :
    (cost : ℕ → ℕ) (out into a b : ℕ) (step : ℤ) → (step +ℤ pos (cost 0)) +ℤ pos into ≡ pos (cost 1) +ℤ pos out → a ≤ 1 → b ≤ 1 →
    (a ≡ 1 → step ≤ℤ pos 0) → (a ≡ 0 → pos 0 ≤ℤ step) → NoDearer cost out into a b
step_best cost out into zero zero step e l m low high = omega arith
step_best cost out into zero (suc zero) step e l m low high = omega (arith, ints, high refl)
step_best cost out into zero (suc (suc b)) step e l m low high = absurd (omega arith)
step_best cost out into (suc zero) zero step e l m low high = omega (arith, ints, low refl)
step_best cost out into (suc zero) (suc zero) step e l m low high = omega arith
step_best cost out into (suc zero) (suc (suc b)) step e l m low high = absurd (omega arith)
step_best cost out into (suc (suc a)) b step e l m low high = absurd (omega arith)

-- where the step is negative the value 0 costs more than the value 1
step_wants :
    (cost : ℕ → ℕ) (out into a : ℕ) (step : ℤ) → (step +ℤ pos (cost 0)) +ℤ pos into ≡ pos (cost 1) +ℤ pos out → NoDearer cost out into a 1 →
    step <ℤ pos 0 → 1 ≤ a
step_wants cost out into zero step e best less = absurd (omega (arith, ints))
step_wants cost out into (suc a) step e best less = omega arith

module _ (net : Net) (x : Flows) (step : ℕ → ℤ) (u : Picture) (paired : Paired net) (inside : Inside net) (two : net.top ≡ 1)
    (stepped : Stepped net x step) (cut : LeastCut net x step u) where
  abbrev price : ℕ → ℕ
  price e = (net.arc e).price

  -- an arc from yes to no is full and its partner empty
  across : (e : ℕ) → e < net.arcs → u (net.arc e).to < u (net.arc e).from → (x e ≡ price e) × (x (partner e) ≡ 0)
  across e l m =
      let high : u (net.arc e).from ≤ 1 = cut.of (net.arc e).from (inside e l).0 in
      room_zero price x e (cut.within e l) (cut.full e l (omega arith) (omega arith))

  across_back : (e : ℕ) → e < net.arcs → u (net.arc e).from < u (net.arc e).to → x e ≡ 0
  across_back e l m =
      let d : ℕ = partner e in
      let none : x (partner d) ≡ 0 = (across d (paired.partnered e l) (omega (arith, ap u (paired.back e l), ap u (paired.forth e l)))).1 in
      omega (arith, ap x (partner_back e))

  -- so the flows are a certificate
  pub cut_certificate : Certificate net u x
  cut_certificate =
      record {
        within = cut.within;
        full = λ e l m. (across e l (omega (arith, paired.flat e l))).0;
        empty = λ e l m. across_back e l (omega (arith, paired.flat e l));
        best =
            λ i v l m.
            step_best (net.cost i) (net_out net x i) (net_into net x i) (u i) v (step i) (stepped i l) (cut.of i l) (omega arith) (cut.low i l)
            (cut.high i l);
      }

  -- the places that are not 0 in a picture with the same certificate hold those whose step is negative, and are closed
  module _ (v : Picture) (c : Certificate net v x) where
    abbrev raised : ℕ → Bool
    raised i = leb 1 (v i)

    raised_wanting : HoldsWanting net step raised
    raised_wanting i l less =
        le-leb 1 (v i)
        (step_wants (net.cost i) (net_out net x i) (net_into net x i) (v i) (step i) (stepped i l) (c.best i 1 l (omega arith)) less)

    raised_by :
        (e : ℕ) → e < net.arcs → 0 < room_of net x e → 1 ≤ v (net.arc e).from → (0 < v (net.arc e).to) ⊎ (v (net.arc e).to ≤ 0) →
        1 ≤ v (net.arc e).to
    raised_by e l more high (inl m) = omega arith
    raised_by e l more high (inr m) =
        let d : ℕ = partner e in
        let full : x e ≡ price e = c.full e l (omega (arith, paired.flat e l)) in
        let empty : x (partner e) ≡ 0 = c.empty d (paired.partnered e l) (omega (arith, ap v (paired.back e l), ap v (paired.forth e l))) in
        absurd (omega (arith, room_none price x e full empty))

    raised_closed : ClosedByRoom net x raised
    raised_closed e l more t =
        let a : ℕ = v (net.arc e).from in
        let b : ℕ = v (net.arc e).to in
        le-leb 1 b (raised_by e l more (leb-true 1 a t) (cases_lt 0 b))

    cut_under_by : (i : ℕ) → i < net.places → (0 < u i) ⊎ (u i ≤ 0) → u i ≤ v i
    cut_under_by i l (inl m) =
        let yes : u i ≡ 1 = omega (arith, cut.of i l) in
        omega (arith, leb-true 1 (v i) (cut.least raised raised_wanting raised_closed i l yes))
    cut_under_by i l (inr m) = omega arith

    -- so that no place of yes is 0 there
    pub cut_under : (i : ℕ) → i < net.places → u i ≤ v i
    cut_under i l = cut_under_by i l (cases_lt 0 (u i))

-- a least cut of a field with the values 0 and 1 has its flows for a sheet
pub cut_sheet :
    (f : Field) (x : Flows) (step : ℕ → ℤ) (u : Picture) → Sound f → f.top ≡ 1 → Stepped (net_of f) x step → LeastCut (net_of f) x step u → Sheet f u x
cut_sheet f x step u sound two stepped cut =
    certificate_sheet f u x (cut_certificate (net_of f) x step u (net_paired f) (net_inside f sound.inside) two stepped cut)

-- and is the lowest cheapest picture
pub cut_lowest :
    (f : Field) (x : Flows) (step : ℕ → ℤ) (u : Picture) → Sound f → f.top ≡ 1 → Stepped (net_of f) x step → LeastCut (net_of f) x step u → Lowest f u
cut_lowest f x step u sound two stepped cut =
    let of : Of f u = λ i l. omega (arith, cut.of i l) in
    let sheet : Sheet f u x = cut_sheet f x step u sound two stepped cut in
    record {
      cheapest = sheet_right f u x sound of sheet;
      under =
          λ v q.
          cut_under (net_of f) x step u (net_paired f) (net_inside f sound.inside) two stepped cut v
          (sheet_certificate f v x (one_sheet f u v x sound of sheet q));
    }
