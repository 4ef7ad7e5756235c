-- The laws of the turn scheduler.
use Rattle.std.specs.Prelude.{◌≡◌, ℕ, zero, suc, ◌+◌, ◌-◌, ◌<◌, ◌≤◌, true, false, ◌&&◌, ◌≢◌, ◌∷◌, ◌==◌}
use Rattle.std.proofs.Common.{⊎_elim, sym, ap, subst, arith}
use Rattle.std.proofs.lemmas.List.{get_or_past}
use Rattle.std.proofs.lemmas.Bool.{false≢true, both_ways, cases_Bool, cases_lt, cond_both, cond-false, cond-true, and_from, and_parts, eqb-false, eqb-true, lt-ltb, ltb-true}
use Rattle.schedule.specs.declared.ThreadSet.{ThreadSet}
use Rattle.schedule.specs.declared.turn.Turn.{Turn}
use Rattle.schedule.specs.Threads.{Sized, first_above, has, threads}
use Rattle.schedule.specs.Turns.{GoesOn, Stands, TurnLaws, distance, in_turn, next_after, turn_next, turn_rule, turn_start, turn_step}
use Rattle.schedule.specs.Picks.{above_is, after_has, some_above}

-- a set has threads 1 to 8 alone
from_1 : (set : ThreadSet) (t : ℕ) → has set t ≡ true → 1 ≤ t
from_1 set zero e = absurd (false≢true e)
from_1 set (suc t) e = omega arith

to_8 : (set : ThreadSet) → Sized set → (t : ℕ) → has set t ≡ true → t ≤ 8
to_8 set z t e =
    ⊎_elim (λ h. absurd (both_ways (has set t) (get_or_past (false ∷ set.offered) t false (omega arith)) e)) (λ h. h) (cases_lt 8 t)

low : (last t : ℕ) → 1 ≤ t → last ≤ 8 → t ≤ last → distance last t ≡ t + 7 - last
low last t h l e = omega arith

high : (last t : ℕ) → t ≤ 8 → last < t → distance last t + last + 1 ≡ t
high last t h e = omega arith

-- with none above the last, the lowest is the nearest
wraps : (last t r : ℕ) → last ≤ 8 → 1 ≤ r → r ≤ t → t ≤ last → distance last r ≤ distance last t
wraps last t r h p q e = omega (arith, low last t (omega arith) h e, low last r p h (omega arith))

-- otherwise the lowest above the last is
ahead : (last t r : ℕ) → last ≤ 8 → last < r → r ≤ 8 → 1 ≤ t → t ≤ 8 → (last < t → r ≤ t) → distance last r ≤ distance last t
ahead last t r h a e p q least =
    ⊎_elim
    (λ u. omega (arith, high last t q u, high last r e a, least u))
    (λ d. omega (arith, low last t p h d, high last r e a))
    (cases_lt last t)

after_nearest : (last : ℕ) (set : ThreadSet) → last ≤ 8 → Sized set → (t : ℕ) → has set t ≡ true → distance last (next_after last set) ≤ distance last t
after_nearest last set h z t e =
    cond_both (first_above last (threads set) == 0) _ _ (λ r. distance last r ≤ distance last t)
    (λ q.
    let f = some_above set t e in
    ⊎_elim
    (λ w. wraps last t _ h f.above (f.least t e (from_1 set t e)) (w.1 t e))
    (λ w. absurd (let n = eqb-true _ 0 q in omega (arith, w.above, n)))
    (above_is last set))
    (λ q.
    ⊎_elim
    (λ w. absurd (eqb-false _ 0 q w.0))
    (λ w. ahead last t _ h w.above (to_8 set z _ w.in_set) (from_1 set t e) (to_8 set z t e) (w.least t e))
    (above_is last set))

module _ (s : Turn) (set : ThreadSet) where
  same : GoesOn s set → turn_rule s set ≡ s.last
  same g = cond-true _ _ _ (and_from _ _ (lt-ltb _ _ g.left) g.offered)

  other : (GoesOn s set → ⊥) → turn_rule s set ≡ next_after s.last set
  other n =
      ⊎_elim
      (λ e. let b = and_parts (in_turn s) (has set s.last) e in absurd (n (record { offered = b.1; left = ltb-true _ _ b.0 })))
      (cond-false _ _ _)
      (cases_Bool (in_turn s && has set s.last))

  pub picks : (t : ℕ) → has set t ≡ true → has set (turn_rule s set) ≡ true
  picks t e =
      cond_both (in_turn s && has set s.last) _ _ (λ x. has set x ≡ true) (λ b. (and_parts _ _ b).1) (λ b. after_has s.last set t e)

  nearest : Stands s → Sized set → (GoesOn s set → ⊥) → (t : ℕ) → has set t ≡ true → distance s.last (turn_rule s set) ≤ distance s.last t
  nearest w z n t e =
      let P : ℕ → Type 0 = λ r. distance s.last r ≤ distance s.last t in
      subst P (sym (other n)) (after_nearest s.last set w.eight z t e)

  gives_way : Stands s → Sized set → (GoesOn s set → ⊥) → (t : ℕ) → t ≢ s.last → has set t ≡ true → turn_rule s set ≢ s.last
  gives_way w z n t d e is =
      let near = nearest w z n t e in
      let at = ap (distance s.last) is in
      let most = to_8 set z t e in
      let own = low s.last s.last w.one w.eight (omega arith) in
      ⊎_elim
      (λ u. omega (arith, near, at, own, high s.last t most u, most, w.one))
      (λ u. d (omega (arith, near, at, own, low s.last t (from_1 set t e) w.eight u)))
      (cases_lt s.last t)

  stands : (t : ℕ) → Stands s → Sized set → Stands (turn_next s set t)
  stands t w z =
      cond_both (has set t) (turn_step s t) s Stands
      (λ e.
      cond_both (t == s.last && in_turn s) _ _ Stands
      (λ b. record { one = w.one; eight = w.eight; begun = omega arith; bounded = omega (arith, ltb-true s.streak s.quantum (and_parts _ _ b).1) })
      (λ b. record { one = from_1 set t e; eight = to_8 set z t e; begun = omega arith; bounded = omega (arith, w.begun, w.bounded) }))
      (λ e. w)

starts : (q : ℕ) → Stands (turn_start q)
starts q = record { one = omega arith; eight = omega arith; begun = omega arith; bounded = omega arith }

pub turn_laws : TurnLaws
turn_laws = record {
  starts = starts;
  stands = stands;
  picks = picks;
  same = same;
  nearest = nearest;
  gives_way = gives_way;
}
