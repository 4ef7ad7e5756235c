-- Where no event is used, all are left, and what a follower keeps holds.
use Rattle.std.proofs.Common.{◌≡◌, ℕ, zero, suc, ◌-◌, ◌<◌, ◌≤◌, ltb, List, [], ◌∷◌, length, drop, inl, inr, sym, refl, ap, subst, arith}
use Rattle.std.proofs.lemmas.Bool.Decides.{nat_tests}
use Rattle.std.proofs.lemmas.Bool.{cond_both, cases_lt}
use Rattle.std.proofs.lemmas.List.{get_or_past}
use Rattle.std.proofs.lemmas.List.FromFn.{get_or-map-range_with_len}
use Rattle.machine.specs.declared.Item.{Item}
use Rattle.machine.specs.declared.Machine.{Machine}
use Rattle.machine.specs.Machine.{Code, State, Object, variable, start}
use Rattle.machine.specs.View.{view}
use Rattle.trace.specs.declared.Event.{Event}
use Rattle.trace.specs.declared.Trace.{Trace}
use Rattle.trace.specs.Sound.{who}
use Rattle.trace.specs.Traces.{parts, history, position}
use Rattle.trace.proofs.Fills.{zeros}
use Rattle.following.specs.Following.{opened}
use Rattle.following.specs.Cursors.{seek, from, unused, cursor, firsts, Settled}
use Rattle.following.specs.View.{row, cursors_at, rest, left, progress, Roomy, Kept, fresh}
use Rattle.following.proofs.Cursors.{seek_on, settles}

-- no event is used where no cursor is past its thread's first event
none_used : (c : ℕ → ℕ) (k : ℕ) (q : List Event) → ((i : ℕ) → c i ≤ seek i k q) → unused c k q ≡ q
none_used c k [] h = refl
none_used c k (e ∷ q) h =
    let first : c (who e) ≤ k = (let g = h (who e) in grind (arith, nat_tests)) in
    let again = none_used c (suc k) q (λ i. let g = h i in let on = seek_on i (suc k) q in grind (arith, nat_tests)) in
    grind (arith, nat_tests)

-- what holds of the cursor of each thread that there is, at its first event, and of 0 for each other
at_first : (q : List Event) (i : ℕ) → i < 8 → cursor (firsts q) (suc i) ≡ from (suc i) 0 q
at_first q i lt = get_or-map-range_with_len (λ n. from n 0 q) 1 8 i (suc i) 0 lt (omega arith)

by_thread : (q : List Event) (Q : ℕ → ℕ → Type 0) → ((i : ℕ) → Q i (seek i 0 q)) → ((i : ℕ) → Q i 0) → (i : ℕ) → Q i (cursor (firsts q) i)
by_thread q Q h z zero = z 0
by_thread q Q h z (suc i) = elim (cases_lt i 8) [ inl lt ↦ subst (Q (suc i)) (sym (at_first q i lt)) (h (suc i)) | inr ge ↦ subst (Q (suc i)) (sym (get_or_past (firsts q) i 0 ge)) (z (suc i)) ]

firsts_settled : (q : List Event) (i : ℕ) → 1 ≤ i → i ≤ 8 → Settled i (cursor (firsts q) i) q
firsts_settled q zero a b = absurd (omega arith)
firsts_settled q (suc i) a b = subst (λ (n : ℕ). Settled (suc i) n q) (sym (at_first q i (omega arith))) (settles (suc i) 0 q)

module _ (t : Trace) where
  fresh_at : (k : ℕ) → k < 16 → cursors_at (fresh t) k ≡ firsts (row t k)
  fresh_at k lt = get_or-map-range_with_len (λ n. firsts (row t n)) 0 16 k k [] lt (omega arith)

  -- what is left at each place is the whole sequence
  rest_all : (k : ℕ) → rest (fresh t) k (row t k) ≡ row t k
  rest_all k = cond_both (ltb k 16) _ _ (λ l. l ≡ row t k)
      (λ lt. none_used (cursor (cursors_at (fresh t) k)) 0 (row t k) (λ i. subst (λ (cs : List ℕ). cursor cs i ≤ seek i 0 (row t k)) (sym (fresh_at k (let h : k < 16 = grind (arith, nat_tests) in h))) (by_thread (row t k) (λ i n. n ≤ seek i 0 (row t k)) (λ i. omega arith) (λ i. omega arith) i)))
      (λ ge. ap (λ (n : ℕ). drop n (row t k)) (zeros 16 (k - 16)))

  all_left : (o : Object) → left t (fresh t) o ≡ (history (parts t)).seq o
  all_left o = rest_all (position o)

  module _ (p : Code) (m : Machine) (begun : view m ≡ start p) where
    pub opens : progress t (record { machine = m; used = fresh t }) ≡ opened p (history (parts t))
    opens = λ j. record { machine = begun j; left = λ o. all_left o j }

    pub kept_first : Kept t (record { machine = m; used = fresh t })
    kept_first = record {
      sized = record { cursors = refl; fronts = refl; each = λ k lt. ap length (fresh_at k lt) };
      settled = λ k i lt a b. subst (λ (cs : List ℕ). Settled i (cursor cs i) (row t k)) (sym (fresh_at k lt)) (firsts_settled (row t k) i a b);
      room = λ v.
          let e = ap length (all_left (variable v)) in
          subst (λ (x : Item). Roomy x (left t (fresh t) (variable v)) (row t (position (variable v)))) (sym (ap (λ (s : State). s.item (variable v)) begun))
          (record { versions = omega (arith, e); reads = omega (arith, e) });
    }
