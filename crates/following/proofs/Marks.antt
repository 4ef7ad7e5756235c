-- To mark an event as used is to spend it, and keeps the cursors settled.
use Rattle.std.proofs.Common.{◌≡◌, ℕ, zero, suc, ◌+◌, ◌-◌, ◌<◌, ◌≤◌, Bool, true, false, cond, eqb, ltb, ◌≢◌, List, [], ◌∷◌, length, get_or, drop, set, sym, refl, ap, ◌∙◌, subst, add-one, arith, length-set, get_or-set_other, get_or-set_same}
use mathlib.Core.Option.{some}
use Rattle.std.proofs.lemmas.Bool.{cond-true, cond-false, cond_both, lt-ltb, le-ltb, eqb-true}
use Rattle.std.proofs.lemmas.Bool.Decides.{nat_tests}
use Rattle.machine.specs.declared.Item.{Item}
use Rattle.machine.specs.declared.Operation.{Operation}
use Rattle.machine.specs.declared.Operation.TheVariants.{P, V, Lock, Unlock}
use Rattle.machine.specs.Map.{put, same_number}
use Rattle.machine.specs.Machine.{Instr, Object, nothing, variable, semaphore, mutex, same_object, object}
use Rattle.machine.specs.Proper.{InRange}
use Rattle.machine.proofs.Maps.{put_is}
use Rattle.trace.specs.declared.Event.{Event}
use Rattle.trace.specs.declared.Event.TheVariants.{Sync}
use Rattle.trace.specs.declared.Trace.{Trace}
use Rattle.trace.specs.Traces.{position}
use Rattle.following.specs.declared.used.Used.{Used}
use Rattle.following.specs.Following.{first, first_of, spend, Turn, use_up}
use Rattle.following.specs.Cursors.{unused, cursor, from, moved, Settled}
use Rattle.following.specs.View.{row, cursors_at, rest, left, next_at, marked, Sized}
use Rattle.following.proofs.Cursors.{first_settled, spent, settles, of_thread, cursor_set}
use Rattle.following.proofs.Due.{cursor_at, at_front}
use Rattle.following.proofs.Positions.{variable_place, semaphore_place, lock_place, apart}

-- to use the first event of a semaphore or lock is to pass it
passed : (i n : ℕ) (o : Operation) (q : List Event) → first (drop n q) ≡ some (Sync i o) → spend i (drop n q) ≡ drop (suc n) q
passed i zero o [] h = refl
passed i (suc n) o [] h = refl
passed i zero o (e ∷ q) h = grind (arith, nat_tests)
passed i (suc n) o (e ∷ q) h = passed i n o q h

module _ (u : Used) (size : Sized u) (i : ℕ) (ones : 1 ≤ i) (eight : i ≤ 8) where
  -- what is used with the cursors cs at place k, and with front n at place k
  abbrev with_cursors : ℕ → List ℕ → Used
  with_cursors k cs = record { cursors = set u.cursors k cs; fronts = u.fronts }

  abbrev with_front : ℕ → ℕ → Used
  with_front k n = record { cursors = u.cursors; fronts = set u.fronts (k - 16) n }

  abbrev cursors_then : ℕ → List Event → List ℕ
  cursors_then k q = set (cursors_at u k) (i - 1) (from i (next_at u k i + 1) q)

  marked_cursors : (k : ℕ) (q : List Event) → k < 16 → marked u k i q ≡ with_cursors k (cursors_then k q)
  marked_cursors k q lt = cond-true (ltb k 16) (with_cursors k (cursors_then k q)) (with_front k (next_at u k i + 1)) (lt-ltb k 16 lt)

  marked_front : (k : ℕ) (q : List Event) → 16 ≤ k → marked u k i q ≡ with_front k (next_at u k i + 1)
  marked_front k q ge = cond-false (ltb k 16) (with_cursors k (cursors_then k q)) (with_front k (next_at u k i + 1)) (le-ltb k 16 ge)

  -- the sequences at other places are as they were
  pub rest_other : (k n : ℕ) (q r : List Event) → n ≢ k → rest (marked u k i q) n r ≡ rest u n r
  rest_other k n q r ne = cond_both (ltb k 16) _ _ (λ x. rest x n r ≡ rest u n r)
      (λ _. ap (λ cs. cond (ltb n 16) (unused (cursor cs) 0 r) (drop (get_or u.fronts (n - 16) 0) r)) (get_or-set_other u.cursors k n (cursors_then k q) [] ne))
      (λ ge. cond_both (ltb n 16) _ _ (λ l. l ≡ rest u n r)
      (λ lt. sym (cond-true (ltb n 16) (unused (cursor (cursors_at u n)) 0 r) (drop (get_or u.fronts (n - 16) 0) r) lt))
      (λ up. ap (λ (m : ℕ). drop m r) (get_or-set_other u.fronts (k - 16) (n - 16) (next_at u k i + 1) 0 (let d : n - 16 ≢ k - 16 = grind (arith, nat_tests) in d))
      ∙ sym (cond-false (ltb n 16) (unused (cursor (cursors_at u n)) 0 r) (drop (get_or u.fronts (n - 16) 0) r) up)))

  -- the cursors of a variable once thread i's is moved on
  moved_on : (k : ℕ) (q : List Event) → k < 16 → cursor (cursors_then k q) ≡ moved i (from i (suc (cursor (cursors_at u k) i)) q) (cursor (cursors_at u k))
  moved_on k q lt =
      let cs = cursors_at u k in
      let own : suc (i - 1) ≡ i = omega arith in
      let at : next_at u k i + 1 ≡ suc (cursor cs i) = add-one (next_at u k i) ∙ ap suc (cond-true (ltb k 16) (get_or cs (i - 1) 0) (get_or u.fronts (k - 16) 0) (lt-ltb k 16 lt) ∙ sym (cursor_at cs i ones)) in
      cursor_set cs (i - 1) (from i (next_at u k i + 1) q) (omega (arith, size.each k lt))
      ∙ ap (λ (m : ℕ). moved m (from i (next_at u k i + 1) q) (cursor cs)) own
      ∙ ap (λ (m : ℕ). moved i (from i m q) (cursor cs)) at

  -- at a variable's place, thread i's first unused event is spent
  spent_cursor : (k : ℕ) (q : List Event) (e : Event) → k < 16 → Settled i (cursor (cursors_at u k) i) q → first_of i (rest u k q) ≡ some e → rest (marked u k i q) k q ≡ spend i (rest u k q)
  spent_cursor k q e lt s f =
      let b = lt-ltb k 16 lt in
      let c = cursor (cursors_at u k) in
      let now : rest u k q ≡ unused c 0 q = cond-true (ltb k 16) (unused c 0 q) (drop (get_or u.fronts (k - 16) 0) q) b in
      let g : first_of i (unused c 0 q) ≡ some e = ap (first_of i) (sym now) ∙ f in
      ap (λ x. rest x k q) (marked_cursors k q lt)
      ∙ cond-true (ltb k 16) (unused (cursor (get_or (set u.cursors k (cursors_then k q)) k [])) 0 q) (drop (get_or u.fronts (k - 16) 0) q) b
      ∙ ap (λ cs. unused (cursor cs) 0 q) (get_or-set_same u.cursors k (cursors_then k q) [] (omega (arith, size.cursors)))
      ∙ ap (λ (d : ℕ → ℕ). unused d 0 q) (moved_on k q lt)
      ∙ spent i c q e (sym (first_settled i c q s) ∙ g) (of_thread i (unused c 0 q) e g)
      ∙ ap (spend i) (sym now)

  -- at any other, the first of all
  spent_front : (k : ℕ) (q : List Event) (o : Operation) → 16 ≤ k → k < 32 → first (rest u k q) ≡ some (Sync i o) → rest (marked u k i q) k q ≡ spend i (rest u k q)
  spent_front k q o ge lt f =
      let b = le-ltb k 16 ge in
      let n = next_at u k i in
      let now : rest u k q ≡ drop n q = at_front u k i q ge in
      ap (λ x. rest x k q) (marked_front k q ge)
      ∙ cond-false (ltb k 16) (unused (cursor (cursors_at u k)) 0 q) (drop (get_or (set u.fronts (k - 16) (n + 1)) (k - 16) 0) q) b
      ∙ ap (λ (m : ℕ). drop m q) (get_or-set_same u.fronts (k - 16) (n + 1) 0 (omega (arith, size.fronts)) ∙ add-one n)
      ∙ sym (passed i n o q (ap first (sym now) ∙ f))
      ∙ ap (spend i) (sym now)

  module _ (t : Trace) (settled : (k n : ℕ) → k < 16 → 1 ≤ n → n ≤ 8 → Settled n (cursor (cursors_at u k) n) (row t k)) where
    abbrev after : Object → Used
    after o = marked u (position o) i (row t (position o))

    -- the object's own events
    spends : (c : Instr) (x : Item) → object c ≢ nothing → InRange (object c) → Turn i c x (left t u (object c)) → left t (after (object c)) (object c) ≡ use_up i c (left t u (object c))
    spends (Instr.local c) x n h f = absurd (n refl)
    spends (Instr.read a v) x n h f = let lt : position (variable v) < 16 = omega (arith, variable_place v h) in spent_cursor (position (variable v)) (row t (position (variable v))) _ lt (settled (position (variable v)) i lt ones eight) f
    spends (Instr.write a v) x n h f = let lt : position (variable v) < 16 = omega (arith, variable_place v h) in spent_cursor (position (variable v)) (row t (position (variable v))) _ lt (settled (position (variable v)) i lt ones eight) f
    spends (Instr.synchronise P k) x n h f = spent_front (position (semaphore k)) (row t (position (semaphore k))) P (omega (arith, semaphore_place k h)) (omega (arith, semaphore_place k h)) f
    spends (Instr.synchronise V k) x n h f = spent_front (position (semaphore k)) (row t (position (semaphore k))) V (omega (arith, semaphore_place k h)) (omega (arith, semaphore_place k h)) f
    spends (Instr.synchronise Lock k) x n h f = spent_front (position (mutex k)) (row t (position (mutex k))) Lock (omega (arith, lock_place k h)) (omega (arith, lock_place k h)) f
    spends (Instr.synchronise Unlock k) x n h f = spent_front (position (mutex k)) (row t (position (mutex k))) Unlock (omega (arith, lock_place k h)) (omega (arith, lock_place k h)) f

    pub marks : (c : Instr) (x : Item) → object c ≢ nothing → InRange (object c) → Turn i c x (left t u (object c)) → left t (after (object c)) ≡ put same_object (left t u) (object c) (use_up i c (left t u (object c)))
    marks c x n h f =
        put_is same_object (left t u) (object c) (use_up i c (left t u (object c))) (left t (after (object c))) (spends c x n h f)
        (λ o d. rest_other (position (object c)) (position o) (row t (position (object c))) (row t (position o)) (apart (object c) o n h d))

    -- the cursors stay settled, and as many
    settled_then : (k n : ℕ) → k < 16 → 1 ≤ n → n ≤ 8 → Settled n (cursor (cursors_then k (row t k)) n) (row t k)
    settled_then k n lt a b =
        subst (λ (f : ℕ → ℕ). Settled n (f n) (row t k)) (sym (moved_on k (row t k) lt)) (go (eqb n i) refl)
      where
        go : (d : Bool) → eqb n i ≡ d → Settled n (cond d (from i (suc (cursor (cursors_at u k) i)) (row t k)) (cursor (cursors_at u k) n)) (row t k)
        go true e = subst (λ (j : ℕ). Settled j (from i (suc (cursor (cursors_at u k) i)) (row t k)) (row t k)) (sym (eqb-true n i e)) (settles i (suc (cursor (cursors_at u k) i)) (row t k))
        go false e = settled k n lt a b

    pub settled_after : (m k n : ℕ) → k < 16 → 1 ≤ n → n ≤ 8 → Settled n (cursor (cursors_at (marked u m i (row t m)) k) n) (row t k)
    settled_after m k n lt a b = cond_both (ltb m 16) _ _ (λ x. Settled n (cursor (cursors_at x k) n) (row t k)) (λ low. at (same_number k m)) (λ _. settled k n lt a b)
      where
        at : Dec (k ≡ m) → Settled n (cursor (get_or (set u.cursors m (cursors_then m (row t m))) k []) n) (row t k)
        at (yes e) =
            subst (λ (x : ℕ). Settled n (cursor (get_or (set u.cursors x (cursors_then x (row t x))) k []) n) (row t k)) e
            (subst (λ cs. Settled n (cursor cs n) (row t k)) (sym (get_or-set_same u.cursors k (cursors_then k (row t k)) [] (omega (arith, size.cursors)))) (settled_then k n lt a b))
        at (no ne) = subst (λ cs. Settled n (cursor cs n) (row t k)) (sym (get_or-set_other u.cursors m k (cursors_then m (row t m)) [] ne)) (settled k n lt a b)

  pub sized_after : (m : ℕ) (q : List Event) → Sized (marked u m i q)
  sized_after m q = cond_both (ltb m 16) _ _ Sized
      (λ low. record { cursors = length-set u.cursors m (cursors_then m q) ∙ size.cursors; fronts = size.fronts; each = λ k lt. at k lt (same_number k m) })
      (λ _. record { cursors = size.cursors; fronts = length-set u.fronts (m - 16) (next_at u m i + 1) ∙ size.fronts; each = size.each })
    where
      at : (k : ℕ) → k < 16 → Dec (k ≡ m) → length (get_or (set u.cursors m (cursors_then m q)) k []) ≡ 8
      at k lt (yes e) =
          subst (λ (x : ℕ). length (get_or (set u.cursors x (cursors_then x q)) k []) ≡ 8) e
          (ap length (get_or-set_same u.cursors k (cursors_then k q) [] (omega (arith, size.cursors))) ∙ length-set (cursors_at u k) (i - 1) (from i (next_at u k i + 1) q) ∙ size.each k lt)
      at k lt (no ne) = ap length (get_or-set_other u.cursors m k (cursors_then m q) [] ne) ∙ size.each k lt
