-- The event that is due stands at the cursor or at the front.
use Rattle.std.proofs.Common.{◌≡◌, ℕ, zero, suc, ◌-◌, ◌<◌, ◌≤◌, true, false, ltb, ◌≢◌, List, [], ◌∷◌, length, get_or, drop, sym, refl, ap, ◌∙◌, arith}
use mathlib.Core.Option.{Option, some}
use Rattle.std.proofs.lemmas.Bool.{cond-true, cond-false, lt-ltb, le-ltb}
use Rattle.machine.specs.declared.Operation.TheVariants.{P, V, Lock, Unlock}
use Rattle.machine.specs.Machine.{Instr, Object, nothing, variable, semaphore, mutex, object}
use Rattle.machine.specs.Proper.{InRange}
use Rattle.trace.specs.declared.Event.{Event}
use Rattle.trace.specs.declared.Trace.{Trace}
use Rattle.trace.specs.Traces.{position}
use Rattle.following.specs.declared.stage.Stage.{Stage}
use Rattle.following.specs.declared.used.Used.{Used}
use Rattle.following.specs.Following.{first, first_of, due}
use Rattle.following.specs.Cursors.{cursor, unused, Settled}
use Rattle.following.specs.View.{row, cursors_at, rest, left, next_at, Kept}
use Rattle.following.proofs.Cursors.{first_settled}
use Rattle.following.proofs.Positions.{variable_place, semaphore_place, lock_place}

-- the first event from place k on
pub first_at : (k : ℕ) (q : List Event) (d : Event) → k < length q → some (get_or q k d) ≡ first (drop k q)
first_at k [] d h = absurd (omega arith)
first_at zero (e ∷ q) d h = refl
first_at (suc k) (e ∷ q) d h = first_at k q d (omega arith)

-- and where there is one, k is within the sequence
pub first_in : (k : ℕ) (q : List Event) (e : Event) → first (drop k q) ≡ some e → k < length q
first_in zero [] e h = let z : ◌≡◌ {A = ℕ} 0 1 = cc in absurd (omega arith)
first_in (suc k) [] e h = let z : ◌≡◌ {A = ℕ} 0 1 = cc in absurd (omega arith)
first_in zero (x ∷ q) e h = omega arith
first_in (suc k) (x ∷ q) e h = let again = first_in k q e h in omega arith

-- the cursor of thread n in the array
pub cursor_at : (cs : List ℕ) (n : ℕ) → 1 ≤ n → cursor cs n ≡ get_or cs (n - 1) 0
cursor_at cs zero h = absurd (omega arith)
cursor_at cs (suc n) h = ap (λ (m : ℕ). get_or cs m 0) (let e : n ≡ suc n - 1 = omega arith in e)

-- at a variable's place the first unused event of thread i stands at its cursor
due_cursor : (u : Used) (k i : ℕ) (q : List Event) → k < 16 → 1 ≤ i → Settled i (cursor (cursors_at u k) i) q → first_of i (rest u k q) ≡ first (drop (next_at u k i) q)
due_cursor u k i q lt one s =
    let b : ltb k 16 ≡ true = lt-ltb k 16 lt in
    ap (first_of i) (cond-true (ltb k 16) (unused (cursor (cursors_at u k)) 0 q) (drop (get_or u.fronts (k - 16) 0) q) b)
    ∙ first_settled i (cursor (cursors_at u k)) q s
    ∙ ap (λ (n : ℕ). first (drop n q)) (cursor_at (cursors_at u k) i one ∙ sym (cond-true (ltb k 16) (get_or (cursors_at u k) (i - 1) 0) (get_or u.fronts (k - 16) 0) b))

-- at another the first unused event of all stands at the front
pub at_front : (u : Used) (k i : ℕ) (q : List Event) → 16 ≤ k → rest u k q ≡ drop (next_at u k i) q
at_front u k i q ge =
    let b : ltb k 16 ≡ false = le-ltb k 16 ge in
    cond-false (ltb k 16) (unused (cursor (cursors_at u k)) 0 q) (drop (get_or u.fronts (k - 16) 0) q) b
    ∙ ap (λ (n : ℕ). drop n q) (sym (cond-false (ltb k 16) (get_or (cursors_at u k) (i - 1) 0) (get_or u.fronts (k - 16) 0) b))

module _ (t : Trace) (s : Stage) (kept : Kept t s) (i : ℕ) (ones : 1 ≤ i) (eight : i ≤ 8) where
  -- where the event that an instruction could use stands
  abbrev stands : Object → Option Event
  stands o = first (drop (next_at s.used (position o) i) (row t (position o)))

  on_variable : (v : ℕ) → v < 16 → first_of i (left t s.used (variable v)) ≡ stands (variable v)
  on_variable v h =
      let lt : position (variable v) < 16 = omega (arith, variable_place v h) in
      due_cursor s.used (position (variable v)) i (row t (position (variable v))) lt ones (kept.settled (position (variable v)) i lt ones eight)

  on_semaphore : (n : ℕ) → n < 8 → first (left t s.used (semaphore n)) ≡ stands (semaphore n)
  on_semaphore n h = ap first (at_front s.used (position (semaphore n)) i (row t (position (semaphore n))) (omega (arith, semaphore_place n h)))

  on_lock : (n : ℕ) → n < 8 → first (left t s.used (mutex n)) ≡ stands (mutex n)
  on_lock n h = ap first (at_front s.used (position (mutex n)) i (row t (position (mutex n))) (omega (arith, lock_place n h)))

  pub due_is : (c : Instr) → object c ≢ nothing → InRange (object c) → due i c (left t s.used (object c)) ≡ stands (object c)
  due_is (Instr.local c) n h = absurd (n refl)
  due_is (Instr.read a v) n h = on_variable v h
  due_is (Instr.write a v) n h = on_variable v h
  due_is (Instr.synchronise P k) n h = on_semaphore k h
  due_is (Instr.synchronise V k) n h = on_semaphore k h
  due_is (Instr.synchronise Lock k) n h = on_lock k h
  due_is (Instr.synchronise Unlock k) n h = on_lock k h
