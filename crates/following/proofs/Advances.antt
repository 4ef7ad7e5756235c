-- A permitted thread's step can be made, advances what the arrays mean, and keeps what a follower keeps.
use Rattle.std.proofs.Common.{◌≡◌, ℕ, zero, suc, ◌<◌, ◌≤◌, Bool, true, cond, ◌≢◌, List, [], length, Some, None, Option as Answer, sym, refl, ap, ◌∙◌, subst, arith}
use mathlib.Core.Option.{some}
use Rattle.std.proofs.lemmas.Bool.{and_from, lt-ltb}
use Rattle.program.specs.declared.Program.{Program}
use Rattle.machine.specs.declared.Item.{Item}
use Rattle.machine.specs.declared.Machine.{Machine}
use Rattle.machine.specs.declared.Thread.{Thread}
use Rattle.machine.specs.Machine.{Code, State, Instr, Object, nothing, variable, same_object, object, here, able, able_at, rises, steps, steps_at, step, step_at}
use Rattle.machine.specs.Proper.{InRange}
use Rattle.machine.specs.View.{Stepped, code_of, view}
use Rattle.machine.proofs.Decides.{says_able}
use Rattle.machine.proofs.Maps.{put_is}
use Rattle.machine.proofs.Programs.{proper, thread_of}
use Rattle.trace.specs.declared.Event.{Event}
use Rattle.trace.specs.declared.Trace.{Trace}
use Rattle.trace.specs.declared.next.Access.{Access}
use Rattle.trace.specs.Accesses.{listed}
use Rattle.trace.specs.History.{logged_at}
use Rattle.trace.specs.Traces.{history, named, parts, position}
use Rattle.following.specs.declared.stage.Stage.{Stage}
use Rattle.following.specs.declared.used.Used.{Used}
use Rattle.following.specs.Following.{Progress, Permitted, Turn, due, left_at, advance, permitted}
use Rattle.following.specs.Cursors.{cursor, Settled}
use Rattle.following.specs.View.{row, cursors_at, left, progress, next_at, marked, spent, Due, Roomy, Sized, Kept}
use Rattle.following.proofs.Accessed.{accesses, with_object, inside}
use Rattle.following.proofs.Decided.{agreed, permitted_is}
use Rattle.following.proofs.Due.{due_is, first_in}
use Rattle.following.proofs.Events.{spend_length, no_clash}
use Rattle.following.proofs.Lengths.{few}
use Rattle.following.proofs.Marks.{marks, settled_after, sized_after}
use Rattle.following.proofs.Rooms.{room_after}

-- an instruction on turn that has an event has one due
due_on_turn : (i : ℕ) (c : Instr) (x : Item) (q : List Event) → object c ≢ nothing → Turn i c x q → (e : Event) × (due i c q ≡ some e)
due_on_turn i (Instr.local c) x q n f = absurd (n refl)
due_on_turn i (Instr.read a v) x q n f = (_, f)
due_on_turn i (Instr.write a v) x q n f = (_, f)
due_on_turn i (Instr.synchronise o k) x q n f = (_, f)

-- the 16-bit numbers that a step raises are below their limit
can_rise : (i : ℕ) (c : Instr) (l : Thread) (x : Item) (q all : List Event) → l.count < 65535 → length all ≤ 1024 → Turn i c x q → ((v : ℕ) → object c ≡ variable v → Roomy x q all) → rises c l x ≡ true
can_rise i (Instr.local c) l x q all n m f r = lt-ltb _ _ n
can_rise i (Instr.read a v) l x q all n m f r = let one = spend_length i q _ f in and_from _ _ (lt-ltb _ _ n) (lt-ltb _ _ (omega (arith, (r v refl).reads)))
can_rise i (Instr.write a v) l x q all n m f r = let one = spend_length i q _ f in and_from _ _ (lt-ltb _ _ n) (lt-ltb _ _ (omega (arith, (r v refl).versions)))
can_rise i (Instr.synchronise o k) l x q all n m f r = lt-ltb _ _ n

module _ (q : Program) (t : Trace) (s : Stage) (i : ℕ) (kept : Kept t s) (may : Permitted (code_of q) (history (parts t)) (progress t s) i) where
  abbrev p : Code
  p = code_of q

  abbrev m : State
  m = view s.machine

  c : Instr
  c = may.able.c

  at : here p m i ≡ some c
  unfolding c
  at = may.able.is

  turn : Turn i c (m.item (object c)) (left t s.used (object c))
  unfolding c
  turn = may.turn

  in_range : InRange (object c)
  in_range = (proper q).known i (m.thread i).place c at

  one_to : (1 ≤ i) × (i ≤ p.threads)
  one_to = thread_of p (proper q) i (m.thread i).place c at

  eight : i ≤ 8
  eight = let a = one_to.1 in let b = (proper q).most in omega arith

  counts_small : (k : ℕ) → (history (parts t)).counts k ≤ 65535
  counts_small zero = omega arith
  counts_small (suc k) = t.rows.small k

  -- the step can be made
  pub can_step : steps p m i ≡ true
  unfolding c
  can_step =
      let up = can_rise i c (m.thread i) (m.item (object c)) (left t s.used (object c)) (row t (position (object c))) (let h = may.below in let k = counts_small i in omega arith) (few t (position (object c))) turn
      (λ v e. subst (λ (o : Object). Roomy (m.item o) (left t s.used o) (row t (position o))) (sym e) (kept.room v)) in
      ap (steps_at p m i) at ∙ and_from _ _ (sym (ap (able_at p m i) at) ∙ agreed (able p m i) (says_able p m i) may.able) up

  -- the instruction at which the thread stands is the one that is on turn
  same_instruction : (d : Instr) → here p m i ≡ some d → c ≡ d
  same_instruction d e = let h : some c ≡ some d = sym at ∙ e in cc

  -- an access of the thread has its event due
  pub has_due : (a : Answer Access) → listed a ≡ logged_at (here p m i) i m → Due t s.used i a
  has_due None h = tt
  has_due (Some a) h =
      let w = accesses p m i (named a.object) a.event h in
      let n : object c ≢ nothing = subst (λ (d : Instr). object d ≢ nothing) (sym (same_instruction w.c w.is)) (with_object i w.c _ a.event w.what) in
      let d = due_on_turn i c (m.item (object c)) (left t s.used (object c)) n turn in
      let there = first_in (next_at s.used (position (object c)) i) (row t (position (object c))) d.0 (sym (due_is t s kept i one_to.0 eight c n in_range) ∙ d.1) in
      let on : object c ≡ named a.object = ap object (same_instruction w.c w.is) ∙ sym w.on in
      (inside p m i (proper q) (named a.object) a.event w, subst (λ (o : Object). next_at s.used (position o) i < length (row t (position o))) on there)

  -- a thread without an access is at a local instruction, which uses nothing up
  none_spent : (d : Instr) → [] ≡ logged_at (some d) i m → left t s.used ≡ left_at (some d) i (left t s.used)
  none_spent (Instr.local k) h = put_is same_object (left t s.used) nothing (left t s.used nothing) (left t s.used) refl (λ o n. refl)
  none_spent (Instr.read a v) h = no_clash (cc)
  none_spent (Instr.write a v) h = no_clash (cc)
  none_spent (Instr.synchronise o k) h = no_clash (cc)

  -- with its object, an instruction uses its event up
  some_spent : object c ≢ nothing → left t (marked s.used (position (object c)) i (row t (position (object c)))) ≡ left_at (some c) i (left t s.used)
  some_spent n = marks s.used kept.sized i one_to.0 eight t kept.settled c (m.item (object c)) n in_range turn

  spends : (a : Answer Access) → listed a ≡ logged_at (here p m i) i m → left t (spent t i a s.used) ≡ left_at (some c) i (left t s.used)
  spends None h = none_spent c (h ∙ ap (λ u. logged_at u i m) at)
  spends (Some a) h =
      let w = accesses p m i (named a.object) a.event h in
      let n : object c ≢ nothing = subst (λ (d : Instr). object d ≢ nothing) (sym (same_instruction w.c w.is)) (with_object i w.c _ a.event w.what) in
      let on : named a.object ≡ object c = w.on ∙ sym (ap object (same_instruction w.c w.is)) in
      ap (λ (o : Object). left t (marked s.used (position o) i (row t (position o)))) on ∙ some_spent n

  module _ (a : Answer Access) (from : listed a ≡ logged_at (here p m i) i m) (n : Machine) (made : view n ≡ step p i m) where
    abbrev later : Stage
    later = record { machine = n; used = spent t i a s.used }

    stepped : progress t later ≡ record { machine = step_at (some c) i m; left = left_at (some c) i (left t s.used) }
    stepped = λ j. record { machine = (made ∙ ap (λ u. step_at u i m) at) j; left = spends a from j }

    pub advances : progress t later ≡ advance p i (progress t s)
    advances = stepped ∙ (λ j. record { machine = step_at (sym at j) i m; left = left_at (sym at j) i (left t s.used) })

    sized_then : (b : Answer Access) → Sized (spent t i b s.used)
    sized_then None = kept.sized
    sized_then (Some b) = sized_after s.used kept.sized i one_to.0 eight (position (named b.object)) (row t (position (named b.object)))

    settled_then : (b : Answer Access) (k j : ℕ) → k < 16 → 1 ≤ j → j ≤ 8 → Settled j (cursor (cursors_at (spent t i b s.used) k) j) (row t k)
    settled_then None = kept.settled
    settled_then (Some b) = settled_after s.used kept.sized i one_to.0 eight t kept.settled (position (named b.object))

    pub kept_after : Kept t later
    kept_after = record {
      sized = sized_then a;
      settled = settled_then a;
      room = λ v. subst (λ (x : Progress). Roomy (x.machine.item (variable v)) (x.left (variable v)) (row t (position (variable v)))) (sym stepped)
          (room_after m.item (left t s.used) (λ k. row t (position (variable k))) i c (m.thread i) turn kept.room v);
    }

-- the same, of a thread that the test permits
pub due_of : (q : Program) (t : Trace) (s : Stage) (i : ℕ) → Kept t s → permitted (code_of q) (history (parts t)) (progress t s) i ≡ true → (a : Answer Access) → listed a ≡ logged_at (here (code_of q) (view s.machine) i) i (view s.machine) → Due t s.used i a
due_of q t s i kept yes_it = has_due q t s i kept (permitted_is (code_of q) (history (parts t)) (progress t s) i yes_it)

-- what the step of a permitted thread comes to, where the arrays after it are these
pub record Moved (q : Program) (t : Trace) (s : Stage) (i : ℕ) (answer : Bool) (later : Stage) : Type 0 where
  pub made : answer ≡ true
  pub after : progress t later ≡ advance (code_of q) i (progress t s)
  pub kept : Kept t later

pub moves : (q : Program) (t : Trace) (s : Stage) (i : ℕ) → Kept t s → permitted (code_of q) (history (parts t)) (progress t s) i ≡ true → (a : Answer Access) → listed a ≡ logged_at (here (code_of q) (view s.machine) i) i (view s.machine)
    → (u : Used) → u ≡ spent t i a s.used → (made : Bool) (n : Machine) → Stepped q s.machine i made n → Moved q t s i made (record { machine = n; used = u })
moves q t s i kept yes_it a from u spends made n steps_to =
    let may = permitted_is (code_of q) (history (parts t)) (progress t s) i yes_it in
    let done : made ≡ true = steps_to.answer ∙ can_step q t s i kept may in
    let next : view n ≡ step (code_of q) i (view s.machine) = subst (λ (b : Bool). cond b (view n ≡ step (code_of q) i (view s.machine)) (n ≡ s.machine)) done steps_to.after in
    record {
      made = done;
      after = ap (λ (u : Used). progress t (record { machine = n; used = u })) spends ∙ advances q t s i kept may a from n next;
      kept = subst (λ (u : Used). Kept t (record { machine = n; used = u })) (sym spends) (kept_after q t s i kept may a from n next);
    }
