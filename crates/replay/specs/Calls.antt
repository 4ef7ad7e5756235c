-- What the calls of a replay answer, and what they leave.
use Rattle.std.specs.Prelude.{ℕ, zero, suc, min, Bool, false, cond, ◌&&◌, List, [], ◌∷◌, map, is_some, Some, None, Ok, Err, Option, Result, ◌==◌}
use Rattle.refusal.specs.declared.Object.{Object as Named}
use Rattle.machine.specs.Machine.{Code, here}
use Rattle.trace.specs.History.{History}
use Rattle.schedule.specs.declared.ThreadSet.{ThreadSet}
use Rattle.schedule.specs.Threads.{empty, set_of}
use Rattle.schedule.specs.Strategies.{Told, Strategy}
use Rattle.following.specs.Following.{Progress, opened, advance, permitted}
use Rattle.following.specs.Ends.{lowest_below, first_unused, at_event}
use Rattle.replay.specs.declared.Ending.{Ending}
use Rattle.replay.specs.declared.Ending.TheVariants.{Complete, Spent}
use Rattle.replay.specs.declared.Permit.{Permit}
use Rattle.replay.specs.declared.Returned.{Returned}
use Rattle.replay.specs.declared.faults.Fault.{Fault}
use Rattle.replay.specs.declared.faults.Fault.TheVariants.{PermitOut, NotPermitted, WrongPermit, Stuck, Unused}

-- a replay: how far it has come, the steps made, and the thread whose permit is out
pub record Replaying : Type 0 where
  pub progress : Progress
  pub steps : ℕ
  pub out : Option ℕ

-- a new replay: the machine at its start, no event used, no step made, no permit out
abbrev pub begun : Code → History → Replaying
begun p t = record { progress = opened p t; steps = 0; out = None }

-- one step of thread i, after which no permit is out
abbrev pub stepped : Code → Replaying → ℕ → Replaying
stepped p s i = record { progress = advance p i s.progress; steps = suc s.steps; out = None }

-- the replay with another permit out, or none
abbrev pub with_out : Replaying → Option ℕ → Replaying
with_out s out = record { progress = s.progress; steps = s.steps; out = out }

-- what a call comes to: its answer, the replay after it, and the threads that it stepped
pub record Outcome (A : Type 0) : Type 0 where
  pub answer : A
  pub after : Replaying
  pub threads : List ℕ

-- an answer that steps no thread
abbrev pub gives : {A : Type 0} → A → Replaying → Outcome A
gives a s = record { answer = a; after = s; threads = [] }

-- the permit for thread i's next step
abbrev pub permit_for : Replaying → ℕ → Permit
permit_for s i = record { thread = i; steps = s.steps }

-- a permit for thread i, unless one is out or the thread is not permitted
abbrev pub requests : Code → History → Replaying → ℕ → Outcome (Result Permit Fault)
requests p t s i =
    cond (is_some s.out) (gives (Err PermitOut) s)
    (cond (permitted p t s.progress i) (gives (Ok (permit_for s i)) (with_out s (Some i)))
    (gives (Err NotPermitted) s))

abbrev pub matches : Option ℕ → ℕ → Permit → Bool
matches None n q = false
matches (Some i) n q = i == q.thread && n == q.steps

-- the permit is the one that is out: its thread and the steps made are the permit's
abbrev pub holds : Replaying → Permit → Bool
holds s q = matches s.out s.steps q

-- the permit given back
abbrev pub returned : Permit → Returned
returned q = record { permit = q; fault = WrongPermit }

-- the step of the permit, and its thread's count; or the permit given back
abbrev pub performs : Code → Replaying → Permit → Outcome (Result ℕ Returned)
performs p s q =
    let n = stepped p s q.thread in
    cond (holds s q) (record { answer = Ok (n.progress.machine.thread q.thread).count; after = n; threads = q.thread ∷ [] })
    (gives (Err (returned q)) s)

-- the permit taken, and no step made; or the permit given back
abbrev pub hands_back : Replaying → Permit → Outcome (Result (Unit {0}) Returned)
hands_back s q = cond (holds s q) (gives (Ok tt) (with_out s None)) (gives (Err (returned q)) s)

abbrev pub end_at : Code → Replaying → Option ℕ → Option Named → Result Ending Fault
end_at p s (Some i) u = Err (Stuck i (s.progress.machine.thread i).place (at_event (here p s.progress.machine i)) s.steps)
end_at p s None (Some o) = Err (Unused o s.steps)
end_at p s None None = Ok (Complete s.steps)

-- the end of a replay in which no thread is permitted: stuck below a count, with an unused event, or complete
abbrev pub end_of : Code → History → Replaying → Result Ending Fault
end_of p t s = end_at p s (lowest_below t s.progress.machine) (first_unused s.progress.left)

-- what a run comes to: its answer, the replay after it, and what the scheduler was told, in order
pub record Ran : Type 0 where
  pub answer : Result Ending Fault
  pub after : Replaying
  pub told : List Told

-- the threads that were stepped
abbrev pub threads_told : List Told → List ℕ
threads_told = map (λ x. x.thread)

abbrev pub rests : Result Ending Fault → Replaying → Ran
rests a s = record { answer = a; after = s; told = [] }

-- x was told, and then the rest happened
abbrev pub led_by : Told → Ran → Ran
led_by x r = record { answer = r.answer; after = r.after; told = x ∷ r.told }

module _ (p : Code) (t : History) where
  -- the threads that are permitted
  abbrev pub offers : Progress → ThreadSet
  offers r = set_of (permitted p t r)

  -- at most n steps of the threads that f names, until none is permitted
  abbrev pub goes : ℕ → Replaying → Strategy → Ran
  goes zero s f = cond (empty (offers s.progress)) (rests (end_of p t s) s) (rests (Ok (Spent s.steps)) s)
  goes (suc n) s f =
      let o = offers s.progress in
      let x : Told = record { offer = o; thread = f [] o } in
      cond (empty o) (rests (end_of p t s) s) (led_by x (goes n (stepped p s x.thread) (λ h. f (x ∷ h))))

  -- a run of n steps, at most 1,048,575, unless a permit is out
  abbrev pub runs : ℕ → Replaying → Strategy → Ran
  runs n s f = cond (is_some s.out) (rests (Err PermitOut) s) (goes (min n 1048575) s f)
