-- What a replay means.
use Rattle.std.specs.Prelude.{◌≡◌, ℕ, Ok, Err, Result, ◌≢◌}
use Rattle.std.specs.Borrow.{Bor}
use Rattle.program.specs.declared.Program.{Program}
use Rattle.machine.specs.Machine.{Code, total_steps}
use Rattle.machine.specs.View.{code_of}
use Rattle.trace.specs.declared.Trace.{Trace}
use Rattle.trace.specs.History.{History}
use Rattle.trace.specs.Traces.{parts}
use Rattle.schedule.specs.declared.ThreadSet.{ThreadSet}
use Rattle.schedule.specs.Strategies.{Strategy}
use Rattle.following.specs.Followers.{seen}
use Rattle.following.specs.Followers as followers
use Rattle.replay.specs.declared.Permit.{Permit}
use Rattle.replay.specs.declared.Replay.{Replay}
use Rattle.replay.specs.declared.Returned.{Returned}
use Rattle.replay.specs.declared.faults.Fault.{Fault}
use Rattle.replay.specs.declared.faults.Fault.TheVariants.{Threads}
use Rattle.replay.specs.Calls.{Replaying, begun, Outcome, requests, performs, hands_back, Ran, offers, runs}

-- the program that is replayed
abbrev pub program_of : Replay → Code
program_of r = followers.program_of r.follower

-- the trace that is replayed
abbrev pub trace_of : Replay → History
trace_of r = followers.trace_of r.follower

-- how far it has come, the steps that its threads made, and the thread whose permit is out
unfoldable pub shown : Replay → Replaying
shown r = record { progress = seen r.follower; steps = total_steps (seen r.follower).machine; out = r.out }

-- it replays the same trace of the same program
abbrev pub SameParts : Replay → Replay → Type 0
SameParts r x = followers.SameParts r.follower x.follower

-- the replay r became x: it shows s now, and replays the same trace of the same program
pub record Became (r : Replay) (s : Replaying) (x : Replay) : Type 0 where
  pub shows : shown x ≡ s
  pub same : SameParts r x

module _ (r : Replay) where
  -- what a request for thread i comes to
  abbrev pub requested : ℕ → Outcome (Result Permit Fault)
  requested i = requests (program_of r) (trace_of r) (shown r) i

  -- what performing the permit q comes to
  abbrev pub performed : Permit → Outcome (Result ℕ Returned)
  performed q = performs (program_of r) (shown r) q

  -- what handing back the permit q comes to
  abbrev pub handed_back : Permit → Outcome (Result (Unit {0}) Returned)
  handed_back q = hands_back (shown r) q

  -- what a run of n steps under f comes to
  abbrev pub ran : ℕ → Strategy → Ran
  ran n f = runs (program_of r) (trace_of r) n (shown r) f

  -- the threads that are permitted
  abbrev pub offered : ThreadSet
  offered = offers (program_of r) (trace_of r) (shown r).progress

-- a new replay of this trace of this program, or 11 where they have not the same number of threads
abbrev pub Created : Bor Program → Bor Trace → Result Replay Fault → Type 0
Created p t (Ok r) = ((code_of p.now).threads ≡ (parts t.now).threads) × (r.follower.program ≡ p) × (r.follower.trace ≡ t) × (shown r ≡ begun (program_of r) (trace_of r))
Created p t (Err f) = ((code_of p.now).threads ≢ (parts t.now).threads) × (f ≡ Threads)
