-- The promise of a replay. Whatever calls are made of it, refused ones included, and whichever threads its schedulers
-- name, it comes to rest in one way; and it is complete exactly where some run of the program has an agreeing trace.
use Rattle.std.specs.Prelude.{◌≡◌, ℕ, ◌<◌, List, [], ◌∷◌, ◌++◌, length, None, Ok, Err, Result}
use Rattle.program.specs.declared.Program.{Program}
use Rattle.machine.specs.Machine.{Code, start, Run, after, reads}
use Rattle.machine.specs.View.{code_of}
use Rattle.trace.specs.declared.Trace.{Trace}
use Rattle.trace.specs.History.{History, trace_of, Limited}
use Rattle.trace.specs.Traces.{history, parts}
use Rattle.trace.specs.Agreement.{Agree}
use Rattle.schedule.specs.Strategies.{Strategy, Picks}
use Rattle.following.specs.Following.{Permitted}
use Rattle.replay.specs.declared.Ending.{Ending}
use Rattle.replay.specs.declared.Ending.TheVariants.{Complete}
use Rattle.replay.specs.declared.Permit.{Permit}
use Rattle.replay.specs.declared.Returned.{Returned}
use Rattle.replay.specs.declared.faults.Fault.{Fault}
use Rattle.replay.specs.declared.faults.Fault.TheVariants.{PermitOut}
use Rattle.replay.specs.Calls.{Replaying, begun, requests, performs, hands_back, runs, threads_told}

-- a call: a request for a thread, a permit performed or handed back, or a run of so many steps under any scheduler
pub data Call : Type 0 where
  request : ℕ → Call
  perform : Permit → Call
  hand_back : Permit → Call
  run : ℕ → (f : Strategy) → Picks f → Call

module _ (p : Code) (t : History) where
  -- the replay after a call
  abbrev pub made : Replaying → Call → Replaying
  made s (request i) = (requests p t s i).after
  made s (perform q) = (performs p s q).after
  made s (hand_back q) = (hands_back s q).after
  made s (run n f picks) = (runs p t n s f).after

  -- the threads that a call steps
  abbrev pub threads_of : Replaying → Call → List ℕ
  threads_of s (request i) = (requests p t s i).threads
  threads_of s (perform q) = (performs p s q).threads
  threads_of s (hand_back q) = (hands_back s q).threads
  threads_of s (run n f picks) = threads_told (runs p t n s f).told

  -- the replay after these calls
  abbrev pub reaches : Replaying → List Call → Replaying
  reaches s [] = s
  reaches s (c ∷ cs) = reaches (made s c) cs

  -- the threads that these calls step, in order
  abbrev pub replayed_run : Replaying → List Call → List ℕ
  replayed_run s [] = []
  replayed_run s (c ∷ cs) = threads_of s c ++ replayed_run (made s c) cs

  -- a new replay after these calls
  abbrev pub replay_after : List Call → Replaying
  replay_after cs = reaches (begun p t) cs

  -- what the next run of n steps under f answers
  abbrev pub next_answer : List Call → ℕ → Strategy → Result Ending Fault
  next_answer cs n f = (runs p t n (replay_after cs) f).answer

  -- no permit is out and no thread is permitted
  pub record AtRest (s : Replaying) : Type 0 where
    pub none_out : s.out ≡ None
    pub none_permitted : (i : ℕ) → Permitted p t s.progress i → ⊥

  -- two lists of calls came to the same machine, steps and next answer
  pub record SameRest (cs ds : List Call) : Type 0 where
    pub machine : (replay_after cs).progress.machine ≡ (replay_after ds).progress.machine
    pub steps : (replay_after cs).steps ≡ (replay_after ds).steps
    pub next : (n k : ℕ) (f g : Strategy) → next_answer cs n f ≡ next_answer ds k g

  -- us is a run of the program whose trace exists and agrees with t
  pub record Agreeing (us : List ℕ) : Type 0 where
    pub is_run : Run p (start p) us
    pub has_trace : Limited (trace_of p us)
    pub agrees : Agree (trace_of p us) t

  -- the calls came to rest complete, with the number of steps, the machine and the reads of the run us
  pub record ReplayedAs (cs : List Call) (us : List ℕ) : Type 0 where
    pub answer : (n : ℕ) (f : Strategy) → next_answer cs n f ≡ Ok (Complete (length us))
    pub machine : (replay_after cs).progress.machine ≡ after p (start p) us
    pub gets : (i : ℕ) → reads p (start p) (replayed_run (begun p t) cs) i ≡ reads p (start p) us i

  -- a call that is refused leaves the replay as it was
  pub record RefusedAltersNothing : Type 0 where
    pub request : (s : Replaying) (i : ℕ) (e : Fault) → (requests p t s i).answer ≡ Err e → (requests p t s i).after ≡ s
    pub perform : (s : Replaying) (q : Permit) (e : Returned) → (performs p s q).answer ≡ Err e → (performs p s q).after ≡ s
    pub hand_back : (s : Replaying) (q : Permit) (e : Returned) → (hands_back s q).answer ≡ Err e → (hands_back s q).after ≡ s
    pub run : (s : Replaying) (n : ℕ) (f : Strategy) → (runs p t n s f).answer ≡ Err PermitOut → (runs p t n s f).after ≡ s

  -- what is promised of every list of calls made on a new replay
  pub record Promised : Type 0 where
    -- those that come to rest come to the same machine, steps and next answer
    pub one_end : (cs ds : List Call) → AtRest (replay_after cs) → AtRest (replay_after ds) → SameRest cs ds
    -- that answer is complete only where some run has an agreeing trace
    pub only_runs : (cs : List Call) → AtRest (replay_after cs) → (n k : ℕ) (f : Strategy) → next_answer cs n f ≡ Ok (Complete k) → (us : List ℕ) × Agreeing us
    -- and where one has, it is, with every such run's steps, machine and reads
    pub every_run : (cs : List Call) → AtRest (replay_after cs) → (us : List ℕ) → Agreeing us → ReplayedAs cs us
    -- with no permit out, a run of more steps than eight counts allow comes to rest
    pub comes_to_rest : (cs : List Call) → (replay_after cs).out ≡ None → (n : ℕ) (f : Strategy) → Picks f → 524280 < n → AtRest (runs p t n (replay_after cs) f).after
    -- the steps that the calls make are a run of the program
    pub are_runs : (cs : List Call) → Run p (start p) (replayed_run (begun p t) cs)
    pub refused : RefusedAltersNothing

-- of every program and every trace of as many threads
abbrev pub ReplayPromise : Type 0
ReplayPromise = (p : Program) (t : Trace) → (code_of p).threads ≡ (parts t).threads → Promised (code_of p) (history (parts t))
