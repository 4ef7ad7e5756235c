-- The replay theorem: in whatever order permitted threads step, a trace is followed to one end.
use Rattle.std.specs.Prelude.{◌≡◌, ℕ, ◌≤◌, ◌≢◌, List, [], length}
use Rattle.program.specs.declared.Program.{Program}
use Rattle.machine.specs.Words.{Word, reach, times}
use Rattle.machine.specs.Machine.{Code, Object, nothing, start, Run, after, reads}
use Rattle.machine.specs.View.{code_of}
use Rattle.trace.specs.declared.Trace.{Trace}
use Rattle.trace.specs.History.{History, trace_of}
use Rattle.trace.specs.Traces.{history, parts}
use Rattle.trace.specs.Agreement.{Agree}
use Rattle.following.specs.Following.{Progress, opened, Permitted, advance}

-- each of these threads is permitted at its turn
abbrev pub Followed : Code → History → List ℕ → Type 0
Followed p t us = Word (advance p) (Permitted p t) (opened p t) us

-- how far these steps come
abbrev pub end : Code → History → List ℕ → Progress
end p t us = reach (advance p) (opened p t) us

-- no thread is permitted any more
abbrev pub Ended : Code → History → List ℕ → Type 0
Ended p t us = (i : ℕ) → Permitted p t (end p t us) i → ⊥

-- the steps are permitted, all counts are reached and all events used
pub record Complete (p : Code) (t : History) (us : List ℕ) : Type 0 where
  pub followed : Followed p t us
  pub used : (o : Object) → o ≢ nothing → (end p t us).left o ≡ []
  pub reached : (i : ℕ) → ((end p t us).machine.thread i).count ≡ t.counts i

-- two lists of steps end alike: equally far, with the same reads of each thread
pub record Same (p : Code) (t : History) (us ws : List ℕ) : Type 0 where
  pub ends : end p t us ≡ end p t ws
  pub gets : (i : ℕ) → reads p (start p) us i ≡ reads p (start p) ws i

-- the steps ws replay the run us
pub record Replayed (p : Code) (t : History) (us ws : List ℕ) : Type 0 where
  pub complete : Complete p t ws
  pub machine : (end p t ws).machine ≡ after p (start p) us
  pub gets : (i : ℕ) → reads p (start p) ws i ≡ reads p (start p) us i
  pub steps : length ws ≡ length us

-- what holds of the lists of steps that follow a trace
pub record Replays (p : Code) (t : History) : Type 0 where
  -- permitted steps make a run, of no more steps than the counts allow
  pub leads : (us : List ℕ) → Followed p t us → Run p (start p) us
  pub counts_most : (us : List ℕ) → Followed p t us → (i : ℕ) → ((after p (start p) us).thread i).count ≤ t.counts i
  -- steps that come to an end are as many as any can be, and all that come to one do so alike
  pub longest : (us ws : List ℕ) → Followed p t us → Ended p t us → Followed p t ws → length ws ≤ length us
  pub one_end : (us ws : List ℕ) → Followed p t us → Ended p t us → Followed p t ws → Ended p t ws → Same p t us ws
  -- as many steps of each thread come equally far, in whatever order
  pub same_steps : (us ws : List ℕ) → Followed p t us → Followed p t ws → ((i : ℕ) → times i us ≡ times i ws) → Same p t us ws
  -- complete steps are a run whose trace agrees, and every such run is complete
  pub is_run : (us : List ℕ) → Complete p t us → Run p (start p) us × Agree (trace_of p us) t
  pub run_is : (us : List ℕ) → Run p (start p) us → Agree (trace_of p us) t → Complete p t us
  -- where some run's trace agrees, all steps that come to an end are complete, with its machine, reads and length
  pub replayed : (us ws : List ℕ) → Run p (start p) us → Agree (trace_of p us) t → Followed p t ws → Ended p t ws → Replayed p t us ws

-- and it holds of every program and every trace of as many threads
abbrev pub FollowingLaws : Type 0
FollowingLaws = (p : Program) (t : Trace) → (code_of p).threads ≡ (parts t).threads → Replays (code_of p) (history (parts t))
