-- The worked examples: small programs, their traces, and what becomes of them.
use Rattle.std.specs.Prelude.{◌≡◌, ℕ, zero, suc, List, [], ◌∷◌, map, length, None, Ok, Err, slice_index, slice_index_or}
use Rattle.std.proofs.Math.Option.{Option, none, some}
use Rattle.refusal.specs.declared.Object.TheVariants.{Variable}
use Rattle.machine.specs.declared.Operation.TheVariants.{Lock}
use Rattle.machine.specs.Machine.{Code, Instr, Local, variable, start, Able, Run, after, reads}
use Rattle.trace.specs.declared.Event.{Event}
use Rattle.trace.specs.declared.Event.TheVariants.{Read, Write}
use Rattle.trace.specs.History.{History, Logged, log, sequence, trace_of}
use Rattle.schedule.specs.Threads.{threads, first_above}
use Rattle.schedule.specs.Strategies.{Strategy}
use Rattle.replay.specs.declared.Ending.TheVariants.{Complete}
use Rattle.replay.specs.declared.faults.Fault.TheVariants.{NotPermitted, Stuck, Unused}
use Rattle.replay.specs.Calls.{Replaying, Ran, begun, stepped, requests, permit_for, runs, threads_told}

-- the instruction at place k of a text
abbrev pub nth : List Instr → ℕ → Option Instr
nth [] k = none
nth (c ∷ l) zero = some c
nth (c ∷ l) (suc k) = nth l k

-- the program of these threads; each semaphore starts at 0 and has the limit 1
abbrev pub code : List (List Instr) → Code
code l = record { threads = length l; at = λ i k. nth (slice_index_or ([] ∷ l) i []) k; starts = λ _. 0; limits = λ _. 1 }

-- the trace of this log, with the counts of threads 1, 2 and so on
abbrev pub traced : List Logged → List ℕ → History
traced l cs = record { threads = length cs; seq = sequence l; counts = λ i. slice_index (0 ∷ cs) i }

-- a log of events that are all on variable 0
abbrev pub on_variable_0 : List Event → List Logged
on_variable_0 = map (λ e. record { on = variable 0; what = e })

-- the scheduler that names the lowest thread offered
abbrev pub lowest : Strategy
lowest h o = first_above 0 (threads o)

-- a run of 100 steps of a new replay
abbrev pub replays : Code → History → Ran
replays p t = runs p t 100 (begun p t) lowest

-- threads 1 and 2 read variable 0; thread 3 reads it and writes 1 more back
abbrev pub bump : Code
bump =
    code (
    (Instr.read 0 0 ∷ [])
    ∷ (Instr.read 0 0 ∷ [])
    ∷ (Instr.read 0 0 ∷ Instr.local (Local.load 1 1) ∷ Instr.local (Local.add 0 1) ∷ Instr.write 0 0 ∷ [])
    ∷ []
    )

abbrev pub bump_run : List ℕ
bump_run = 3 ∷ 1 ∷ 3 ∷ 3 ∷ 3 ∷ 2 ∷ []

abbrev pub bump_log : List Logged
bump_log = on_variable_0 (Read 3 0 ∷ Read 1 0 ∷ Write 3 0 2 ∷ Read 2 1 ∷ [])

-- the trace of that run
abbrev pub bump_trace : History
bump_trace = traced bump_log (1 ∷ 1 ∷ 4 ∷ [])

-- a trace in which thread 2 reads before the write
abbrev pub early_trace : History
early_trace = traced (on_variable_0 (Read 3 0 ∷ Read 1 0 ∷ Read 2 0 ∷ Write 3 0 3 ∷ [])) (1 ∷ 1 ∷ 4 ∷ [])

-- a replay of the run's trace after two steps of thread 3, and after three
abbrev pub after_two : Replaying
after_two = stepped bump (stepped bump (begun bump bump_trace) 3) 3

abbrev pub after_three : Replaying
after_three = stepped bump after_two 3

-- thread 1 locks 0 and then 1, thread 2 locks 1 and then 0
abbrev pub crossed : Code
crossed =
    code (
    (Instr.synchronise Lock 0 ∷ Instr.synchronise Lock 1 ∷ [])
    ∷ (Instr.synchronise Lock 1 ∷ Instr.synchronise Lock 0 ∷ [])
    ∷ []
    )

abbrev pub crossed_run : List ℕ
crossed_run = 1 ∷ 2 ∷ []

-- what comes of them
pub record Worked : Type 0 where
  -- threads 3, 1, 3, 3, 3, 2 can step in this order
  pub bump_is_run : Run bump (start bump) bump_run
  -- their events, in order
  pub logged : log bump (start bump) bump_run ≡ bump_log
  -- the sequence of variable 0 in the trace of this run
  pub sequence_0 : (trace_of bump bump_run).seq (variable 0) ≡ bump_trace.seq (variable 0)
  -- the count of thread 1 in it
  pub count_1 : (trace_of bump bump_run).counts 1 ≡ 1
  -- the count of thread 2
  pub count_2 : (trace_of bump bump_run).counts 2 ≡ 1
  -- the count of thread 3
  pub count_3 : (trace_of bump bump_run).counts 3 ≡ 4
  -- variable 0 ends at 1
  pub value : ((after bump (start bump) bump_run).item (variable 0)).value ≡ 1
  -- the trace replays complete, in as many steps
  pub complete : (replays bump bump_trace).answer ≡ Ok (Complete 6)
  -- and variable 0 ends at 1 again
  pub value_again : ((replays bump bump_trace).after.progress.machine.item (variable 0)).value ≡ 1
  -- after two steps of thread 3 it is permitted the third
  pub granted : (requests bump bump_trace after_two 3).answer ≡ Ok (permit_for after_two 3)
  -- and then not the write, as thread 1 has not read yet
  pub refused : (requests bump bump_trace after_three 3).answer ≡ Err NotPermitted
  -- with the count 5, thread 3 is stuck at its end, place 4
  pub stuck : (replays bump (traced bump_log (1 ∷ 1 ∷ 5 ∷ []))).answer ≡ Err (Stuck 3 4 None 6)
  -- with the count 0, thread 2 leaves its read of variable 0 unused
  pub unused : (replays bump (traced bump_log (1 ∷ 0 ∷ 4 ∷ []))).answer ≡ Err (Unused (Variable 0) 5)
  -- a trace in which thread 2 reads before the write replays complete
  pub early : (replays bump early_trace).answer ≡ Ok (Complete 6)
  -- and thread 2 reads 0 of variable 0
  pub early_read : reads bump (start bump) (threads_told (replays bump early_trace).told) 2 ≡ (0, 0) ∷ []
  -- two threads that lock crosswise can each make one step
  pub crossed_is_run : Run crossed (start crossed) crossed_run
  -- and then none is able: a deadlock
  pub deadlock : (i : ℕ) → Able crossed (after crossed (start crossed) crossed_run) i → ⊥
  -- the trace of this run replays complete
  pub crossed_complete : (replays crossed (trace_of crossed crossed_run)).answer ≡ Ok (Complete 2)
