-- Where a replay stands at its end: threads below their counts, and events that are unused.
use Rattle.std.specs.Prelude.{ℕ, zero, suc, Bool, true, false, cond, List, [], ◌∷◌, Some, None, Option}
use Rattle.std.proofs.Math.Option.{Option as Maybe, none, some}
use Rattle.refusal.specs.declared.Object.{Object as Named}
use Rattle.refusal.specs.declared.Object.TheVariants.{Variable, Semaphore, Lock}
use Rattle.machine.specs.Machine.{Instr, Object, nothing, variable, semaphore, mutex, State, object}
use Rattle.trace.specs.declared.Event.{Event}
use Rattle.trace.specs.Drafts.{name_at}
use Rattle.trace.specs.History.{History}
use Rattle.trace.specs.Traces.{named}
use Rattle.following.specs.Following.{below}

-- the first of the n numbers from k on that passes the test
abbrev pub first_from : (ℕ → Bool) → ℕ → ℕ → Option ℕ
first_from test k zero = None
first_from test k (suc n) = cond (test k) (Some k) (first_from test (suc k) n)

-- the lowest thread that has made fewer steps than it counts
unfoldable pub lowest_below : History → State → Option ℕ
lowest_below t m = first_from (below t m) 1 8

-- whether there is an event
abbrev pub some_event : List Event → Bool
some_event [] = false
some_event (e ∷ q) = true

abbrev pub name_found : Option ℕ → Option Named
name_found None = None
name_found (Some k) = Some (name_at k)

-- the first object with an event among these: variables, then semaphores, then locks
unfoldable pub first_unused : (Object → List Event) → Option Named
first_unused q = name_found (first_from (λ k. some_event (q (named (name_at k)))) 0 32)

-- the name of an object
abbrev pub name_of : Object → Option Named
name_of nothing = None
name_of (variable v) = Some (Variable v)
name_of (semaphore n) = Some (Semaphore n)
name_of (mutex n) = Some (Lock n)

-- the object of an instruction that is an event
abbrev pub at_event : Maybe Instr → Option Named
at_event none = None
at_event (some c) = name_of (object c)
