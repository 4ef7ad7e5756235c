-- The number and the parts of each fault of a replay.
use Rattle.std.specs.Prelude.{ℕ, Some, None, Option}
use Rattle.refusal.specs.declared.Layer.{Layer}
use Rattle.refusal.specs.declared.Object.{Object}
use Rattle.refusal.specs.declared.Refusal.{Refusal}
use Rattle.replay.specs.declared.faults.Fault.{Fault}
use Rattle.replay.specs.declared.faults.Fault.TheVariants.{Threads, PermitOut, NotPermitted, WrongPermit, Stuck, Unused}

-- a refusal of the replay layer
abbrev of_replay : ℕ → Option ℕ → Option ℕ → Option Object → Refusal
of_replay number thread place object = record { number = number; layer = Layer.Replay; thread = thread; place = place; object = object }

abbrev pub refusal : Fault → Refusal
refusal Threads = of_replay 11 None None None
refusal PermitOut = of_replay 12 None None None
refusal NotPermitted = of_replay 13 None None None
refusal WrongPermit = of_replay 14 None None None
refusal (Stuck thread place object steps) = of_replay 15 (Some thread) (Some place) object
refusal (Unused object steps) = of_replay 16 None None (Some object)
