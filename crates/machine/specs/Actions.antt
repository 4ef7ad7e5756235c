-- What a step does to the shared objects.
use Rattle.std.specs.Prelude.{Some, None, Option as Answer}
use Rattle.std.proofs.Math.Option.{Option, none, some}
use Rattle.machine.specs.declared.action.Action.{Action}
use Rattle.machine.specs.declared.action.Action.TheVariants.{Local, Read, Write, Sync}
use Rattle.machine.specs.Machine.{Instr, local, read, write, synchronise}

-- what an instruction does
abbrev pub action : Instr → Action
action (local c) = Local
action (read a v) = Read v
action (write a v) = Write v
action (synchronise o n) = Sync o n

-- what the instruction does, where there is one
abbrev pub acts : Option Instr → Answer Action
acts none = None
acts (some c) = Some (action c)
