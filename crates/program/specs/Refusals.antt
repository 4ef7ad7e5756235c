-- The number and the parts of each fault.
use Rattle.std.specs.Prelude.{Some, None}
use Rattle.refusal.specs.declared.Layer.{Layer}
use Rattle.refusal.specs.declared.Refusal.{Refusal}
use Rattle.program.specs.declared.faults.Fault.{Fault}
use Rattle.program.specs.declared.faults.Fault.TheVariants.{Malformed}

abbrev pub refusal : Fault → Refusal
refusal (Malformed place) = record { number = 1; layer = Layer.Machine; thread = None; place = Some place; object = None }
