use Rattle.machine.specs.View.{code_of}
use Rattle.machine.proofs.Laws.{run_laws}
use Rattle.machine.proofs.Starts.{starts}
use Rattle.machine.proofs.Machine.start.Goals as goal

pub returns : goal.returns
returns c = record { value = starts c.args.program.now c.starts-semaphores.result.now c.starts-semaphores.ensures; laws = run_laws (code_of c.args.program.now) }
