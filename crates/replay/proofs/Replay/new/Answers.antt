use Rattle.std.proofs.Common.{arith, rules}
use Rattle.machine.specs.View.{code_of}
use Rattle.machine.proofs.Totals.{no_steps}
use Rattle.replay.specs.Replays.{shown}
use Rattle.replay.proofs.Promises.{replay_promise}
use Rattle.replay.proofs.Worked.{worked}
use Rattle.replay.proofs.Replay.new.Goals as goal

pub returns-then-threads : goal.returns-then-threads
returns-then-threads c = record { value = search rules; promise = replay_promise; worked = worked }

pub returns : goal.returns
unfolding shown
returns c = record { value = grind (arith, no_steps (code_of c.new.result.program.now)); promise = replay_promise; worked = worked }
