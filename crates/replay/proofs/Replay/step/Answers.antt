use Rattle.std.proofs.Common.{arith}
use Rattle.replay.specs.Replays.{shown}
use Rattle.replay.proofs.Called.{one_step}
use Rattle.replay.proofs.Replay.step.Goals as goal

pub returns : goal.returns
unfolding shown
returns c = grind (arith, one_step c.args.self.now.follower.program.now _ _ _ c.requires)
