use Rattle.std.proofs.Common.{arith, sym, ◌∙◌}
use Rattle.replay.specs.Replays.{shown, trace_of}
use Rattle.replay.proofs.Going.{offer_kept}
use Rattle.replay.proofs.Replay.step_offered.Goals as goal

pub returns-then-local-clause-offered : goal.returns-then-local-clause-offered
unfolding shown
returns-then-local-clause-offered c =
    let r = c.args.self.now in
    grind (arith, offer_kept r.follower.program.now (trace_of r) (shown r).progress c.args.thread (sym c.is_local-local.ensures ∙ c.if-local.true))
