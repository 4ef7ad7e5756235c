use Rattle.std.proofs.Common.{◌≡◌, true, ap, ◌∙◌}
use Rattle.schedule.specs.Strategies.{strategy}
use Rattle.schedule.specs.Turns.{turn_rule, turn_next}
use Rattle.replay.specs.Calls.{Replaying, holds}
use Rattle.replay.specs.Replays.{shown}
use Rattle.replay_cases.proofs.Held.{given_held, request_keeps, run_keeps}
use Rattle.replay_cases.proofs.steps.while_out.Goals as goal

pub give_back-requires : goal.give_back-requires
give_back-requires c =
    let q = c.in_ok-permit.permit in
    let first : holds (shown c.request.new.self) q ≡ true = ap (λ (s : Replaying). holds s q) c.request.ensures.after.shows ∙ given_held _ _ (shown c.args.replay.now) c.args.thread q c.in_ok-permit.ensures.answer in
    let second : holds (shown c.request-2.new.self) q ≡ true = ap (λ (s : Replaying). holds s q) (c.request-2.ensures.after.shows ∙ request_keeps _ _ (shown c.request.new.self) q first c.args.other) ∙ first in
    ap (λ (s : Replaying). holds s q) (c.run-run.ensures.after.shows ∙ run_keeps _ _ (shown c.request-2.new.self) q second 100 (strategy turn_rule turn_next c.new.result)) ∙ second
