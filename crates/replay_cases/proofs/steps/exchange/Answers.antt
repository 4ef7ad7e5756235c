use Rattle.std.proofs.Common.{◌≡◌, true, sym, ap, ◌∙◌}
use Rattle.replay.specs.Calls.{Replaying, holds}
use Rattle.replay.specs.Replays.{program_of, shown}
use Rattle.replay_cases.proofs.Held.{given_held, perform_keeps, hand_back_keeps}
use Rattle.replay_cases.proofs.steps.exchange.Goals as goal

pub give_back-requires-3 : goal.give_back-requires-3
give_back-requires-3 c =
    let q = c.in-Ok.out in
    let x = c.unwrap_err-performed.result in
    let first : holds (shown c.request-2.new.self) q ≡ true = ap (λ (s : Replaying). holds s q) c.request-2.ensures.after.shows ∙ given_held _ _ (shown c.args.other.now) c.args.others q c.in-Ok.ensures.answer in
    let second : holds (shown c.perform.new.self) q ≡ true = ap (λ (s : Replaying). holds s q) (c.perform.ensures.after.shows ∙ perform_keeps (shown c.request-2.new.self) c.in_ok-permit.permit x (program_of c.request-2.new.self) (sym c.unwrap_err-performed.ensures ∙ c.perform.ensures.answer)) ∙ first in
    ap (λ (s : Replaying). holds s q) (c.hand_back.ensures.after.shows ∙ hand_back_keeps (shown c.perform.new.self) x.permit c.unwrap_err-handed.result (sym c.unwrap_err-handed.ensures ∙ c.hand_back.ensures.answer)) ∙ second
