use Rattle.std.proofs.Common.{rules, ◌∷◌, [], List, ap, Bool, false, refl, ◌∙◌}
use Rattle.schedule.specs.Threads.{set_of}
use Rattle.following.specs.Following.{permitted}
use Rattle.replay.specs.Replays.{shown, program_of, trace_of}
use Rattle.schedule.proofs.Mapped.{mapped}
use Rattle.replay.proofs.Replay.offer.Goals as goal

pub returns : goal.returns
unfolding shown set_of
returns c =
    let r = c.args.self.now in
    c.of.ensures ∙ ap (λ (l : List Bool). record { offered = l }) (mapped _ (permitted (program_of r) (trace_of r) (shown r).progress) (λ x y q h. search rules) (1 ∷ 2 ∷ 3 ∷ 4 ∷ 5 ∷ 6 ∷ 7 ∷ 8 ∷ []) _ 8 0 false refl c.map.ensures.items)
