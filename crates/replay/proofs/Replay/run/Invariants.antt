use Rattle.std.proofs.Common.{◌≡◌, ◌-◌}
use Rattle.schedule.specs.Strategies.{strategy}
use Rattle.replay.specs.Calls.{goes}
use Rattle.replay.specs.Replays.{SameParts, offered, program_of, shown, trace_of}
use Rattle.replay.proofs.Going.{Alike}
use Rattle.replay.proofs.Replay.run.Given as goal

-- what is left to run comes out as the whole run does
abbrev pub invariant-steps : goal.invariant-steps
invariant-steps g l =
    let d = g.S.Scheduler in
    record {
      same : SameParts l.initial.self l.self;
      offered : l.offer ≡ offered l.self;
      alike :
          Alike d.rule d.next
          l.initial.scheduler (goes (program_of l.initial.self) (trace_of l.initial.self) (l._step-end) (shown l.initial.self) (strategy d.rule d.next l.initial.scheduler))
          l.scheduler (goes (program_of l.self) (trace_of l.self) (l._step-end - l._step) (shown l.self) (strategy d.rule d.next l.scheduler));
    }
