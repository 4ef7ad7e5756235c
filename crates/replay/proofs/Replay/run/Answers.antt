use Rattle.std.proofs.Common.{◌≡◌, ◌+◌, ◌-◌, ℕ, true, arith, sym, ap, ◌∙◌, subst}
use Rattle.machine.specs.View.{code_of}
use Rattle.schedule.specs.Threads.{has}
use Rattle.trace.specs.Traces.{history, parts}
use Rattle.replay.specs.Replays.{shown, program_of, trace_of}
use Rattle.replay.proofs.Going.{turn, alike_trans, named_permitted}
use Rattle.replay.proofs.Replay.run.Goals as goal

pub step_offered-next-requires-clause-permitted : goal.step_offered-next-requires-clause-permitted
unfolding shown
step_offered-next-requires-clause-permitted g c =
    let n = c.steps.self in
    named_permitted n.follower.program.now (trace_of n) (shown n).progress c.steps.offer c.name-thread.result c.steps.invariant.offered (sym c.is_empty.ensures ∙ c.if-is_empty.false)
    (λ k h. subst (λ (i : ℕ). has c.steps.offer i ≡ true) (sym c.name-thread.ensures) (g.met.S.Scheduler.chosen c.steps.scheduler c.steps.offer k h))

pub steps-preserved : goal.steps-preserved
steps-preserved g c =
    let n = c.steps.self in
    let m = c.step_offered-next.new.self in
    let d = g.S.Scheduler in
    let made = c.step_offered-next.ensures in
    let before = c.steps.invariant in
    record {
      same = (made.after.same.0 ∙ before.same.0, made.after.same.1 ∙ before.same.1);
      offered = made.offered;
      alike =
          alike_trans d.rule d.next before.alike
          (turn d.rule d.next (program_of n) (program_of m) (trace_of n) (trace_of m) (c.min-step-end.result - c.steps._step) (c.min-step-end.result - (c.steps._step + 1)) (shown n) (shown m) c.steps.scheduler c.told.new.self c.steps.offer c.name-thread.result
          (ap (λ x. code_of x.now) made.after.same.0) (ap (λ x. history (parts x.now)) made.after.same.1) made.after.shows c.told.ensures before.offered c.name-thread.ensures (sym c.is_empty.ensures ∙ c.if-is_empty.false) (omega (arith, c.steps-test.true)));
    }
