use Rattle.machine.proofs.Stepped.{stepped}
use Rattle.machine.proofs.Machine.step.Goals as goal

pub returns : goal.returns
returns c =
    stepped c.args.program.now c.limits.result.now c.limits.ensures c.args.self.now c.args.thread c.in-Some.i c.in-Some.ensures.usable c.make.ensures.sized c.in-Some.ensures.value
    c.make.new.self c.make.result c.make.ensures.answer c.make.ensures.after
