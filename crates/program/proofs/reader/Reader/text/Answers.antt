use Rattle.std.proofs.Common.{◌∙◌, arith}
use Rattle.std.proofs.lemmas.Result.{err_from_is_err_and}
use Rattle.program.specs.Reading.{one}
use Rattle.program.proofs.Turns.{turn, stop}
use Rattle.program.proofs.reader.Reader.text.Goals as goal

pub returns-in_err-instruction-clause-value : goal.returns-in_err-instruction-clause-value
returns-in_err-instruction-clause-value c =
    let p = err_from_is_err_and c.from_residual-in_err-instruction.result c.from_residual-in_err-instruction.ensures.1 in
    rw (p.1, p.2) (stop (one c.loop.self.bytes.now c.in_ok-n.n) _ _ _ _ c.loop-test.true _ c.in_err-instruction.ensures.value ∙ c.loop.invariant.3)

pub loop-preserved : goal.loop-preserved
loop-preserved c = (
  omega arith,
  omega arith,
  c.in_ok-instruction.ensures.bytes ∙ c.loop.invariant.2,
  rw c.in_ok-instruction.ensures.bytes
      (turn (one c.loop.self.bytes.now c.in_ok-n.n) _ _ _ _ c.loop-test.true _ _ _ c.in_ok-instruction.ensures.value c.push_reserved.ensures.items ∙ c.loop.invariant.3),
)
