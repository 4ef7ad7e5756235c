-- How long the sequences of a trace are.
use Rattle.std.proofs.Common.{ℕ, ◌<◌, ◌≤◌, length, arith}
use Rattle.trace.specs.declared.Trace.{Trace}
use Rattle.trace.specs.Traces.{parts}
use Rattle.trace.proofs.Fills.{part_of_total}
use Rattle.following.specs.View.{row}

-- each has at most 1,024 events
pub few : (t : Trace) (k : ℕ) → length (row t k) ≤ 1024
few t k = let some = part_of_total (parts t).sequences k in let all = t.within in omega arith

pub short : (t : Trace) (k : ℕ) → length (row t k) < 65536
short t k = let h = few t k in omega arith
