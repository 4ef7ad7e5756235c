use Rattle.std.proofs.Common.{◌≡◌, ◌+◌, drop, slice_get}
use Rattle.schedule.specs.Threads.{threads_from}
use Rattle.schedule.proofs.ThreadSet.nth.Given as goal

abbrev pub invariant-loop-place : goal.invariant-loop-place
invariant-loop-place l = slice_get (threads_from (l.place + 1) (drop l.place l.self.offered)) l.left ≡ slice_get (threads_from 1 l.self.offered) l.n
