use Rattle.std.proofs.Common.{◌≡◌, ◌+◌, drop}
use Rattle.schedule.specs.Threads.{first_above, found_above, threads_from}
use Rattle.schedule.proofs.ThreadSet.first_above.Given as goal

abbrev pub invariant-loop-place : goal.invariant-loop-place
invariant-loop-place l =
    (found_above l.number (threads_from (l.place + 1) (drop l.place l.self.offered)) ≡ found_above l.number (threads_from 1 l.self.offered))
    × (first_above l.number (threads_from (l.place + 1) (drop l.place l.self.offered)) ≡ first_above l.number (threads_from 1 l.self.offered))
