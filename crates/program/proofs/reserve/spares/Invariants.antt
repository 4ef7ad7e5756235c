use Rattle.std.proofs.Common.{◌≡◌, ◌≤◌, true, vec_items, vec_len, vec_capacity}
use Rattle.program.specs.Form.{each}
use Rattle.program.specs.Rooms.{spare_for}
use Rattle.program.proofs.reserve.spares.Given as goal

abbrev pub invariant-loop : goal.invariant-loop
invariant-loop g l = (vec_len l.spares ≡ l.counter) × (l.rows ≤ vec_capacity l.spares) × (each (spare_for l.places) (vec_items l.spares) ≡ true)
