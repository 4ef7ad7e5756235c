use Rattle.std.proofs.Common.{◌≡◌, ◌-◌, ◌≤◌, [], length, map, vec_items, vec_len, vec_capacity}
use Rattle.program.specs.Reading.{repeated, text}
use Rattle.program.proofs.reader.Reader.texts.Given as goal

abbrev pub invariant-loop-spare : goal.invariant-loop-spare
invariant-loop-spare l =
    (vec_len l.texts ≡ length l.yielded) × (8 ≤ vec_capacity l.texts)
    × (l.self.bytes ≡ l.initial.self.bytes)
    × (repeated (text l.self.bytes.now) (l.count - length l.yielded) l.self.at (map vec_items (vec_items l.texts)) ≡ repeated (text l.initial.self.bytes.now) l.count l.initial.self.at [])
