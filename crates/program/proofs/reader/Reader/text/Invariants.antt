use Rattle.std.proofs.Common.{◌≡◌, ◌-◌, ◌≤◌, vec_items, vec_len, vec_capacity}
use Rattle.program.specs.Reading.{one, repeated, text}
use Rattle.program.proofs.reader.Reader.text.Given as goal

abbrev pub invariant-loop : goal.invariant-loop
invariant-loop l = (vec_len l.text ≡ l.counter) × (128 ≤ vec_capacity l.text) × (l.self.bytes ≡ l.initial.self.bytes)
    × (repeated (one l.self.bytes.now l.n) (l.n - l.counter) l.self.at (vec_items l.text) ≡ text l.fn.self.bytes.now l.fn.self.at)
