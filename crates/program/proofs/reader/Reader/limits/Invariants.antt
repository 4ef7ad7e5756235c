use Rattle.std.proofs.Common.{◌≡◌, ◌+◌, [], length, take, drop}
use Rattle.program.specs.Reading.{limits}
use Rattle.program.proofs.reader.Reader.limits.Given as goal

abbrev pub invariant-loop-k : goal.invariant-loop-k
invariant-loop-k l = (l.self.bytes ≡ l.initial.self.bytes) × (l.self.at ≡ 9 + l.k) × (length l.values ≡ 8) × (limits l.self.bytes.now (drop l.k l.starts) (9 + l.k) (take l.k l.values) ≡ limits l.self.bytes.now l.starts 9 [])
