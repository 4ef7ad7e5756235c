use Rattle.std.proofs.Common.{◌≡◌, ◌++◌, map, take}
use Rattle.std.specs.List.{flat_map}
use Rattle.worked.specs.Bytes.{text_bytes}
use Rattle.worked.proofs.build.bytes.Given as goal

abbrev pub invariant-loop-text : goal.invariant-loop-text
invariant-loop-text l = l.bytes.items ≡ l.initial.bytes.items ++ flat_map text_bytes (map (λ t. t.now) (take l.text-index l.texts))
