-- The bytes of a program of which every semaphore has the same start and limit.
use Rattle.std.specs.Prelude.{ℕ, min, List, ◌∷◌, ◌++◌, length, replicate}
use Rattle.std.specs.List.{flat_map}
use Rattle.program.specs.declared.Instruction.{Instruction}
use Rattle.program.specs.Encoding.{instruction_bytes}

-- how many instructions, and these; 255, which is too many, stands for any more
abbrev pub text_bytes : List Instruction → List ℕ
text_bytes is = min (length is) 255 ∷ flat_map instruction_bytes is

-- how many threads (255 for any more), the starts, the limits, and each thread's instructions
abbrev pub program_bytes : ℕ → ℕ → List (List Instruction) → List ℕ
program_bytes start limit texts =
    min (length texts) 255 ∷ (replicate 8 start ++ (replicate 8 limit ++ flat_map text_bytes texts))
