-- What a program holds.
use Rattle.std.specs.Prelude.{ℕ, List, [], ◌∷◌, map, vec_items, Option, slice_index_or}
use Rattle.std.specs.List.{slice_get}
use Rattle.program.specs.declared.Instruction.{Instruction}
use Rattle.program.specs.declared.Program.{Program}
use Rattle.program.specs.Form.{Parts}

-- the instructions of each thread
abbrev pub texts : Program → List (List Instruction)
texts p = map vec_items (vec_items p.texts)

-- the instructions of thread t; the first thread is thread 1
abbrev pub text_of : Program → ℕ → List Instruction
text_of p t = slice_index_or ([] ∷ texts p) t []

-- the instruction of thread t at a place
abbrev pub fetched : Program → ℕ → ℕ → Option Instruction
fetched p t place = slice_get (text_of p t) place

-- what the program says
abbrev pub parts : Program → Parts
parts p = record { starts = p.starts; limits = p.limits; texts = texts p }

-- what was read, and how many bytes it took
abbrev pub read_parts : Program × ℕ → Parts × ℕ
read_parts x = (parts x.0, x.1)
