-- The bytes of a program, and that its reader accepts exactly those.
use Rattle.std.specs.Prelude.{◌≡◌, ℕ, ◌/◌, ◌%◌, List, [], ◌∷◌, ◌++◌, length, drop, Ok}
use Rattle.std.specs.List.{flat_map}
use Rattle.program.specs.declared.Instruction.{Instruction}
use Rattle.program.specs.Form.{Parts, WellFormed}
use Rattle.program.specs.Reading.{program}

-- code, a, and b with its low byte first
abbrev pub instruction_bytes : Instruction → List ℕ
instruction_bytes i = i.code ∷ (i.a ∷ (i.b % 256 ∷ (i.b / 256 ∷ [])))

-- how many instructions, and these
abbrev pub text_bytes : List Instruction → List ℕ
text_bytes is = length is ∷ flat_map instruction_bytes is

-- how many threads, the starts, the limits, and each thread's instructions
abbrev pub encoded : Parts → List ℕ
encoded q = length q.texts ∷ (q.starts ++ (q.limits ++ flat_map text_bytes q.texts))

-- the bytes begin with the encoding of the well-formed program q, and n is the encoding's length
pub record Begins (bs : List ℕ) (q : Parts) (n : ℕ) : Type 0 where
  pub well_formed : WellFormed q
  pub front : bs ≡ encoded q ++ drop n bs
  pub taken : n ≡ length (encoded q)

-- the bytes are read as q, taking n of them, exactly when they begin with the encoding of q
pub record ReadsExactly (bs : List ℕ) : Type 0 where
  pub only : (q : Parts) (n : ℕ) → program bs ≡ Ok (q, n) → Begins bs q n
  pub every : (q : Parts) (n : ℕ) → Begins bs q n → program bs ≡ Ok (q, n)
