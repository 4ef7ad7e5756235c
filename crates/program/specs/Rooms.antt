-- What is reserved for a program.
use Rattle.std.specs.Prelude.{ℕ, Bool, ◌&&◌, vec_len, vec_capacity, ◌==◌, nat_le}
use Rattle.std.specs.Global.{Vec}
use Rattle.program.specs.declared.Instruction.{Instruction}

-- empty, with places for n elements
abbrev pub spare_for : {A : Type 0} → ℕ → Vec A → Bool
spare_for n v = vec_len v == 0 && nat_le n (vec_capacity v)

-- empty, with places for 128 instructions
abbrev pub spare : Vec Instruction → Bool
spare = spare_for 128
