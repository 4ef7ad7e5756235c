-- What the machine needs of a program's codes.
use Rattle.std.specs.Prelude.{◌≡◌, ℕ, ◌<◌, ◌≤◌, ◌⊎◌}
use Rattle.std.proofs.Math.Option.{none, some}
use Rattle.machine.specs.Machine.{Code, Instr, Object, nothing, variable, semaphore, mutex, object}

-- there are 16 variables, 8 semaphores and 8 locks
abbrev pub InRange : Object → Type 0
InRange nothing = Unit {0}
InRange (variable v) = v < 16
InRange (semaphore n) = n < 8
InRange (mutex n) = n < 8

-- 1 to 8 threads, only these have instructions, and each instruction's object is one that there is
pub record Proper (p : Code) : Type 0 where
  pub least : 1 ≤ p.threads
  pub most : p.threads ≤ 8
  pub others : (i k : ℕ) → (i ≡ 0) ⊎ (p.threads < i) → p.at i k ≡ none
  pub known : (i k : ℕ) (c : Instr) → p.at i k ≡ some c → InRange (object c)
