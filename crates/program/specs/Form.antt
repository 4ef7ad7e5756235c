-- What makes a program well formed.
use Rattle.std.specs.Prelude.{◌≡◌, ℕ, ◌+◌, ◌<◌, ◌≤◌, Bool, true, false, cond, ◌&&◌, List, [], ◌∷◌, length, ◌==◌, nat_le, nat_lt}
use Rattle.program.specs.declared.Instruction.{Instruction}

-- a is below this: a register, or 0 where the code has no use for it
abbrev pub a_bound : ℕ → ℕ
a_bound code = cond (code == 5) 1 (cond (nat_lt code 8) 4 1)

-- b is below this in a thread of n instructions: a number, a register, a target up to n, a variable, or a semaphore or lock
abbrev pub b_bound : ℕ → ℕ → ℕ
b_bound n code =
    cond (nat_lt code 2) 65536 (cond (nat_lt code 4) 4 (cond (nat_lt code 6) (n + 1) (cond (nat_lt code 8) 16 8)))

-- an instruction in a thread of n instructions
abbrev pub fits : ℕ → Instruction → Bool
fits n i = nat_le 1 i.code && (nat_le i.code 11 && (nat_lt i.a (a_bound i.code) && nat_lt i.b (b_bound n i.code)))

-- each element passes the test
abbrev pub each : {A : Type 0} → (A → Bool) → List A → Bool
each f [] = true
each f (x ∷ xs) = f x && each f xs

-- the instructions of one thread: at most 128
abbrev pub text_fits : List Instruction → Bool
text_fits is = nat_le (length is) 128 && each (fits (length is)) is

-- each semaphore has a limit, from 1 to 255 and not below its start
abbrev pub limits_fit : List ℕ → List ℕ → Bool
limits_fit [] [] = true
limits_fit (s ∷ ss) [] = false
limits_fit [] (l ∷ ls) = false
limits_fit (s ∷ ss) (l ∷ ls) = (nat_le 1 l && nat_le l 255) && (nat_le s l && limits_fit ss ls)

-- what a program says: the semaphores' starts and limits, and the instructions of each thread
pub record Parts : Type 0 where
  pub starts : List ℕ
  pub limits : List ℕ
  pub texts : List (List Instruction)

-- a well-formed program
pub record WellFormed (q : Parts) : Type 0 where
  pub some : 1 ≤ length q.texts
  pub few : length q.texts ≤ 8
  pub eight : length q.starts ≡ 8
  pub limited : limits_fit q.starts q.limits ≡ true
  pub fit : each text_fits q.texts ≡ true

-- what a fitting instruction lets the machine index with
pub record Usable (i : Instruction) : Type 0 where
  pub low : 1 ≤ i.code
  pub high : i.code ≤ 11
  pub a : i.a < 4
  pub register : 2 ≤ i.code → i.code ≤ 3 → i.b < 4
  pub variable : 6 ≤ i.code → i.code ≤ 7 → i.b < 16
  pub object : 8 ≤ i.code → i.b < 8
