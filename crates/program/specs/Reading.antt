-- What a program's bytes say, or the place of the first field that is wrong or missing.
use Rattle.std.specs.Prelude.{ℕ, zero, suc, ◌+◌, ◌-◌, ◌*◌, max, cond, ◌&&◌, List, [], ◌∷◌, ◌++◌, length, take, drop, Ok, Err, Result, nat_le, nat_lt, slice_index, slice_index_or}
use Rattle.program.specs.Form.{a_bound, b_bound, Parts}
pub use Rattle.program.specs.Chain.{then, over}
use Rattle.program.specs.declared.Instruction.{Instruction}
use Rattle.program.specs.declared.faults.Fault.{Fault}
use Rattle.program.specs.declared.faults.Fault.TheVariants.{Malformed}

-- the byte at a place, from low to high
abbrev pub byte : List ℕ → ℕ → ℕ → ℕ → Result ℕ Fault
byte bs at low high = cond (nat_lt at (length bs) && (nat_le low (slice_index bs at) && nat_le (slice_index bs at) high)) (Ok (slice_index bs at)) (Err (Malformed at))

-- the number of two bytes at a place, low byte first, below a bound
abbrev pub half : List ℕ → ℕ → ℕ → Result ℕ Fault
half bs at bound =
    let x = slice_index bs at + 256 * slice_index_or bs (at + 1) 0 in
    cond (nat_lt (at + 1) (length bs) && nat_lt x bound) (Ok x) (Err (Malformed at))

-- the instruction at a place, of a thread of n
abbrev pub instruction : List ℕ → ℕ → ℕ → Result Instruction Fault
instruction bs n at =
    then (byte bs at 1 11) (λ code.
    then (byte bs (at + 1) 0 (a_bound code - 1)) (λ a.
    then (half bs (at + 2) (b_bound n code)) (λ b.
    Ok (record { code = code; a = a; b = b }))))

-- k things more, each read at the place after the one before, behind those read so far; and the place after them
abbrev pub repeated : {A : Type 0} → (ℕ → Result (A × ℕ) Fault) → ℕ → ℕ → List A → Result (List A × ℕ) Fault
repeated read zero at so_far = Ok (so_far, at)
repeated read (suc k) at so_far = then (read at) (λ r. repeated read k r.1 (so_far ++ r.0 ∷ []))

-- an instruction takes 4 bytes
abbrev pub one : List ℕ → ℕ → ℕ → Result (Instruction × ℕ) Fault
one bs n at = then (instruction bs n at) (λ i. Ok (i, at + 4))

-- a thread: how many instructions, and these
abbrev pub text : List ℕ → ℕ → Result (List Instruction × ℕ) Fault
text bs at = then (byte bs at 0 128) (λ n. repeated (one bs n) n (at + 1) [])

-- 8 semaphore starts, which may be any bytes
abbrev pub starts : List ℕ → Result (List ℕ) Fault
starts bs = cond (nat_le 9 (length bs)) (Ok (take 8 (drop 1 bs))) (Err (Malformed (length bs)))

-- a limit for each start, behind those read so far
abbrev pub limits : List ℕ → List ℕ → ℕ → List ℕ → Result (List ℕ) Fault
limits bs [] at so_far = Ok so_far
limits bs (s ∷ ss) at so_far = then (byte bs at (max s 1) 255) (λ l. limits bs ss (at + 1) (so_far ++ l ∷ []))

-- the whole: what it says, and how many bytes it takes
abbrev pub program : List ℕ → Result (Parts × ℕ) Fault
program bs =
    then (byte bs 0 1 8) (λ t.
    then (starts bs) (λ ss.
    then (limits bs ss 9 []) (λ ls.
    then (repeated (text bs) t 17 []) (λ r.
    Ok (record { starts = ss; limits = ls; texts = r.0 }, r.1)))))
