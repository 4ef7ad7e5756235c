-- The seeded scheduler.
use Rattle.std.specs.Prelude.{ℕ, ◌*◌, ◌/◌, ◌%◌, ◌^◌, max, cond, length, bit_xor, slice_index}
use Rattle.schedule.specs.declared.ThreadSet.{ThreadSet}
use Rattle.schedule.specs.declared.seeded.Seeded.{Seeded}
use Rattle.schedule.specs.Threads.{has, threads}

-- the seed is the first number; 0 counts as 1
abbrev pub seed_start : ℕ → Seeded
seed_start s = record { state = max s 1 }

-- s ^= s << k, in 32 bits
abbrev pub left_mixed : ℕ → ℕ → ℕ
left_mixed k s = bit_xor s (s * 2 ^ k % 2 ^ 32)

-- s ^= s >> k
abbrev pub right_mixed : ℕ → ℕ → ℕ
right_mixed k s = bit_xor s (s / 2 ^ k)

-- the number after s
abbrev pub scrambled : ℕ → ℕ
scrambled s = left_mixed 5 (right_mixed 17 (left_mixed 13 s))

-- of k threads offered, number s mod k, from 0, in rising order; 0 for the empty set
abbrev pub seed_rule : Seeded → ThreadSet → ℕ
seed_rule s set = slice_index (threads set) (s.state % length (threads set))

-- once it was told of thread t: the number after; a thread outside the set alters nothing
abbrev pub seed_next : Seeded → ThreadSet → ℕ → Seeded
seed_next s set t = cond (has set t) (record { state = scrambled s.state }) s
