-- The turn scheduler.
use Rattle.std.specs.Prelude.{◌≡◌, ℕ, ◌+◌, ◌-◌, ◌%◌, ◌<◌, ◌≤◌, max, Bool, true, cond, ◌&&◌, ◌≢◌, ◌==◌, nat_lt}
use Rattle.schedule.specs.declared.ThreadSet.{ThreadSet}
use Rattle.schedule.specs.declared.turn.Turn.{Turn}
use Rattle.schedule.specs.Threads.{has, threads, first_above, Sized}

-- before the first step the last thread is 8, and its turn is over; a quantum of 0 counts as 1
abbrev pub turn_start : ℕ → Turn
turn_start q = record { last = 8; streak = max q 1; quantum = max q 1 }

-- the last thread has steps left
abbrev pub in_turn : Turn → Bool
in_turn s = nat_lt s.streak s.quantum

-- the next thread of the set in circular order, the last one coming last; 0 for the empty set
abbrev pub next_after : ℕ → ThreadSet → ℕ
next_after last set = cond (first_above last (threads set) == 0) (first_above 0 (threads set)) (first_above last (threads set))

-- the last thread while it is offered and has steps left, otherwise the next one
abbrev pub turn_rule : Turn → ThreadSet → ℕ
turn_rule s set = cond (in_turn s && has set s.last) s.last (next_after s.last set)

-- once thread t of the set was stepped: one more step in a row, or the first of its turn
abbrev pub turn_step : Turn → ℕ → Turn
turn_step s t =
    cond (t == s.last && in_turn s)
    (record { last = s.last; streak = s.streak + 1; quantum = s.quantum })
    (record { last = t; streak = 1; quantum = s.quantum })

-- once it was told of thread t; a thread outside the set alters nothing
abbrev pub turn_next : Turn → ThreadSet → ℕ → Turn
turn_next s set t = cond (has set t) (turn_step s t) s

-- how many threads come between the last one and t in circular order: 0 for the next thread, 7 for the last one itself
abbrev pub distance : ℕ → ℕ → ℕ
distance last t = (t + 7 - last) % 8

-- how the scheduler stands at any time: the last thread is one of 1 to 8, and has made from 1 to quantum steps in a row
pub record Stands (s : Turn) : Type 0 where
  pub one : 1 ≤ s.last
  pub eight : s.last ≤ 8
  pub begun : 1 ≤ s.streak
  pub bounded : s.streak ≤ s.quantum

-- the last thread may go on: it is offered, and has steps left
pub record GoesOn (s : Turn) (set : ThreadSet) : Type 0 where
  pub offered : has set s.last ≡ true
  pub left : s.streak < s.quantum

-- what the turn scheduler keeps to
pub record TurnLaws : Type 0 where
  -- it stands so at the start, and after whatever it is told
  pub starts : (q : ℕ) → Stands (turn_start q)
  pub stands : (s : Turn) (set : ThreadSet) (t : ℕ) → Stands s → Sized set → Stands (turn_next s set t)
  -- where a thread is offered, one of those offered is named
  pub picks : (s : Turn) (set : ThreadSet) (t : ℕ) → has set t ≡ true → has set (turn_rule s set) ≡ true
  -- the last thread is named where it may go on
  pub same : (s : Turn) (set : ThreadSet) → GoesOn s set → turn_rule s set ≡ s.last
  -- where it may not, the first thread offered that is met in circular order: none offered is nearer
  pub nearest : (s : Turn) (set : ThreadSet) → Stands s → Sized set → (GoesOn s set → ⊥) → (t : ℕ) → has set t ≡ true → distance s.last (turn_rule s set) ≤ distance s.last t
  -- so a thread whose turn is over gives way to any other
  pub gives_way : (s : Turn) (set : ThreadSet) → Stands s → Sized set → (GoesOn s set → ⊥) → (t : ℕ) → t ≢ s.last → has set t ≡ true → turn_rule s set ≢ s.last
