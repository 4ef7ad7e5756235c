-- How what is used of a sequence is kept: for each thread the place of its first unused event, its cursor.
use Rattle.std.specs.Prelude.{◌≡◌, ℕ, suc, cond, List, [], ◌∷◌, drop, map, ◌==◌, nat_lt, slice_index}
use Rattle.std.specs.List.{range_with_len}
use Rattle.trace.specs.declared.Event.{Event}
use Rattle.trace.specs.Sound.{who}

-- the place of thread i's first event, or the end, in a sequence that begins at place k
abbrev pub seek : ℕ → ℕ → List Event → ℕ
seek i k [] = k
seek i k (e ∷ q) = cond (who e == i) k (seek i (suc k) q)

-- the place of thread i's first event at or after place k
abbrev pub from : ℕ → ℕ → List Event → ℕ
from i k q = seek i k (drop k q)

-- the events that do not stand before their threads' cursors, in a sequence that begins at place k
abbrev pub unused : (ℕ → ℕ) → ℕ → List Event → List Event
unused c k [] = []
unused c k (e ∷ q) = cond (nat_lt k (c (who e))) (unused c (suc k) q) (e ∷ unused c (suc k) q)

-- thread i's cursor at place n, the others as they are
abbrev pub moved : ℕ → ℕ → (ℕ → ℕ) → ℕ → ℕ
moved i n c k = cond (k == i) n (c k)

-- the cursor of thread i; the first thread is thread 1
abbrev pub cursor : List ℕ → ℕ → ℕ
cursor cs i = slice_index (0 ∷ cs) i

-- the cursor stands at an event of its thread, or at the end
abbrev pub Settled : ℕ → ℕ → List Event → Type 0
Settled i k q = from i k q ≡ k

-- where each thread's first event stands
abbrev pub firsts : List Event → List ℕ
firsts q = map (λ i. from i 0 q) (range_with_len 1 8)
