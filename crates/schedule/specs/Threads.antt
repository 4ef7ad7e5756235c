-- Sets of the threads 1 to 8.
use Rattle.std.specs.Prelude.{◌≡◌, ℕ, ◌+◌, Bool, false, cond, Option, List, [], ◌∷◌, find, length, ◌==◌, nat_lt, slice_index_or}
use Rattle.schedule.specs.declared.ThreadSet.{ThreadSet}

-- the thread is in the set; thread 0 is in none
abbrev pub has : ThreadSet → ℕ → Bool
has set t = slice_index_or (false ∷ set.offered) t false

-- the set has the eight places of its array
abbrev pub Sized : ThreadSet → Type 0
Sized set = length set.offered ≡ 8

-- the threads at true, in rising order, the first place being thread t's
abbrev pub threads_from : ℕ → List Bool → List ℕ
threads_from t [] = []
threads_from t (b ∷ bs) = cond b (t ∷ threads_from (t + 1) bs) (threads_from (t + 1) bs)

-- the threads of the set, in rising order
abbrev pub threads : ThreadSet → List ℕ
threads set = threads_from 1 set.offered

-- no thread is in the set
abbrev pub empty : ThreadSet → Bool
empty set = length (threads set) == 0

-- the first thread above n, or 0
abbrev pub first_above : ℕ → List ℕ → ℕ
first_above n [] = 0
first_above n (t ∷ ts) = cond (nat_lt n t) t (first_above n ts)

-- the first thread above n, if there is one
abbrev pub found_above : ℕ → List ℕ → Option ℕ
found_above n = find (nat_lt n)

-- the set of the threads 1 to 8 of which the test holds
unfoldable pub set_of : (ℕ → Bool) → ThreadSet
set_of f = record { offered = f 1 ∷ f 2 ∷ f 3 ∷ f 4 ∷ f 5 ∷ f 6 ∷ f 7 ∷ f 8 ∷ [] }

-- the set with thread t, or without it
abbrev pub with : ThreadSet → ℕ → Bool → ThreadSet
with set t is = set_of (λ k. cond (k == t) is (has set k))
