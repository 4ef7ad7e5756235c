-- A scheduler by what it does.
use Rattle.std.specs.Prelude.{◌≡◌, ℕ, true, List, [], ◌∷◌}
use Rattle.schedule.specs.declared.ThreadSet.{ThreadSet}
use Rattle.schedule.specs.Threads.{has}

-- one thing that a scheduler was told: the set offered, and the thread that was stepped
pub record Told : Type 0 where
  pub offer : ThreadSet
  pub thread : ℕ

-- a scheduler by what it does: what it names from a set, once it was told all that, the earliest first
abbrev pub Strategy : Type 0
Strategy = List Told → ThreadSet → ℕ

-- it names one of the threads offered
abbrev pub Picks : Strategy → Type 0
Picks f = (h : List Told) (o : ThreadSet) (t : ℕ) → has o t ≡ true → has o (f h o) ≡ true

module _ {S : Type 0} (rule : S → ThreadSet → ℕ) (next : S → ThreadSet → ℕ → S) where
  -- what a scheduler is once it was told all that
  abbrev pub tells : S → List Told → S
  tells s [] = s
  tells s (x ∷ xs) = tells (next s x.offer x.thread) xs

  -- the strategy of a scheduler
  abbrev pub strategy : S → Strategy
  strategy s h o = rule (tells s h) o
