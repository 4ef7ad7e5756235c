-- Lists of threads as steps: where they lead, and when each may be made.
use Rattle.std.specs.Prelude.{ℕ, ◌+◌, cond, List, [], ◌∷◌, ◌==◌}

-- how often thread i stands in the list
abbrev pub times : ℕ → List ℕ → ℕ
times i [] = 0
times i (k ∷ us) = cond (k == i) 1 0 + times i us

module _ {S : Type 0} (step : ℕ → S → S) where
  -- the state after the steps of these threads
  abbrev pub reach : S → List ℕ → S
  reach s [] = s
  reach s (i ∷ us) = reach (step i s) us

module _ {S : Type 0} (step : ℕ → S → S) (May : S → ℕ → Type 0) where
  -- each of these threads may step at its turn
  abbrev pub Word : S → List ℕ → Type 0
  Word s [] = Unit {0}
  Word s (i ∷ us) = May s i × Word (step i s) us
