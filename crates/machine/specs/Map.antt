-- A map from keys, and the map with one place put anew.
use Rattle.std.specs.Prelude.{◌≡◌, ℕ, Bool, true, false, ◌==◌, refl}
use Rattle.std.proofs.lemmas.Bool.{eqb-true, eqb-false}

-- x where the answer is yes, otherwise y
abbrev pub pick : {A V : Type 0} → Dec A → V → V → V
pick (yes _) x y = x
pick (no _) x y = y

-- f with x at k
abbrev pub put : {K V : Type 0} → Discrete K → (K → V) → K → V → K → V
put same f k x n = pick (same n k) x (f n)

-- whether two numbers are the same, as the test says
abbrev pub tested : (m n : ℕ) (b : Bool) → (m == n) ≡ b → Dec (m ≡ n)
tested m n true e = yes (eqb-true m n e)
tested m n false e = no (eqb-false m n e)

-- whether two numbers are the same; computes on numerals
abbrev pub same_number : Discrete ℕ
same_number m n = tested m n (m == n) refl
