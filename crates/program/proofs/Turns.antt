-- One turn of a loop of the reader.
use Rattle.std.proofs.Common.{◌≡◌, ℕ, suc, ◌+◌, ◌-◌, ◌<◌, List, ◌∷◌, ◌++◌, [], Ok, Err, Result, ap, ◌∙◌, arith}
use Rattle.program.specs.declared.faults.Fault.{Fault}
use Rattle.program.specs.Reading.{then, repeated}

-- after i of n turns
module _ {A : Type 0} (read : ℕ → Result (A × ℕ) Fault) (n i at : ℕ) (so_far : List A) (lt : i < n) where
  rest : A × ℕ → Result (List A × ℕ) Fault
  rest = λ r. repeated read (n - (i + 1)) r.1 (so_far ++ r.0 ∷ [])

  open_turn : then (read at) rest ≡ repeated read (n - i) at so_far
  unfolding rest
  open_turn = let left : suc (n - (i + 1)) ≡ n - i = omega arith in ap (λ k. repeated read k at so_far) left

  pub turn : (x : A) (next : ℕ) (more : List A) → Ok (x, next) ≡ read at → more ≡ so_far ++ x ∷ [] → repeated read (n - (i + 1)) next more ≡ repeated read (n - i) at so_far
  unfolding rest
  turn x next more h m = ap (repeated read (n - (i + 1)) next) m ∙ ap (λ r. then r rest) h ∙ open_turn

  pub stop : (e : Fault) → Err e ≡ read at → Err e ≡ repeated read (n - i) at so_far
  stop e h = ap (λ r. then r rest) h ∙ open_turn
