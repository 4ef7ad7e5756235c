-- Readings in a row succeed where each of them does.
use Rattle.std.proofs.Common.{◌≡◌, ℕ, List, Ok, Err, Result, sym, refl, ap, arith}
use Rattle.program.specs.declared.faults.Fault.{Fault}
use Rattle.program.specs.declared.Instruction.{Instruction}
use Rattle.program.specs.Form.{Parts}
use Rattle.program.specs.Chain.{then, over}

-- a refusal is no success
pub no_ok : {A B E : Type 0} {e : E} {y : A} → Err e ≡ Ok y → B
no_ok h = let z : ◌≡◌ {A = ℕ} 0 1 = cc in absurd (omega arith)

pub then_ok : {A B E : Type 0} (r : Result A E) (f : A → Result B E) (y : B) → then r f ≡ Ok y → (x : A) × (r ≡ Ok x) × (f x ≡ Ok y)
then_ok (Ok x) f y h = (x, refl, h)
then_ok (Err e) f y h = no_ok h

pub over_ok : {A B E : Type 0} (f : A → B) (r : Result A E) (y : B) → over f r ≡ Ok y → (x : A) × (r ≡ Ok x) × (f x ≡ y)
over_ok f (Ok x) y h = (x, refl, cc)
over_ok f (Err e) y h = no_ok h

pub over_err : {A B E : Type 0} (f : A → B) (r : Result A E) (e : E) → over f r ≡ Err e → r ≡ Err e
over_err f (Ok x) e h = no_ok (sym h)
over_err f (Err d) e h = let same : d ≡ e = cc in ap Err same

-- the number of threads, the starts, the limits and the texts
module _ (s : Result (List ℕ) Fault) (l : List ℕ → Result (List ℕ) Fault) (w : ℕ → Result (List (List Instruction) × ℕ) Fault) (q : Parts) (n : ℕ) where
  abbrev row : Result ℕ Fault → Result (Parts × ℕ) Fault
  row c = then c (λ t. then s (λ ss. then (l ss) (λ ls. then (w t) (λ r. Ok (record { starts = ss; limits = ls; texts = r.0 }, r.1)))))

  pub row_parts : (c : Result ℕ Fault) → row c ≡ Ok (q, n) → (t : ℕ) × (c ≡ Ok t) × (s ≡ Ok q.starts) × (l q.starts ≡ Ok q.limits) × (w t ≡ Ok (q.texts, n))
  row_parts (Ok t) h = (t, refl, grind arith, grind arith, grind arith)
  row_parts (Err e) h = no_ok h

  pub row_made : (c : Result ℕ Fault) (t : ℕ) → c ≡ Ok t → s ≡ Ok q.starts → l q.starts ≡ Ok q.limits → w t ≡ Ok (q.texts, n) → row c ≡ Ok (q, n)
  row_made c t hc hs hl hw = grind arith
