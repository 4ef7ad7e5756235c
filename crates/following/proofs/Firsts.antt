-- The first number of a range that passes a test.
use Rattle.std.proofs.Common.{◌≡◌, ℕ, zero, suc, ◌+◌, ◌<◌, ◌≤◌, Bool, true, false, cond, ltb, Some, None, Option, refl, ap, ◌∙◌, add-one, arith}
use Rattle.std.specs.List.{find, range_with_len}
use Rattle.std.specs.Option.{option_and_then}
use Rattle.std.proofs.lemmas.Bool.{cond-true, lt-ltb}
use Rattle.refusal.specs.declared.Object.{Object}
use Rattle.trace.specs.Drafts.{name_at}
use Rattle.following.specs.Ends.{first_from, name_found}

pub found_first : (test : ℕ → Bool) (k n : ℕ) → find test (range_with_len k n) ≡ first_from test k n
found_first test k zero = refl
found_first test k (suc n) = ap (cond (test k) (Some k)) (found_first test (k + 1) n ∙ ap (λ (m : ℕ). first_from test m n) (add-one k))

-- the object at a place, if there is one
abbrev pub placed : ℕ → Option Object
placed k = cond (ltb k 32) (Some (name_at k)) None

-- the first place that passes a test is that of the first object that does, where the two tests agree
pub first_placed : (test same : ℕ → Bool) → ((j : ℕ) → j < 32 → test j ≡ same j) → (k n : ℕ) → k + n ≤ 32 → option_and_then placed (find test (range_with_len k n)) ≡ name_found (first_from same k n)
first_placed test same agree k zero h = refl
first_placed test same agree k (suc n) h =
    let later = first_placed test same agree (k + 1) n (omega arith) ∙ ap (λ (m : ℕ). name_found (first_from same m n)) (add-one k) in
    ap (λ b. option_and_then placed (cond b (Some k) (find test (range_with_len (k + 1) n)))) (agree k (omega arith)) ∙ go later (same k)
  where
    go : option_and_then placed (find test (range_with_len (k + 1) n)) ≡ name_found (first_from same (suc k) n) → (b : Bool) → option_and_then placed (cond b (Some k) (find test (range_with_len (k + 1) n))) ≡ name_found (cond b (Some k) (first_from same (suc k) n))
    go later true = cond-true (ltb k 32) (Some (name_at k)) None (lt-ltb k 32 (omega arith))
    go later false = later
