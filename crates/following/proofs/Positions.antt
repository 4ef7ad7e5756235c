-- Each object has a place of its own.
use Rattle.std.proofs.Common.{◌≡◌, ℕ, ◌+◌, ◌-◌, ◌<◌, ltb, ◌≢◌, sym, refl, ap, ◌∙◌, subst, arith}
use Rattle.std.proofs.lemmas.Bool.{cond_both, ltb-true, ltb-false}
use Rattle.std.proofs.lemmas.Bool.Decides.{nat_tests}
use Rattle.refusal.specs.declared.Object.TheVariants.{Variable, Semaphore, Lock}
use Rattle.machine.specs.Machine.{Object, nothing, variable, semaphore, mutex}
use Rattle.machine.specs.Proper.{InRange}
use Rattle.trace.specs.Drafts.{name_at}
use Rattle.trace.specs.Traces.{named, position}

pub variable_place : (v : ℕ) → v < 16 → position (variable v) ≡ v
variable_place v h = grind (arith, nat_tests)

pub semaphore_place : (n : ℕ) → n < 8 → position (semaphore n) ≡ 16 + n
semaphore_place n h = grind (arith, nat_tests)

pub lock_place : (n : ℕ) → n < 8 → position (mutex n) ≡ 24 + n
lock_place n h = grind (arith, nat_tests)

-- an object that there is stands at one of 32 places
pub within_place : (o : Object) → o ≢ nothing → InRange o → position o < 32
within_place nothing n h = absurd (n refl)
within_place (variable v) n h = omega (arith, variable_place v h)
within_place (semaphore k) n h = omega (arith, semaphore_place k h)
within_place (mutex k) n h = omega (arith, lock_place k h)

-- and is the one that is named there
back : (o : Object) → position o < 32 → named (name_at (position o)) ≡ o
back nothing h = absurd (let z : ⊥ = omega arith in z)
back (variable v) h =
    let lt : v < 16 = grind (arith, nat_tests) in
    let e = variable_place v lt in
    let n : name_at (position (variable v)) ≡ Variable v = grind (arith, nat_tests) in
    ap named n
back (semaphore k) h =
    let lt : k < 8 = grind (arith, nat_tests) in
    let e = semaphore_place k lt in
    let n : name_at (position (semaphore k)) ≡ Semaphore k = grind (arith, nat_tests) in
    ap named n
back (mutex k) h =
    let lt : k < 8 = grind (arith, nat_tests) in
    let e = lock_place k lt in
    let n : name_at (position (mutex k)) ≡ Lock k = grind (arith, nat_tests) in
    ap named n

-- so another object stands at another place
pub apart : (o u : Object) → o ≢ nothing → InRange o → u ≢ o → position u ≢ position o
apart o u n h d e =
    let lt = within_place o n h in
    d (sym (back u (subst (λ (k : ℕ). k < 32) (sym e) lt)) ∙ ap (λ (k : ℕ). named (name_at k)) e ∙ back o lt)

-- the object that is named at a place stands there
pub place_back : (k : ℕ) → k < 32 → position (named (name_at k)) ≡ k
place_back k h =
    cond_both (ltb k 16) _ _ (λ n. position (named n) ≡ k) (λ a. variable_place k (ltb-true k 16 a))
    (λ a. cond_both (ltb k 24) _ _ (λ n. position (named n) ≡ k)
    (λ b. let x = ltb-false k 16 a in let y = ltb-true k 24 b in semaphore_place (k - 16) (omega arith) ∙ omega arith)
    (λ b. let x = ltb-false k 24 b in lock_place (k - 24) (omega arith) ∙ omega arith))
