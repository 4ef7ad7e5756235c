-- The steps that a machine has made in all: none at first, and one more with each step.
use Rattle.std.proofs.Common.{◌≡◌, ℕ, zero, suc, ◌+◌, ◌≤◌, cond, eqb, List, [], ◌∷◌, length, get_or, refl, ap, ◌∙◌, arith}
use Rattle.std.proofs.lemmas.Bool.Decides.{nat_tests}
use Rattle.std.specs.List.{sum_by}
use Rattle.std.proofs.lemmas.List.Sums.{sum_by-cons}
use Rattle.machine.specs.declared.Thread.{Thread}
use Rattle.machine.specs.declared.Machine.{Machine}
use Rattle.machine.specs.Machine.{Code, State, idle, step, Able, Run, start, after, total_steps}
use Rattle.machine.specs.View.{view}
use Rattle.machine.specs.Proper.{Proper}
use Rattle.machine.proofs.Laws.{one_more}
use Rattle.machine.proofs.Programs.{thread_of}

-- a thread of 1 to 8 is one of them
one_of : (i : ℕ) → 1 ≤ i → i ≤ 8 → cond (eqb i 1) 1 0 + (cond (eqb i 2) 1 0 + (cond (eqb i 3) 1 0 + (cond (eqb i 4) 1 0 + (cond (eqb i 5) 1 0 + (cond (eqb i 6) 1 0 + (cond (eqb i 7) 1 0 + cond (eqb i 8) 1 0)))))) ≡ 1
one_of i least most = grind (arith, nat_tests)

-- an able thread's step is one step more in all
pub steps_made : (p : Code) → Proper p → (m : State) (i : ℕ) → Able p m i → total_steps (step p i m) ≡ suc (total_steps m)
unfolding total_steps
steps_made p ok m i a =
    let t = thread_of p ok i (m.thread i).place a.c a.is in
    let one = one_of i t.0 (omega (arith, t.1, ok.most)) in
    omega (arith, one_more p m i 1 a, one_more p m i 2 a, one_more p m i 3 a, one_more p m i 4 a, one_more p m i 5 a, one_more p m i 6 a, one_more p m i 7 a, one_more p m i 8 a)

-- no step is made at first
pub no_steps : (p : Code) → total_steps (start p) ≡ 0
unfolding total_steps
no_steps p = refl

-- so a run makes as many steps as it is long
pub all_made : (p : Code) → Proper p → (m : State) (us : List ℕ) → Run p m us → total_steps (after p m us) ≡ length us + total_steps m
all_made p ok m [] r = omega arith
all_made p ok m (i ∷ us) r = omega (arith, all_made p ok (step p i m) us r.1, steps_made p ok m i r.0)

-- the sum of the first n
abbrev added : (ℕ → ℕ) → ℕ → ℕ
added f zero = 0
added f (suc n) = f 0 + added (λ k. f (suc k)) n

-- a list's sum is that of its elements by their places
by_places : {A : Type 0} (f : A → ℕ) (d : A) (xs : List A) → sum_by f xs ≡ added (λ k. f (get_or xs k d)) (length xs)
by_places f d [] = refl
by_places f d (x ∷ xs) = sum_by-cons f x xs ∙ ap (λ n. f x + n) (by_places f d xs)

-- the sum over the eight threads is that of all steps
pub steps_summed : (m : Machine) → length m.threads ≡ 8 → sum_by (λ (t : Thread). t.count) m.threads ≡ total_steps (view m)
unfolding total_steps
steps_summed m e =
    let eight : added (λ k. (get_or m.threads k idle).count) 8 ≡ total_steps (view m) = omega arith in
    by_places (λ (t : Thread). t.count) idle m.threads ∙ ap (added (λ k. (get_or m.threads k idle).count)) e ∙ eight
