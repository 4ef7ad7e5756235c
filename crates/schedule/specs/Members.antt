-- The threads of a set are those that it has.
use Rattle.std.specs.Prelude.{◌≡◌, ℕ, zero, suc, ◌+◌, ◌<◌, Bool, true, false, cond, ◌≢◌, ◌⊎◌, List, [], ◌∷◌, length, ◌==◌, slice_index, slice_index_or, refl}
use Rattle.std.proofs.Common.{inl, inr, ⊎_elim, sym, ap, ◌∙◌, arith, one-add}
use Rattle.std.proofs.lemmas.Bool.{cond_both, false≢true, cases_Bool, cases_lt, eqb-false, eqb-true}
use Rattle.schedule.specs.declared.ThreadSet.{ThreadSet}
use Rattle.schedule.specs.Threads.{has, threads, threads_from, empty, set_of, with}

-- thread r stands at true
abbrev Found : ℕ → List Bool → ℕ → Type 0
Found t bs r = (j : ℕ) × (r ≡ t + j) × (slice_index_or bs j false ≡ true)

further : (t : ℕ) (b : Bool) (bs : List Bool) (r : ℕ) → Found (t + 1) bs r → Found t (b ∷ bs) r
further t b bs r w = (suc w.0, omega (arith, w.1), w.2)

-- number k of the threads stands at true
at : (t : ℕ) (bs : List Bool) (k : ℕ) → k < length (threads_from t bs) → Found t bs (slice_index (threads_from t bs) k)
at t [] k h = absurd (omega arith)
at t (false ∷ bs) k h = further t false bs _ (at (t + 1) bs k h)
at t (true ∷ bs) zero h = (0, omega arith, refl)
at t (true ∷ bs) (suc k) h = further t true bs _ (at (t + 1) bs k (omega arith))

-- where one place is true, there is a thread
some : (t : ℕ) (bs : List Bool) (k : ℕ) → slice_index_or bs k false ≡ true → 0 < length (threads_from t bs)
some t [] k e = absurd (false≢true e)
some t (true ∷ bs) k e = omega arith
some t (false ∷ bs) zero e = absurd (false≢true e)
some t (false ∷ bs) (suc k) e = some (t + 1) bs k e

-- each of the threads of a set is in it
pub thread_has : (set : ThreadSet) (k : ℕ) → k < length (threads set) → has set (slice_index (threads set) k) ≡ true
thread_has set k h = let w = at 1 set.offered k h in ap (has set) (w.1 ∙ one-add w.0) ∙ w.2

-- a set that has a thread has a first one
pub some_thread : (set : ThreadSet) (t : ℕ) → has set t ≡ true → 0 < length (threads set)
some_thread set zero e = absurd (false≢true e)
some_thread set (suc k) e = some 1 set.offered k e

-- the empty set has no thread, and every other has one
pub empty_none : (set : ThreadSet) → empty set ≡ true → (t : ℕ) → has set t ≡ false
empty_none set e t =
    ⊎_elim (λ h. absurd (omega (arith, some_thread set t h, eqb-true (length (threads set)) 0 e))) (λ h. h) (cases_Bool (has set t))

pub nonempty_some : (set : ThreadSet) → empty set ≡ false → (t : ℕ) × (has set t ≡ true)
nonempty_some set e =
    ⊎_elim
    (λ h. (slice_index (threads set) 0, thread_has set 0 h))
    (λ h. absurd (eqb-false (length (threads set)) 0 e (omega arith)))
    (cases_lt 0 (length (threads set)))

pub none_empty : (set : ThreadSet) → ((t : ℕ) → has set t ≡ true → ⊥) → empty set ≡ true
none_empty set h =
    ⊎_elim (λ e. e) (λ e. let w = nonempty_some set e in absurd (h w.0 w.1)) (cases_Bool (empty set))

-- the set of a test has the threads of which it holds
pub set_has : (f : ℕ → Bool) → ((i : ℕ) → (i ≡ 0) ⊎ (8 < i) → f i ≡ false) → (i : ℕ) → has (set_of f) i ≡ f i
unfolding set_of
set_has f out zero = sym (out 0 (inl refl))
set_has f out (suc zero) = refl
set_has f out (suc (suc zero)) = refl
set_has f out (suc (suc (suc zero))) = refl
set_has f out (suc (suc (suc (suc zero)))) = refl
set_has f out (suc (suc (suc (suc (suc zero))))) = refl
set_has f out (suc (suc (suc (suc (suc (suc zero)))))) = refl
set_has f out (suc (suc (suc (suc (suc (suc (suc zero))))))) = refl
set_has f out (suc (suc (suc (suc (suc (suc (suc (suc zero)))))))) = refl
set_has f out (suc (suc (suc (suc (suc (suc (suc (suc (suc i))))))))) =
    sym (out (suc (suc (suc (suc (suc (suc (suc (suc (suc i))))))))) (inr (omega arith)))

-- a set by a test that changes at thread i only
pub set_with : (f g : ℕ → Bool) (i : ℕ) → ((k : ℕ) → k ≢ i → g k ≡ f k) → with (set_of f) i (g i) ≡ set_of g
unfolding set_of
set_with f g i others = λ j. record { offered = at 1 j ∷ at 2 j ∷ at 3 j ∷ at 4 j ∷ at 5 j ∷ at 6 j ∷ at 7 j ∷ at 8 j ∷ [] }
  where
    at : (k : ℕ) → cond (k == i) (g i) (f k) ≡ g k
    at k = cond_both (k == i) (g i) (f k) (λ b. b ≡ g k) (λ e. ap g (sym (eqb-true k i e))) (λ e. sym (others k (eqb-false k i e)))
