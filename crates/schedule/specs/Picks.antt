-- What a search through a set finds.
use Rattle.std.specs.Prelude.{◌≡◌, ℕ, zero, suc, ◌+◌, ◌<◌, ◌≤◌, Bool, true, false, ◌⊎◌, List, [], ◌∷◌, get_or, ◌==◌, slice_index_or, refl}
use Rattle.std.proofs.Common.{inl, inr, ⊎_elim, sym, ap, subst, ◌∙◌, arith, one-add}
use Rattle.std.proofs.lemmas.Bool.{false≢true, lt-ltb, le-ltb, cases_lt, cond-true, cond-false, cond_both, eqb-false, both_ways}
use Rattle.schedule.specs.declared.ThreadSet.{ThreadSet}
use Rattle.schedule.specs.Threads.{has, threads, threads_from, first_above}
use Rattle.schedule.specs.Turns.{next_after}

-- none at true is above n
abbrev None : ℕ → ℕ → List Bool → Type 0
None n t bs = (k : ℕ) → slice_index_or bs k false ≡ true → t + k ≤ n

-- r is the lowest at true above n
record Lowest (n t : ℕ) (bs : List Bool) (r : ℕ) : Type 0 where
  k : ℕ
  is : r ≡ t + k
  here : get_or bs k false ≡ true
  above : n < r
  least : (j : ℕ) → slice_index_or bs j false ≡ true → n < t + j → r ≤ t + j

abbrev Sought : ℕ → ℕ → List Bool → ℕ → Type 0
Sought n t bs r = ((r ≡ 0) × None n t bs) ⊎ Lowest n t bs r

module _ (n t : ℕ) (b : Bool) (bs : List Bool) (low : b ≡ true → t ≤ n) where
  none_more : None n (t + 1) bs → None n t (b ∷ bs)
  none_more none zero e = omega (arith, low e)
  none_more none (suc k) e = omega (arith, none k e)

  least_more : (r : ℕ) → ((j : ℕ) → slice_index_or bs j false ≡ true → n < t + 1 + j → r ≤ t + 1 + j) → (j : ℕ) → slice_index_or (b ∷ bs) j false ≡ true → n < t + j → r ≤ t + j
  least_more r least zero e h = omega (arith, low e)
  least_more r least (suc j) e h = omega (arith, least j e (omega arith))

  later : (r : ℕ) → Sought n (t + 1) bs r → Sought n t (b ∷ bs) r
  later r =
      ⊎_elim
      (λ w. inl (w.0, none_more w.1))
      (λ w. inr (record { k = suc w.k; is = omega (arith, w.is); here = w.here; above = w.above; least = least_more r w.least }))

sought : (n t : ℕ) (bs : List Bool) → Sought n t bs (first_above n (threads_from t bs))
sought n t [] = inl (refl, λ k e. absurd (false≢true e))
sought n t (false ∷ bs) = later n t false bs (λ e. absurd (false≢true e)) _ (sought n (t + 1) bs)
sought n t (true ∷ bs) =
    let P : ℕ → Type 0 = Sought n t (true ∷ bs) in
    ⊎_elim
    (λ h. subst P (sym (cond-true _ _ _ (lt-ltb n t h))) (inr (record { k = 0; is = omega arith; here = refl; above = h; least = λ j e a. omega arith })))
    (λ h. subst P (sym (cond-false _ _ _ (le-ltb n t h))) (later n t true bs (λ e. h) _ (sought n (t + 1) bs)))
    (cases_lt n t)

-- thread r is the lowest of the set above n
pub record First (n : ℕ) (set : ThreadSet) (r : ℕ) : Type 0 where
  pub in_set : has set r ≡ true
  pub above : n < r
  pub least : (t : ℕ) → has set t ≡ true → n < t → r ≤ t

module _ (n : ℕ) (set : ThreadSet) where
  none_has : None n 1 set.offered → (t : ℕ) → has set t ≡ true → t ≤ n
  none_has none zero e = omega arith
  none_has none (suc k) e = omega (arith, none k e)

  least_has : (r : ℕ) → Lowest n 1 set.offered r → (t : ℕ) → has set t ≡ true → n < t → r ≤ t
  least_has r w zero e h = absurd (false≢true e)
  least_has r w (suc k) e h = omega (arith, w.least k e (omega arith))

  pub above_is : (let r = first_above n (threads set) in ((r ≡ 0) × ((t : ℕ) → has set t ≡ true → t ≤ n)) ⊎ First n set r)
  above_is =
      ⊎_elim
      (λ w. inl (w.0, none_has w.1))
      (λ w. inr (record { in_set = ap (has set) (w.is ∙ one-add w.k) ∙ w.here; above = w.above; least = least_has _ w }))
      (sought n 1 set.offered)

pub some_above : (set : ThreadSet) (t : ℕ) → has set t ≡ true → First 0 set (first_above 0 (threads set))
some_above set zero e = absurd (false≢true e)
some_above set (suc k) e = ⊎_elim (λ w. absurd (omega (arith, w.1 (suc k) e))) (λ w. w) (above_is 0 set)

pub after_has : (last : ℕ) (set : ThreadSet) (t : ℕ) → has set t ≡ true → has set (next_after last set) ≡ true
after_has last set t e =
    cond_both (first_above last (threads set) == 0) _ _ (λ x. has set x ≡ true)
    (λ z. (some_above set t e).in_set)
    (λ z. ⊎_elim (λ w. absurd (eqb-false _ 0 z w.0)) (λ w. w.in_set) (above_is last set))

pub after_none : (last : ℕ) (set : ThreadSet) → has set (next_after last set) ≡ false → next_after last set ≡ 0
after_none last set =
    cond_both (first_above last (threads set) == 0) _ _ (λ x. has set x ≡ false → x ≡ 0)
    (λ z f. ⊎_elim (λ w. w.0) (λ w. absurd (both_ways _ f w.in_set)) (above_is 0 set))
    (λ z f. ⊎_elim (λ w. w.0) (λ w. absurd (both_ways _ f w.in_set)) (above_is last set))
