-- The thread that a scheduler names, from the calls that it makes of a set.
use Rattle.std.proofs.Common.{◌≡◌, ℕ, ◌<◌, ◌==◌, ◌%◌, true, false, Option, None, Some, List, [], ◌∷◌, length, get_or, refl, sym, ap, ◌∙◌, cond, nat_lt, ⊎_elim, arith}
use Rattle.std.specs.Option.{MatchOption, SomeIff, unwrap_or}
use Rattle.std.specs.List.{slice_get}
use Rattle.std.proofs.lemmas.Bool.{cond-false, cond-true, ltb-true, cases_Bool, eqb-true, eq-eqb, cases_lt}
use Rattle.std.proofs.lemmas.List.{get_or_past}
use Rattle.std.proofs.lemmas.Option.{unwrap_or-slice_get}
use Rattle.schedule.specs.Threads.{first_above, found_above}

-- the thread found, or 0
first_found : (n : ℕ) (ts : List ℕ) → unwrap_or (found_above n ts) 0 ≡ first_above n ts
first_found n [] = refl
first_found n (t ∷ ts) = elim (nat_lt n t) as (λ b. unwrap_or (cond b (Some t) (found_above n ts)) 0 ≡ cond b t (first_above n ts)) [ true ↦ refl | false ↦ first_found n ts ]

found_higher : (n x : ℕ) (ts : List ℕ) → found_above n ts ≡ Some x → n < x
found_higher n x [] e = absurd (cc)
found_higher n x (t ∷ ts) e =
    ⊎_elim
    (λ b. let q : Some t ≡ Some x = sym (cond-true (nat_lt n t) (Some t) (found_above n ts) b) ∙ e in let r : t ≡ x = cc in omega (arith, ltb-true n t b))
    (λ b. found_higher n x ts (sym (cond-false (nat_lt n t) (Some t) (found_above n ts) b) ∙ e))
    (cases_Bool (nat_lt n t))

-- the next thread in circular order: the first above the last one, and where there is none the first of all
pub next_found : (last : ℕ) (ts : List ℕ) (o r : Option ℕ) → o ≡ found_above last ts → MatchOption o (r ≡ found_above 0 ts) (λ x. r ≡ Some x) → unwrap_or r 0 ≡ cond (first_above last ts == 0) (first_above 0 ts) (first_above last ts)
next_found last ts None r e h =
    let z : first_above last ts ≡ 0 = sym (ap (λ o. unwrap_or o 0) e ∙ first_found last ts) in
    ap (λ o. unwrap_or o 0) h ∙ first_found 0 ts ∙ sym (cond-true _ _ _ (eq-eqb _ _ z))
next_found last ts (Some x) r e h =
    let is : x ≡ first_above last ts = ap (λ o. unwrap_or o 0) e ∙ first_found last ts in
    let above = found_higher last x ts (sym e) in
    ap (λ o. unwrap_or o 0) h ∙ is
    ∙ ⊎_elim (λ b. absurd (let z = eqb-true _ _ b in omega (arith, z, is, above))) (λ b. sym (cond-false _ _ _ b)) (cases_Bool (first_above last ts == 0))

-- the thread at the place that the remainder says; 0 where there is none
pub seed_found : (s : ℕ) (ts : List ℕ) (o r : Option ℕ) → SomeIff o (0 < length ts) (s % length ts) → MatchOption o (r ≡ None) (λ n. r ≡ slice_get ts n) → unwrap_or r 0 ≡ get_or ts (s % length ts) 0
seed_found s ts None r e h = ap (λ o. unwrap_or o 0) h ∙ sym (get_or_past ts (s % length ts) 0 (⊎_elim (λ l. absurd (e l)) (λ l. omega arith) (cases_lt 0 (length ts))))
seed_found s ts (Some n) r e h = ap (λ o. unwrap_or o 0) h ∙ unwrap_or-slice_get ts n 0 ∙ ap (λ k. get_or ts k 0) e.1
