-- The threads of a set are the places at true, each 1 further on.
use Rattle.std.proofs.Common.{◌≡◌, ℕ, ◌+◌, arith, Bool, true, false, List, [], ◌∷◌, map, length, refl, ap, ◌∙◌, cond}
use Rattle.std.specs.List.{enumerate_from, filter, sum_by}
use Rattle.std.proofs.lemmas.List.Sums.{sum_by-cons}
use Rattle.schedule.specs.Threads.{threads_from}

-- the places at true, the first one being place t, each 1 further on
abbrev pub kept_from : ℕ → List Bool → List ℕ
kept_from t bs = map (λ p. p.0 + 1) (filter (λ p. p.1) (enumerate_from t bs))

pub kept : (t : ℕ) (bs : List Bool) → kept_from t bs ≡ threads_from (t + 1) bs
kept t [] = refl
kept t (true ∷ bs) = ap (λ ts. (t + 1) ∷ ts) (kept (t + 1) bs)
kept t (false ∷ bs) = kept (t + 1) bs

-- as many places are at true as there are threads
pub counted : (t : ℕ) (bs : List Bool) → sum_by (λ b. cond b 1 0) bs ≡ length (threads_from t bs)
counted t [] = refl
counted t (true ∷ bs) = sum_by-cons (λ b. cond b 1 0) true bs ∙ (let e = counted (t + 1) bs in omega (arith, e))
counted t (false ∷ bs) = sum_by-cons (λ b. cond b 1 0) false bs ∙ (let e = counted (t + 1) bs in omega (arith, e))
