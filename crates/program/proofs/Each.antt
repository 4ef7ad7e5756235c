-- A test of each element.
use Rattle.std.proofs.Common.{◌≡◌, ℕ, zero, suc, ◌≤◌, Bool, true, ◌&&◌, List, [], ◌∷◌, ◌++◌, length, get_or, Some, Option, sym, ap, ◌∙◌, arith}
use Rattle.std.specs.Option.{option_to_list}
use Rattle.std.proofs.lemmas.Bool.{and_parts, and_from}
use Rattle.std.proofs.lemmas.Bool.Decides.{nat_tests}
use Rattle.program.specs.Form.{each}

module _ {A : Type 0} (f : A → Bool) where
  each_last : (xs : List A) (x : A) → each f (xs ++ x ∷ []) ≡ (each f xs && f x)
  each_last [] x = grind (arith, nat_tests)
  each_last (y ∷ xs) x = let again = each_last xs x in grind (arith, nat_tests)

  pub each_push : (xs : List A) (x : A) {more : List A} → more ≡ xs ++ x ∷ [] → each f xs ≡ true → f x ≡ true → each f more ≡ true
  each_push xs x e h k = ap (each f) e ∙ each_last xs x ∙ and_from (each f xs) (f x) h k

  pub each_pop : (xs : List A) (o : Option A) (x : A) {more : List A} → o ≡ Some x → more ≡ xs ++ option_to_list o → each f more ≡ true → (each f xs ≡ true) × (f x ≡ true)
  each_pop xs o x p e h = and_parts (each f xs) (f x) (sym (ap (each f) (e ∙ ap (λ o. xs ++ option_to_list o) p) ∙ each_last xs x) ∙ h)

  -- one of those that all pass, or past them what passes there
  pub each_at : (xs : List A) (d : A) (k : ℕ) → each f xs ≡ true → (length xs ≤ k → f d ≡ true) → f (get_or xs k d) ≡ true
  each_at [] d k h e = e (omega arith)
  each_at (x ∷ xs) d zero h e = (and_parts _ _ h).0
  each_at (x ∷ xs) d (suc k) h e = each_at xs d k (and_parts _ _ h).1 (λ ge. e (omega arith))
