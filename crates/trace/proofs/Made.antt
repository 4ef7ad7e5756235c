-- What an array that `array::from_fn` made holds.
use Rattle.std.proofs.Common.{◌≡◌, ℕ, zero, suc, ◌+◌, ◌<◌, List, get_or, map, sym, subst, arith}
use Rattle.std.specs.Array.{IsFromFnResult, IsFromFnResultFrom}
use Rattle.std.specs.Fn.{Called, Mut}
use Rattle.std.specs.List.{range_with_len}
use Rattle.std.proofs.lemmas.List.FromFn.{fill_by_all}

-- a closure that stays as it is, of each call of which P holds
module _ {F B : Type 0} (g : Mut F (ℕ × Unit {0}) B) (P : ℕ → B → Type 0) (f : F) (one : (i : ℕ) (y : B) (q : F) → Called g f (i, tt) y q → P i y × (q ≡ f)) where
  pub each_made : (ys : List B) (n i : ℕ) → IsFromFnResultFrom g f ys i n → (k j : ℕ) (d : B) → k < n → i + k ≡ j → P j (get_or ys j d)
  each_made ys zero i r k j d lt e = absurd (omega arith)
  each_made ys (suc n) i r zero j d lt e =
      let here = one i r.1 r.0 r.3 in
      let same : i ≡ j = omega arith in
      subst (λ j. P j (get_or ys j d)) same (subst (P i) (sym (r.2.1 d)) here.0)
  each_made ys (suc n) i r (suc k) j d lt e =
      let here = one i r.1 r.0 r.3 in
      each_made ys n (i + 1) (subst (λ q. IsFromFnResultFrom g q ys (i + 1) n) here.1 r.4) k j d (omega arith) (omega arith)

-- a closure that stays as it is and gives h of each number makes the array of these
pub made_by : {F B : Type 0} {g : Mut F (ℕ × Unit {0}) B} (h : ℕ → B) (f : F) → ((i : ℕ) (y : B) (q : F) → Called g f (i, tt) y q → (y ≡ h i) × (q ≡ f)) → (ys : List B) (n : ℕ) (d : B) → IsFromFnResult g f ys n → ys ≡ map h (range_with_len 0 n)
made_by {g} h f pure ys n d r = fill_by_all h ys n d r.long (λ k lt. each_made g (λ i y. y ≡ h i) f pure ys n 0 r.each k k d lt (omega arith))
