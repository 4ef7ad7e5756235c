-- The laws of a map with one place put anew.
use Rattle.std.proofs.Common.{◌≡◌, ◌≢◌, refl, ap, ◌∙◌}
use mathlib.Core.Path.{fun_ext}
use Rattle.machine.specs.Map.{pick, put}

pub pick_yes : {A V : Type 0} (d : Dec A) (x y : V) → A → pick d x y ≡ x
pick_yes (yes _) x y a = refl
pick_yes (no h) x y a = absurd (h a)

pub pick_no : {A V : Type 0} (d : Dec A) (x y : V) → (A → ⊥) → pick d x y ≡ y
pick_no (yes a) x y h = absurd (h a)
pick_no (no _) x y h = refl

module _ {K V : Type 0} (same : Discrete K) (f : K → V) (k : K) (x : V) where
  pub put_same : put same f k x k ≡ x
  put_same = pick_yes (same k k) x (f k) refl

  pub put_other : (n : K) → n ≢ k → put same f k x n ≡ f n
  put_other n h = pick_no (same n k) x (f n) h

  -- what has x at k and is f elsewhere
  pub put_is : (g : K → V) → g k ≡ x → ((n : K) → n ≢ k → g n ≡ f n) → g ≡ put same f k x
  put_is g a b = fun_ext (λ n. go n (same n k))
    where
      go : (n : K) (d : Dec (n ≡ k)) → g n ≡ pick d x (f n)
      go n (yes e) = ap g e ∙ a
      go n (no h) = b n h
