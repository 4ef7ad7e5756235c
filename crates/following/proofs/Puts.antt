-- Two changes of a map can be made in either order, shown from the laws of one change.
use Rattle.std.proofs.Common.{◌≡◌, ◌≢◌, sym, refl, ap, ◌∙◌}
use mathlib.Core.Path.{fun_ext}
use Rattle.machine.specs.Map.{pick, put}
use Rattle.machine.proofs.Maps.{put_same, put_other, put_is}

module _ {K V : Type 0} (same : Discrete K) (f : K → V) where
  -- at two places, where what is put does not depend on the order
  pub put_cross : (k l : K) (x y x' y' : V) → k ≢ l → x' ≡ x → y' ≡ y → put same (put same f k x) l y' ≡ put same (put same f l y) k x'
  put_cross k l x y x' y' h ex ey = fun_ext (λ n. go n (same n k) (same n l))
    where
      go : (n : K) (d : Dec (n ≡ k)) (e : Dec (n ≡ l)) → pick e y' (pick d x (f n)) ≡ pick d x' (pick e y (f n))
      go n (yes a) (yes b) = absurd (h (sym a ∙ b))
      go n (yes a) (no b) = sym ex
      go n (no a) (yes b) = ey
      go n (no a) (no b) = refl

  -- at two places, each by what stood there
  pub put_apart : (k l : K) (F G : V → V) → k ≢ l → put same (put same f k (F (f k))) l (G (put same f k (F (f k)) l)) ≡ put same (put same f l (G (f l))) k (F (put same f l (G (f l)) k))
  put_apart k l F G h = put_cross k l (F (f k)) (G (f l)) _ _ h (ap F (put_other same f l (G (f l)) k h)) (ap G (put_other same f k (F (f k)) l (λ (e : l ≡ k). h (sym e))))

  -- two changes at one place are one
  put_twice : (k : K) (F G : V → V) → put same (put same f k (F (f k))) k (G (put same f k (F (f k)) k)) ≡ put same f k (G (F (f k)))
  put_twice k F G =
      let g = put same f k (F (f k)) in
      let one = put_same same f k (F (f k)) in
      put_is same f k (G (F (f k))) (put same g k (G (g k))) (put_same same g k (G (g k)) ∙ ap G one) (λ n h. put_other same g k (G (g k)) n h ∙ put_other same f k (F (f k)) n h)

  -- at one place, where the two changes of what stood there swap
  pub put_level : (k : K) (F G : V → V) → G (F (f k)) ≡ F (G (f k)) → put same (put same f k (F (f k))) k (G (put same f k (F (f k)) k)) ≡ put same (put same f k (G (f k))) k (F (put same f k (G (f k)) k))
  put_level k F G e = put_twice k F G ∙ ap (put same f k) e ∙ sym (put_twice k G F)
