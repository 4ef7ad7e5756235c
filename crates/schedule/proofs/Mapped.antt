-- What an array's `map` gives, where each call leaves its closure as it was.
use Rattle.std.proofs.Common.{◌≡◌, ℕ, zero, suc, ◌+◌, ◌<◌, length, List, map, refl, ap, ◌∙◌, sym, subst, arith}
use Rattle.std.specs.List.{slice_index_or}
use Rattle.std.specs.Array.{IsMapOf, MapsFrom}
use Rattle.std.specs.Fn.{Called}
use Rattle.std.proofs.lemmas.List.{ext_get_or, length-map, get_or-map}
use denote.Param.Members.{Mut}

module _ {F A B : Type 0} (g : Mut F (A × Unit {0}) B) (h : A → B) {f : F} (k : (x : A) (y : B) (q : F) → Called g f (x, tt) y q → (q ≡ f) × (y ≡ h x)) where
  placed : (xs : List A) (ys : List B) (i n : ℕ) (p : F) → p ≡ f → MapsFrom g p xs ys i n → (j : ℕ) (d : A) (e : B) → j < n → slice_index_or ys (i + j) e ≡ h (slice_index_or xs (i + j) d)
  placed xs ys i zero p s m j d e l = absurd (omega arith)
  placed xs ys i (suc n) p s m zero d e l =
      let c = k m.1 m.2 m.0 (subst (λ w. Called g w (m.1, tt) m.2 m.0) s m.5) in
      let z : i + 0 ≡ i = omega arith in
      ap (λ w. slice_index_or ys w e) z ∙ m.4.1 e ∙ c.1 ∙ ap h (sym (ap (λ w. slice_index_or xs w d) z ∙ m.3.1 d))
  placed xs ys i (suc n) p s m (suc j) d e l =
      let c = k m.1 m.2 m.0 (subst (λ w. Called g w (m.1, tt) m.2 m.0) s m.5) in
      let z : i + suc j ≡ i + 1 + j = omega arith in
      ap (λ w. slice_index_or ys w e) z ∙ placed xs ys (i + 1) n m.0 c.0 m.6 j d e (omega arith) ∙ ap (λ w. h (slice_index_or xs w d)) (sym z)

  pub mapped : (xs : List A) (ys : List B) (n : ℕ) (d : A) (e : B) → length xs ≡ n → IsMapOf g f xs ys n → ys ≡ map h xs
  mapped xs ys n d e z m =
      ext_get_or e ys (map h xs) (m.long ∙ sym z ∙ sym (length-map xs h))
      (λ j l.
      let a : 0 + j ≡ j = omega arith in
      ap (λ w. slice_index_or ys w e) (sym a) ∙ placed xs ys 0 n f refl m.each j d e (omega (arith, m.long))
      ∙ ap (λ w. h (slice_index_or xs w d)) a
      ∙ sym (get_or-map h xs j d e (omega (arith, z, m.long))))
