-- Which bytes stand from one place to another.
use Rattle.std.proofs.Common.{◌≡◌, ℕ, ◌+◌, ◌-◌, ◌<◌, List, [], ◌∷◌, ◌++◌, length, get_or, drop, sym, refl, ap, ◌∙◌, append_assoc, arith}
use Rattle.std.proofs.lemmas.List.{drop_more, drop-drop, drop_at, get_or-drop, length-drop, length-append}

-- from a place to the next stand these bytes
pub record Span (bs : List ℕ) (at : ℕ) (es : List ℕ) (next : ℕ) : Type 0 where
  pub bytes : drop at bs ≡ es ++ drop next bs
  pub size : next ≡ at + length es

module _ {bs : List ℕ} where
  pub here : (at : ℕ) → Span bs at [] at
  here at = record { bytes = refl; size = omega arith }

  pub single : (at : ℕ) → at < length bs → Span bs at (get_or bs at 0 ∷ []) (at + 1)
  single at h = record { bytes = drop_more bs at 0 h; size = refl }

  -- one span after another
  pub joins : (at mid next : ℕ) (es fs : List ℕ) → Span bs at es mid → Span bs mid fs next → Span bs at (es ++ fs) next
  joins at mid next es fs a b = record {
    bytes = a.bytes ∙ ap (λ l. es ++ l) b.bytes ∙ sym (append_assoc es fs (drop next bs));
    size = omega (arith, a.size, b.size, length-append es fs);
  }

  -- the second part of a span, and the first
  pub second : (at next : ℕ) (es fs : List ℕ) → Span bs at (es ++ fs) next → Span bs (at + length es) fs next
  second at next es fs s =
      let e = ap (drop (length es)) (s.bytes ∙ append_assoc es fs (drop next bs)) in
      record {
        bytes = sym (drop-drop (length es) at bs) ∙ e ∙ drop_at es (fs ++ drop next bs) (length es) refl;
        size = omega (arith, s.size, length-append es fs);
      }

  pub first : (at next : ℕ) (es fs : List ℕ) → Span bs at (es ++ fs) next → Span bs at es (at + length es)
  first at next es fs s = record {
    bytes = s.bytes ∙ append_assoc es fs (drop next bs) ∙ ap (λ l. es ++ l) (sym (second at next es fs s).bytes);
    size = refl;
  }

  -- the first byte of a span
  pub front : (at next x : ℕ) (es : List ℕ) → Span bs at (x ∷ es) next → (at < length bs) × (get_or bs at 0 ≡ x)
  front at next x es s =
      let n : length bs - at ≡ 1 + length (es ++ drop next bs) = sym (length-drop at bs) ∙ ap length s.bytes ∙ omega arith in
      let zero : at + 0 ≡ at = omega arith in
      (omega (arith, n), ap (λ k. get_or bs k 0) (sym zero) ∙ sym (get_or-drop at bs 0 0) ∙ ap (λ l. get_or l 0 0) s.bytes)
