-- An encoding is read back.
use Rattle.std.proofs.Common.{◌≡◌, ℕ, ◌+◌, ◌-◌, ◌*◌, ◌/◌, ◌%◌, ◌<◌, ◌≤◌, max, Bool, true, ◌&&◌, leb, List, [], ◌∷◌, ◌++◌, length, get_or, take, drop, Ok, Result, sym, refl, ap, ◌∙◌, subst, append_assoc, append-nil, arith}
use Rattle.std.specs.List.{flat_map}
use Rattle.std.proofs.lemmas.List.{length-append, length-drop, take_at}
use Rattle.std.proofs.lemmas.Bool.{and_parts, leb-true, false≢true}
use Rattle.std.proofs.lemmas.Bool.Decides.{nat_tests}
use Rattle.program.specs.declared.faults.Fault.{Fault}
use Rattle.program.specs.declared.Instruction.{Instruction}
use Rattle.program.specs.Form.{each, fits, text_fits, limits_fit, a_bound, b_bound, Parts}
use Rattle.program.specs.Reading.{then, byte, half, instruction, repeated, one, text, starts, limits, program}
use Rattle.program.specs.Encoding.{instruction_bytes, text_bytes, encoded, Begins}
use Rattle.program.proofs.Chains.{row_made}
use Rattle.program.proofs.Spans.{Span, first, second, front}

-- there are as many limits as starts
limits_length : (ss ls : List ℕ) → limits_fit ss ls ≡ true → length ls ≡ length ss
limits_length [] [] h = refl
limits_length [] (l ∷ ls) h = absurd (false≢true h)
limits_length (s ∷ ss) [] h = absurd (false≢true h)
limits_length (s ∷ ss) (l ∷ ls) h =
    let again : limits_fit ss ls ≡ true = grind (arith, nat_tests) in
    omega (arith, limits_length ss ls again)

module _ (bs : List ℕ) where
  byte_back : (at low high x next : ℕ) (es : List ℕ) → low ≤ x → x ≤ high → Span bs at (x ∷ es) next → byte bs at low high ≡ Ok x
  byte_back at low high x next es l h s =
      let f = front at next x es s in
      let lt : at < length bs = f.0 in
      let e : get_or bs at 0 ≡ x = f.1 in
      grind (arith, nat_tests)

  half_back : (at bound x next : ℕ) → x < bound → Span bs at (x % 256 ∷ (x / 256 ∷ [])) next → half bs at bound ≡ Ok x
  half_back at bound x next h s =
      let f = front at next (x % 256) (x / 256 ∷ []) s in
      let g = front (at + 1) next (x / 256) [] (second at next (x % 256 ∷ []) (x / 256 ∷ []) s) in
      let lt : at + 1 < length bs = g.0 in
      let e : get_or bs at 0 + 256 * get_or bs (at + 1) 0 ≡ x = omega (arith, f.1, g.1) in
      grind (arith, nat_tests)

  -- three readings make an instruction
  instruction_made : (n at : ℕ) (i : Instruction) → byte bs at 1 11 ≡ Ok i.code → byte bs (at + 1) 0 (a_bound i.code - 1) ≡ Ok i.a → half bs (at + 2) (b_bound n i.code) ≡ Ok i.b → instruction bs n at ≡ Ok i
  instruction_made n at i code a b = grind (arith, nat_tests)

  instruction_back : (n at next : ℕ) (i : Instruction) → fits n i ≡ true → Span bs at (instruction_bytes i) next → instruction bs n at ≡ Ok i
  instruction_back n at next i h s =
      let rest = second at next (i.code ∷ []) (i.a ∷ (i.b % 256 ∷ (i.b / 256 ∷ []))) s in
      let two : at + 1 + 1 ≡ at + 2 = omega arith in
      let last = rw two at (second (at + 1) next (i.a ∷ []) (i.b % 256 ∷ (i.b / 256 ∷ [])) rest) in
      let code = byte_back at 1 11 i.code next _ (grind (arith, nat_tests)) (grind (arith, nat_tests)) s in
      let a = byte_back (at + 1) 0 (a_bound i.code - 1) i.a next _ (omega arith) (grind (arith, nat_tests)) rest in
      let b = half_back (at + 2) (b_bound n i.code) i.b next (grind (arith, nat_tests)) last in
      instruction_made n at i code a b

  one_back : (n at next : ℕ) (i : Instruction) → fits n i ≡ true → Span bs at (instruction_bytes i) next → one bs n at ≡ Ok (i, next)
  one_back n at next i h s = ap (λ r. then r (λ i. Ok (i, at + 4))) (instruction_back n at next i h s) ∙ ap (λ k. Ok (i, k)) (sym s.size)

  -- a reader repeated reads a list back, behind those read so far
  module _ {A : Type 0} (ok : A → Bool) (enc : A → List ℕ) (read : ℕ → Result (A × ℕ) Fault) (one_back : (at next : ℕ) (x : A) → ok x ≡ true → Span bs at (enc x) next → read at ≡ Ok (x, next)) where
    list_back : (xs : List A) (at next : ℕ) (acc : List A) → each ok xs ≡ true → Span bs at (flat_map enc xs) next → repeated read (length xs) at acc ≡ Ok (acc ++ xs, next)
    list_back [] at next acc h s =
        let e : at ≡ next = omega (arith, s.size) in
        let f = sym (append-nil acc) in
        λ i. Ok (f i, e i)
    list_back (x ∷ xs) at next acc h s =
        let p = and_parts (ok x) (each ok xs) h in
        let mid = at + length (enc x) in
        ap (λ r. then r (λ r. repeated read (length xs) r.1 (acc ++ r.0 ∷ []))) (one_back at mid x p.0 (first at next (enc x) (flat_map enc xs) s))
        ∙ list_back xs mid next (acc ++ x ∷ []) p.1 (second at next (enc x) (flat_map enc xs) s)
        ∙ ap (λ l. Ok (l, next)) (append_assoc acc (x ∷ []) xs)

  text_back : (at next : ℕ) (is : List Instruction) → text_fits is ≡ true → Span bs at (text_bytes is) next → text bs at ≡ Ok (is, next)
  text_back at next is h s =
      let n = length is in
      let p = and_parts (leb n 128) (each (fits n) is) h in
      ap (λ r. then r (λ n. repeated (one bs n) n (at + 1) [])) (byte_back at 0 128 n next (flat_map instruction_bytes is) (omega arith) (leb-true n 128 p.0) s)
      ∙ list_back (fits n) instruction_bytes (one bs n) (one_back n) is (at + 1) next [] p.1 (second at next (n ∷ []) (flat_map instruction_bytes is) s)

  starts_back : (ss : List ℕ) (next : ℕ) → length ss ≡ 8 → Span bs 1 ss next → starts bs ≡ Ok ss
  starts_back ss next h s =
      let n : length bs - 1 ≡ length ss + length (drop next bs) = sym (length-drop 1 bs) ∙ ap length s.bytes ∙ length-append ss (drop next bs) in
      let long : 9 ≤ length bs = omega (arith, n, h) in
      let e : take 8 (drop 1 bs) ≡ ss = ap (take 8) s.bytes ∙ take_at ss (drop next bs) 8 h in
      grind (arith, nat_tests)

  limits_back : (ss ls : List ℕ) (at next : ℕ) (acc : List ℕ) → limits_fit ss ls ≡ true → Span bs at ls next → limits bs ss at acc ≡ Ok (acc ++ ls)
  limits_back [] [] at next acc h sp = ap Ok (sym (append-nil acc))
  limits_back [] (l ∷ ls) at next acc h sp = absurd (false≢true h)
  limits_back (s ∷ ss) [] at next acc h sp = absurd (false≢true h)
  limits_back (s ∷ ss) (l ∷ ls) at next acc h sp =
      let p = and_parts (leb 1 l && leb l 255) (leb s l && limits_fit ss ls) h in
      let q = and_parts (leb s l) (limits_fit ss ls) p.1 in
      ap (λ r. then r (λ l. limits bs ss (at + 1) (acc ++ l ∷ []))) (byte_back at (max s 1) 255 l next ls (grind (arith, nat_tests, p.0, q.0)) (grind (arith, nat_tests, p.0)) sp)
      ∙ limits_back ss ls (at + 1) next (acc ++ l ∷ []) q.1 (second at next (l ∷ []) ls sp)
      ∙ ap Ok (append_assoc acc (l ∷ []) ls)

  -- the encoding of a well-formed program at the front is read back
  pub program_back : (q : Parts) (n : ℕ) → Begins bs q n → program bs ≡ Ok (q, n)
  program_back q n b =
      let f = b.well_formed in
      let tail = q.limits ++ flat_map text_bytes q.texts in
      let all : Span bs 0 (encoded q) n = record { bytes = b.front; size = omega (arith, b.taken) } in
      let body = second 0 n (length q.texts ∷ []) (q.starts ++ tail) all in
      let nine : 1 + length q.starts ≡ 9 = omega (arith, f.eight) in
      let seventeen : 9 + length q.limits ≡ 17 = omega (arith, limits_length q.starts q.limits f.limited, f.eight) in
      let lim = subst (λ k. Span bs k tail n) nine (second 1 n q.starts tail body) in
      let thr = subst (λ k. Span bs k (flat_map text_bytes q.texts) n) seventeen (second 9 n q.limits (flat_map text_bytes q.texts) lim) in
      row_made (starts bs) (λ ss. limits bs ss 9 []) (λ t. repeated (text bs) t 17 []) q n (byte bs 0 1 8) (length q.texts)
      (byte_back 0 1 8 (length q.texts) n (q.starts ++ tail) f.some f.few all)
      (starts_back q.starts _ f.eight (first 1 n q.starts tail body))
      (limits_back q.starts q.limits 9 _ [] f.limited (first 9 n q.limits (flat_map text_bytes q.texts) lim))
      (list_back text_fits text_bytes (text bs) text_back q.texts 17 n [] f.fit thr)
