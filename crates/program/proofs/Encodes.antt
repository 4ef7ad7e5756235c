-- The bytes begin with the encoding of what was read, which is well formed.
use Rattle.std.proofs.Common.{◌≡◌, ℕ, zero, suc, ◌+◌, ◌-◌, ◌*◌, ◌/◌, ◌%◌, ◌<◌, ◌≤◌, max, Bool, true, ◌&&◌, leb, List, [], ◌∷◌, ◌++◌, length, get_or, take, drop, Ok, Result, sym, refl, ap, ◌∙◌, subst, append_assoc, append-nil, arith}
use Rattle.std.specs.List.{flat_map}
use Rattle.std.proofs.lemmas.List.{drop-drop, length-drop, length-take-le, take-append-drop}
use Rattle.std.proofs.lemmas.Bool.{and_from, le-leb}
use Rattle.std.proofs.lemmas.Bool.Decides.{nat_tests}
use Rattle.program.specs.declared.faults.Fault.{Fault}
use Rattle.program.specs.declared.Instruction.{Instruction}
use Rattle.program.specs.Form.{each, fits, text_fits, limits_fit, a_bound, b_bound, Parts}
use Rattle.program.specs.Reading.{byte, half, instruction, repeated, one, text, starts, limits, program}
use Rattle.program.specs.Encoding.{instruction_bytes, text_bytes, Begins}
use Rattle.program.proofs.Chains.{then_ok, row_parts}
use Rattle.program.proofs.Spans.{Span, here, single, joins}

-- an instruction fits where its parts do
fitting : (n : ℕ) (i : Instruction) → 1 ≤ i.code → i.code ≤ 11 → i.a ≤ a_bound i.code - 1 → i.b < b_bound n i.code → fits n i ≡ true
fitting n i low high a b = grind (arith, nat_tests)

module _ (bs : List ℕ) where
  byte_read : (at low high x : ℕ) → byte bs at low high ≡ Ok x → (low ≤ x) × (x ≤ high) × Span bs at (x ∷ []) (at + 1)
  byte_read at low high x h =
      let lt : at < length bs = grind (arith, nat_tests) in
      let e : get_or bs at 0 ≡ x = grind (arith, nat_tests) in
      (grind (arith, nat_tests), grind (arith, nat_tests), subst (λ y. Span bs at (y ∷ []) (at + 1)) e (single at lt))

  -- a reader repeated reads a list, behind those read so far
  module _ {A : Type 0} (ok : A → Bool) (enc : A → List ℕ) (read : ℕ → Result (A × ℕ) Fault) (one_read : (at : ℕ) (r : A × ℕ) → read at ≡ Ok r → (ok r.0 ≡ true) × Span bs at (enc r.0) r.1) where
    behind : (k at : ℕ) (acc : List A) (r : List A × ℕ) → repeated read k at acc ≡ Ok r → (xs : List A) × (r.0 ≡ acc ++ xs) × (length xs ≡ k) × (each ok xs ≡ true) × Span bs at (flat_map enc xs) r.1
    behind zero at acc r h =
        let s : r.0 ≡ acc = cc in
        let t : at ≡ r.1 = cc in
        ([], s ∙ sym (append-nil acc), refl, refl, subst (Span bs at []) t (here at))
    behind (suc k) at acc r h =
        let p = then_ok (read at) (λ r. repeated read k r.1 (acc ++ r.0 ∷ [])) r h in
        let x = p.0.0 in
        let o = one_read at p.0 p.1 in
        let q = behind k p.0.1 (acc ++ x ∷ []) r p.2 in
        let xs = q.0 in
        (x ∷ xs, q.1 ∙ append_assoc acc (x ∷ []) xs, omega (arith, q.2), and_from (ok x) (each ok xs) o.0 q.3, joins at p.0.1 r.1 (enc x) (flat_map enc xs) o.1 q.4)

    list_read : (k at : ℕ) (r : List A × ℕ) → repeated read k at [] ≡ Ok r → (length r.0 ≡ k) × (each ok r.0 ≡ true) × Span bs at (flat_map enc r.0) r.1
    list_read k at r h =
        let q = behind k at [] r h in
        subst (λ xs. (length xs ≡ k) × (each ok xs ≡ true) × Span bs at (flat_map enc xs) r.1) (sym q.1) (q.2, q.3, q.4)

  -- the limits stand behind each other, one for each start
  limits_behind : (ss : List ℕ) (at : ℕ) (acc ls : List ℕ) → limits bs ss at acc ≡ Ok ls → (xs : List ℕ) × (ls ≡ acc ++ xs) × (limits_fit ss xs ≡ true) × Span bs at xs (at + length ss)
  limits_behind [] at acc ls h =
      let s : ls ≡ acc = cc in
      let e : at ≡ at + length {A = ℕ} [] = omega arith in
      ([], s ∙ sym (append-nil acc), refl, subst (Span bs at []) e (here at))
  limits_behind (s ∷ ss) at acc ls h =
      let p = then_ok (byte bs at (max s 1) 255) (λ l. limits bs ss (at + 1) (acc ++ l ∷ [])) ls h in
      let l = p.0 in
      let o = byte_read at (max s 1) 255 l p.1 in
      let q = limits_behind ss (at + 1) (acc ++ l ∷ []) ls p.2 in
      let e : at + 1 + length ss ≡ at + length (s ∷ ss) = omega arith in
      let fit = q.2 in
      (l ∷ q.0, q.1 ∙ append_assoc acc (l ∷ []) q.0, grind (arith, nat_tests, o.0, o.1), subst (Span bs at (l ∷ q.0)) e (joins at (at + 1) (at + 1 + length ss) (l ∷ []) q.0 o.2 q.3))

  limits_read : (ss ls : List ℕ) → limits bs ss 9 [] ≡ Ok ls → (limits_fit ss ls ≡ true) × Span bs 9 ls (9 + length ss)
  limits_read ss ls h =
      let q = limits_behind ss 9 [] ls h in
      subst (λ xs. (limits_fit ss xs ≡ true) × Span bs 9 xs (9 + length ss)) (sym q.1) (q.2, q.3)

  starts_read : (ss : List ℕ) → starts bs ≡ Ok ss → (length ss ≡ 8) × Span bs 1 ss 9
  starts_read ss h =
      let long : 9 ≤ length bs = grind (arith, nat_tests) in
      let e : take 8 (drop 1 bs) ≡ ss = grind (arith, nat_tests) in
      let eight : length (take 8 (drop 1 bs)) ≡ 8 = length-take-le 8 (drop 1 bs) (simp length-drop (omega arith)) in
      let all : drop 1 bs ≡ take 8 (drop 1 bs) ++ drop 9 bs = sym (take-append-drop 8 (drop 1 bs)) ∙ ap (λ l. take 8 (drop 1 bs) ++ l) (drop-drop 8 1 bs) in
      subst (λ l. (length l ≡ 8) × Span bs 1 l 9) e (eight, record { bytes = all; size = omega (arith, eight) })

  module _ (small : (k : ℕ) → get_or bs k 0 < 256) where
    half_read : (at bound x : ℕ) → half bs at bound ≡ Ok x → (x < bound) × Span bs at (x % 256 ∷ (x / 256 ∷ [])) (at + 2)
    half_read at bound x h =
        let lt : at + 1 < length bs = grind (arith, nat_tests) in
        let e : x ≡ get_or bs at 0 + 256 * get_or bs (at + 1) 0 = grind (arith, nat_tests) in
        let low : get_or bs at 0 ≡ x % 256 = omega (arith, small at, small (at + 1)) in
        let high : get_or bs (at + 1) 0 ≡ x / 256 = omega (arith, small at, small (at + 1)) in
        let two : at + 1 + 1 ≡ at + 2 = omega arith in
        (grind (arith, nat_tests), rw (← low, ← high, ← two) (joins at (at + 1) (at + 1 + 1) (get_or bs at 0 ∷ []) (get_or bs (at + 1) 0 ∷ []) (single at (omega arith)) (single (at + 1) lt)))

    instruction_read : (n at : ℕ) (i : Instruction) → instruction bs n at ≡ Ok i → (fits n i ≡ true) × Span bs at (instruction_bytes i) (at + 4)
    instruction_read n at i h =
        let code = byte_read at 1 11 i.code (grind (arith, nat_tests)) in
        let a = byte_read (at + 1) 0 (a_bound i.code - 1) i.a (grind (arith, nat_tests)) in
        let b = half_read (at + 2) (b_bound n i.code) i.b (grind (arith, nat_tests)) in
        let two : at + 1 + 1 ≡ at + 2 = omega arith in
        let four : at + 2 + 2 ≡ at + 4 = omega arith in
        let rest = joins (at + 1) (at + 2) (at + 4) (i.a ∷ []) (i.b % 256 ∷ (i.b / 256 ∷ [])) (rw two at a.2) (rw four at b.1) in
        (fitting n i code.0 code.1 a.1 b.0, joins at (at + 1) (at + 4) (i.code ∷ []) (i.a ∷ (i.b % 256 ∷ (i.b / 256 ∷ []))) code.2 rest)

    one_read : (n at : ℕ) (r : Instruction × ℕ) → one bs n at ≡ Ok r → (fits n r.0 ≡ true) × Span bs at (instruction_bytes r.0) r.1
    one_read n at r h =
        let p = then_ok (instruction bs n at) (λ i. Ok (i, at + 4)) r h in
        let made : ◌≡◌ {A = Instruction × ℕ} (p.0, at + 4) r = cc p.2 in
        subst (λ x. (fits n x.0 ≡ true) × Span bs at (instruction_bytes x.0) x.1) made (instruction_read n at p.0 p.1)

    text_read : (at : ℕ) (r : List Instruction × ℕ) → text bs at ≡ Ok r → (text_fits r.0 ≡ true) × Span bs at (text_bytes r.0) r.1
    text_read at r h =
        let p = then_ok (byte bs at 0 128) (λ n. repeated (one bs n) n (at + 1) []) r h in
        let n = p.0 in
        let size = byte_read at 0 128 n p.1 in
        let q = list_read (fits n) instruction_bytes (one bs n) (one_read n) n (at + 1) r p.2 in
        subst (λ k. ((leb k 128 && each (fits k) r.0) ≡ true) × Span bs at (k ∷ flat_map instruction_bytes r.0) r.1) (sym q.0) (
          and_from (leb n 128) (each (fits n) r.0) (le-leb n 128 size.1) q.1,
          joins at (at + 1) r.1 (n ∷ []) (flat_map instruction_bytes r.0) size.2 q.2,
        )

    -- what is read is well formed, and the bytes begin with its encoding
    pub program_read : (q : Parts) (n : ℕ) → program bs ≡ Ok (q, n) → Begins bs q n
    program_read q n h =
        let p = row_parts (starts bs) (λ ss. limits bs ss 9 []) (λ t. repeated (text bs) t 17 []) q n (byte bs 0 1 8) h in
        let c = byte_read 0 1 8 p.0 p.1 in
        let s = starts_read q.starts p.2 in
        let l = limits_read q.starts q.limits p.3 in
        let w = list_read text_fits text_bytes (text bs) text_read p.0 17 (q.texts, n) p.4 in
        let at : 9 + length q.starts ≡ 17 = omega (arith, s.0) in
        let tail = joins 9 17 n q.limits (flat_map text_bytes q.texts) (rw at at l.1) w.2 in
        let body = joins 1 9 n q.starts (q.limits ++ flat_map text_bytes q.texts) s.1 tail in
        let all = joins 0 1 n (length q.texts ∷ []) (q.starts ++ (q.limits ++ flat_map text_bytes q.texts)) (subst (λ k. Span bs 0 (k ∷ []) 1) (sym w.0) c.2) body in
        record {
          well_formed = record { some = omega (arith, c.0, w.0); few = omega (arith, c.1, w.0); eight = s.0; limited = l.0; fit = w.1 };
          front = all.bytes;
          taken = omega (arith, all.size);
        }
