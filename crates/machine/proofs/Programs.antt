-- A program's codes are proper.
use Rattle.std.proofs.Common.{◌≡◌, ℕ, ◌<◌, ◌≤◌, eqb, ◌⊎◌, length, get_or, sym, refl, ap, ◌∙◌, subst, inl, inr, arith}
use mathlib.Core.Option.{none, some}
use Rattle.std.specs.List.{slice_get}
use Rattle.std.proofs.lemmas.Bool.{cases_lt, cond_both}
use Rattle.std.proofs.lemmas.Bool.Decides.{nat_tests}
use Rattle.program.specs.declared.Instruction.{Instruction}
use Rattle.program.specs.declared.Program.{Program}
use Rattle.program.specs.Form.{Usable}
use Rattle.program.specs.Programs.{fetched, text_of, texts}
use Rattle.program.proofs.Fits.{few, fetched_at, fetched_past, text_past, texts_length}
use Rattle.machine.specs.Machine.{Code, Instr, object}
use Rattle.machine.specs.Proper.{InRange, Proper}
use Rattle.machine.specs.View.{code_of, meaning, means}

-- the object of an instruction that can be made is one that there is
pub in_range : (i : Instruction) → Usable i → InRange (object (meaning i))
in_range i u =
    let Q : Instr → Type 0 = λ c. InRange (object c) in
    cond_both (eqb i.code 1) _ _ Q (λ _. tt) (λ n1. cond_both (eqb i.code 2) _ _ Q (λ _. tt) (λ n2.
    cond_both (eqb i.code 3) _ _ Q (λ _. tt) (λ n3. cond_both (eqb i.code 4) _ _ Q (λ _. tt) (λ n4.
    cond_both (eqb i.code 5) _ _ Q (λ _. tt) (λ n5. cond_both (eqb i.code 6) _ _ Q (λ e. grind (arith, nat_tests)) (λ n6.
    cond_both (eqb i.code 7) _ _ Q (λ e. grind (arith, nat_tests)) (λ n7. cond_both (eqb i.code 8) _ _ Q (λ e. grind (arith, nat_tests)) (λ n8.
    cond_both (eqb i.code 9) _ _ Q (λ e. grind (arith, nat_tests)) (λ n9. cond_both (eqb i.code 10) _ _ Q (λ e. grind (arith, nat_tests)) (λ n10. grind (arith, nat_tests)))))))))))

module _ (q : Program) where
  -- a thread that there is not has no instruction
  others : (i k : ℕ) → (i ≡ 0) ⊎ (length (texts q) < i) → (code_of q).at i k ≡ none
  others i k (inl e) = ap (λ t. means (fetched q t k)) e
  others i k (inr h) = ap (λ l. means (slice_get l k)) (text_past q i h)

  -- and each instruction's object is one that there is
  known : (i k : ℕ) (c : Instr) → (code_of q).at i k ≡ some c → InRange (object c)
  known i k c e = elim (cases_lt k (length (text_of q i))) [
    | inl h ↦ (let d : Instruction = record { code = 0; a = 0; b = 0 } in
        let f = fetched_at q i k (text_of q i) d refl h in
        let same : meaning (get_or (text_of q i) k d) ≡ c = cc (ap means f.0 ∙ e) in
        subst (λ d. InRange (object d)) same (in_range _ f.1.1))
    | inr h ↦ (let z : ◌≡◌ {A = ℕ} 0 1 = cc (ap means (fetched_past q i k h) ∙ e) in absurd (omega arith))
  ]

  -- so the codes are proper
  pub proper : Proper (code_of q)
  proper = record { least = omega (arith, q.some, texts_length q); most = few q; others = others; known = known }

-- a thread with an instruction is one of the program's
pub thread_of : (p : Code) → Proper p → (i k : ℕ) (c : Instr) → p.at i k ≡ some c → (1 ≤ i) × (i ≤ p.threads)
thread_of p ok i k c e = (elim (cases_lt 0 i) [ inl h ↦ h | inr h ↦ never (inl (omega arith)) ], elim (cases_lt p.threads i) [ inl h ↦ never (inr h) | inr h ↦ h ])
  where
    -- it is no other thread
    never : {X : Type 0} → (i ≡ 0) ⊎ (p.threads < i) → X
    never out = let z : ◌≡◌ {A = ℕ} 0 1 = cc (sym (ok.others i k out) ∙ e) in absurd (omega arith)
