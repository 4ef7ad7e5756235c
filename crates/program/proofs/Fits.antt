-- What a well-formed program gives.
use Rattle.std.proofs.Common.{◌≡◌, ℕ, ◌<◌, ◌≤◌, true, leb, List, [], ◌∷◌, length, get_or, Some, None, vec_len, sym, refl, ap, ◌∙◌, subst, arith}
use Rattle.std.specs.List.{slice_get}
use Rattle.std.proofs.lemmas.Option.{slice_get-get_or, slice_get_past}
use Rattle.std.proofs.lemmas.List.{get_or_past}
use Rattle.std.proofs.lemmas.Bool.{and_parts, leb-true}
use Rattle.std.proofs.lemmas.Bool.Decides.{nat_tests}
use Rattle.program.specs.declared.Instruction.{Instruction}
use Rattle.program.specs.declared.Program.{Program}
use Rattle.program.specs.Form.{each, text_fits, fits, Usable}
use Rattle.program.specs.Programs.{texts, text_of, fetched}
use Rattle.program.proofs.Each.{each_at}
use Rattle.program.proofs.Rows.{rows_length}

-- a program has as many threads as texts
pub texts_length : (p : Program) → vec_len p.texts ≡ length (texts p)
texts_length p = rows_length p.texts

pub few : (p : Program) → length (texts p) ≤ 8
few p = omega (arith, p.few, texts_length p)

-- there is no text past the last thread
pub text_past : (p : Program) (t : ℕ) → length (texts p) < t → text_of p t ≡ []
text_past p t h = get_or_past ([] ∷ texts p) t [] (omega arith)

-- an instruction that fits can be made
usable : (n : ℕ) (i : Instruction) → fits n i ≡ true → Usable i
usable n i h = record {
  low = grind (arith, nat_tests);
  high = grind (arith, nat_tests);
  a = grind (arith, nat_tests);
  register = λ x y. grind (arith, nat_tests);
  variable = λ x y. grind (arith, nat_tests);
  object = λ x. grind (arith, nat_tests);
}

-- where there is an instruction at the place, it can be made
pub fetched_at : (p : Program) (t place : ℕ) (is : List Instruction) (d : Instruction) → is ≡ text_of p t → place < length is → (Some (get_or is place d) ≡ fetched p t place) × ((place < 128) × Usable (get_or is place d))
fetched_at p t place is d e lt =
    let n = length is in
    let f = and_parts (leb n 128) (each (fits n) is) (subst (λ l. text_fits l ≡ true) (sym e) (each_at text_fits ([] ∷ texts p) [] t p.fit (λ _. refl))) in (
      sym (slice_get-get_or is place d lt) ∙ ap (λ l. slice_get l place) e,
      (omega (arith, leb-true n 128 f.0), usable n (get_or is place d) (each_at (fits n) is d place f.1 (λ ge. absurd (omega arith)))),
    )

-- past a thread's text, and past thread 8, there is none
pub fetched_past : (p : Program) (t place : ℕ) → length (text_of p t) ≤ place → None ≡ fetched p t place
fetched_past p t place h = sym (slice_get_past (text_of p t) place h)

pub fetched_none : (p : Program) (t place : ℕ) → 8 < t → None ≡ fetched p t place
fetched_none p t place h = fetched_past p t place (let f = few p in let e = ap length (text_past p t (omega arith)) in omega arith)
