-- What the arrays hold after a step is what the machine's step gives.
use Rattle.std.proofs.Common.{◌≡◌, ℕ, suc, ◌-◌, Bool, true, false, cond, ◌&&◌, List, Some, sym, ap, ◌∙◌, subst, arith}
use mathlib.Core.Option.{some}
use Rattle.std.proofs.lemmas.Bool.{and_parts}
use Rattle.machine.specs.declared.Machine.{Machine}
use Rattle.program.specs.declared.Instruction.{Instruction}
use Rattle.program.specs.declared.Program.{Program}
use Rattle.machine.specs.Machine.{Code, Able, object, here, free, rises, perform, step, step_at, steps_at}
use Rattle.machine.specs.Rules.{Steps}
use Rattle.program.specs.Programs.{fetched}
use Rattle.machine.specs.View.{Sized, Standing, Stepped, code_of, each_of, item_of, meaning, means, performed, view}
use Rattle.machine.proofs.Decides.{said, says_free}
use Rattle.machine.proofs.Laws as laws
use Rattle.machine.proofs.Views.{fits, performs}

module _ (q : Program) (limits : List ℕ) (same : limits ≡ q.limits) (m : Machine) (t : ℕ) (i : Instruction) (stands : Standing m t i) (sized : Sized m) (found : Some i ≡ fetched q t ((view m).thread t).place) where
  abbrev p : Code
  p = code_of q

  -- whether the instruction can be made, and its numbers can rise, for thread k and these limits
  abbrev test_by : List ℕ → ℕ → Bool
  test_by ls k = free (each_of ls) k (meaning i) (item_of m (object (meaning i))).value && rises (meaning i) ((view m).thread k) (item_of m (object (meaning i)))

  abbrev test : ℕ → Bool
  test k = test_by q.limits k

  own : suc (t - 1) ≡ t
  own = let h = stands.one in omega arith

  at : here p (view m) t ≡ some (meaning i)
  at = sym (ap means found)

  after : view (performed (t - 1) (meaning i) m) ≡ step p t (view m)
  after =
      performs (t - 1) (meaning i) m (let a = stands.one in let b = stands.eight in omega (arith, sized.threads)) (fits i m stands.usable sized)
      ∙ ap (λ k. perform k (meaning i) (view m)) own ∙ sym (ap (λ o. step_at o t (view m)) at)

  is_able : test t ≡ true → Able p (view m) t
  is_able e = record { c = meaning i; is = at; free = said (says_free p.limits t (meaning i) _) (and_parts _ _ e).0 }

  pub stepped : (n : Machine) (r : Bool) → r ≡ test_by limits (suc (t - 1)) → n ≡ cond r (performed (t - 1) (meaning i) m) m → Stepped q m t r n
  stepped n true e a = record {
    answer = e ∙ ap (λ l. test_by l (suc (t - 1))) same ∙ ap test own ∙ sym (ap (steps_at p (view m) t) at);
    after = ap view a ∙ after;
    rule = subst (Steps p (view m) t) (sym (ap view a ∙ after)) (laws.steps p (view m) t (is_able (sym (e ∙ ap (λ l. test_by l (suc (t - 1))) same ∙ ap test own))));
  }
  stepped n false e a = record { answer = e ∙ ap (λ l. test_by l (suc (t - 1))) same ∙ ap test own ∙ sym (ap (steps_at p (view m) t) at); after = a; rule = tt }
