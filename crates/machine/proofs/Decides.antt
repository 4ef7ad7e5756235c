-- The tests say what they test.
use Rattle.std.proofs.Common.{◌≡◌, ℕ, ◌<◌, Bool, true, false, eqb, ltb, sym, refl, ◌∙◌, subst, arith}
use mathlib.Core.Option.{Option, none, some}
use Rattle.std.proofs.lemmas.Bool.{ltb-true, ltb-false, eqb-true, eqb-false}
use Rattle.machine.specs.declared.Operation.TheVariants.{P, V, Lock, Unlock}
use Rattle.machine.specs.Says.{Says}
use Rattle.machine.specs.Machine.{Instr, Code, State, object, here, Free, free, Able, able, able_at}

-- what an answer says, once it is known
pub said : {X : Type 0} {r : Bool} → Says r X → r ≡ true → X
said {X} {r} s h = subst (λ (b : Bool). Says b X) h s

pub denied : {X : Type 0} {r : Bool} → Says r X → r ≡ false → X → ⊥
denied {X} {r} s h = subst (λ (b : Bool). Says b X) h s

pub says_lt : (a b : ℕ) → Says (ltb a b) (a < b)
says_lt a b = go (ltb a b) refl
  where
    go : (r : Bool) → ltb a b ≡ r → Says r (a < b)
    go true e = ltb-true a b e
    go false e = λ h. let l = ltb-false a b e in omega arith

pub says_eq : (a b : ℕ) → Says (eqb a b) (a ≡ b)
says_eq a b = go (eqb a b) refl
  where
    go : (r : Bool) → eqb a b ≡ r → Says r (a ≡ b)
    go true e = eqb-true a b e
    go false e = eqb-false a b e

pub says_free : (limits : ℕ → ℕ) (i : ℕ) (c : Instr) (x : ℕ) → Says (free limits i c x) (Free limits i c x)
says_free limits i (Instr.local c) x = tt
says_free limits i (Instr.read a v) x = tt
says_free limits i (Instr.write a v) x = tt
says_free limits i (Instr.synchronise P n) x = says_lt 0 x
says_free limits i (Instr.synchronise V n) x = says_lt x (limits n)
says_free limits i (Instr.synchronise Lock n) x = says_eq x 0
says_free limits i (Instr.synchronise Unlock n) x = says_eq x i

pub says_able : (p : Code) (m : State) (i : ℕ) → Says (able p m i) (Able p m i)
says_able p m i = go (here p m i) refl
  where
    at : (c : Instr) → here p m i ≡ some c → (r : Bool) → Says r (Free p.limits i c (m.item (object c)).value) → Says r (Able p m i)
    at c e true s = record { c = c; is = e; free = s }
    at c e false s = λ a. let same : a.c ≡ c = cc (sym a.is ∙ e) in s (subst (λ (d : Instr). Free p.limits i d (m.item (object d)).value) same a.free)

    go : (o : Option Instr) → here p m i ≡ o → Says (able_at p m i o) (Able p m i)
    go none e = λ a. let z : ◌≡◌ {A = ℕ} 0 1 = cc (sym e ∙ a.is) in omega arith
    go (some c) e = at c e (free p.limits i c (m.item (object c)).value) (says_free p.limits i c (m.item (object c)).value)
