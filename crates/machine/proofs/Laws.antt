-- The rules are what the machine's step computes, and what follows for runs.
use Rattle.std.proofs.Common.{◌≡◌, ℕ, suc, ◌+◌, Bool, true, false, cond, eqb, ◌≢◌, List, [], ◌∷◌, sym, refl, ap, ◌∙◌, subst, arith}
use mathlib.Core.Option.{Option, some}
use Rattle.std.proofs.lemmas.Bool.{eqb-true, eqb-false, eq-eqb, ne_eqb}
use Rattle.std.proofs.lemmas.Bool.Decides.{nat_tests}
use Rattle.machine.specs.declared.Operation.TheVariants.{P, V, Lock, Unlock}
use Rattle.machine.specs.declared.Thread.{Thread}
use Rattle.machine.specs.declared.Item.{Item}
use Rattle.machine.specs.Map.{pick, put, same_number}
use Rattle.machine.specs.Words.{times}
use Rattle.machine.specs.Machine.{Local, Instr, Object, same_object, object, State, Code, start, next, here, perform, step, step_at, Free, Able, Run, after}
use Rattle.machine.specs.Rules.{Becomes, Makes, loads, adds, subtracts, jumps_at_zero, goes_on, jumps, reads, writes, takes, gives, locks, unlocks, Steps, Leads, there, then, RunLaws, register, onward, registers}
use Rattle.machine.proofs.Maps.{put_same, put_other, put_is}

module _ (m : State) (i : ℕ) (r : List ℕ) (q : ℕ) (o : Object) (x : Item) where
  -- the one state that m becomes
  became : State
  became = record {
    thread = put same_number m.thread i (record { registers = r; place = q; count = suc (m.thread i).count });
    item = put same_object m.item o x;
  }

  becomes : Becomes m i r q o x became
  unfolding became
  becomes = record {
    own = put_same same_number m.thread i (record { registers = r; place = q; count = suc (m.thread i).count });
    others = put_other same_number m.thread i (record { registers = r; place = q; count = suc (m.thread i).count });
    acted_on = put_same same_object m.item o x;
    left_alone = put_other same_object m.item o x;
  }

  one_state : (n : State) → Becomes m i r q o x n → n ≡ became
  unfolding became
  one_state n b =
      let ts = put_is same_number m.thread i (record { registers = r; place = q; count = suc (m.thread i).count }) n.thread b.own b.others in
      let is = put_is same_object m.item o x n.item b.acted_on b.left_alone in
      λ t. record { thread = ts t; item = is t }

module _ (p : Code) (m : State) (i : ℕ) where
  -- a conditional jump goes where its test says
  branch : (a k : ℕ) (b : Bool) → eqb (register p m i a) 0 ≡ b → Makes p m i (Instr.local (Local.jump_if_zero a k)) (perform i (Instr.local (Local.jump_if_zero a k)) m)
  unfolding became
  branch a k true e = jumps_at_zero (eqb-true (register p m i a) 0 e) (rw e (becomes m i (registers p m i) k Object.nothing (m.item Object.nothing)))
  branch a k false e = goes_on (eqb-false (register p m i a) 0 e) (rw e (becomes m i (registers p m i) (onward p m i) Object.nothing (m.item Object.nothing)))

  -- an instruction whose object is free is made as the step computes it
  pub makes : (c : Instr) → Free p.limits i c (m.item (object c)).value → Makes p m i c (perform i c m)
  unfolding became
  makes (Instr.local (Local.load a k)) f = loads (becomes m i _ _ _ _)
  makes (Instr.local (Local.add a b)) f = adds (becomes m i _ _ _ _)
  makes (Instr.local (Local.subtract a b)) f = subtracts (becomes m i _ _ _ _)
  makes (Instr.local (Local.jump_if_zero a k)) f = branch a k (eqb (register p m i a) 0) refl
  makes (Instr.local (Local.jump k)) f = jumps (becomes m i _ _ _ _)
  makes (Instr.read a v) f = reads (becomes m i _ _ _ _)
  makes (Instr.write a v) f = writes (becomes m i _ _ _ _)
  makes (Instr.synchronise P n) f = takes f (becomes m i _ _ _ _)
  makes (Instr.synchronise V n) f = gives f (becomes m i _ _ _ _)
  makes (Instr.synchronise Lock n) f = locks f (becomes m i _ _ _ _)
  makes (Instr.synchronise Unlock n) f = unlocks f (becomes m i _ _ _ _)

  -- and in no other way
  pub unique : {c : Instr} {n : State} → Makes p m i c n → Free p.limits i c (m.item (object c)).value × (n ≡ perform i c m)
  unfolding became
  unique (loads {n = n} b) = (tt, one_state m i _ _ _ _ n b)
  unique (adds {n = n} b) = (tt, one_state m i _ _ _ _ n b)
  unique (subtracts {n = n} b) = (tt, one_state m i _ _ _ _ n b)
  unique (jumps_at_zero {a = a} {n = n} h b) = (tt, let e = eq-eqb (register p m i a) 0 h in rw e (one_state m i _ _ _ _ n b))
  unique (goes_on {a = a} {n = n} h b) = (tt, let e = ne_eqb (register p m i a) 0 h in rw e (one_state m i _ _ _ _ n b))
  unique (jumps {n = n} b) = (tt, one_state m i _ _ _ _ n b)
  unique (reads {n = n} b) = (tt, one_state m i _ _ _ _ n b)
  unique (writes {n = n} b) = (tt, one_state m i _ _ _ _ n b)
  unique (takes {n = n} h b) = (h, one_state m i _ _ _ _ n b)
  unique (gives {n = n} h b) = (h, one_state m i _ _ _ _ n b)
  unique (locks {n = n} h b) = (h, one_state m i _ _ _ _ n b)
  unique (unlocks {n = n} h b) = (h, one_state m i _ _ _ _ n b)

module _ (p : Code) where
  -- the instruction decides the step
  step_is : (m : State) (i : ℕ) (c : Instr) → here p m i ≡ some c → step p i m ≡ perform i c m
  step_is m i c e = ap (λ o. step_at o i m) e

  pub steps : (m : State) (i : ℕ) → Able p m i → Steps p m i (step p i m)
  steps m i a = record {
    c = a.c;
    is = a.is;
    rule = subst (Makes p m i a.c) (sym (step_is m i a.c a.is)) (makes p m i a.c a.free);
  }

  only_able : (m n : State) (i : ℕ) → Steps p m i n → Able p m i
  only_able m n i s = record { c = s.c; is = s.is; free = (unique p m i s.rule).0 }

  only_step : (m n : State) (i : ℕ) → Steps p m i n → n ≡ step p i m
  only_step m n i s = (unique p m i s.rule).1 ∙ sym (step_is m i s.c s.is)

  others : (m n : State) (i : ℕ) → Steps p m i n → (k : ℕ) → k ≢ i → n.thread k ≡ m.thread k
  others m n i s k h =
      let l = next s.c (m.thread i) (m.item (object s.c)).value in
      ap (λ (u : State). u.thread k) (unique p m i s.rule).1 ∙ put_other same_number m.thread i l k h

  objects : (m n : State) (i : ℕ) (s : Steps p m i n) (o : Object) → o ≢ object s.c → n.item o ≡ m.item o
  objects m n i s o h =
      ap (λ (u : State). u.item o) (unique p m i s.rule).1 ∙ put_other same_object m.item (object s.c) _ o h

  leads : (m : State) (us : List ℕ) → Run p m us → Leads p m us (after p m us)
  leads m [] r = there
  leads m (i ∷ us) r = then (steps m i r.0) (leads (step p i m) us r.1)

  determined : (m n : State) (us : List ℕ) → Leads p m us n → Run p m us × (n ≡ after p m us)
  determined m n [] there = (tt, refl)
  determined m n (i ∷ us) (then {n = k} s l) =
      let e = only_step m k i s in
      let d = determined k n us l in
      ((only_able m k i s, subst (λ (u : State). Run p u us) e d.0), d.1 ∙ ap (λ (u : State). after p u us) e)

  next_count : (c : Instr) (l : Thread) (x : ℕ) → (next c l x).count ≡ suc l.count
  next_count (Instr.local c) l x = refl
  next_count (Instr.read a v) l x = refl
  next_count (Instr.write a v) l x = refl
  next_count (Instr.synchronise o n) l x = refl

  -- an able thread's step raises its count by 1, and no other's
  pub one_more : (m : State) (i k : ℕ) → Able p m i → ((step p i m).thread k).count ≡ cond (eqb i k) 1 0 + (m.thread k).count
  one_more m i k a = subst (λ (u : Option Instr). ((step_at u i m).thread k).count ≡ cond (eqb i k) 1 0 + (m.thread k).count) (sym a.is) (go (same_number k i))
    where
      l : Thread
      l = next a.c (m.thread i) (m.item (object a.c)).value

      go : (d : Dec (k ≡ i)) → (pick d l (m.thread k)).count ≡ cond (eqb i k) 1 0 + (m.thread k).count
      go (yes e) = let f = ap (λ (n : ℕ). (m.thread n).count) e in let n = next_count a.c (m.thread i) (m.item (object a.c)).value in grind (arith, nat_tests)
      go (no h) = grind (arith, nat_tests)

  count_from : (m : State) (us : List ℕ) → Run p m us → (i : ℕ) → ((after p m us).thread i).count ≡ times i us + (m.thread i).count
  count_from m [] r i = omega arith
  count_from m (k ∷ us) r i = omega (arith, count_from (step p k m) us r.1 i, one_more m k i r.0)

  -- no thread has made a step at first
  none_made : (i : ℕ) → ((start p).thread i).count ≡ 0
  none_made i = grind (arith, nat_tests)

  pub run_laws : RunLaws p
  run_laws = record {
    able = λ m i a. (step p i m, steps m i a);
    only_able = only_able;
    threads = others;
    objects = objects;
    leads = leads;
    determined = determined;
    counted = λ us r i. omega (arith, count_from (start p) us r i, none_made i);
  }
