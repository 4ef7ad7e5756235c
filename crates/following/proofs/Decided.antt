-- The tests on permitted threads say what they test, from the tests on able threads and on numbers.
use Rattle.std.proofs.Common.{◌≡◌, ℕ, ◌<◌, Bool, true, false, cond, ◌&&◌, eqb, List, [], ◌∷◌, sym, refl, ap, ◌∙◌, subst}
use mathlib.Core.Option.{Option, none, some}
use Rattle.machine.specs.declared.Operation.{Operation}
use Rattle.machine.specs.declared.Operation.TheVariants.{P, V, Lock, Unlock}
use Rattle.machine.specs.declared.Item.{Item}
use Rattle.machine.specs.Says.{Says}
use Rattle.machine.specs.Machine.{Code, Instr, object, here, Able, able}
use Rattle.machine.proofs.Decides.{said, says_lt, says_eq, says_able}
use Rattle.trace.specs.declared.Event.{Event}
use Rattle.trace.specs.declared.Event.TheVariants.{Read, Write, Sync}
use Rattle.trace.specs.History.{History}
use Rattle.following.specs.Following.{Progress, first, first_of, Turn, Permitted, operation_number, same_event, meets, turn, turn_at, below, permitted}
use Rattle.following.proofs.Events.{no_clash}

-- an answer about what holds is yes
pub agreed : {X : Type 0} (r : Bool) → Says r X → X → r ≡ true
agreed true s x = refl
agreed false s x = absurd (s x)

-- an answer says the same of what is equivalent
says_as : {X Y : Type 0} (r : Bool) → Says r X → (X → Y) → (Y → X) → Says r Y
says_as true s to fro = to s
says_as false s to fro = λ y. s (fro y)

-- two answers say whether what is equivalent to both holds
says_both : {X Y Z : Type 0} (a b : Bool) → Says a X → Says b Y → (X → Y → Z) → (Z → X) → (Z → Y) → Says (a && b) Z
says_both true true s u both one two = both s u
says_both true false s u both one two = λ z. u (two z)
says_both false b s u both one two = λ z. s (one z)

-- the operation of a number
abbrev operation_of : ℕ → Operation
operation_of n = cond (eqb n 0) P (cond (eqb n 1) V (cond (eqb n 2) Lock Unlock))

number_back : (o : Operation) → operation_of (operation_number o) ≡ o
number_back P = refl
number_back V = refl
number_back Lock = refl
number_back Unlock = refl

-- the test on events says whether they are the same
says_same : (d e : Event) → Says (same_event d e) (d ≡ e)
says_same (Read i v) (Read j w) = says_both (eqb i j) (eqb v w) (says_eq i j) (says_eq v w) (λ (a : i ≡ j) (b : v ≡ w) t. Read (a t) (b t)) (λ h. cc) (λ h. cc)
says_same (Read i v) (Write j w m) = λ h. no_clash (cc)
says_same (Read i v) (Sync j u) = λ h. no_clash (cc)
says_same (Write i v n) (Read j w) = λ h. no_clash (cc)
says_same (Write i v n) (Write j w m) =
    let two : Says (eqb v w && eqb n m) ((v ≡ w) × (n ≡ m)) = says_both (eqb v w) (eqb n m) (says_eq v w) (says_eq n m) (λ (a : v ≡ w) (b : n ≡ m). (a, b)) (λ h. h.0) (λ h. h.1) in
    says_both (eqb i j) (eqb v w && eqb n m) (says_eq i j) two (λ (a : i ≡ j) (b : (v ≡ w) × (n ≡ m)) t. Write (a t) (b.0 t) (b.1 t)) (λ h. cc) (λ h. (cc, cc))
says_same (Write i v n) (Sync j u) = λ h. no_clash (cc)
says_same (Sync i o) (Read j w) = λ h. no_clash (cc)
says_same (Sync i o) (Write j w m) = λ h. no_clash (cc)
says_same (Sync i o) (Sync j u) =
    says_both (eqb i j) (eqb (operation_number o) (operation_number u)) (says_eq i j) (says_eq (operation_number o) (operation_number u))
    (λ (a : i ≡ j) (b : operation_number o ≡ operation_number u) t. Sync (a t) ((sym (number_back o) ∙ ap operation_of b ∙ number_back u) t))
    (λ h. cc)
    (λ h. let e : o ≡ u = cc in ap operation_number e)

pub same_event_is : (d e : Event) → same_event d e ≡ true → d ≡ e
same_event_is d e h = said (says_same d e) h

pub same_event_self : (e : Event) → same_event e e ≡ true
same_event_self e = agreed (same_event e e) (says_same e e) refl

-- the event that is due is the one that would be recorded
says_due : (o : Option Event) (e : Event) → Says (meets (e ∷ []) o) (o ≡ some e)
says_due none e = λ h. no_clash (cc)
says_due (some d) e = says_as (same_event d e) (says_same d e) (ap some) (λ h. cc)

pub says_turn : (i : ℕ) (c : Instr) (x : Item) (q : List Event) → Says (turn i c x q) (Turn i c x q)
says_turn i (Instr.local c) x q = tt
says_turn i (Instr.read a v) x q = says_due (first_of i q) (Read i x.version)
says_turn i (Instr.write a v) x q = says_due (first_of i q) (Write i x.version x.made)
says_turn i (Instr.synchronise o n) x q = says_due (first q) (Sync i o)

module _ (p : Code) (t : History) (r : Progress) (i : ℕ) where
  -- an instruction stands there and is on turn
  abbrev OnTurn : Option Instr → Type 0
  OnTurn o = (c : Instr) × (o ≡ some c) × Turn i c (r.machine.item (object c)) (r.left (object c))

  -- no other instruction stands there
  one_turn : (c d : Instr) → some c ≡ some d → Turn i c (r.machine.item (object c)) (r.left (object c)) → Turn i d (r.machine.item (object d)) (r.left (object d))
  one_turn c d e = subst (λ (b : Instr). Turn i b (r.machine.item (object b)) (r.left (object b))) (cc)

  says_turn_at : (o : Option Instr) → Says (turn_at o i r) (OnTurn o)
  says_turn_at none = λ h. let e = h.1 in no_clash (cc)
  says_turn_at (some c) = says_as (turn_at (some c) i r) (says_turn i c (r.machine.item (object c)) (r.left (object c))) (λ h. (c, refl, h)) (λ h. one_turn h.0 c (sym h.1) h.2)

  pub says_permitted : Says (permitted p t r i) (Permitted p t r i)
  unfolding permitted
  says_permitted =
      let m = r.machine in
      let T = OnTurn (here p m i) in
      let L = (m.thread i).count < t.counts i in
      let on = turn_at (here p m i) i r in
      let rest : Says (below t m i && on) (L × T) = says_both (below t m i) on (says_lt (m.thread i).count (t.counts i)) (says_turn_at (here p m i)) (λ (l : L) (h : T). (l, h)) (λ h. h.0) (λ h. h.1) in
      says_both (able p m i) (below t m i && on) (says_able p m i) rest
      (λ (a : Able p m i) (h : L × T). record { able = a; below = h.0; turn = one_turn h.1.0 a.c (sym h.1.1 ∙ a.is) h.1.2 })
      (λ h. h.able)
      (λ h. (h.below, (h.able.c, h.able.is, h.turn)))

  pub permitted_is : permitted p t r i ≡ true → Permitted p t r i
  permitted_is e = said says_permitted e

  pub is_permitted : Permitted p t r i → permitted p t r i ≡ true
  is_permitted h = agreed (permitted p t r i) says_permitted h
