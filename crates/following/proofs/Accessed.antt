-- What the access of a thread's next step says of its instruction.
use Rattle.std.proofs.Common.{◌≡◌, ℕ, true, ◌≢◌, List, [], ◌∷◌, map, Some, None, sym, refl, ap, ◌∙◌, subst, arith}
use mathlib.Core.Option.{Option, none, some}
use Rattle.refusal.specs.declared.Object.{Object as Named}
use Rattle.refusal.specs.declared.Object.TheVariants.{Variable, Semaphore, Lock}
use Rattle.machine.specs.declared.Item.{Item}
use Rattle.machine.specs.declared.Operation.TheVariants.{P, V, Unlock}
use Rattle.machine.specs.declared.Operation.TheVariants as op
use Rattle.machine.specs.Machine.{Code, State, Instr, Object, nothing, object, here, able, able_at}
use Rattle.machine.specs.Proper.{InRange, Proper}
use Rattle.machine.proofs.Programs.{thread_of}
use Rattle.trace.specs.declared.Event.{Event}
use Rattle.trace.specs.declared.next.Access.{Access}
use Rattle.trace.specs.Accesses.{entry}
use Rattle.trace.specs.History.{Logged, event, logged_at}
use Rattle.trace.specs.Traces.{named, position}
use Rattle.following.specs.Ends.{name_of, at_event}
use Rattle.following.specs.Following.{Progress, meets, due, turn_at}
use Rattle.following.specs.View.{Inside}
use Rattle.following.proofs.Events.{no_clash}
use Rattle.following.proofs.Positions.{within_place}

abbrev on_it : Object → Event → Logged
on_it o e = record { on = o; what = e }

one : (es : List Event) (o u : Object) (e : Event) → on_it o e ∷ [] ≡ map (on_it u) es → (o ≡ u) × (e ∷ [] ≡ es)
one [] o u e h = no_clash (cc)
one (x ∷ []) o u e h =
    let same : on_it o e ≡ on_it u x = cc in
    (ap (λ (l : Logged). l.on) same, ap (λ (l : Logged). l.what ∷ []) same)
one (x ∷ y ∷ es) o u e h = let tail : [] ≡ on_it u y ∷ map (on_it u) es = cc in no_clash (cc)

-- an instruction with an event is on an object
pub with_object : (i : ℕ) (c : Instr) (x : Item) (e : Event) → e ∷ [] ≡ event i c x → object c ≢ nothing
with_object i (Instr.local c) x e h = no_clash (cc)
with_object i (Instr.read a v) x e h = λ n. no_clash (cc)
with_object i (Instr.write a v) x e h = λ n. no_clash (cc)
with_object i (Instr.synchronise P k) x e h = λ n. no_clash (cc)
with_object i (Instr.synchronise V k) x e h = λ n. no_clash (cc)
with_object i (Instr.synchronise op.Lock k) x e h = λ n. no_clash (cc)
with_object i (Instr.synchronise Unlock k) x e h = λ n. no_clash (cc)

module _ (p : Code) (m : State) (i : ℕ) where
  -- thread i stands at an instruction on object o, whose event is e
  pub record Accesses (o : Object) (e : Event) : Type 0 where
    pub c : Instr
    pub is : here p m i ≡ some c
    pub on : o ≡ object c
    pub what : e ∷ [] ≡ event i c (m.item (object c))

  pub accesses : (o : Object) (e : Event) → on_it o e ∷ [] ≡ logged_at (here p m i) i m → Accesses o e
  accesses o e h = go (here p m i) refl h
    where
      go : (u : Option Instr) → here p m i ≡ u → on_it o e ∷ [] ≡ logged_at u i m → Accesses o e
      go none is h = no_clash (cc)
      go (some c) is h = let w = one (event i c (m.item (object c))) o (object c) e h in record { c = c; is = is; on = w.0; what = w.1 }

  -- the thread and the object's place can have an event due
  pub inside : Proper p → (o : Object) (e : Event) → Accesses o e → Inside i (position o)
  inside ok o e a =
      let t = thread_of p ok i (m.thread i).place a.c a.is in
      let most = ok.most in
      record {
        one = t.0;
        eight = omega (arith, t.1);
        place = within_place o (λ n. with_object i a.c _ e a.what (sym a.on ∙ n)) (subst InRange (sym a.on) (ok.known i (m.thread i).place a.c a.is));
      }

-- a thread that is able and has no access is at a local instruction, which is always on turn
pub local_turn : (p : Code) (r : Progress) (i : ℕ) → able p r.machine i ≡ true → [] ≡ logged_at (here p r.machine i) i r.machine → turn_at (here p r.machine i) i r ≡ true
local_turn p r i a h = go (here p r.machine i) a h
  where
    at : (c : Instr) (es : List Event) → [] ≡ map (on_it (object c)) es → meets es (due i c (r.left (object c))) ≡ true
    at c [] h = refl
    at c (e ∷ es) h = no_clash (cc)

    go : (u : Option Instr) → able_at p r.machine i u ≡ true → [] ≡ logged_at u i r.machine → turn_at u i r ≡ true
    go none a h = no_clash (cc)
    go (some c) a h = at c (event i c (r.machine.item (object c))) h

-- the object of an access is that of the instruction
name_back : (o : Named) → name_of (named o) ≡ Some o
name_back (Variable v) = refl
name_back (Semaphore n) = refl
name_back (Lock n) = refl

pub named_access : (p : Code) (m : State) (i : ℕ) (a : Access) → entry a ∷ [] ≡ logged_at (here p m i) i m → Some a.object ≡ at_event (here p m i)
named_access p m i a h =
    let w = accesses p m i (named a.object) a.event h in
    sym (name_back a.object) ∙ ap name_of w.on ∙ sym (ap at_event w.is)

pub no_access : (p : Code) (m : State) (i : ℕ) → [] ≡ logged_at (here p m i) i m → None ≡ at_event (here p m i)
no_access p m i h = go (here p m i) h
  where
    at : (c : Instr) → [] ≡ logged_at (some c) i m → None ≡ name_of (object c)
    at (Instr.local c) h = refl
    at (Instr.read a v) h = no_clash (cc)
    at (Instr.write a v) h = no_clash (cc)
    at (Instr.synchronise o n) h = no_clash (cc)

    go : (u : Option Instr) → [] ≡ logged_at u i m → None ≡ at_event u
    go none h = refl
    go (some c) h = at c h
