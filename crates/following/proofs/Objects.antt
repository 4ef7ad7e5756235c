-- What a step that is on turn does to its one object, shown for each kind of instruction from the laws of sound sequences.
use Rattle.std.proofs.Common.{◌≡◌, ℕ, ◌+◌, ◌<◌, ◌≢◌, List, [], ◌∷◌, ◌++◌, length, sym, refl, ap, ◌∙◌, arith}
use mathlib.Core.Option.{some}
use Rattle.std.proofs.lemmas.Bool.Decides.{nat_tests}
use Rattle.machine.specs.declared.Operation.{Operation}
use Rattle.machine.specs.declared.Operation.TheVariants.{P, V, Lock, Unlock}
use Rattle.machine.specs.declared.Thread.{Thread}
use Rattle.machine.specs.declared.Item.{Item}
use Rattle.machine.specs.Machine.{Instr, Object, nothing, variable, semaphore, mutex, object, touch}
use Rattle.trace.specs.declared.Event.{Event}
use Rattle.trace.specs.declared.Event.TheVariants.{Read, Write, Sync}
use Rattle.trace.specs.Sound.{writes, SoundFrom}
use Rattle.trace.specs.History.{event}
use Rattle.trace.specs.Agreement.{reads_of, Alike, AgreeOn}
use Rattle.trace.proofs.Runs.{SoundAt}
use Rattle.following.specs.Following.{first, spend, Turn, use_up}
use Rattle.following.proofs.Events.{no_clash, spend_first, spend_swap, spend_length, sync_first, alone, write_first, write_kept, read_kept, read_first, spent_reads, spent_writes, write_leads}

-- what is left of the object stays sound
pub sound_kept : (i : ℕ) (c : Instr) (l : Thread) (x : Item) (q : List Event) → SoundAt (object c) x q → Turn i c x q → SoundAt (object c) (touch i c l x) (use_up i c q)
sound_kept i (Instr.local c) l x q g h = tt
sound_kept i (Instr.read a v) l x q g h = read_kept i x.version x.made q g h
sound_kept i (Instr.write a v) l x q g h = write_kept i x.version x.made q g h
sound_kept i (Instr.synchronise P n) l x q g h = tt
sound_kept i (Instr.synchronise V n) l x q g h = tt
sound_kept i (Instr.synchronise Lock n) l x q g h = tt
sound_kept i (Instr.synchronise Unlock n) l x q g h = tt

-- a step uses as many events as it records
pub use_length : (i : ℕ) (c : Instr) (x : Item) (q : List Event) → object c ≢ nothing → Turn i c x q → length q ≡ length (event i c x) + length (use_up i c q)
use_length i (Instr.local c) x q n h = absurd (n refl)
use_length i (Instr.read a v) x q n h = omega (arith, spend_length i q (Read i x.version) h)
use_length i (Instr.write a v) x q n h = omega (arith, spend_length i q (Write i x.version x.made) h)
use_length i (Instr.synchronise o k) x q n h = omega (arith, ap length (sync_first i o q h))

-- c of thread i and d of thread j can be made in either order at the object
pub record Calm (i j : ℕ) (c d : Instr) (l k : Thread) (x : Item) (q : List Event) : Type 0 where
  pub value_i : (touch i c l x).value ≡ x.value
  pub value_j : (touch j d k x).value ≡ x.value
  pub swap_touch : touch j d k (touch i c l x) ≡ touch i c l (touch j d k x)
  pub swap_use : use_up j d (use_up i c q) ≡ use_up i c (use_up j d q)
  pub turn : Turn j d (touch i c l x) (use_up i c q)

-- one event has one thread
same_sync : (i j : ℕ) (o u : Operation) (q : List Event) → first q ≡ some (Sync i o) → first q ≡ some (Sync j u) → i ≡ j
same_sync i j o u q f g = cc

-- the object of an operation is a semaphore or a lock
sync_not_local : (o : Operation) (n : ℕ) {X : Type 0} → object (Instr.synchronise o n) ≡ nothing → X
sync_not_local P n e = no_clash (cc)
sync_not_local V n e = no_clash (cc)
sync_not_local Lock n e = no_clash (cc)
sync_not_local Unlock n e = no_clash (cc)

sync_not_variable : (o : Operation) (n v : ℕ) {X : Type 0} → object (Instr.synchronise o n) ≡ variable v → X
sync_not_variable P n v e = no_clash (cc)
sync_not_variable V n v e = no_clash (cc)
sync_not_variable Lock n v e = no_clash (cc)
sync_not_variable Unlock n v e = no_clash (cc)

-- two threads on turn at one object both read it, or make local instructions
pub calm : (i j : ℕ) (c d : Instr) (l k : Thread) (x : Item) (q : List Event) → i ≢ j → object c ≡ object d → SoundAt (object c) x q → Turn i c x q → Turn j d x q → Calm i j c d l k x q
calm i j (Instr.local c) (Instr.local d) l k x q h e g f f' = record { value_i = refl; value_j = refl; swap_touch = refl; swap_use = refl; turn = tt }
calm i j (Instr.local c) (Instr.read b w) l k x q h e g f f' = no_clash (cc)
calm i j (Instr.local c) (Instr.write b w) l k x q h e g f f' = no_clash (cc)
calm i j (Instr.local c) (Instr.synchronise u n) l k x q h e g f f' = sync_not_local u n (sym e)
calm i j (Instr.read a v) (Instr.local d) l k x q h e g f f' = no_clash (cc)
calm i j (Instr.read a v) (Instr.read b w) l k x q h e g f f' = record { value_i = refl; value_j = refl; swap_touch = refl; swap_use = spend_swap i j q; turn = spend_first i j q h ∙ f' }
calm i j (Instr.read a v) (Instr.write b w) l k x q h e g f f' = absurd (h (sym (alone j i x.version x.made q (Read i x.version) g f' f refl)))
calm i j (Instr.read a v) (Instr.synchronise u n) l k x q h e g f f' = sync_not_variable u n v (sym e)
calm i j (Instr.write a v) (Instr.local d) l k x q h e g f f' = no_clash (cc)
calm i j (Instr.write a v) (Instr.read b w) l k x q h e g f f' = absurd (h (alone i j x.version x.made q (Read j x.version) g f f' refl))
calm i j (Instr.write a v) (Instr.write b w) l k x q h e g f f' = absurd (h (alone i j x.version x.made q (Write j x.version x.made) g f f' refl))
calm i j (Instr.write a v) (Instr.synchronise u n) l k x q h e g f f' = sync_not_variable u n v (sym e)
calm i j (Instr.synchronise o m) (Instr.local d) l k x q h e g f f' = sync_not_local o m e
calm i j (Instr.synchronise o m) (Instr.read b w) l k x q h e g f f' = sync_not_variable o m w e
calm i j (Instr.synchronise o m) (Instr.write b w) l k x q h e g f f' = sync_not_variable o m w e
calm i j (Instr.synchronise o m) (Instr.synchronise u n) l k x q h e g f f' = absurd (h (same_sync i j o u q f f'))

-- a semaphore's or lock's next event is the first that is left, and the rest is what is left behind it
sync_leads : (i : ℕ) (o : Operation) (a q : List Event) → Sync i o ∷ a ≡ q → (first q ≡ some (Sync i o)) × (a ≡ spend i q)
sync_leads i o a q h = let e = ap (spend i) h in (sym (ap first h), grind (arith, nat_tests))

sync_follows : (i : ℕ) (o : Operation) (a q : List Event) → first q ≡ some (Sync i o) → a ≡ spend i q → Sync i o ∷ a ≡ q
sync_follows i o a q f h = ap (λ (l : List Event). Sync i o ∷ l) h ∙ sym (sync_first i o q f)

-- where a run's events of the object agree with what is left, its next is on turn, and the rest agrees with what that leaves
pub leads : (i : ℕ) (c : Instr) (x : Item) (a q : List Event) → SoundAt (object c) x q → AgreeOn (object c) (event i c x ++ a) q → Turn i c x q × AgreeOn (object c) a (use_up i c q)
leads i (Instr.local c) x a q g h = (tt, tt)
leads i (Instr.read b v) x a q g h =
    let some_left : 0 < reads_of i x.version q = (let e = h.reads_same i x.version in grind (arith, nat_tests)) in
    let f = read_first i x.version x.made q g some_left in
    (f, record { writes_same = h.writes_same ∙ sym (spent_writes i x.version q f); reads_same = λ k w. omega (arith, h.reads_same k w, spent_reads i x.version k w q f) })
leads i (Instr.write b v) x a q g h =
    let f = write_leads i x.version x.made q (writes a) g (sym h.writes_same) in
    let e = write_first i x.version x.made q g f in
    let e' = h.writes_same ∙ ap writes e in
    (f, record { writes_same = cc; reads_same = λ k w. h.reads_same k w ∙ ap (reads_of k w) e })
leads i (Instr.synchronise P n) x a q g h = sync_leads i P a q h
leads i (Instr.synchronise V n) x a q g h = sync_leads i V a q h
leads i (Instr.synchronise Lock n) x a q g h = sync_leads i Lock a q h
leads i (Instr.synchronise Unlock n) x a q g h = sync_leads i Unlock a q h

-- and the other way round
pub follows : (i : ℕ) (c : Instr) (x : Item) (a q : List Event) → SoundAt (object c) x q → Turn i c x q → AgreeOn (object c) a (use_up i c q) → AgreeOn (object c) (event i c x ++ a) q
follows i (Instr.local c) x a q g f h = tt
follows i (Instr.read b v) x a q g f h = record { writes_same = h.writes_same ∙ spent_writes i x.version q f; reads_same = λ k w. omega (arith, h.reads_same k w, spent_reads i x.version k w q f) }
follows i (Instr.write b v) x a q g f h =
    let e = write_first i x.version x.made q g f in
    record { writes_same = ap (λ (l : List Event). Write i x.version x.made ∷ l) h.writes_same ∙ ap writes (sym e); reads_same = λ k w. h.reads_same k w ∙ ap (reads_of k w) (sym e) }
follows i (Instr.synchronise P n) x a q g f h = sync_follows i P a q f h
follows i (Instr.synchronise V n) x a q g f h = sync_follows i V a q f h
follows i (Instr.synchronise Lock n) x a q g f h = sync_follows i Lock a q f h
follows i (Instr.synchronise Unlock n) x a q g f h = sync_follows i Unlock a q f h

-- no sound sequence but the empty one is like the empty one
alike_none : (v m : ℕ) (q : List Event) → SoundFrom v m q → Alike [] q → q ≡ []
alike_none v m [] s h = refl
alike_none v m (Read i w ∷ q) s h = let e = h.reads_same i w in no_clash (grind (arith, nat_tests))
alike_none v m (Write i w n ∷ q) s h = let e = h.writes_same in no_clash (cc)
alike_none v m (Sync i o ∷ q) s h = absurd s

-- where no event is to come, none is left
pub agree_none : (o : Object) (x : Item) (q : List Event) → o ≢ nothing → SoundAt o x q → AgreeOn o [] q → q ≡ []
agree_none nothing x q k s h = absurd (k refl)
agree_none (variable v) x q k s h = alike_none x.version x.made q s h
agree_none (semaphore n) x q k s h = sym h
agree_none (mutex n) x q k s h = sym h

-- a sequence agrees with itself
pub agree_same : (o : Object) (q : List Event) → AgreeOn o q q
agree_same nothing q = tt
agree_same (variable v) q = record { writes_same = refl; reads_same = λ i w. refl }
agree_same (semaphore n) q = refl
agree_same (mutex n) q = refl
