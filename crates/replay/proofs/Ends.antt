-- A replay at rest answers that it is complete exactly where all counts are reached and all events used.
use Rattle.std.proofs.Common.{◌≡◌, ℕ, zero, suc, ◌+◌, ◌-◌, ◌<◌, ◌≤◌, Bool, true, false, cond, ◌≢◌, ◌⊎◌, List, [], ◌∷◌, Some, None, Ok, Option, sym, refl, ap, ◌∙◌, subst, inl, inr, arith}
use mathlib.Core.Option.{Option as Maybe, none, some}
use Rattle.std.proofs.lemmas.Bool.{cases_lt, lt-ltb, le-ltb, ltb-false}
use Rattle.refusal.specs.declared.Object.{Object as Named}
use Rattle.machine.specs.Map.{pick}
use Rattle.machine.specs.Words.{reach}
use Rattle.machine.specs.Machine.{Code, State, Instr, Object, nothing, variable, semaphore, mutex, same_object, object, here}
use Rattle.machine.specs.Proper.{InRange}
use Rattle.trace.specs.declared.Event.{Event}
use Rattle.trace.specs.Drafts.{name_at}
use Rattle.trace.specs.History.{History, SoundTrace}
use Rattle.trace.specs.Traces.{named}
use Rattle.following.specs.Following.{Progress, opened, use_up, left_at, advance, below}
use Rattle.following.specs.Laws.{Followed, end, Complete, Replays}
use Rattle.following.specs.Ends.{first_from, lowest_below, some_event, name_found, first_unused}
use Rattle.following.proofs.Events.{no_clash}
use Rattle.following.proofs.Replays.{machine_of}
use Rattle.replay.specs.declared.Ending.TheVariants.{Complete as Completed}
use Rattle.replay.specs.Calls.{Replaying, end_at, end_of}

-- where no number is found, none of those looked at passes the test
none_passes : (test : ℕ → Bool) (k n : ℕ) → first_from test k n ≡ None → (i : ℕ) → k ≤ i → i < k + n → test i ≡ false
none_passes test k zero h i least most = absurd (let z : ⊥ = omega arith in z)
none_passes test k (suc n) h i least most = go (test k) refl h (λ rest more. none_passes test (suc k) n rest i more (omega arith))
  where
    go : (b : Bool) → test k ≡ b → cond b (Some k) (first_from test (suc k) n) ≡ None → (first_from test (suc k) n ≡ None → k < i → test i ≡ false) → test i ≡ false
    go true e h again = no_clash (cc)
    go false e h again = elim (cases_lt k i) [ inl more ↦ again h more | inr same ↦ (let one : i ≡ k = omega arith in ap test one ∙ e) ]

-- and where none passes, none is found
passes_none : (test : ℕ → Bool) (k n : ℕ) → ((i : ℕ) → k ≤ i → i < k + n → test i ≡ false) → first_from test k n ≡ None
passes_none test k zero h = refl
passes_none test k (suc n) h = rw (h k (omega arith) (omega arith)) (passes_none test (suc k) n (λ i least most. h i (omega arith) (omega arith)))

-- the object whose sequence stands at a place
at_variable : (k : ℕ) → k < 16 → named (name_at k) ≡ variable k
at_variable k h = rw (lt-ltb k 16 h)

at_semaphore : (k : ℕ) → k < 8 → named (name_at (16 + k)) ≡ semaphore k
at_semaphore k h =
    let e : 16 + k - 16 ≡ k = omega arith in
    rw (le-ltb (16 + k) 16 (omega arith), lt-ltb (16 + k) 24 (omega arith)) (ap semaphore e)

at_lock : (k : ℕ) → k < 8 → named (name_at (24 + k)) ≡ mutex k
at_lock k h =
    let e : 24 + k - 24 ≡ k = omega arith in
    rw (le-ltb (24 + k) 16 (omega arith), le-ltb (24 + k) 24 (omega arith)) (ap mutex e)

-- no place is that of no object
is_named : (n : Named) → named n ≢ nothing
is_named (Named.Variable v) e = no_clash (cc)
is_named (Named.Semaphore v) e = no_clash (cc)
is_named (Named.Lock v) e = no_clash (cc)

no_event : (q : List Event) → some_event q ≡ false → q ≡ []
no_event [] h = refl
no_event (e ∷ q) h = no_clash (cc)

name_none : (o : Option ℕ) → name_found o ≡ None → o ≡ None
name_none None h = refl
name_none (Some k) h = no_clash (cc)

-- what holds of the objects at the 32 places, and of those that there are not, holds of all
of_objects : (Q : Object → Type 0) → ((k : ℕ) → k < 32 → Q (named (name_at k))) → ((o : Object) → (InRange o → ⊥) → Q o) → (o : Object) → o ≢ nothing → Q o
of_objects Q here nowhere nothing n = absurd (n refl)
of_objects Q here nowhere (variable v) n = elim (cases_lt v 16) [
  | inl h ↦ subst Q (at_variable v h) (here v (omega arith))
  | inr h ↦ nowhere (variable v) (λ l. omega arith)
]
of_objects Q here nowhere (semaphore v) n = elim (cases_lt v 8) [
  | inl h ↦ subst Q (at_semaphore v h) (here (16 + v) (omega arith))
  | inr h ↦ nowhere (semaphore v) (λ l. omega arith)
]
of_objects Q here nowhere (mutex v) n = elim (cases_lt v 8) [
  | inl h ↦ subst Q (at_lock v h) (here (24 + v) (omega arith))
  | inr h ↦ nowhere (mutex v) (λ l. omega arith)
]

-- an object is without unused events where none of the 32 is found, and none that there is not has one
all_used : (q : Object → List Event) → first_unused q ≡ None → ((o : Object) → (InRange o → ⊥) → q o ≡ []) → (o : Object) → o ≢ nothing → q o ≡ []
unfolding first_unused
all_used q h nowhere =
    let test : ℕ → Bool = λ k. some_event (q (named (name_at k))) in
    let found : first_from test 0 32 ≡ None = name_none (first_from test 0 32) h in
    of_objects (λ o. q o ≡ []) (λ k lt. no_event (q (named (name_at k))) (none_passes test 0 32 found k (omega arith) (omega arith))) nowhere

-- and where no object has one, none is found
none_unused : (q : Object → List Event) → ((o : Object) → o ≢ nothing → q o ≡ []) → first_unused q ≡ None
unfolding first_unused
none_unused q h = ap name_found (passes_none (λ k. some_event (q (named (name_at k)))) 0 32 (λ k _ _. ap some_event (h (named (name_at k)) (is_named (name_at k)))))

use_none : (i : ℕ) (c : Instr) → use_up i c [] ≡ []
use_none i (Instr.local c) = refl
use_none i (Instr.read a v) = refl
use_none i (Instr.write a v) = refl
use_none i (Instr.synchronise o n) = refl

-- an object without unused events stays so
still_none : (p : Code) (o : Object) (r : Progress) (us : List ℕ) → r.left o ≡ [] → (reach (advance p) r us).left o ≡ []
still_none p o r [] h = h
still_none p o r (i ∷ us) h = still_none p o (advance p i r) us (go (here p r.machine i))
  where
    go : (u : Maybe Instr) → left_at u i r.left o ≡ []
    go none = h
    go (some c) = by (same_object o (object c))
      where
        by : (d : Dec (o ≡ object c)) → pick d (use_up i c (r.left (object c))) (r.left o) ≡ []
        by (yes e) = ap (use_up i c) (ap r.left (sym e) ∙ h) ∙ use_none i c
        by (no _) = h

-- only a replay that is neither stuck nor has an unused event is complete
ends_complete : (p : Code) (s : Replaying) (a : Option ℕ) (u : Option Named) (k : ℕ) → end_at p s a u ≡ Ok (Completed k) → (a ≡ None) × (u ≡ None)
ends_complete p s (Some i) u k h = no_clash (cc)
ends_complete p s None (Some o) k h = no_clash (cc)
ends_complete p s None None k h = (refl, refl)

module _ (p : Code) (t : History) (sound : SoundTrace t) (all : Replays p t) where
  -- no count is passed, so where no thread is below its count, each has reached it
  all_reached : (us : List ℕ) → Followed p t us → lowest_below t (end p t us).machine ≡ None → (i : ℕ) → ((end p t us).machine.thread i).count ≡ t.counts i
  unfolding lowest_below
  all_reached us f h i =
      let m = (end p t us).machine in
      let most : (m.thread i).count ≤ t.counts i = subst (λ (x : State). (x.thread i).count ≤ t.counts i) (sym (machine_of p (opened p t) us)) (all.counts_most us f i) in
      let past : (i ≡ 0) ⊎ (t.threads < i) → (m.thread i).count ≡ t.counts i = λ out. omega (arith, sound.no_others i out) in
      elim (cases_lt 0 i) [
        | inl least ↦ elim (cases_lt i 9) [
          | inl few ↦ omega (arith, ltb-false (m.thread i).count (t.counts i) (none_passes (below t m) 1 8 h i least few))
          | inr many ↦ past (inr (omega (arith, sound.most)))
        ]
        | inr lowest ↦ past (inl (omega arith))
      ]

  -- an end that is complete is so by the steps made
  pub complete_is : (us : List ℕ) (s : Replaying) (k : ℕ) → Followed p t us → s.progress ≡ end p t us → end_of p t s ≡ Ok (Completed k) → Complete p t us
  complete_is us s k f same h =
      let w = ends_complete p s (lowest_below t s.progress.machine) (first_unused s.progress.left) k h in
      record {
        followed = f;
        used = all_used (end p t us).left (ap (λ (r : Progress). first_unused r.left) (sym same) ∙ w.1) (λ o out. still_none p o (opened p t) us (sound.nowhere o out));
        reached = all_reached us f (ap (λ (r : Progress). lowest_below t r.machine) (sym same) ∙ w.0);
      }

  -- and complete steps come to an end that is complete
  pub is_complete : (us : List ℕ) (s : Replaying) → s.progress ≡ end p t us → Complete p t us → end_of p t s ≡ Ok (Completed s.steps)
  unfolding lowest_below
  is_complete us s same c =
      let m = (end p t us).machine in
      let a : lowest_below t s.progress.machine ≡ None = ap (λ (r : Progress). lowest_below t r.machine) same ∙ passes_none (below t m) 1 8 (λ i _ _. le-ltb (m.thread i).count (t.counts i) (omega (arith, c.reached i))) in
      let u : first_unused s.progress.left ≡ None = ap (λ (r : Progress). first_unused r.left) same ∙ none_unused (end p t us).left c.used in
      λ j. end_at p s (a j) (u j)
