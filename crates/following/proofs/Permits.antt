-- What the tests that the code makes say of a thread's being permitted.
use Rattle.std.proofs.Common.{◌≡◌, ℕ, ◌≤◌, Bool, true, false, ◌&&◌, ltb, [], ◌∷◌, Some, None, Option as Answer, drop, sym, refl, ap, ◌∙◌, arith}
use mathlib.Core.Option.{Option, none, some}
use Rattle.std.proofs.lemmas.Bool.Decides.{nat_tests}
use Rattle.std.specs.Option.{option_eq}
use Rattle.program.specs.declared.Instruction.{Instruction}
use Rattle.machine.specs.Machine.{Code, Instr, Object, object, here, able, able_at}
use Rattle.machine.specs.Proper.{Proper}
use Rattle.machine.specs.View.{meaning}
use Rattle.trace.specs.declared.Event.{Event}
use Rattle.trace.specs.declared.Trace.{Trace}
use Rattle.trace.specs.History.{logged_at}
use Rattle.trace.specs.Traces.{history, parts, position}
use Rattle.following.specs.declared.stage.Stage.{Stage}
use Rattle.following.specs.Following.{first, meets, same_event, due, below, local_at, turn_at, permitted}
use Rattle.following.specs.View.{row, lifted, next_at, progress, Kept}
use Rattle.following.proofs.Accessed.{Accesses, with_object, inside, local_turn}
use Rattle.following.proofs.Due.{due_is}
use Rattle.following.proofs.Events.{no_clash}

-- a code below those of events means a local instruction
pub code_local : (i : Instruction) → 1 ≤ i.code → ltb i.code 6 ≡ local_at (some (meaning i))
code_local i h = grind (arith, nat_tests)

-- the event that is due is compared with the one that the step would record
pub compared : (eq : Event → Event → Bool) (e : Event) → ((d : Event) → eq d e ≡ same_event d e) → (d own : Answer Event) → own ≡ Some e → option_eq eq d own ≡ meets (e ∷ []) (lifted d)
compared eq e same None own is = ap (option_eq eq None) is
compared eq e same (Some d) own is = ap (option_eq eq (Some d)) is ∙ same d

module _ (p : Code) (t : Trace) (s : Stage) (i : ℕ) where
  abbrev at_turn : Bool
  at_turn = turn_at (here p (progress t s).machine i) i (progress t s)

  abbrev is_below : Bool
  is_below = below (history (parts t)) (progress t s).machine i

  pub not_below : false ≡ is_below → false ≡ permitted p (history (parts t)) (progress t s) i
  unfolding permitted
  not_below e = sym (never (able p (progress t s).machine i)) ∙ (λ j. able p (progress t s).machine i && (e j && at_turn))
    where
      never : (b : Bool) → (b && false) ≡ false
      never true = refl
      never false = refl

  module _ (lower : true ≡ is_below) where
    -- a local instruction is always free and on turn
    pub local_may : true ≡ local_at (here p (progress t s).machine i) → true ≡ permitted p (history (parts t)) (progress t s) i
    unfolding permitted
    local_may h = go (here p (progress t s).machine i) h ∙ (λ j. able p (progress t s).machine i && (lower j && at_turn))
      where
        go : (u : Option Instr) → true ≡ local_at u → true ≡ (able_at p (progress t s).machine i u && (true && turn_at u i (progress t s)))
        go none h = no_clash (cc)
        go (some (Instr.local c)) h = refl
        go (some (Instr.read a v)) h = no_clash (cc)
        go (some (Instr.write a v)) h = no_clash (cc)
        go (some (Instr.synchronise o n)) h = no_clash (cc)

    pub not_able : false ≡ able p (progress t s).machine i → false ≡ permitted p (history (parts t)) (progress t s) i
    unfolding permitted
    not_able e = ap (λ (b : Bool). b && (is_below && at_turn)) e

    module _ (is : true ≡ able p (progress t s).machine i) where
      by_turn : (r : Bool) → r ≡ at_turn → r ≡ permitted p (history (parts t)) (progress t s) i
      unfolding permitted
      by_turn r e = λ j. is j && (lower j && e j)

      pub no_event : [] ≡ logged_at (here p (progress t s).machine i) i (progress t s).machine → true ≡ permitted p (history (parts t)) (progress t s) i
      no_event h = by_turn true (sym (local_turn p (progress t s) i (sym is) h))

      pub event_may : Proper p → Kept t s → (o : Object) (e : Event) → Accesses p (progress t s).machine i o e → (r : Bool) → r ≡ meets (e ∷ []) (first (drop (next_at s.used (position o) i) (row t (position o)))) → r ≡ permitted p (history (parts t)) (progress t s) i
      event_may ok kept o e a r h =
          let w = inside p (progress t s).machine i ok o e a in
          let stands : Object → Bool = λ u. meets (e ∷ []) (first (drop (next_at s.used (position u) i) (row t (position u)))) in
          by_turn r (h
          ∙ ap stands a.on
          ∙ sym (ap (meets (e ∷ [])) (due_is t s kept i w.one w.eight a.c (with_object i a.c _ e a.what) (ok.known i ((progress t s).machine.thread i).place a.c a.is)))
          ∙ ap (λ es. meets es (due i a.c ((progress t s).left (object a.c)))) a.what
          ∙ sym (ap (λ u. turn_at u i (progress t s)) a.is))
