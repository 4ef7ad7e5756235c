-- One turn of a run.
use Rattle.std.proofs.Common.{◌≡◌, ℕ, suc, true, false, [], ◌∷◌, sym, ap, ◌∙◌, subst}
use Rattle.program.specs.declared.Program.{Program}
use Rattle.machine.specs.Machine.{Code, here}
use Rattle.machine.specs.View.{code_of}
use Rattle.machine.proofs.Programs.{proper}
use Rattle.trace.specs.History.{History}
use Rattle.schedule.specs.declared.ThreadSet.{ThreadSet}
use Rattle.schedule.specs.Threads.{empty, has, with}
use Rattle.schedule.specs.Strategies.{Told, Strategy, strategy, tells}
use Rattle.schedule.specs.Members.{nonempty_some, set_with}
use Rattle.following.specs.Following.{Progress, advance, local_at, permitted}
use Rattle.following.proofs.Stays.{stays}
use Rattle.replay.specs.Calls.{Replaying, stepped, Ran, led_by, offers, goes}
use Rattle.replay.proofs.Reached.{offers_has}

abbrev pub tell : ThreadSet → ℕ → Told
tell o i = record { offer = o; thread = i }

module _ (p : Code) (t : History) where
  goes_step : (n : ℕ) (s : Replaying) (f : Strategy) → empty (offers p t s.progress) ≡ false → goes p t (suc n) s f ≡ (let x = tell (offers p t s.progress) (f [] (offers p t s.progress)) in led_by x (goes p t n (stepped p s x.thread) (λ h. f (x ∷ h))))
  goes_step n s f h = rw h

  -- o is what is offered, and i the thread that is named
  goes_on : (n : ℕ) (s : Replaying) (f : Strategy) (o : ThreadSet) (i : ℕ) → o ≡ offers p t s.progress → i ≡ f [] o → empty o ≡ false → goes p t (suc n) s f ≡ led_by (tell o i) (goes p t n (stepped p s i) (λ h. f (tell o i ∷ h)))
  goes_on n s f o i e e2 h = rw (e2, e) (goes_step n s f (subst (λ (x : ThreadSet). empty x ≡ false) e h))

module _ {S : Type 0} (rule : S → ThreadSet → ℕ) (next : S → ThreadSet → ℕ → S) where
  -- two runs, of schedulers a and b, come out alike
  pub record Alike (a : S) (x : Ran) (b : S) (y : Ran) : Type 0 where
    pub answer : x.answer ≡ y.answer
    pub after : x.after ≡ y.after
    pub scheduler : tells rule next a x.told ≡ tells rule next b y.told

  pub alike_trans : {a b c : S} {x y z : Ran} → Alike a x b y → Alike b y c z → Alike a x c z
  alike_trans h k = record { answer = h.answer ∙ k.answer; after = h.after ∙ k.after; scheduler = h.scheduler ∙ k.scheduler }

  -- one turn of the loop
  pub turn : (p p' : Code) (t t' : History) (n k : ℕ) (s s' : Replaying) (c c' : S) (o : ThreadSet) (i : ℕ) → p' ≡ p → t' ≡ t → s' ≡ stepped p s i → c' ≡ next c o i → o ≡ offers p t s.progress → i ≡ rule c o → empty o ≡ false → n ≡ suc k
      → Alike c (goes p t n s (strategy rule next c)) c' (goes p' t' k s' (strategy rule next c'))
  turn p p' t t' n k s s' c c' o i ep et es ec eo ei h more =
      let e = goes_on p t k s (strategy rule next c) o i eo ei h in
      rw (ep, et, es, ec, more) (record { answer = ap (λ (r : Ran). r.answer) e; after = ap (λ (r : Ran). r.after) e; scheduler = ap (λ (r : Ran). tells rule next c r.told) e })

-- the thread that is named is permitted
pub named_permitted : (q : Program) (t : History) (r : Progress) (o : ThreadSet) (i : ℕ) → o ≡ offers (code_of q) t r → empty o ≡ false → ((k : ℕ) → has o k ≡ true → has o i ≡ true) → permitted (code_of q) t r i ≡ true
named_permitted q t r o i e some chosen =
    let w = nonempty_some o some in
    sym (offers_has (code_of q) (proper q) t r i) ∙ ap (λ (x : ThreadSet). has x i) (sym e) ∙ chosen w.0 w.1

-- after a local step, what is offered changes at its own thread only
pub offer_kept : (q : Program) (t : History) (r : Progress) (i : ℕ) → local_at (here (code_of q) r.machine i) ≡ true → with (offers (code_of q) t r) i (permitted (code_of q) t (advance (code_of q) i r) i) ≡ offers (code_of q) t (advance (code_of q) i r)
offer_kept q t r i local =
    let p = code_of q in
    set_with (permitted p t r) (permitted p t (advance p i r)) i (λ k n. stays p t r i k n local)
