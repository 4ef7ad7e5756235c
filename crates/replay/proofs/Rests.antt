-- A replay at rest answers its end to any run, and a run of more steps than eight counts allow comes to rest.
use Rattle.std.proofs.Common.{◌≡◌, ℕ, zero, suc, ◌+◌, ◌<◌, ◌≤◌, min, true, false, ◌⊎◌, List, [], ◌∷◌, ◌++◌, is_some, None, refl, ap, inl, inr, arith}
use Rattle.std.proofs.lemmas.Bool.{cond_both}
use Rattle.machine.specs.Machine.{Code, State, start, after}
use Rattle.machine.specs.Proper.{Proper}
use Rattle.trace.specs.History.{History, SoundTrace}
use Rattle.schedule.specs.Threads.{empty}
use Rattle.schedule.specs.Strategies.{Told, Strategy, Picks}
use Rattle.following.specs.Laws.{Replays}
use Rattle.replay.specs.Calls.{Replaying, begun, stepped, end_of, Ran, threads_told, rests, offers, goes, runs}
use Rattle.replay.specs.Promise.{Call, replayed_run, replay_after, AtRest}
use Rattle.machine.specs.Machine.{total_steps}
use Rattle.machine.proofs.Totals.{no_steps, all_made}
use Rattle.replay.proofs.Reached.{none_offered, offered_none, Reached, goes_reached, all_calls}

-- eight counts of at most 65,535
total_most : (m : State) → ((i : ℕ) → (m.thread i).count ≤ 65535) → total_steps m ≤ 524280
unfolding total_steps
total_most m h = omega (arith, h 1, h 2, h 3, h 4, h 5, h 6, h 7, h 8)

module _ (p : Code) (ok : Proper p) (t : History) where
  -- with no thread permitted, no step is made
  goes_rests : (n : ℕ) (s : Replaying) (f : Strategy) → empty (offers p t s.progress) ≡ true → goes p t n s f ≡ rests (end_of p t s) s
  goes_rests zero s f h = rw h
  goes_rests (suc n) s f h = rw h

  -- at rest, any run answers the end
  pub rest_answer : (s : Replaying) → AtRest p t s → (n : ℕ) (f : Strategy) → (runs p t n s f).answer ≡ end_of p t s
  rest_answer s h n f =
      let free : is_some s.out ≡ false = ap is_some h.none_out in
      rw free (ap (λ x. x.answer) (goes_rests (min n 1048575) s f (none_offered p ok t s.progress h.none_permitted)))

  -- a run of n steps leaves no permit out, and comes to rest or makes them all
  record Went (s : Replaying) (n : ℕ) (x : Ran) : Type 0 where
    free : s.out ≡ None → x.after.out ≡ None
    far : (empty (offers p t x.after.progress) ≡ true) ⊎ (x.after.steps ≡ s.steps + n)

  goes_far : (n : ℕ) (s : Replaying) (f : Strategy) → Went s n (goes p t n s f)
  goes_far zero s f = cond_both (empty (offers p t s.progress)) _ _ (Went s zero) (λ e. record { free = λ h. h; far = inl e }) (λ _. record { free = λ h. h; far = inr (omega arith) })
  goes_far (suc n) s f =
      let o = offers p t s.progress in
      let x : Told = record { offer = o; thread = f [] o } in
      let w = goes_far n (stepped p s x.thread) (λ l. f (x ∷ l)) in
      cond_both (empty o) _ _ (Went s (suc n)) (λ e. record { free = λ h. h; far = inl e }) (λ _. record { free = λ _. w.free refl; far = elim w.far [ inl e ↦ inl e | inr e ↦ inr (omega (arith, e)) ] })

  module _ (sound : SoundTrace t) (all : Replays p t) where
    -- no replay makes more steps than the counts allow
    few_steps : (us : List ℕ) (s : Replaying) → Reached p t us s → s.steps ≤ 524280
    few_steps us s h =
        let made = all_made p ok (start p) us (all.leads us h.followed) in
        let most = total_most (after p (start p) us) (λ i. omega (arith, all.counts_most us h.followed i, sound.limited.small i)) in
        omega (arith, h.steps, no_steps p)

    -- so one that may make more steps than that comes to rest
    rest_at : (n : ℕ) (us : List ℕ) (s : Replaying) (f : Strategy) → Picks f → Reached p t us s → s.out ≡ None → 524280 < n → AtRest p t (goes p t n s f).after
    rest_at n us s f picks h e big =
        let x = goes p t n s f in
        let w = goes_far n s f in
        let few = few_steps (us ++ threads_told x.told) x.after (goes_reached p ok t n us s f picks h) in
        let none : empty (offers p t x.after.progress) ≡ true = elim w.far [ inl z ↦ z | inr z ↦ absurd (omega (arith, z, few)) ] in
        record { none_out = w.free e; none_permitted = offered_none p ok t x.after.progress none }

    pub comes_to_rest : (cs : List Call) → (replay_after p t cs).out ≡ None → (n : ℕ) (f : Strategy) → Picks f → 524280 < n → AtRest p t (runs p t n (replay_after p t cs) f).after
    comes_to_rest cs e n f picks big =
        let s = replay_after p t cs in
        let free : is_some s.out ≡ false = ap is_some e in
        rw free (rest_at (min n 1048575) (replayed_run p t (begun p t) cs) s f picks (all_calls p ok t cs) e (omega arith))
