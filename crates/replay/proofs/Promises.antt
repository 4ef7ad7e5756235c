-- The promise of a replay, from the replay theorem.
use Rattle.std.proofs.Common.{◌≡◌, ℕ, zero, suc, min, true, ◌≢◌, List, [], ◌∷◌, length, is_some, Some, None, Ok, Err, Option, Result, sym, refl, ap, ◌∙◌, subst, arith}
use Rattle.std.proofs.lemmas.Bool.{and_parts, false≢true, cond_both}
use Rattle.refusal.specs.declared.Object.{Object as Named}
use Rattle.program.specs.Form.{each}
use Rattle.machine.specs.Machine.{Code, Object, nothing, start}
use Rattle.machine.specs.Proper.{Proper}
use Rattle.machine.specs.View.{code_of}
use Rattle.machine.proofs.Programs.{proper}
use Rattle.trace.specs.declared.Event.{Event}
use Rattle.trace.specs.History.{History, recorded, trace_of, objects, events_of, Limited, SoundTrace}
use Rattle.trace.specs.Traces.{history, parts}
use Rattle.trace.specs.Agreement.{Agree}
use Rattle.trace.proofs.Exactly.{checks_exactly}
use Rattle.schedule.specs.Threads.{empty}
use Rattle.schedule.specs.Strategies.{Told, Strategy}
use Rattle.following.specs.Following.{Progress, Permitted, permitted}
use Rattle.following.specs.Laws.{Ended, Complete, Replays}
use Rattle.following.specs.Ends.{lowest_below, name_of, first_unused}
use Rattle.following.proofs.Events.{no_clash}
use Rattle.following.proofs.Replays.{replays, same_lengths}
use Rattle.replay.specs.declared.Ending.TheVariants.{Complete as Completed}
use Rattle.replay.specs.declared.faults.Fault.TheVariants.{PermitOut}
use Rattle.replay.specs.Calls.{Replaying, begun, stepped, Outcome, holds, end_at, end_of, Ran, offers, goes}
use Rattle.replay.specs.Promise.{Call, replayed_run, replay_after, next_answer, AtRest, SameRest, Agreeing, ReplayedAs, RefusedAltersNothing, Promised, ReplayPromise}
use Rattle.replay.proofs.Reached.{Reached, all_calls}
use Rattle.replay.proofs.Ends.{complete_is, is_complete}
use Rattle.replay.proofs.Rests.{rest_answer, comes_to_rest}

module _ (p : Code) (t : History) where
  -- where such an answer came, the replay is as it was
  abbrev AltersNot : {A E : Type 0} → Replaying → E → Outcome (Result A E) → Type 0
  AltersNot s e x = x.answer ≡ Err e → x.after ≡ s

  -- no end is the refusal of a run
  end_never : (s : Replaying) (a : Option ℕ) (u : Option Named) → end_at p s a u ≡ Err PermitOut → ⊥
  end_never s (Some i) u h = no_clash (cc)
  end_never s None (Some o) h = no_clash (cc)
  end_never s None None h = no_clash (cc)

  -- a run that has begun is not refused
  abbrev Begun : Ran → Type 0
  Begun x = x.answer ≡ Err PermitOut → ⊥

  goes_begun : (n : ℕ) (s : Replaying) (f : Strategy) → Begun (goes p t n s f)
  goes_begun zero s f = cond_both (empty (offers p t s.progress)) _ _ Begun (λ _. end_never s (lowest_below t s.progress.machine) (first_unused s.progress.left)) (λ _ h. no_clash (cc))
  goes_begun (suc n) s f =
      let o = offers p t s.progress in
      let x : Told = record { offer = o; thread = f [] o } in
      cond_both (empty o) _ _ Begun (λ _. end_never s (lowest_below t s.progress.machine) (first_unused s.progress.left)) (λ _. goes_begun n (stepped p s x.thread) (λ l. f (x ∷ l)))

  -- so a refused call alters nothing
  refused : RefusedAltersNothing p t
  refused = record {
    request = λ s i e. cond_both (is_some s.out) _ _ (AltersNot s e) (λ _ _. refl) (λ _. cond_both (permitted p t s.progress i) _ _ (AltersNot s e) (λ _ h. no_clash (cc)) (λ _ _. refl));
    perform = λ s q e. cond_both (holds s q) _ _ (AltersNot s e) (λ _ h. no_clash (cc)) (λ _ _. refl);
    hand_back = λ s q e. cond_both (holds s q) _ _ (AltersNot s e) (λ _ h. no_clash (cc)) (λ _ _. refl);
    run = λ s n f. cond_both (is_some s.out) _ _ (λ (x : Ran). x.answer ≡ Err PermitOut → x.after ≡ s) (λ _ _. refl) (λ _ h. absurd (goes_begun (min n 1048575) s f h));
  }

-- as many events of each of these objects are as many in all
same_events : (os : List Object) (q r : Object → List Event) → each (λ o. is_some (name_of o)) os ≡ true → ((o : Object) → o ≢ nothing → length (q o) ≡ length (r o)) → events_of os q ≡ events_of os r
same_events [] q r some h = refl
same_events (o ∷ os) q r some h =
    let w = and_parts (is_some (name_of o)) (each (λ o. is_some (name_of o)) os) some in
    omega (arith, h o (λ e. false≢true (sym (ap (λ o. is_some (name_of o)) e) ∙ w.0)), same_events os q r w.1 h)

module _ (p : Code) (ok : Proper p) (t : History) (sound : SoundTrace t) (all : Replays p t) where
  -- the threads that the calls step
  abbrev word : List Call → List ℕ
  word cs = replayed_run p t (begun p t) cs

  abbrev state : List Call → Replaying
  state cs = replay_after p t cs

  reached : (cs : List Call) → Reached p t (word cs) (state cs)
  reached cs = all_calls p ok t cs

  -- calls that are at rest have come to an end
  ended : (cs : List Call) → AtRest p t (state cs) → Ended p t (word cs)
  ended cs h i a = h.none_permitted i (subst (λ (r : Progress). Permitted p t r i) (sym (reached cs).progress) a)

  one_end : (cs ds : List Call) → AtRest p t (state cs) → AtRest p t (state ds) → SameRest p t cs ds
  one_end cs ds h k =
      let a = reached cs in
      let b = reached ds in
      let same = all.one_end (word cs) (word ds) a.followed (ended cs h) b.followed (ended ds k) in
      let x = all.longest (word cs) (word ds) a.followed (ended cs h) b.followed in
      let y = all.longest (word ds) (word cs) b.followed (ended ds k) a.followed in
      let progress : (state cs).progress ≡ (state ds).progress = a.progress ∙ same.ends ∙ sym b.progress in
      let steps : (state cs).steps ≡ (state ds).steps = omega (arith, a.steps, b.steps) in
      let out : (state cs).out ≡ (state ds).out = h.none_out ∙ sym k.none_out in
      let states : state cs ≡ state ds = λ j. record { progress = progress j; steps = steps j; out = out j } in
      record {
        machine = ap (λ (r : Progress). r.machine) progress;
        steps = steps;
        next = λ n m f g. rest_answer p ok t (state cs) h n f ∙ ap (end_of p t) states ∙ sym (rest_answer p ok t (state ds) k m g);
      }

  -- complete steps have a trace within the limits, as t is
  limited : (us : List ℕ) → Complete p t us → Agree (trace_of p us) t → Limited (trace_of p us)
  limited us c a = record {
    few = omega (arith, same_events objects (recorded p (start p) us) t.seq refl (same_lengths p t sound us c), sound.limited.few);
    small = λ i. omega (arith, a.counts_same i, sound.limited.small i);
  }

  only_runs : (cs : List Call) → AtRest p t (state cs) → (n k : ℕ) (f : Strategy) → next_answer p t cs n f ≡ Ok (Completed k) → (us : List ℕ) × Agreeing p t us
  only_runs cs h n k f e =
      let a = reached cs in
      let c = complete_is p t sound all (word cs) (state cs) k a.followed a.progress (sym (rest_answer p ok t (state cs) h n f) ∙ e) in
      let w = all.is_run (word cs) c in
      (word cs, record { is_run = w.0; has_trace = limited (word cs) c w.1; agrees = w.1 })

  every_run : (cs : List Call) → AtRest p t (state cs) → (us : List ℕ) → Agreeing p t us → ReplayedAs p t cs us
  every_run cs h us g =
      let a = reached cs in
      let r = all.replayed us (word cs) g.is_run g.agrees a.followed (ended cs h) in
      record {
        answer = λ n f. rest_answer p ok t (state cs) h n f ∙ is_complete p t sound all (word cs) (state cs) a.progress r.complete ∙ ap (λ k. Ok (Completed k)) (a.steps ∙ r.steps);
        machine = ap (λ (x : Progress). x.machine) a.progress ∙ r.machine;
        gets = r.gets;
      }

  -- all that is promised, where the trace is sound
  promised : Promised p t
  promised = record {
    one_end = one_end;
    only_runs = only_runs;
    every_run = every_run;
    comes_to_rest = comes_to_rest p ok t sound all;
    are_runs = λ cs. all.leads (word cs) (reached cs).followed;
    refused = refused p t;
  }

-- every program is proper and every trace sound
pub replay_promise : ReplayPromise
replay_promise q u size =
    let p = code_of q in
    let t = history (parts u) in
    let sound = checks_exactly.only u in
    promised p (proper q) t sound (replays p t sound size)
