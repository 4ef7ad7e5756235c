-- After any calls, the threads that they stepped were each permitted at its turn, and the replay stands where these steps lead.
use Rattle.std.proofs.Common.{◌≡◌, ℕ, zero, suc, ◌<◌, min, true, false, ◌⊎◌, List, [], ◌∷◌, ◌++◌, length, is_some, Some, None, Option, sym, refl, ap, ◌∙◌, subst, inl, inr, append_assoc, append-nil, arith, length-append}
use Rattle.std.proofs.lemmas.Bool.{false≢true, cond_both, cases_Bool}
use Rattle.machine.specs.Words.{Word, reach}
use Rattle.machine.specs.Machine.{Code}
use Rattle.machine.specs.Proper.{Proper}
use Rattle.machine.proofs.Programs.{thread_of}
use Rattle.trace.specs.History.{History}
use Rattle.schedule.specs.Threads.{has, empty}
use Rattle.schedule.specs.Strategies.{Told, Strategy, Picks}
use Rattle.schedule.specs.Members.{empty_none, nonempty_some, none_empty, set_has}
use Rattle.following.specs.Following.{Progress, opened, Permitted, advance, permitted}
use Rattle.following.specs.Laws.{Followed, end}
use Rattle.following.proofs.Decided.{permitted_is, is_permitted}
use Rattle.following.proofs.Events.{no_clash}
use Rattle.replay.specs.Calls.{Replaying, begun, stepped, with_out, Outcome, holds, Ran, threads_told, offers, goes}
use Rattle.replay.proofs.Called.{held_thread}
use Rattle.replay.specs.Promise.{Call, made, threads_of, reaches, replayed_run}

module _ {S : Type 0} (step : ℕ → S → S) where
  reach_more : (s : S) (us : List ℕ) (i : ℕ) → reach step s (us ++ (i ∷ [])) ≡ step i (reach step s us)
  reach_more s [] i = refl
  reach_more s (k ∷ us) i = reach_more (step k s) us i

  word_more : (May : S → ℕ → Type 0) (s : S) (us : List ℕ) (i : ℕ) → Word step May s us → May (reach step s us) i → Word step May s (us ++ (i ∷ []))
  word_more May s [] i w a = (a, tt)
  word_more May s (k ∷ us) i w a = (w.0, word_more May (step k s) us i w.1 a)

module _ (p : Code) (ok : Proper p) (t : History) (r : Progress) where
  -- the threads offered are those that are permitted
  pub offers_has : (i : ℕ) → has (offers p t r) i ≡ permitted p t r i
  offers_has = set_has (permitted p t r) (λ i out. elim (cases_Bool (permitted p t r i)) [ inl e ↦ absurd (no_other i out (permitted_is p t r i e)) | inr e ↦ e ])
    where
      no_other : (i : ℕ) → (i ≡ 0) ⊎ (8 < i) → Permitted p t r i → ⊥
      no_other i (inl e) a = let u = thread_of p ok i (r.machine.thread i).place a.able.c a.able.is in omega arith
      no_other i (inr e) a = let u = thread_of p ok i (r.machine.thread i).place a.able.c a.able.is in omega (arith, ok.most)

  -- none is offered exactly where none is permitted
  pub none_offered : ((i : ℕ) → Permitted p t r i → ⊥) → empty (offers p t r) ≡ true
  none_offered h = none_empty (offers p t r) (λ i e. h i (permitted_is p t r i (sym (offers_has i) ∙ e)))

  pub offered_none : empty (offers p t r) ≡ true → (i : ℕ) → Permitted p t r i → ⊥
  offered_none e i a = false≢true (sym (empty_none (offers p t r) e i) ∙ offers_has i ∙ is_permitted p t r i a)

  -- what a scheduler names is permitted
  picked : (f : Strategy) → Picks f → (h : List Told) → empty (offers p t r) ≡ false → Permitted p t r (f h (offers p t r))
  picked f picks h e =
      let o = offers p t r in
      let w = nonempty_some o e in
      permitted_is p t r (f h o) (sym (offers_has (f h o)) ∙ picks h o w.0 w.1)

-- the threads us were stepped, each permitted at its turn, and a permit that is out is for a permitted thread
pub record Reached (p : Code) (t : History) (us : List ℕ) (s : Replaying) : Type 0 where
  pub followed : Followed p t us
  pub progress : s.progress ≡ end p t us
  pub steps : s.steps ≡ length us
  pub allowed : (i : ℕ) → s.out ≡ Some i → Permitted p t s.progress i

module _ (p : Code) (ok : Proper p) (t : History) where
  -- kept by a step of a permitted thread
  one_more : (us : List ℕ) (s : Replaying) (i : ℕ) → Reached p t us s → Permitted p t s.progress i → Reached p t (us ++ (i ∷ [])) (stepped p s i)
  one_more us s i h a = record {
    followed = word_more (advance p) (Permitted p t) (opened p t) us i h.followed (subst (λ (r : Progress). Permitted p t r i) h.progress a);
    progress = ap (advance p i) h.progress ∙ sym (reach_more (advance p) (opened p t) us i);
    steps = omega (arith, h.steps, length-append us (i ∷ []));
    allowed = λ k e. no_clash (cc);
  }

  stays : (us : List ℕ) (s : Replaying) → Reached p t us s → Reached p t (us ++ []) s
  stays us s h = subst (λ (w : List ℕ). Reached p t w s) (sym (append-nil us)) h

  -- and by another permit out, if it is for a permitted thread
  with_reached : (us : List ℕ) (s : Replaying) (o : Option ℕ) → Reached p t us s → ((i : ℕ) → o ≡ Some i → Permitted p t s.progress i) → Reached p t (us ++ []) (with_out s o)
  with_reached us s o h k = stays us (with_out s o) (record { followed = h.followed; progress = h.progress; steps = h.steps; allowed = k })

  -- after the steps us, a run came to where its own steps lead
  abbrev RanFrom : List ℕ → Ran → Type 0
  RanFrom us x = Reached p t (us ++ threads_told x.told) x.after

  -- a scheduler that names what it is offered leads there
  pub goes_reached : (n : ℕ) (us : List ℕ) (s : Replaying) (f : Strategy) → Picks f → Reached p t us s → RanFrom us (goes p t n s f)
  goes_reached zero us s f picks h = cond_both (empty (offers p t s.progress)) _ _ (RanFrom us) (λ _. stays us s h) (λ _. stays us s h)
  goes_reached (suc n) us s f picks h =
      let o = offers p t s.progress in
      let x : Told = record { offer = o; thread = f [] o } in
      let rest = goes p t n (stepped p s x.thread) (λ l. f (x ∷ l)) in
      cond_both (empty o) _ _ (RanFrom us) (λ _. stays us s h) (λ some.
      subst (λ (w : List ℕ). Reached p t w rest.after) (append_assoc us (x.thread ∷ []) (threads_told rest.told))
      (goes_reached n (us ++ (x.thread ∷ [])) (stepped p s x.thread) (λ l. f (x ∷ l)) (λ l. picks (x ∷ l)) (one_more us s x.thread h (picked p ok t s.progress f picks [] some))))

  -- after the steps us, a call came to where its own steps lead
  abbrev Comes : {A : Type 0} → List ℕ → Outcome A → Type 0
  Comes us x = Reached p t (us ++ x.threads) x.after

  -- each call does so, refused or not
  one_call : (us : List ℕ) (s : Replaying) (c : Call) → Reached p t us s → Reached p t (us ++ threads_of p t s c) (made p t s c)
  one_call us s (Call.request i) h =
      cond_both (is_some s.out) _ _ (Comes us) (λ _. stays us s h) (λ _.
      cond_both (permitted p t s.progress i) _ _ (Comes us) (λ e. with_reached us s (Some i) h (λ k same. let one : i ≡ k = cc in subst (Permitted p t s.progress) one (permitted_is p t s.progress i e))) (λ _. stays us s h))
  one_call us s (Call.perform q) h = cond_both (holds s q) _ _ (Comes us) (λ e. one_more us s q.thread h (h.allowed q.thread (held_thread s q e))) (λ _. stays us s h)
  one_call us s (Call.hand_back q) h = cond_both (holds s q) _ _ (Comes us) (λ e. with_reached us s None h (λ k x. no_clash (cc))) (λ _. stays us s h)
  one_call us s (Call.run n f picks) h = cond_both (is_some s.out) _ _ (RanFrom us) (λ _. stays us s h) (λ _. goes_reached (min n 1048575) us s f picks h)

  all_from : (us : List ℕ) (s : Replaying) (cs : List Call) → Reached p t us s → Reached p t (us ++ replayed_run p t s cs) (reaches p t s cs)
  all_from us s [] h = stays us s h
  all_from us s (c ∷ cs) h =
      subst (λ (w : List ℕ). Reached p t w (reaches p t (made p t s c) cs)) (append_assoc us (threads_of p t s c) (replayed_run p t (made p t s c) cs))
      (all_from (us ++ threads_of p t s c) (made p t s c) cs (one_call us s c h))

  -- so do any calls on a new replay
  pub all_calls : (cs : List Call) → Reached p t (replayed_run p t (begun p t) cs) (reaches p t (begun p t) cs)
  all_calls cs = all_from [] (begun p t) cs (record { followed = tt; progress = refl; steps = refl; allowed = λ k e. no_clash (cc) })
