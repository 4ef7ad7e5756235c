-- In whatever order permitted threads step, a trace is followed to one end: from the laws of two moves and of lists of steps.
use Rattle.std.proofs.Common.{◌≡◌, ℕ, ◌+◌, ◌<◌, ◌≤◌, ◌≢◌, List, [], ◌∷◌, ◌++◌, length, sym, refl, ap, ◌∙◌, subst, append_assoc, append-nil, arith, length-append}
use mathlib.Core.Option.{Option, some}
use Rattle.std.proofs.lemmas.Bool.Decides.{nat_tests}
use Rattle.machine.specs.declared.Thread.{Thread}
use Rattle.machine.specs.declared.Item.{Item}
use Rattle.machine.specs.Map.{pick, put, same_number}
use Rattle.machine.specs.Words.{Word, reach, times}
use Rattle.machine.specs.Machine.{Code, State, Instr, Object, nothing, variable, semaphore, mutex, same_object, object, next, touch, here, step, step_at, Free, Able, Run, after, start, got, got_at, reads}
use Rattle.machine.proofs.Laws.{one_more}
use Rattle.machine.proofs.Maps.{pick_yes, put_other}
use Rattle.machine.proofs.Laws.{run_laws}
use Rattle.trace.specs.declared.Event.{Event}
use Rattle.trace.specs.History.{History, event, event_at, recorded, trace_of, SoundTrace}
use Rattle.trace.specs.Agreement.{AgreeOn, Agree}
use Rattle.trace.proofs.Texts.{one_pass}
use Rattle.trace.proofs.Runs.{SoundAt}
use Rattle.following.specs.Following.{Progress, opened, Turn, Permitted, use_up, left_at, advance}
use Rattle.following.specs.Laws.{Followed, end, Ended, Complete, Same, Replayed, Replays}
use Rattle.following.proofs.Meets.{Stuck, Diamond, longest, one_end, same_steps}
use Rattle.following.proofs.Puts.{put_cross}
use Rattle.following.proofs.Objects.{sound_kept, use_length, Calm, calm, leads, follows, agree_none, agree_same}
use Rattle.following.proofs.Moves.{move, moved, move_apart, move_same}

-- what is left of each object is sound from what it holds
abbrev Good : Progress → Type 0
Good r = (o : Object) → SoundAt o (r.machine.item o) (r.left o)

-- a move leaves other threads as they were
still : (i j : ℕ) (c : Instr) (l : Thread) (o : Object) (r : Progress) → i ≢ j → (move i c l o r).machine.thread j ≡ r.machine.thread j
still i j c l o r apart = put_other same_number r.machine.thread i (next c l (r.machine.item o).value) j (λ (e : j ≡ i). apart (sym e))

module _ (p : Code) where
  -- the machine goes its own way
  pub machine_of : (r : Progress) (us : List ℕ) → (reach (advance p) r us).machine ≡ after p r.machine us
  machine_of r [] = refl
  machine_of r (i ∷ us) = machine_of (advance p i r) us

  -- two steps are two moves
  two : (i j : ℕ) (c d : Instr) (r : Progress) → i ≢ j → here p r.machine i ≡ some c → here p r.machine j ≡ some d → advance p j (advance p i r) ≡ move j d (r.machine.thread j) (object d) (move i c (r.machine.thread i) (object c) r)
  two i j c d r apart ei ej =
      let s = move i c (r.machine.thread i) (object c) r in
      let other = still i j c (r.machine.thread i) (object c) r apart in
      ap (advance p j) (moved p i c r ei)
      ∙ moved p j d s (ap (λ (l : Thread). p.at j l.place) other ∙ ej)
      ∙ ap (λ (l : Thread). move j d l (object d) s) other

module _ (p : Code) (t : History) where
  -- each of these threads is permitted at its turn, from here on
  abbrev Steps : Progress → List ℕ → Type 0
  Steps = Word (advance p) (Permitted p t)

  -- a permitted step leaves what is left sound
  good_step : (i : ℕ) (r : Progress) → Good r → Permitted p t r i → Good (advance p i r)
  good_step i r g a o = subst (λ (u : Option Instr). SoundAt o ((step_at u i r.machine).item o) (left_at u i r.left o)) (sym a.able.is) (go (same_object o (object c)))
    where
      c : Instr
      c = a.able.c

      x : Item
      x = touch i c (r.machine.thread i) (r.machine.item (object c))

      q : List Event
      q = use_up i c (r.left (object c))

      go : (d : Dec (o ≡ object c)) → SoundAt o (pick d x (r.machine.item o)) (pick d q (r.left o))
      go (yes e) = subst (λ (u : Object). SoundAt u x q) (sym e) (sound_kept i c (r.machine.thread i) (r.machine.item (object c)) (r.left (object c)) (g (object c)) a.turn)
      go (no h) = g o

  -- two threads permitted at once
  module _ (i j : ℕ) (r : Progress) (apart : i ≢ j) (g : Good r) (a : Permitted p t r i) (b : Permitted p t r j) where
    abbrev c : Instr
    c = a.able.c

    abbrev d : Instr
    d = b.able.c

    abbrev li : Thread
    li = r.machine.thread i

    abbrev lj : Thread
    lj = r.machine.thread j

    abbrev after_i : Progress
    after_i = move i c li (object c) r

    -- where they are at one object
    at_one : object c ≡ object d → Calm i j c d li lj (r.machine.item (object c)) (r.left (object c))
    at_one e = calm i j c d li lj (r.machine.item (object c)) (r.left (object c)) apart e (g (object c)) a.turn (subst (λ (u : Object). Turn j d (r.machine.item u) (r.left u)) (sym e) b.turn)

    -- after i, j's object has the same value, and j is on turn
    seen : ((after_i.machine.item (object d)).value ≡ (r.machine.item (object d)).value) × Turn j d (after_i.machine.item (object d)) (after_i.left (object d))
    seen = go (same_object (object d) (object c))
      where
        x : Dec (object d ≡ object c) → Item
        x n = pick n (touch i c li (r.machine.item (object c))) (r.machine.item (object d))

        go : (n : Dec (object d ≡ object c)) → ((x n).value ≡ (r.machine.item (object d)).value) × Turn j d (x n) (pick n (use_up i c (r.left (object c))) (r.left (object d)))
        go (yes e) = let w = at_one (sym e) in (w.value_i ∙ ap (λ (u : Object). (r.machine.item u).value) (sym e), w.turn)
        go (no h) = (refl, b.turn)

    -- so j is permitted still
    kept : Permitted p t after_i j
    kept =
        let same = still i j c li (object c) r apart in
        record {
          able = record { c = d; is = ap (λ (l : Thread). p.at j l.place) same ∙ b.able.is; free = subst (Free p.limits j d) (sym seen.0) b.able.free };
          below = subst (λ (l : Thread). l.count < t.counts j) (sym same) b.below;
          turn = seen.1;
        }

    -- and reads the same
    same_got : got_at (here p (advance p i r).machine j) (advance p i r).machine ≡ got_at (here p r.machine j) r.machine
    unfolding kept
    same_got =
        ap (λ (s : Progress). got_at (here p s.machine j) s.machine) (moved p i c r a.able.is)
        ∙ ap (λ (u : Option Instr). got_at u after_i.machine) kept.able.is
        ∙ ap (got d) seen.0
        ∙ sym (ap (λ (u : Option Instr). got_at u r.machine) b.able.is)

    -- and either may go first
    swapped : advance p j (advance p i r) ≡ advance p i (advance p j r)
    swapped = two p i j c d r apart a.able.is b.able.is ∙ go (same_object (object c) (object d)) ∙ sym (two p j i d c r (λ (e : j ≡ i). apart (sym e)) b.able.is a.able.is)
      where
        go : Dec (object c ≡ object d) → move j d lj (object d) (move i c li (object c) r) ≡ move i c li (object c) (move j d lj (object d) r)
        go (yes e) = subst (λ (o : Object). move j d lj o (move i c li (object c) r) ≡ move i c li (object c) (move j d lj o r)) e (move_same i j c d li lj r apart (object c) (at_one e))
        go (no h) = move_apart i j c d li lj r apart (object c) (object d) h

  -- how far a replay has come, with what each thread has read
  record Logged : Type 0 where
    progress : Progress
    log : ℕ → List (ℕ × ℕ)

  abbrev got_by : ℕ → Progress → List (ℕ × ℕ)
  got_by i r = got_at (here p r.machine i) r.machine

  abbrev go_on : ℕ → Logged → Logged
  go_on i s = record { progress = advance p i s.progress; log = put same_number s.log i (s.log i ++ got_by i s.progress) }

  -- permitted, where what is left is sound
  abbrev May : Logged → ℕ → Type 0
  May s i = Good s.progress × Permitted p t s.progress i

  diamond : Diamond go_on May
  diamond s i j apart a b =
      let r = s.progress in
      let other : j ≢ i = λ (e : j ≡ i). apart (sym e) in
      let f = s.log in
      let logs = put_cross same_number f i j (f i ++ got_by i r) (f j ++ got_by j r) (put same_number f j (f j ++ got_by j r) i ++ got_by i (advance p j r)) (put same_number f i (f i ++ got_by i r) j ++ got_by j (advance p i r)) apart
      (λ k. put_other same_number f j (f j ++ got_by j r) i apart k ++ same_got j i r other a.0 b.1 a.1 k)
      (λ k. put_other same_number f i (f i ++ got_by i r) j other k ++ same_got i j r apart a.0 a.1 b.1 k) in
      let still_may = subst (λ (u : Progress). Permitted p t u j) (sym (moved p i a.1.able.c r a.1.able.is)) (kept i j r apart a.0 a.1 b.1) in
      ((good_step i r a.0 a.1, still_may), λ k. record { progress = swapped i j r apart a.0 a.1 b.1 k; log = logs k })

  -- steps that are permitted are so with the log too
  good_word : (s : Logged) (us : List ℕ) → Good s.progress → Steps s.progress us → Word go_on May s us
  good_word s [] g w = tt
  good_word s (i ∷ us) g w = ((g, w.0), good_word (go_on i s) us (good_step i s.progress g w.0) w.1)

  progress_of : (s : Logged) (us : List ℕ) → (reach go_on s us).progress ≡ reach (advance p) s.progress us
  progress_of s [] = refl
  progress_of s (i ∷ us) = progress_of (go_on i s) us

  -- the log has the reads of each thread
  log_of : (s : Logged) (us : List ℕ) (i : ℕ) → (reach go_on s us).log i ≡ s.log i ++ reads p s.progress.machine us i
  log_of s [] i = sym (append-nil (s.log i))
  log_of s (k ∷ us) i = log_of (go_on k s) us i ∙ by (same_number i k)
    where
      now : List (ℕ × ℕ)
      now = got_by k s.progress

      rest : List (ℕ × ℕ)
      rest = reads p (step p k s.progress.machine) us i

      by : (d : Dec (i ≡ k)) → pick d (s.log k ++ now) (s.log i) ++ rest ≡ s.log i ++ (pick d now [] ++ rest)
      by (yes e) = ap (λ (n : ℕ). (s.log n ++ now) ++ rest) (sym e) ∙ append_assoc (s.log i) now rest
      by (no _) = refl

  -- permitted steps are a run
  run_of : (r : Progress) (us : List ℕ) → Steps r us → Run p r.machine us
  run_of r [] w = tt
  run_of r (i ∷ us) w = (w.0.able, run_of (advance p i r) us w.1)

  -- no count passes the trace's
  in_counts : (k : ℕ) (r : Progress) (us : List ℕ) → Steps r us → (r.machine.thread k).count ≤ t.counts k → ((after p r.machine us).thread k).count ≤ t.counts k
  in_counts k r [] w h = h
  in_counts k r (i ∷ us) w h = in_counts k (advance p i r) us w.1 (let n = one_more p r.machine i k w.0.able in let b = w.0.below in grind (arith, nat_tests))

  -- a relation of a run's events to what is left that an event on turn, put in front, keeps
  abbrev Leading : (Object → List Event → List Event → Type 0) → Type 0
  Leading R = (i : ℕ) (c : Instr) (x : Item) (a q : List Event) → SoundAt (object c) x q → Turn i c x q → R (object c) a (use_up i c q) → R (object c) (event i c x ++ a) q

  module _ (R : Object → List Event → List Event → Type 0) (leading : Leading R) where
    -- holds from the start of permitted steps where it holds at their end
    led : (r : Progress) (us : List ℕ) → Good r → Steps r us → ((o : Object) → R o [] ((reach (advance p) r us).left o)) → (o : Object) → R o (recorded p r.machine us o) (r.left o)
    led r [] g w h o = h o
    led r (i ∷ us) g w h o =
        subst (λ (u : Option Instr). R o (rest o) (left_at u i r.left o) → R o (event_at u i r.machine o ++ rest o) (r.left o)) (sym w.0.able.is) (go (same_object o (object c)))
        (led (advance p i r) us (good_step i r g w.0) w.1 h o)
      where
        c : Instr
        c = w.0.able.c

        x : Item
        x = r.machine.item (object c)

        q : List Event
        q = r.left (object c)

        rest : Object → List Event
        rest = recorded p (step p i r.machine) us

        go : (d : Dec (o ≡ object c)) → R o (rest o) (pick d (use_up i c q) (r.left o)) → R o (pick d (event i c x) [] ++ rest o) (r.left o)
        go (yes e) = subst (λ (u : Object). R u (rest u) (use_up i c q) → R u (event i c x ++ rest u) (r.left u)) (sym e) (leading i c x (rest (object c)) q (g (object c)) w.0.turn)
        go (no h) = λ s. s

  -- the events of these steps agree with what is left
  abbrev Ahead : Progress → List ℕ → Type 0
  Ahead r us = (o : Object) → AgreeOn o (recorded p r.machine us o) (r.left o)

  module _ (r : Progress) (i : ℕ) (us : List ℕ) (a : Able p r.machine i) (g : Good r) (h : Ahead r (i ∷ us)) where
    abbrev ci : Instr
    ci = a.c

    abbrev xi : Item
    xi = r.machine.item (object ci)

    abbrev qi : List Event
    qi = r.left (object ci)

    abbrev rest : Object → List Event
    rest = recorded p (step p i r.machine) us

    -- the same with the thread's instruction in place
    there : (o : Object) → AgreeOn o (pick (same_object o (object ci)) (event i ci xi) [] ++ rest o) (r.left o)
    there o = subst (λ (u : Option Instr). AgreeOn o (event_at u i r.machine o ++ rest o) (r.left o)) a.is (h o)

    -- the first step's event is on turn, and the rest agrees with what it leaves
    first_led : Turn i ci xi qi × AgreeOn (object ci) (rest (object ci)) (use_up i ci qi)
    first_led =
        leads i ci xi (rest (object ci)) qi (g (object ci))
        (subst (λ (l : List Event). AgreeOn (object ci) (l ++ rest (object ci)) qi) (pick_yes (same_object (object ci) (object ci)) (event i ci xi) [] refl) (there (object ci)))

    -- so the other steps' events agree with what is left after it
    then_ahead : Ahead (advance p i r) us
    then_ahead o = subst (λ (u : Option Instr). AgreeOn o (rest o) (left_at u i r.left o)) (sym a.is) (go (same_object o (object ci)) (there o))
      where
        go : (d : Dec (o ≡ object ci)) → AgreeOn o (pick d (event i ci xi) [] ++ rest o) (r.left o) → AgreeOn o (rest o) (pick d (use_up i ci qi) (r.left o))
        go (yes e) s = subst (λ (u : Object). AgreeOn u (rest u) (use_up i ci qi)) (sym e) first_led.1
        go (no n) s = s

  -- a run whose events agree with what is left is permitted, and leaves none
  run_followed : (r : Progress) (us : List ℕ) → Good r → Run p r.machine us → Ahead r us → ((k : ℕ) → times k us + (r.machine.thread k).count ≤ t.counts k) → Steps r us × ((o : Object) → o ≢ nothing → (reach (advance p) r us).left o ≡ [])
  run_followed r [] g w h n = (tt, λ o k. agree_none o (r.machine.item o) (r.left o) k (g o) (h o))
  run_followed r (i ∷ us) g w h n =
      let b : (r.machine.thread i).count < t.counts i = let most = n i in grind (arith, nat_tests) in
      let m : Permitted p t r i = record { able = w.0; below = b; turn = (first_led r i us w.0 g h).0 } in
      let again = run_followed (advance p i r) us (good_step i r g m) w.1 (then_ahead r i us w.0 g h) (λ k. omega (arith, n k, one_more p r.machine i k w.0)) in
      ((m, again.0), again.1)

-- at the start of a sound trace all that is left is sound
good_start : (p : Code) (t : History) → SoundTrace t → Good (opened p t)
good_start p t s nothing = tt
good_start p t s (variable v) = one_pass (t.seq (variable v)) (s.sound v)
good_start p t s (semaphore n) = tt
good_start p t s (mutex n) = tt

module _ (p : Code) (t : History) (s : SoundTrace t) where
  abbrev first_state : Logged p t
  first_state = record { progress = opened p t; log = λ _. [] }

  -- what is equal with the log ends alike
  alike : (us ws : List ℕ) → reach (go_on p t) first_state us ≡ reach (go_on p t) first_state ws → Same p t us ws
  alike us ws e = record {
    ends = sym (progress_of p t first_state us) ∙ ap (λ (x : Logged p t). x.progress) e ∙ progress_of p t first_state ws;
    gets = λ i. sym (log_of p t first_state us i) ∙ ap (λ (x : Logged p t). x.log i) e ∙ log_of p t first_state ws i;
  }

  word : (us : List ℕ) → Followed p t us → Word (go_on p t) (May p t) first_state us
  word us f = good_word p t first_state us (good_start p t s) f

  stuck : (us : List ℕ) → Ended p t us → Stuck (go_on p t) (May p t) (reach (go_on p t) first_state us)
  stuck us h i m = h i (subst (λ (r : Progress). Permitted p t r i) (progress_of p t first_state us) m.1)

  short : (us ws : List ℕ) → Followed p t us → Ended p t us → Followed p t ws → length ws ≤ length us
  short us ws f e f' = longest (go_on p t) (May p t) (diamond p t) first_state ws us (word ws f') (word us f) (stuck us e)

  as_one : (us ws : List ℕ) → Followed p t us → Ended p t us → Followed p t ws → Ended p t ws → Same p t us ws
  as_one us ws f e f' e' = alike us ws (one_end (go_on p t) (May p t) (diamond p t) first_state us ws (word us f) (word ws f') (stuck us e) (stuck ws e'))

  count_of : (us : List ℕ) (i : ℕ) → ((end p t us).machine.thread i).count ≡ ((after p (start p) us).thread i).count
  count_of us i = ap (λ (m : State). (m.thread i).count) (machine_of p (opened p t) us)

  -- a run whose trace agrees is complete
  of_run : (us : List ℕ) → Run p (start p) us → Agree (trace_of p us) t → Complete p t us
  of_run us w a =
      let counted = (run_laws p).counted in
      let f = run_followed p t (opened p t) us (good_start p t s) w a.seqs (λ k. omega (arith, counted us w k, counted [] tt k, a.counts_same k)) in
      record { followed = f.0; used = f.1; reached = λ i. count_of us i ∙ a.counts_same i }

  -- no event to come agrees with none left
  none_left : (us : List ℕ) → Complete p t us → (o : Object) → AgreeOn o [] ((end p t us).left o)
  none_left us c o = go (same_object o nothing)
    where
      go : Dec (o ≡ nothing) → AgreeOn o [] ((end p t us).left o)
      go (yes e) = subst (λ (u : Object). AgreeOn u [] ((end p t us).left o)) (sym e) tt
      go (no n) = subst (AgreeOn o []) (sym (c.used o n)) (agree_same o [])

  -- and complete steps are such a run
  to_run : p.threads ≡ t.threads → (us : List ℕ) → Complete p t us → Run p (start p) us × Agree (trace_of p us) t
  to_run size us c = (
    run_of p t (opened p t) us c.followed,
    record {
      threads_same = size;
      counts_same = λ i. sym (count_of us i) ∙ c.reached i;
      seqs = led p t AgreeOn follows (opened p t) us (good_start p t s) c.followed (none_left us c);
    },
  )

  -- where all counts are reached, no thread is permitted
  complete_ends : (us : List ℕ) → Complete p t us → Ended p t us
  complete_ends us c i m = let e = c.reached i in let b = m.below in omega arith

  again : (us ws : List ℕ) → Run p (start p) us → Agree (trace_of p us) t → Followed p t ws → Ended p t ws → Replayed p t us ws
  again us ws w a f e =
      let c = of_run us w a in
      let d = complete_ends us c in
      let same = as_one ws us f e c.followed d in
      record {
        complete = record {
          followed = f;
          used = λ o n. ap (λ (r : Progress). r.left o) same.ends ∙ c.used o n;
          reached = λ i. ap (λ (r : Progress). (r.machine.thread i).count) same.ends ∙ c.reached i;
        };
        machine = ap (λ (r : Progress). r.machine) same.ends ∙ machine_of p (opened p t) us;
        gets = same.gets;
        steps = (let x = short us ws c.followed d f in let y = short ws us f e c.followed in omega arith);
      }

  -- complete steps record as many events of each object as the trace has
  pub same_lengths : (us : List ℕ) → Complete p t us → (o : Object) → o ≢ nothing → length (recorded p (start p) us o) ≡ length (t.seq o)
  same_lengths us c =
      led p t (λ o a q. o ≢ nothing → length a ≡ length q) (λ i c x a q g f h n. omega (arith, length-append (event i c x) a, use_length i c x q n f, h n))
      (opened p t) us (good_start p t s) c.followed (λ o n. sym (ap length (c.used o n)))

-- all that holds of a program and a sound trace of as many threads
pub replays : (p : Code) (t : History) → SoundTrace t → p.threads ≡ t.threads → Replays p t
replays p t s size = record {
  leads = run_of p t (opened p t);
  counts_most = λ us f i. in_counts p t i (opened p t) us f (omega (arith, (run_laws p).counted [] tt i));
  longest = short p t s;
  one_end = as_one p t s;
  same_steps = λ us ws f f' h. alike p t s us ws (same_steps (go_on p t) (May p t) (diamond p t) (first_state p t s) us ws (word p t s us f) (word p t s ws f') h);
  is_run = to_run p t s size;
  run_is = of_run p t s;
  replayed = again p t s;
}

-- a trace agrees with itself
pub agree_self : (t : History) → Agree t t
agree_self t = record { threads_same = refl; counts_same = λ i. refl; seqs = λ o. agree_same o (t.seq o) }
