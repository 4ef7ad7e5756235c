-- A local step leaves every other thread as permitted as it was.
use Rattle.std.proofs.Common.{◌≡◌, ℕ, Bool, true, ◌&&◌, ltb, ◌≢◌, sym, refl, ap, ◌∙◌}
use mathlib.Core.Option.{Option, none, some}
use Rattle.machine.specs.declared.Thread.{Thread}
use Rattle.machine.specs.Map.{put, same_number}
use Rattle.machine.specs.Machine.{Code, Instr, Local, nothing, same_object, next, here, able_at, step_at}
use Rattle.machine.proofs.Maps.{put_other, put_is}
use Rattle.trace.specs.History.{History}
use Rattle.following.specs.Following.{Progress, advance, left_at, local_at, turn_at, permitted}
use Rattle.following.proofs.Events.{no_clash}

module _ (p : Code) (t : History) (r : Progress) (i : ℕ) where
  -- the replay with another state of thread i
  abbrev with_thread : Thread → Progress
  with_thread l = record { machine = record { thread = put same_number r.machine.thread i l; item = r.machine.item }; left = r.left }

  local_step : (c : Local) → here p r.machine i ≡ some (Instr.local c) → advance p i r ≡ with_thread (next (Instr.local c) (r.machine.thread i) (r.machine.item nothing).value)
  local_step c e =
      (λ j. record { machine = step_at (e j) i r.machine; left = left_at (e j) i r.left })
      ∙ (λ j. record {
        machine = record {
          thread = put same_number r.machine.thread i (next (Instr.local c) (r.machine.thread i) (r.machine.item nothing).value);
          item = sym (put_is same_object r.machine.item nothing (r.machine.item nothing) r.machine.item refl (λ o n. refl)) j;
        };
        left = sym (put_is same_object r.left nothing (r.left nothing) r.left refl (λ o n. refl)) j;
      })

  module _ (k : ℕ) (apart : k ≢ i) where
    -- whether thread k is permitted rests on its own state l, its instruction u and the objects
    abbrev test : Thread → Thread → Option Instr → Bool
    test x l u = able_at p (with_thread x).machine k u && (ltb l.count (t.counts k) && turn_at u k (with_thread x))

    same : (x : Thread) (u : Option Instr) → test x (r.machine.thread k) u ≡ (able_at p r.machine k u && (ltb (r.machine.thread k).count (t.counts k) && turn_at u k r))
    same x none = refl
    same x (some c) = refl

    by_own : (x : Thread) → permitted p t (with_thread x) k ≡ permitted p t r k
    unfolding permitted
    by_own x = ap (λ (l : Thread). test x l (p.at k l.place)) (put_other same_number r.machine.thread i x k apart) ∙ same x (here p r.machine k)

    pub stays : local_at (here p r.machine i) ≡ true → permitted p t (advance p i r) k ≡ permitted p t r k
    stays h = go (here p r.machine i) refl h
      where
        go : (u : Option Instr) → here p r.machine i ≡ u → local_at u ≡ true → permitted p t (advance p i r) k ≡ permitted p t r k
        go none e h = no_clash (cc)
        go (some (Instr.local c)) e h = ap (λ (x : Progress). permitted p t x k) (local_step c e) ∙ by_own (next (Instr.local c) (r.machine.thread i) (r.machine.item nothing).value)
        go (some (Instr.read a v)) e h = no_clash (cc)
        go (some (Instr.write a v)) e h = no_clash (cc)
        go (some (Instr.synchronise o n)) e h = no_clash (cc)
