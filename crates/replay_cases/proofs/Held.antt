-- What becomes of a permit that is out.
use Rattle.std.proofs.Common.{◌≡◌, ℕ, true, is_some, Ok, Err, ap, arith}
use Rattle.std.proofs.lemmas.Bool.{cond-true}
use Rattle.std.proofs.lemmas.Bool.Decides.{nat_tests}
use Rattle.machine.specs.Machine.{Code}
use Rattle.trace.specs.History.{History}
use Rattle.schedule.specs.Strategies.{Strategy}
use Rattle.replay.specs.declared.Permit.{Permit}
use Rattle.replay.specs.declared.Returned.{Returned}
use Rattle.replay.specs.Calls.{Replaying, Ran, holds, requests, performs, hands_back, runs}
use Rattle.replay.proofs.Called.{held_thread, while_out}

-- the permit that a request gives is out
pub given_held : (p : Code) (t : History) (s : Replaying) (i : ℕ) (q : Permit) → Ok q ≡ (requests p t s i).answer → holds (requests p t s i).after q ≡ true
given_held p t s i q e = grind (arith, nat_tests)

module _ (p : Code) (t : History) (s : Replaying) (q : Permit) (h : holds s q ≡ true) where
  -- while a permit is out, a request alters nothing
  pub request_keeps : (i : ℕ) → (requests p t s i).after ≡ s
  request_keeps i = ap (λ o. o.after) (while_out p t s i (ap is_some (held_thread s q h)))

  -- nor does a run
  pub run_keeps : (n : ℕ) (f : Strategy) → (runs p t n s f).after ≡ s
  run_keeps n f = ap (λ (r : Ran). r.after) (cond-true (is_some s.out) _ _ (ap is_some (held_thread s q h)))

module _ (s : Replaying) (q : Permit) (x : Returned) where
  -- a permit that is given back altered nothing
  pub perform_keeps : (p : Code) → Err x ≡ (performs p s q).answer → (performs p s q).after ≡ s
  perform_keeps p e = grind (arith, nat_tests)

  pub hand_back_keeps : Err x ≡ (hands_back s q).answer → (hands_back s q).after ≡ s
  hand_back_keeps e = grind (arith, nat_tests)
