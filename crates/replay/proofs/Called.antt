-- What each call comes to, by the tests that the code makes.
use Rattle.std.proofs.Common.{◌≡◌, ℕ, suc, true, is_some, Some, None, Err, Option, ap}
use Rattle.std.proofs.lemmas.Bool.{cond-true, eqb-true, and_parts}
use Rattle.program.specs.declared.Program.{Program}
use Rattle.machine.specs.Machine.{Code, total_steps}
use Rattle.machine.specs.View.{code_of}
use Rattle.machine.proofs.Programs.{proper}
use Rattle.machine.proofs.Totals.{steps_made}
use Rattle.trace.specs.History.{History}
use Rattle.following.specs.Following.{Progress, advance, permitted}
use Rattle.following.proofs.Decided.{permitted_is}
use Rattle.following.proofs.Events.{no_clash}
use Rattle.replay.specs.declared.Permit.{Permit}
use Rattle.replay.specs.declared.faults.Fault.TheVariants.{PermitOut}
use Rattle.replay.specs.Calls.{Replaying, gives, requests, matches, holds}

module _ (s : Replaying) (q : Permit) where
  -- the permit that is held is for the thread that is out
  pub held_thread : holds s q ≡ true → s.out ≡ Some q.thread
  held_thread h = go s.out h
    where
      go : (o : Option ℕ) → matches o s.steps q ≡ true → o ≡ Some q.thread
      go None e = no_clash (cc)
      go (Some i) e = ap Some (eqb-true i q.thread (and_parts _ _ e).0)

module _ (p : Code) (t : History) (s : Replaying) (i : ℕ) where
  pub while_out : is_some s.out ≡ true → requests p t s i ≡ gives (Err PermitOut) s
  while_out h = cond-true (is_some s.out) _ _ h

-- a permitted thread's step is one step more
pub one_step : (q : Program) (t : History) (r : Progress) (i : ℕ) → permitted (code_of q) t r i ≡ true → total_steps (advance (code_of q) i r).machine ≡ suc (total_steps r.machine)
one_step q t r i may = steps_made (code_of q) (proper q) r.machine i (permitted_is (code_of q) t r i may).able
