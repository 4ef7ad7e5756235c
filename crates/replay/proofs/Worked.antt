-- The worked examples, by computation.
use Rattle.std.proofs.Common.{◌≡◌, ℕ, zero, suc, Bool, true, false, ◌&&◌, List, [], ◌∷◌, refl}
use Rattle.std.proofs.lemmas.Bool.{and_parts}
use Rattle.machine.specs.Machine.{Code, State, start, step, able, Run, after}
use Rattle.machine.proofs.Decides.{said, denied, says_able}
use Rattle.schedule.specs.Threads.{set_of}
use Rattle.following.specs.Following.{permitted}
use Rattle.following.specs.Ends.{lowest_below, first_unused}
use Rattle.replay.specs.Worked.{Worked, bump, bump_run, crossed, crossed_run}

-- whether each thread is able at its turn
abbrev all_able : Code → State → List ℕ → Bool
all_able p m [] = true
all_able p m (i ∷ us) = able p m i && all_able p (step p i m) us

makes_run : (p : Code) (m : State) (us : List ℕ) → all_able p m us ≡ true → Run p m us
makes_run p m [] h = tt
makes_run p m (i ∷ us) h =
    let both = and_parts (able p m i) (all_able p (step p i m) us) h in
    (said (says_able p m i) both.0, makes_run p (step p i m) us both.1)

none_able : (i : ℕ) → able crossed (after crossed (start crossed) crossed_run) i ≡ false
none_able zero = refl
none_able (suc zero) = refl
none_able (suc (suc zero)) = refl
none_able (suc (suc (suc k))) = refl

pub worked : Worked
unfolding permitted set_of lowest_below first_unused
worked = record {
  bump_is_run = makes_run bump (start bump) bump_run refl;
  logged = refl;
  sequence_0 = refl;
  count_1 = refl;
  count_2 = refl;
  count_3 = refl;
  value = refl;
  complete = refl;
  value_again = refl;
  granted = refl;
  refused = refl;
  stuck = refl;
  unused = refl;
  early = refl;
  early_read = refl;
  crossed_is_run = makes_run crossed (start crossed) crossed_run refl;
  deadlock = λ i. denied (says_able crossed (after crossed (start crossed) crossed_run) i) (none_able i);
  crossed_complete = refl;
}
