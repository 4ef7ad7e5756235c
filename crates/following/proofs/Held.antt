-- What every follower keeps can be taken out of its ghost field.
use Rattle.std.proofs.Common.{◌≡◌}
use mathlib.Core.Logic.{∥∥₁_elim}
use native.Mathlib.Nat.{ℕ_set}
use native.Mathlib.Bridge.{le_prop}
use Rattle.trace.specs.declared.Trace.{Trace}
use Rattle.following.specs.declared.stage.Stage.{Stage}
use Rattle.following.specs.View.{Kept}

kept_prop : (t : Trace) (s : Stage) (a b : Kept t s) → a ≡ b
kept_prop t s a b = λ j. record {
  sized = record {
    cursors = ℕ_set _ _ a.sized.cursors b.sized.cursors j;
    fronts = ℕ_set _ _ a.sized.fronts b.sized.fronts j;
    each = λ k h. ℕ_set _ _ (a.sized.each k h) (b.sized.each k h) j;
  };
  settled = λ k i h x y. ℕ_set _ _ (a.settled k i h x y) (b.settled k i h x y) j;
  room = λ v. record {
    versions = le_prop (a.room v).versions (b.room v).versions j;
    reads = le_prop (a.room v).reads (b.room v).reads j;
  };
}

pub held : {t : Trace} {s : Stage} → ∥ Kept t s ∥₁ → Kept t s
held {t} {s} k = ∥∥₁_elim k (kept_prop t s) (λ x. x)
