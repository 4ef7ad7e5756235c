-- A draft after a call, where what it held before is known.
use Rattle.std.proofs.Common.{◌≡◌, ℕ, Bool, true, Option, Result, None, Some, Ok, Err, cond, ap, sym, ◌∙◌}
use Rattle.std.specs.Option.{IsSomeAnd}
use Rattle.std.specs.Result.{result_ok}
use Rattle.trace.specs.declared.Event.{Event}
use Rattle.trace.specs.declared.Trace.{Trace}
use Rattle.trace.specs.declared.faults.Fault.{Fault}
use Rattle.trace.specs.Sound.{fits, within}
use Rattle.trace.specs.Traces.{parts}
use Rattle.trace.specs.Drafts.{Drafted, added, counted, draft_parts, fault}
use Rattle.trace.specs.Finishes.{Finished}

module _ (D d e : Drafted) (r : Bool) (before : d ≡ D) where
  pub after_add : (k : ℕ) (v w : Event) → v ≡ w → r ≡ fits d.threads k v → e ≡ cond r (added d k v) d → fits D.threads k w ≡ true → e ≡ added D k w
  after_add k v w same answer after fit =
      let yes : r ≡ true = answer ∙ ap (λ (x : Drafted). fits x.threads k v) before ∙ ap (fits D.threads k) same ∙ fit in
      after ∙ ap (λ b. cond b (added d k v) d) yes ∙ ap (λ x. added x k v) before ∙ ap (added D k) same

  pub after_count : (i c : ℕ) → r ≡ within d.threads i → e ≡ cond r (counted d i c) d → within D.threads i ≡ true → e ≡ counted D i c
  after_count i c answer after fit =
      let yes : r ≡ true = answer ∙ ap (λ (x : Drafted). within x.threads i) before ∙ fit in
      after ∙ ap (λ b. cond b (counted d i c) d) yes ∙ ap (λ x. counted x i c) before

-- a draft with no fault makes a trace of its parts
pub made : (D d : Drafted) (o : Option Trace) (r : Result Trace Fault) → d ≡ D → fault D ≡ None → Finished d r → o ≡ result_ok r → IsSomeAnd o (λ t. parts t ≡ draft_parts D)
made D d None (Ok t) before none f e = absurd (cc)
made D d (Some u) (Ok t) before none f e = let s : u ≡ t = cc in ap parts s ∙ f.1 ∙ ap draft_parts before
made D d o (Err x) before none f e = absurd (let q : None ≡ Some x = sym none ∙ sym (ap fault before) ∙ f in cc)
