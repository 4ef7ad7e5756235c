use Rattle.std.proofs.Common.{sym, ◌∙◌, ap, subst}
use Rattle.machine.specs.View.{code_of}
use Rattle.following.specs.declared.used.Used.{Used}
use Rattle.following.specs.Followers.{seen}
use Rattle.following.specs.View.{Kept, progress}
use Rattle.trace.specs.Traces.{history, parts}
use Rattle.trace.proofs.Exactly.{checks_exactly}
use Rattle.following.proofs.Replays.{replays}
use Rattle.following.proofs.Starts.{opens, kept_first}
use Rattle.following.proofs.follower.Follower.new.Goals as goal

pub invariant_of-result : goal.invariant_of-result
invariant_of-result c = record { kept = ∣ subst (λ (u : Used). Kept c.args.trace.now (record { machine = c.start.result; used = u })) (sym c.none.ensures) (kept_first c.args.trace.now (code_of c.args.program.now) c.start.result c.start.ensures.value) ∣₁ }

pub returns-clause-start : goal.returns-clause-start
unfolding seen
returns-clause-start c = ap (λ (u : Used). progress c.args.trace.now (record { machine = c.start.result; used = u })) c.none.ensures ∙ opens c.args.trace.now (code_of c.args.program.now) c.start.result c.start.ensures.value

pub returns-clause-laws : goal.returns-clause-laws
returns-clause-laws c = λ p t size. replays (code_of p) (history (parts t)) (checks_exactly.only t) size
