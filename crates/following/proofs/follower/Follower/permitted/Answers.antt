use Rattle.std.proofs.Common.{◌≡◌, ℕ, [], ◌∷◌, rules, drop, sym, ◌∙◌, ap, arith}
use Rattle.machine.specs.View.{code_of, view}
use Rattle.machine.proofs.Programs.{proper}
use Rattle.trace.specs.Traces.{named}
use Rattle.following.specs.Following.{first, meets}
use Rattle.following.specs.Followers.{seen}
use Rattle.following.specs.View.{lifted, next_at, row}
use Rattle.following.proofs.Accessed.{accesses, inside}
use Rattle.following.proofs.Held.{held}
use Rattle.following.proofs.Permits.{not_below, local_may, not_able, compared, event_may}
use Rattle.following.proofs.follower.Follower.permitted.Goals as goal

pub returns-then-not-below : goal.returns-then-not-below
unfolding seen
returns-then-not-below c =
    let f = c.args.self.now in
    not_below (code_of f.program.now) f.trace.now f.stage c.args.thread (sym c.if-not-below.true ∙ c.below.ensures)

pub returns-then-is_local : goal.returns-then-is_local
unfolding seen
returns-then-is_local c =
    let f = c.args.self.now in
    local_may (code_of f.program.now) f.trace.now f.stage c.args.thread (sym c.if-not-below.false ∙ c.below.ensures) (sym c.if-is_local.true ∙ c.is_local.ensures)

pub returns-then-not-able : goal.returns-then-not-able
unfolding seen
returns-then-not-able c =
    let f = c.args.self.now in
    not_able (code_of f.program.now) f.trace.now f.stage c.args.thread (sym c.if-not-below.false ∙ c.below.ensures) (sym c.if-not-able.true ∙ c.able.ensures.answer)

pub invariant_of-spot : goal.invariant_of-spot
invariant_of-spot c =
    let p = c.args.self.now.program.now in
    let m = view c.args.self.now.stage.machine in
    let a = c.in-Some.access in
    let w = inside (code_of p) m c.args.thread (proper p) (named a.object) a.event (accesses (code_of p) m c.args.thread (named a.object) a.event c.in-Some.ensures) in
    record { first = w.one; last = w.eight; inside = omega (arith, w.place, c.place_of.ensures) }

pub returns : goal.returns
unfolding seen
returns c =
    let f = c.args.self.now in
    let p = f.program.now in
    let a = c.in-Some.access in
    let same : c.eq.result ≡ meets (a.event ∷ []) (lifted c.due-due.result) = c.eq.ensures ∙ compared _ a.event (λ d. search rules) c.due-due.result _ (search rules) in
    event_may (code_of p) f.trace.now f.stage c.args.thread (sym c.if-not-below.false ∙ c.below.ensures) (sym c.if-not-able.false ∙ c.able.ensures.answer) (proper p) (held f.kept) (named a.object) a.event
    (accesses (code_of p) (view f.stage.machine) c.args.thread (named a.object) a.event c.in-Some.ensures) c.eq.result
    (same ∙ ap (meets (a.event ∷ [])) (c.due-due.ensures ∙ ap (λ (k : ℕ). first (drop (next_at f.stage.used k c.args.thread) (row f.trace.now k))) c.place_of.ensures))
