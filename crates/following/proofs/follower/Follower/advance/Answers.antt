use Rattle.std.proofs.Common.{Bool, cond, sym, refl, ap, ◌∙◌, rules}
use Rattle.following.specs.Following.{advance}
use Rattle.following.specs.Followers.{program_of, seen}
use Rattle.following.proofs.Advances.{due_of, moves}
use Rattle.following.proofs.Held.{held}
use Rattle.following.proofs.follower.Follower.advance.Goals as goal

pub spend-requires : goal.spend-requires
unfolding seen
spend-requires c =
    let f = c.args.self.now in
    search (rules, due_of f.program.now f.trace.now f.stage c.args.thread (held f.kept) (sym c.permitted.ensures ∙ c.if-not-permitted.false) c.next-access.result c.next-access.ensures)

pub invariant_of-self : goal.invariant_of-self
unfolding seen
invariant_of-self c =
    let f = c.args.self.now in
    let moved = moves f.program.now f.trace.now f.stage c.args.thread (held f.kept) (sym c.permitted.ensures ∙ c.if-not-permitted.false) c.next-access.result c.next-access.ensures _ c.spend.ensures _ _ c.step.ensures in
    record { kept = ∣ moved.kept ∣₁ }

pub returns : goal.returns
unfolding seen
returns c =
    let f = c.args.self.now in
    let moved = moves f.program.now f.trace.now f.stage c.args.thread (held f.kept) (sym c.permitted.ensures ∙ c.if-not-permitted.false) c.next-access.result c.next-access.ensures _ c.spend.ensures _ _ c.step.ensures in
    record {
      answer = moved.made ∙ sym c.if-not-permitted.false ∙ c.permitted.ensures;
      parts = (refl, refl);
      after = moved.after ∙ sym (ap (λ (b : Bool). cond b (advance (program_of f) c.args.thread (seen f)) (seen f)) moved.made);
    }
