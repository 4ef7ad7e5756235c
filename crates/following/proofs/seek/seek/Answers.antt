use Rattle.std.proofs.Common.{ℕ, ◌+◌, ◌-◌, not, eqb, length, take, drop, ap, ◌∙◌, rules, tests}
use Rattle.std.specs.Slice.Iter.{iter_rest}
use Rattle.std.proofs.lemmas.Iterator.{YieldsList-from_slice}
use Rattle.std.proofs.lemmas.Iterator.Consumers.{count_from_yields_List}
use Rattle.std.proofs.lemmas.Iterator.Search.{YieldsList-from_take_while}
use Rattle.std.proofs.lemmas.List.Folds.{length-prefix_len}
use Rattle.trace.specs.Sound.{who}
use Rattle.following.proofs.Cursors.{from_others}
use Rattle.following.proofs.seek.seek.Goals as goal

pub returns : goal.returns
returns c =
    ap (λ (n : ℕ). c.args.start + n)
    (count_from_yields_List c.take_while-others.result _ c.count.ensures.ran
    (YieldsList-from_take_while _ (λ e. not (eqb (who e) c.args.thread))
    (YieldsList-from_slice (take (length c.args.sequence.now - c.args.start) (drop c.args.start c.args.sequence.now)) (ap iter_rest c.take_while-others.ensures.source ∙ c.iter.ensures.rest))
    c.take_while-others.ensures.closure c.take_while-others.ensures.done (λ x b q k. search (rules, tests)))
    ∙ length-prefix_len (λ e. not (eqb (who e) c.args.thread)) (take (length c.args.sequence.now - c.args.start) (drop c.args.start c.args.sequence.now)))
    ∙ from_others c.args.thread c.args.start c.args.sequence.now
