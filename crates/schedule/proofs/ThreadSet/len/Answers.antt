use Rattle.std.proofs.Common.{rules, tests, arith, ◌≡◌, ◌∙◌, cond}
use Rattle.std.specs.List.{sum_by}
use Rattle.std.proofs.lemmas.Iterator.{YieldsList-from_slice}
use Rattle.std.proofs.lemmas.Iterator.Adapters.{fits_from_length, at_most_from_yields_List}
use Rattle.schedule.proofs.Kept.{counted}
use Rattle.schedule.proofs.ThreadSet.len.Goals as goal

pub returns : goal.returns
returns c =
    let e : c.sum.result ≡ sum_by (λ b. cond b 1 0) c.args.self.now.offered = search rules in
    e ∙ counted 1 c.args.self.now.offered

pub sum-requires-clause-fits : goal.sum-requires-clause-fits
sum-requires-clause-fits c =
    fits_from_length _ _ 8 _ (at_most_from_yields_List (YieldsList-from_slice c.args.self.now.offered cc) (grind arith)) c.map.ensures.closure (omega arith) (λ x r q k. search (rules, tests))
