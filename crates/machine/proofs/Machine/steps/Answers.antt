use Rattle.std.proofs.Common.{◌≡◌, rules, tests, ◌∙◌, arith}
use Rattle.std.specs.List.{sum_by}
use Rattle.std.proofs.iter.runs.Made.{chains}
use Rattle.std.proofs.lemmas.Iterator.{YieldsList-from_slice}
use Rattle.std.proofs.lemmas.Iterator.Adapters.{at_most_from_yields_List, fits_from_length}
use Rattle.machine.specs.declared.Thread.{Thread}
use Rattle.machine.specs.Machine.{total_steps}
use Rattle.machine.specs.View.{view}
use Rattle.machine.proofs.Totals.{steps_summed}
use Rattle.machine.proofs.Machine.steps.Goals as goal

pub sum-requires-clause-fits : goal.sum-requires-clause-fits
sum-requires-clause-fits c = fits_from_length _ _ 8 _ (at_most_from_yields_List (YieldsList-from_slice c.args.self.now.threads cc) (grind arith)) c.map.ensures.closure (omega arith) (λ x r q k. search (rules, tests))

pub returns : goal.returns
returns c =
    let all : c.sum.result ≡ sum_by (λ (t : Thread). t.count) c.args.self.now.threads = search (rules, chains) in
    let total : c.sum.result ≡ total_steps (view c.args.self.now) = all ∙ steps_summed c.args.self.now (omega arith) in
    search (rules, total)
