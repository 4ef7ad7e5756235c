use Rattle.std.proofs.Common.{ℕ, List, [], replicate, ap, rules, tests}
use Rattle.following.specs.declared.used.Used.{Used}
use Rattle.following.specs.Cursors.{firsts}
use Rattle.following.specs.View.{row}
use Rattle.trace.proofs.Made.{made_by}
use Rattle.following.proofs.used.Used.none.Goals as goal

pub returns : goal.returns
returns c =
    let with : List (List ℕ) → Used = λ cs. record { cursors = cs; fronts = replicate 16 0 } in
    ap with (made_by (λ k. firsts (row c.args.trace.now k)) _ (λ i y q k. search (rules, tests)) c.from_fn.result 16 [] c.from_fn.ensures.items)
