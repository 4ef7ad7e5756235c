use Rattle.std.proofs.Common.{rules, tests, ◌≡◌, ◌∙◌, Some}
use Rattle.std.specs.Option.{MatchOption}
use Rattle.schedule.specs.Threads.{threads, found_above}
use Rattle.schedule.proofs.Named.{next_found}
use Rattle.schedule.proofs.turn.TurnScheduler.name.Goals as goal

pub returns : goal.returns
returns c =
    let ts = threads c.args.set in
    let a : MatchOption c.first_above.result (c.or_else.result ≡ found_above 0 ts) (λ x. c.or_else.result ≡ Some x) = search (rules, tests) in
    let e = c.unwrap_or.ensures ∙ next_found c.args.self.now.last ts c.first_above.result c.or_else.result c.first_above.ensures.found a in
    search (rules, tests)
