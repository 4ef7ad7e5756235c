use Rattle.std.proofs.Common.{rules, tests, ◌≡◌, ◌∙◌, ◌<◌, ◌%◌, None, length}
use Rattle.std.specs.Option.{MatchOption, SomeIff}
use Rattle.std.specs.List.{slice_get}
use Rattle.schedule.specs.Threads.{threads}
use Rattle.schedule.proofs.Named.{seed_found}
use Rattle.schedule.proofs.seeded.SeededScheduler.name.Goals as goal

pub returns : goal.returns
returns c =
    let ts = threads c.args.set in
    let a : SomeIff c.checked_rem.result (0 < length ts) (c.args.self.now.state % length ts) = search (rules, tests) in
    let b : MatchOption c.checked_rem.result (c.and_then.result ≡ None) (λ n. c.and_then.result ≡ slice_get ts n) = search (rules, tests) in
    c.unwrap_or.ensures ∙ seed_found c.args.self.now.state ts c.checked_rem.result c.and_then.result a b
