use Rattle.std.proofs.Common.{◌≡◌, sym, refl, ◌∙◌, rules, tests}
use Rattle.std.proofs.lemmas.Iterator.{YieldsList-from_range}
use Rattle.std.proofs.lemmas.Iterator.Search.{find_from_yields_List}
use Rattle.std.proofs.lemmas.Iterator.Adapters.{option_map_id}
use Rattle.following.specs.Ends.{lowest_below}
use Rattle.following.specs.Following.{below}
use Rattle.following.specs.Followers.{seen, trace_of}
use Rattle.following.proofs.Firsts.{found_first}
use Rattle.following.proofs.follower.Follower.lowest_below.Goals as goal

pub returns : goal.returns
unfolding lowest_below seen
returns c =
    let T = trace_of c.args.self.now in
    let m = (seen c.args.self.now).machine in
    let found : c.find.result ≡ lowest_below T m =
    sym (option_map_id c.find.result)
    ∙ find_from_yields_List (below T m) _ _ _ c.find.ensures.ran (YieldsList-from_range 1 9 8 refl refl) (λ x b q k. search (rules, tests))
    ∙ found_first (below T m) 1 8 in
    search (rules, found)
