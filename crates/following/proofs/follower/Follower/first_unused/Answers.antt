use Rattle.std.proofs.Common.{◌≡◌, ℕ, sym, refl, ap, ◌∙◌, rules, tests, arith}
use Rattle.std.specs.List.{find, range_with_len}
use Rattle.std.specs.Option.{option_and_then}
use Rattle.std.proofs.lemmas.Iterator.{YieldsList-from_range}
use Rattle.std.proofs.lemmas.Iterator.Adapters.{option_map_id}
use Rattle.std.proofs.lemmas.Iterator.Search.{find_from_yields_List}
use Rattle.trace.specs.Drafts.{name_at}
use Rattle.trace.specs.Traces.{named}
use Rattle.following.specs.Ends.{first_unused, some_event}
use Rattle.following.specs.Followers.{seen}
use Rattle.following.specs.View.{before_end, left, rest, row}
use Rattle.following.proofs.Firsts.{first_placed, placed}
use Rattle.following.proofs.Held.{held}
use Rattle.following.proofs.Left.{some_before}
use Rattle.following.proofs.Positions.{place_back}
use Rattle.following.proofs.follower.Follower.first_unused.Goals as goal

pub returns : goal.returns
unfolding first_unused seen
returns c =
    let t = c.args.self.now.trace.now in
    let u = c.args.self.now.stage.used in
    let kept = held c.args.self.now.kept in
    let at : c.and_then.result ≡ option_and_then placed c.find.result = search rules in
    let first : c.find.result ≡ find (λ k. before_end u k (row t k)) (range_with_len 0 32) =
    sym (option_map_id c.find.result) ∙ find_from_yields_List (λ k. before_end u k (row t k)) _ _ c.find.result c.find.ensures.ran (YieldsList-from_range 0 32 32 refl refl) (λ x b q k. search (rules, tests)) in
    at ∙ ap (option_and_then placed) first
    ∙ first_placed (λ k. before_end u k (row t k)) (λ k. some_event (left t u (named (name_at k))))
    (λ k h. some_before t u kept.sized kept.settled k ∙ sym (ap (λ (n : ℕ). some_event (rest u n (row t n))) (place_back k h))) 0 32 (omega arith)
