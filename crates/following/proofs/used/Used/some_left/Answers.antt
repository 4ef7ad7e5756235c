use Rattle.std.proofs.Common.{nat_lt, List, length, ap, sym, ◌∙◌, rules, tests}
use Rattle.std.specs.List.{list_any}
use Rattle.std.proofs.lemmas.Bool.{cond-true, lt-ltb}
use Rattle.std.proofs.lemmas.Iterator.{YieldsList-from_slice}
use Rattle.std.proofs.lemmas.Iterator.Search.{any_from_yields_List}
use Rattle.trace.specs.declared.Event.{Event}
use Rattle.following.specs.View.{cursors_at}
use Rattle.following.proofs.used.Used.some_left.Goals as goal

pub returns-then-place-lt-VARIABLES : goal.returns-then-place-lt-VARIABLES
returns-then-place-lt-VARIABLES c =
    any_from_yields_List (λ n. nat_lt n (length c.sequence_at.result.now)) _ _ _ c.any.ensures.ran (YieldsList-from_slice (cursors_at c.args.self.now c.args.place) c.iter.ensures.rest) (λ x b q k. search (rules, tests))
    ∙ ap (λ (q : List Event). list_any (λ n. nat_lt n (length q)) (cursors_at c.args.self.now c.args.place)) c.sequence_at.ensures
    ∙ sym (cond-true (nat_lt c.args.place 16) _ _ (lt-ltb _ _ c.if-place-lt-VARIABLES.true))
