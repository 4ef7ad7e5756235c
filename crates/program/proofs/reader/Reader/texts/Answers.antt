use Rattle.std.proofs.Common.{◌≡◌, ℕ, ◌<◌, List, Some, Option, length, map, vec_items, ap, ◌∙◌, arith}
use Rattle.std.specs.declared.iter.Take.{Take}
use Rattle.std.specs.declared.vec.IntoIter.{IntoIter}
use Rattle.std.specs.Iterator.{Yields}
use Rattle.std.specs.Iterator.Adapters.{take_source, take_count, take_steps}
use Rattle.std.specs.Vec.Iter.{into_iter_items, into_iter_len, into_iter_steps}
use Rattle.std.proofs.lemmas.Iterator.{YieldsList-from_take}
use Rattle.std.proofs.lemmas.Iterator.Adapters.{YieldsList-from_vec}
use Rattle.std.proofs.lemmas.Iterator.Consumers.{YieldsList-turn}
use Rattle.std.proofs.lemmas.List.{length-take, length_push, map_push}
use Rattle.std.proofs.lemmas.Result.{err_from_is_err_and}
use Rattle.program.specs.Reading.{text}
use Rattle.program.proofs.Turns.{turn, stop}
use Rattle.program.proofs.reader.Reader.texts.Goals as goal

-- where another of the first n elements comes, fewer than n have come before
fewer : {A Z : Type 0} (xs : List A) (n : ℕ) (s t u : Take (IntoIter A Z)) (ys : List A) (r : Option A) (x : A) → into_iter_items (take_source s) ≡ xs → into_iter_len (take_source s) ≡ length xs → take_count s ≡ n → Yields (take_steps into_iter_steps) s ys t → r ≡ Some x → take_steps into_iter_steps t r u → length ys < n
fewer xs n s t u ys r x items len count before is next =
    let turn = YieldsList-turn (YieldsList-from_take n (YieldsList-from_vec xs items len) count) ys t before r u x is next in
    omega (arith, turn.0, length-take n xs)

pub returns-in_err-text-clause-value : goal.returns-in_err-text-clause-value
returns-in_err-text-clause-value c =
    let more : length c.loop-spare.yielded < c.args.count = fewer (vec_items c.args.room.spares) c.args.count _ c.loop-spare.spare-iterator c.next.new.self _ c.next.result _ (cc) (cc c.args.room.spares.ok.0) (cc) c.loop-spare.yielded_by c.in-Some.is c.next.ensures.steps in
    let p = err_from_is_err_and c.from_residual.result c.from_residual.ensures.1 in
    rw (p.1, p.2) (stop (text c.loop-spare.self.bytes.now) _ _ _ _ more _ c.in_err-text.ensures.value ∙ c.loop-spare.invariant.3)

pub loop-spare-preserved : goal.loop-spare-preserved
loop-spare-preserved c =
    let more : length c.loop-spare.yielded < c.args.count = fewer (vec_items c.args.room.spares) c.args.count _ c.loop-spare.spare-iterator c.next.new.self _ c.next.result _ (cc) (cc c.args.room.spares.ok.0) (cc) c.loop-spare.yielded_by c.in-Some.is c.next.ensures.steps in
    let next = length_push c.loop-spare.yielded c.in-Some.spare in (
      omega (arith, next),
      omega arith,
      c.in_ok-text.ensures.bytes ∙ c.loop-spare.invariant.2,
      rw (next, c.in_ok-text.ensures.bytes)
          (turn (text c.loop-spare.self.bytes.now) _ _ _ _ more _ _ _ c.in_ok-text.ensures.value (ap (map vec_items) c.push_reserved.ensures.items ∙ map_push vec_items _ _) ∙ c.loop-spare.invariant.3),
    )
