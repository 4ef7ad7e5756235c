use Rattle.std.proofs.Common.{refl, get_or}
use Rattle.trace.specs.declared.Event.TheVariants.{Read, Write}
use Rattle.trace.specs.Drafts.{added, blank, counted}
use Rattle.trace.specs.Finishes.{drafted}
use Rattle.worked.proofs.Steps.{after_add, after_count, made}
use Rattle.worked.proofs.trace.Goals as goal

pub returns : goal.returns
returns c =
    let n = get_or c.args.counts in
    let d0 = blank 3 in
    let d1 = added d0 0 (Read 3 0) in
    let d2 = added d1 0 (Read 1 0) in
    let d3 = added d2 0 (Write 3 0 2) in
    let d4 = added d3 0 (Read 2 1) in
    let d5 = counted d4 1 (n 0 0) in
    let d6 = counted d5 2 (n 1 0) in
    let d7 = counted d6 3 (n 2 0) in
    let e1 = after_add d0 (drafted c.in_ok-draft.draft) (drafted c.add.new.self) c.add.result c.in_ok-draft.ensures.1 0 c.read.result (Read 3 0) c.read.ensures c.add.ensures.answer c.add.ensures.after refl in
    let e2 = after_add d1 (drafted c.add.new.self) (drafted c.add-2.new.self) c.add-2.result e1 0 c.read-2.result (Read 1 0) c.read-2.ensures c.add-2.ensures.answer c.add-2.ensures.after refl in
    let e3 = after_add d2 (drafted c.add-2.new.self) (drafted c.add-3.new.self) c.add-3.result e2 0 c.write.result (Write 3 0 2) c.write.ensures c.add-3.ensures.answer c.add-3.ensures.after refl in
    let e4 = after_add d3 (drafted c.add-3.new.self) (drafted c.add-4.new.self) c.add-4.result e3 0 c.read-3.result (Read 2 1) c.read-3.ensures c.add-4.ensures.answer c.add-4.ensures.after refl in
    let e5 = after_count d4 (drafted c.add-4.new.self) (drafted c.set_count.new.self) c.set_count.result e4 1 (n 0 0) c.set_count.ensures.answer c.set_count.ensures.after refl in
    let e6 = after_count d5 (drafted c.set_count.new.self) (drafted c.set_count-2.new.self) c.set_count-2.result e5 2 (n 1 0) c.set_count-2.ensures.answer c.set_count-2.ensures.after refl in
    let e7 = after_count d6 (drafted c.set_count-2.new.self) (drafted c.set_count-3.new.self) c.set_count-3.result e6 3 (n 2 0) c.set_count-3.ensures.answer c.set_count-3.ensures.after refl in
    made d7 (drafted c.set_count-3.new.self) c.ok.result c.finish.result e7 refl c.finish.ensures.value c.ok.ensures.value
