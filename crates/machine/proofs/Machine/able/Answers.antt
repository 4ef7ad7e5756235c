use Rattle.std.proofs.Common.{◌≡◌, Bool, rules, sym, subst}
use Rattle.machine.specs.Says.{Says}
use Rattle.machine.specs.Machine.{Able, able}
use Rattle.machine.specs.View.{code_of, view}
use Rattle.machine.proofs.Decides.{says_able}
use Rattle.machine.proofs.Machine.able.Goals as goal

pub returns-clause-means : goal.returns-clause-means
returns-clause-means c =
    let p = code_of c.args.program.now in
    let m = view c.args.self.now in
    let e : c.is_some_and.result ≡ able p m c.args.thread = search rules in
    subst (λ (b : Bool). Says b (Able p m c.args.thread)) (sym e) (says_able p m c.args.thread)
