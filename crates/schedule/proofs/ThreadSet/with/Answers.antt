use Rattle.std.proofs.Common.{[], ◌∷◌, ◌∙◌}
use Rattle.schedule.specs.Threads.{set_of}
use Rattle.schedule.proofs.ThreadSet.with.Goals as goal

pub returns : goal.returns
unfolding set_of
returns c =
    c.of.ensures
    ∙ (λ j. record {
      offered =
          c.has_with.ensures j ∷ c.has_with-2.ensures j ∷ c.has_with-3.ensures j ∷ c.has_with-4.ensures j
          ∷ c.has_with-5.ensures j ∷ c.has_with-6.ensures j ∷ c.has_with-7.ensures j ∷ c.has_with-8.ensures j ∷ [];
    })
