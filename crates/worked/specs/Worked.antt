-- The trace of the worked example.
use Rattle.std.specs.Prelude.{ℕ, List, [], ◌∷◌, replicate, slice_index}
use Rattle.trace.specs.declared.Event.{Event}
use Rattle.trace.specs.declared.Event.TheVariants.{Read, Write}
use Rattle.trace.specs.Traces.{Parts}

-- threads 3 and 1 read variable 0, 3 writes it, and 2 reads what 3 wrote
abbrev pub events : List Event
events = Read 3 0 ∷ Read 1 0 ∷ Write 3 0 2 ∷ Read 2 1 ∷ []

-- three threads with these counts, and no other events
abbrev pub worked : List ℕ → Parts
worked counts = record {
  threads = 3;
  sequences = events ∷ replicate 31 [];
  counts = slice_index counts 0 ∷ slice_index counts 1 ∷ slice_index counts 2 ∷ replicate 5 0;
}
