-- What a follower means.
use Rattle.std.specs.Prelude.{◌≡◌}
use Rattle.machine.specs.Machine.{Code}
use Rattle.machine.specs.View.{code_of}
use Rattle.trace.specs.History.{History}
use Rattle.trace.specs.Traces.{parts, history}
use Rattle.following.specs.declared.follower.Follower.{Follower}
use Rattle.following.specs.Following.{Progress}
use Rattle.following.specs.View.{progress}

-- the program that is followed
abbrev pub program_of : Follower → Code
program_of f = code_of f.program.now

-- the trace that is followed
abbrev pub trace_of : Follower → History
trace_of f = history (parts f.trace.now)

-- how far it has come
unfoldable pub seen : Follower → Progress
seen f = progress f.trace.now f.stage

-- it follows the same trace of the same program
abbrev pub SameParts : Follower → Follower → Type 0
SameParts f g = (g.program ≡ f.program) × (g.trace ≡ f.trace)
