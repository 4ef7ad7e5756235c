use Rattle.std.proofs.Common.{rules}
use Rattle.schedule.specs.Rounds.{turn_laws}
use Rattle.schedule.proofs.turn.Turn.new.Goals as goal

pub returns : goal.returns
returns c = record { value = search rules; laws = turn_laws }
