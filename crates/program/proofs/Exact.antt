-- A program is read exactly from the bytes that begin with its encoding.
use Rattle.std.proofs.Common.{ℕ, ◌<◌, List, get_or}
use Rattle.program.specs.Encoding.{ReadsExactly}
use Rattle.program.proofs.Decodes.{program_back}
use Rattle.program.proofs.Encodes.{program_read}

pub exact : (bs : List ℕ) → ((k : ℕ) → get_or bs k 0 < 256) → ReadsExactly bs
exact bs small = record { only = program_read bs small; every = program_back bs }
