-- What a yes or no says.
use Rattle.std.specs.Prelude.{Bool, true, false}

-- the answer says whether X holds
abbrev pub Says : Bool → Type 0 → Type 0
Says true X = X
Says false X = X → ⊥
