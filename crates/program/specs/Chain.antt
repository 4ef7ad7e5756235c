-- Answers of readers, and how one follows another.
use Rattle.std.specs.Prelude.{Ok, Err, Result}

-- one reading after another: the first refusal is that of the whole
abbrev pub then : {A B E : Type 0} → Result A E → (A → Result B E) → Result B E
then (Ok x) f = f x
then (Err e) f = Err e

-- an answer with f of its value
abbrev pub over : {A B E : Type 0} → (A → B) → Result A E → Result B E
over f (Ok x) = Ok (f x)
over f (Err e) = Err e
