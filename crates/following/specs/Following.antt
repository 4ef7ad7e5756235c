-- How a trace is followed: which threads are permitted, and what their steps use up.
use Rattle.std.specs.Prelude.{◌≡◌, ℕ, ◌<◌, Bool, true, false, cond, ◌&&◌, List, [], ◌∷◌, ◌==◌, nat_lt}
use Rattle.std.proofs.Math.Option.{Option, none, some}
use Rattle.machine.specs.declared.Item.{Item}
use Rattle.machine.specs.declared.Operation.{Operation}
use Rattle.machine.specs.declared.Operation.TheVariants.{P, V, Lock, Unlock}
use Rattle.machine.specs.Map.{put}
use Rattle.machine.specs.Machine.{Code, State, Instr, Object, same_object, object, here, step, start, Able, able}
use Rattle.trace.specs.declared.Event.{Event}
use Rattle.trace.specs.declared.Event.TheVariants.{Read, Write, Sync}
use Rattle.trace.specs.Sound.{who}
use Rattle.trace.specs.History.{History, event}

-- how far a replay has come: the machine, and the events of each object that are not yet used
pub record Progress : Type 0 where
  pub machine : State
  pub left : Object → List Event

-- the machine at its start, and no event used
abbrev pub opened : Code → History → Progress
opened p t = record { machine = start p; left = t.seq }

-- the first event of all
abbrev pub first : List Event → Option Event
first [] = none
first (e ∷ q) = some e

-- the first event of thread i
abbrev pub first_of : ℕ → List Event → Option Event
first_of i [] = none
first_of i (e ∷ q) = cond (who e == i) (some e) (first_of i q)

-- all but the first event of thread i
abbrev pub spend : ℕ → List Event → List Event
spend i [] = []
spend i (e ∷ q) = cond (who e == i) q (e ∷ spend i q)

-- thread i's instruction is local or on turn, where its object is x, of which the events q are unused
abbrev pub Turn : ℕ → Instr → Item → List Event → Type 0
Turn i (Instr.local c) x q = Unit {0}
Turn i (Instr.read a v) x q = first_of i q ≡ some (Read i x.version)
Turn i (Instr.write a v) x q = first_of i q ≡ some (Write i x.version x.made)
Turn i (Instr.synchronise o n) x q = first q ≡ some (Sync i o)

-- thread i is permitted: it is able, below its count, and its instruction is local or on turn
pub record Permitted (p : Code) (t : History) (r : Progress) (i : ℕ) : Type 0 where
  pub able : Able p r.machine i
  pub below : (r.machine.thread i).count < t.counts i
  pub turn : Turn i able.c (r.machine.item (object able.c)) (r.left (object able.c))

-- what thread i's instruction leaves of its object's unused events
abbrev pub use_up : ℕ → Instr → List Event → List Event
use_up i (Instr.local c) q = q
use_up i (Instr.read a v) q = spend i q
use_up i (Instr.write a v) q = spend i q
use_up i (Instr.synchronise o n) q = spend i q

abbrev pub left_at : Option Instr → ℕ → (Object → List Event) → Object → List Event
left_at none i q = q
left_at (some c) i q = put same_object q (object c) (use_up i c (q (object c)))

-- thread i's step, and its event used
abbrev pub advance : Code → ℕ → Progress → Progress
advance p i r = record { machine = step p i r.machine; left = left_at (here p r.machine i) i r.left }

-- The same as tests.

-- the number of an operation
abbrev pub operation_number : Operation → ℕ
operation_number P = 0
operation_number V = 1
operation_number Lock = 2
operation_number Unlock = 3

-- whether two events are the same
abbrev pub same_event : Event → Event → Bool
same_event (Read i v) (Read j w) = i == j && v == w
same_event (Read i v) (Write j w m) = false
same_event (Read i v) (Sync j o) = false
same_event (Write i v n) (Read j w) = false
same_event (Write i v n) (Write j w m) = i == j && (v == w && n == m)
same_event (Write i v n) (Sync j o) = false
same_event (Sync i k) (Read j w) = false
same_event (Sync i k) (Write j w m) = false
same_event (Sync i k) (Sync j o) = i == j && operation_number k == operation_number o

-- the unused event that thread i's instruction could use
abbrev pub due : ℕ → Instr → List Event → Option Event
due i (Instr.local c) q = none
due i (Instr.read a v) q = first_of i q
due i (Instr.write a v) q = first_of i q
due i (Instr.synchronise o n) q = first q

-- whether the event that a step would record, if it records one, is the one that is due
abbrev pub meets : List Event → Option Event → Bool
meets [] d = true
meets (e ∷ es) none = false
meets (e ∷ es) (some d) = same_event d e

-- whether thread i's instruction is local or on turn
abbrev pub turn : ℕ → Instr → Item → List Event → Bool
turn i c x q = meets (event i c x) (due i c q)

abbrev pub turn_at : Option Instr → ℕ → Progress → Bool
turn_at none i r = false
turn_at (some c) i r = turn i c (r.machine.item (object c)) (r.left (object c))

-- whether the instruction is there, and local
abbrev pub local_at : Option Instr → Bool
local_at none = false
local_at (some (Instr.local c)) = true
local_at (some (Instr.read a v)) = false
local_at (some (Instr.write a v)) = false
local_at (some (Instr.synchronise o n)) = false

-- whether thread i has made fewer steps than it counts
abbrev pub below : History → State → ℕ → Bool
below t m i = nat_lt (m.thread i).count (t.counts i)

-- whether thread i is permitted
unfoldable pub permitted : Code → History → Progress → ℕ → Bool
permitted p t r i = able p r.machine i && (below t r.machine i && turn_at (here p r.machine i) i r)
