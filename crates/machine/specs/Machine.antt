-- The machine: threads over shared variables, semaphores and locks.
use Rattle.std.specs.Prelude.{◌≡◌, ℕ, suc, ◌+◌, ◌-◌, ◌%◌, ◌^◌, ◌<◌, Bool, true, false, cond, ◌&&◌, List, [], ◌∷◌, ◌++◌, ◌==◌, nat_le, nat_lt, slice_index, slice_set}
use Rattle.std.proofs.Math.Option.{Option, none, some}
use Rattle.machine.specs.declared.Operation.{Operation}
use Rattle.machine.specs.declared.Operation.TheVariants.{P, V, Lock, Unlock}
use Rattle.machine.specs.declared.Thread.{Thread}
use Rattle.machine.specs.declared.Item.{Item}
use Rattle.machine.specs.Map.{pick, put, same_number}
use Rattle.machine.specs.Words.{Word, reach}

-- an instruction on a thread's own registers and place; a and b are registers, k is a number or a place
pub data Local : Type 0 where
  load : (a k : ℕ) → Local
  add : (a b : ℕ) → Local
  subtract : (a b : ℕ) → Local
  jump_if_zero : (a k : ℕ) → Local
  jump : (k : ℕ) → Local

-- an instruction: local, or an event on variable v or on semaphore or lock n
pub data Instr : Type 0 where
  local : Local → Instr
  read : (a v : ℕ) → Instr
  write : (a v : ℕ) → Instr
  synchronise : Operation → (n : ℕ) → Instr

-- what an instruction acts on besides its thread
pub data Object : Type 0 where
  nothing : Object
  variable : ℕ → Object
  semaphore : ℕ → Object
  mutex : ℕ → Object
  deriving Discrete as same_object_by

-- whether two objects are the same
abbrev pub same_object : Discrete Object
same_object = same_object_by same_number

-- the object of an instruction
abbrev pub object : Instr → Object
object (local c) = nothing
object (read a v) = variable v
object (write a v) = variable v
object (synchronise P n) = semaphore n
object (synchronise V n) = semaphore n
object (synchronise Lock n) = mutex n
object (synchronise Unlock n) = mutex n

-- what each thread and each object holds; the value of a lock is its holder, 0 where it is free
pub record State : Type 0 where
  pub thread : ℕ → Thread
  pub item : Object → Item

-- what a program says: how many threads, the instruction of each at each place, the semaphores' starts and limits
pub record Code : Type 0 where
  pub threads : ℕ
  pub at : ℕ → ℕ → Option Instr
  pub starts : ℕ → ℕ
  pub limits : ℕ → ℕ

-- an object that holds x, of which nothing was written or read
abbrev pub plain : ℕ → Item
plain x = record { value = x; version = 0; made = 0 }

-- what each object holds at first
abbrev pub begin : Code → Object → Item
begin p nothing = plain 0
begin p (variable n) = plain 0
begin p (semaphore n) = plain (p.starts n)
begin p (mutex n) = plain 0

-- a thread that there is not
abbrev pub idle : Thread
idle = record { registers = []; place = 0; count = 0 }

-- a thread at first; there is room for threads 1 to 8
abbrev pub ready : ℕ → Thread
ready i = cond (nat_le 1 i && nat_le i 8) (record { registers = 0 ∷ 0 ∷ 0 ∷ 0 ∷ []; place = 0; count = 0 }) idle

-- the machine at its start
abbrev pub start : Code → State
start p = record { thread = ready; item = begin p }

-- the registers after a local instruction
abbrev pub calc : Local → List ℕ → List ℕ
calc (load a k) r = slice_set r a k
calc (add a b) r = slice_set r a ((slice_index r a + slice_index r b) % 2 ^ 32)
calc (subtract a b) r = slice_set r a ((slice_index r a + 2 ^ 32 - slice_index r b) % 2 ^ 32)
calc (jump_if_zero a k) r = r
calc (jump k) r = r

-- the place after a local instruction at place n
abbrev pub goto : Local → List ℕ → ℕ → ℕ
goto (load a k) r n = suc n
goto (add a b) r n = suc n
goto (subtract a b) r n = suc n
goto (jump_if_zero a k) r n = cond (slice_index r a == 0) k (suc n)
goto (jump k) r n = k

-- the thread after the instruction, where its object's value is x
abbrev pub next : Instr → Thread → ℕ → Thread
next (local c) l x = record { registers = calc c l.registers; place = goto c l.registers l.place; count = suc l.count }
next (read a v) l x = record { registers = slice_set l.registers a x; place = suc l.place; count = suc l.count }
next (write a v) l x = record { registers = l.registers; place = suc l.place; count = suc l.count }
next (synchronise o n) l x = record { registers = l.registers; place = suc l.place; count = suc l.count }

-- a semaphore's value or a lock's holder after thread i's operation
abbrev pub operate : ℕ → Operation → ℕ → ℕ
operate i P x = x - 1
operate i V x = x + 1
operate i Lock x = i
operate i Unlock x = 0

-- the object after thread i's instruction: a read is counted, a write begins a version of which no read is made
abbrev pub touch : ℕ → Instr → Thread → Item → Item
touch i (local c) l x = x
touch i (read a v) l x = record { value = x.value; version = x.version; made = suc x.made }
touch i (write a v) l x = record { value = slice_index l.registers a; version = suc x.version; made = 0 }
touch i (synchronise o n) l x = record { value = operate i o x.value; version = x.version; made = x.made }

-- the instruction at which thread i stands, none where it has ended
abbrev pub here : Code → State → ℕ → Option Instr
here p m i = p.at i (m.thread i).place

-- thread i makes the instruction: it and the one object change
abbrev pub perform : ℕ → Instr → State → State
perform i c m = record {
  thread = put same_number m.thread i (next c (m.thread i) (m.item (object c)).value);
  item = put same_object m.item (object c) (touch i c (m.thread i) (m.item (object c)));
}

abbrev pub step_at : Option Instr → ℕ → State → State
step_at none i m = m
step_at (some c) i m = perform i c m

-- thread i's step: the instruction at which it stands
abbrev pub step : Code → ℕ → State → State
step p i m = step_at (here p m i) i m

-- what thread i's instruction needs of the value of its object, where the semaphores have these limits
abbrev pub Free : (ℕ → ℕ) → ℕ → Instr → ℕ → Type 0
Free limits i (local c) x = Unit {0}
Free limits i (read a v) x = Unit {0}
Free limits i (write a v) x = Unit {0}
Free limits i (synchronise P n) x = 0 < x
Free limits i (synchronise V n) x = x < limits n
Free limits i (synchronise Lock n) x = x ≡ 0
Free limits i (synchronise Unlock n) x = x ≡ i

-- thread i is able: it stands at an instruction, and its object is free for it
pub record Able (p : Code) (m : State) (i : ℕ) : Type 0 where
  pub c : Instr
  pub is : here p m i ≡ some c
  pub free : Free p.limits i c (m.item (object c)).value

-- the same as a test
abbrev pub free : (ℕ → ℕ) → ℕ → Instr → ℕ → Bool
free limits i (local c) x = true
free limits i (read a v) x = true
free limits i (write a v) x = true
free limits i (synchronise P n) x = nat_lt 0 x
free limits i (synchronise V n) x = nat_lt x (limits n)
free limits i (synchronise Lock n) x = x == 0
free limits i (synchronise Unlock n) x = x == i

abbrev pub able_at : Code → State → ℕ → Option Instr → Bool
able_at p m i none = false
able_at p m i (some c) = free p.limits i c (m.item (object c)).value

abbrev pub able : Code → State → ℕ → Bool
able p m i = able_at p m i (here p m i)

-- a run: each thread able at its turn, from the machine m on
abbrev pub Run : Code → State → List ℕ → Type 0
Run p = Word (step p) (Able p)

-- the machine after the steps of these threads
abbrev pub after : Code → State → List ℕ → State
after p = reach (step p)

-- what an instruction reads: the variable and its value
abbrev pub got : Instr → ℕ → List (ℕ × ℕ)
got (local c) x = []
got (read a v) x = (v, x) ∷ []
got (write a v) x = []
got (synchronise o n) x = []

abbrev pub got_at : Option Instr → State → List (ℕ × ℕ)
got_at none m = []
got_at (some c) m = got c (m.item (object c)).value

-- thread i's reads in a run: the variable and the value of each, in order
abbrev pub reads : Code → State → List ℕ → ℕ → List (ℕ × ℕ)
reads p m [] i = []
reads p m (k ∷ us) i = pick (same_number i k) (got_at (here p m k) m) [] ++ reads p (step p k m) us i

-- how many steps threads 1 to 8 have made in all
unfoldable pub total_steps : State → ℕ
total_steps m =
    (m.thread 1).count + ((m.thread 2).count + ((m.thread 3).count + ((m.thread 4).count
    + ((m.thread 5).count + ((m.thread 6).count + ((m.thread 7).count + (m.thread 8).count))))))

-- no 16-bit number that the instruction raises is at its limit
abbrev pub rises : Instr → Thread → Item → Bool
rises (local c) l x = nat_lt l.count 65535
rises (read a v) l x = nat_lt l.count 65535 && nat_lt x.made 65535
rises (write a v) l x = nat_lt l.count 65535 && nat_lt x.version 65535
rises (synchronise o n) l x = nat_lt l.count 65535

abbrev pub steps_at : Code → State → ℕ → Option Instr → Bool
steps_at p m i none = false
steps_at p m i (some c) = free p.limits i c (m.item (object c)).value && rises c (m.thread i) (m.item (object c))

-- whether the step of thread i can be made: it is able, and its 16-bit numbers can rise
abbrev pub steps : Code → State → ℕ → Bool
steps p m i = steps_at p m i (here p m i)
