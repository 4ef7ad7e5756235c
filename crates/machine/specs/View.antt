-- What the machine's arrays and a program's codes mean.
use Rattle.std.specs.Prelude.{◌≡◌, ℕ, suc, ◌-◌, ◌<◌, ◌≤◌, Bool, cond, List, ◌∷◌, length, Some, None, Option as Answer, ◌==◌, slice_index, slice_index_or, slice_set}
use Rattle.std.proofs.Math.Option.{Option, none, some}
use Rattle.machine.specs.declared.Operation.TheVariants.{P, V, Lock, Unlock}
use Rattle.machine.specs.declared.Item.{Item}
use Rattle.machine.specs.declared.Machine.{Machine}
use Rattle.program.specs.declared.Instruction.{Instruction}
use Rattle.program.specs.declared.Program.{Program}
use Rattle.program.specs.Form.{Usable}
use Rattle.machine.specs.Machine.{Instr, Local, Object, nothing, variable, semaphore, mutex, State, Code, object, next, touch, plain, idle, step, steps}
use Rattle.machine.specs.Rules.{Steps}
use Rattle.program.specs.Programs.{texts, fetched}

-- what the arrays hold for an object
abbrev pub item_of : Machine → Object → Item
item_of m nothing = plain 0
item_of m (variable n) = slice_index_or m.variables n (plain 0)
item_of m (semaphore n) = plain (slice_index m.semaphores n)
item_of m (mutex n) = plain (slice_index m.holders n)

-- the machine by its arrays; the first thread is thread 1
abbrev pub view : Machine → State
view m = record { thread = λ i. slice_index_or (idle ∷ m.threads) i idle; item = item_of m }

-- what each code stands for
abbrev pub meaning : Instruction → Instr
meaning i =
    cond (i.code == 1) (Instr.local (Local.load i.a i.b))
    (cond (i.code == 2) (Instr.local (Local.add i.a i.b))
    (cond (i.code == 3) (Instr.local (Local.subtract i.a i.b))
    (cond (i.code == 4) (Instr.local (Local.jump_if_zero i.a i.b))
    (cond (i.code == 5) (Instr.local (Local.jump i.b))
    (cond (i.code == 6) (Instr.read i.a i.b)
    (cond (i.code == 7) (Instr.write i.a i.b)
    (cond (i.code == 8) (Instr.synchronise P i.b)
    (cond (i.code == 9) (Instr.synchronise V i.b)
    (cond (i.code == 10) (Instr.synchronise Lock i.b) (Instr.synchronise Unlock i.b))))))))))

-- what an instruction that is found means
abbrev pub means : Answer Instruction → Option Instr
means None = none
means (Some i) = some (meaning i)

-- the element of each number
abbrev pub each_of : List ℕ → ℕ → ℕ
each_of xs n = slice_index xs n

-- what the program says
abbrev pub code_of : Program → Code
code_of p = record {
  threads = length (texts p);
  at = λ t place. means (fetched p t place);
  starts = each_of p.starts;
  limits = each_of p.limits;
}

-- the arrays with x for the object
abbrev pub change : Object → Item → Machine → Machine
change nothing x m = m
change (variable n) x m = record { threads = m.threads; variables = slice_set m.variables n x; semaphores = m.semaphores; holders = m.holders }
change (semaphore n) x m = record { threads = m.threads; variables = m.variables; semaphores = slice_set m.semaphores n x.value; holders = m.holders }
change (mutex n) x m = record { threads = m.threads; variables = m.variables; semaphores = m.semaphores; holders = slice_set m.holders n x.value }

-- the arrays after the instruction of thread n + 1
abbrev pub performed : ℕ → Instr → Machine → Machine
performed n c m =
    let l = (view m).thread (suc n) in
    let x = item_of m (object c) in
    let d = change (object c) (touch (suc n) c l x) m in
    record { threads = slice_set m.threads n (next c l x.value); variables = d.variables; semaphores = d.semaphores; holders = d.holders }

-- thread t stands at instruction i
pub record Standing (m : Machine) (t : ℕ) (i : Instruction) : Type 0 where
  pub one : 1 ≤ t
  pub eight : t ≤ 8
  pub place : (slice_index_or m.threads (t - 1) idle).place < 128
  pub usable : Usable i

-- how long the arrays are
pub record Sized (m : Machine) : Type 0 where
  pub threads : length m.threads ≡ 8
  pub variables : length m.variables ≡ 16
  pub semaphores : length m.semaphores ≡ 8
  pub holders : length m.holders ≡ 8

-- what a step of thread t answers and leaves: the state that its rule gives, or everything as it was
pub record Stepped (p : Program) (m : Machine) (t : ℕ) (r : Bool) (n : Machine) : Type 0 where
  pub answer : r ≡ steps (code_of p) (view m) t
  pub after : cond r (view n ≡ step (code_of p) t (view m)) (n ≡ m)
  pub rule : cond r (Steps (code_of p) (view m) t (view n)) (Unit {0})
