-- The rules of the machine, one for each instruction, and the runs that they make.
use Rattle.std.specs.Prelude.{◌≡◌, ℕ, suc, ◌+◌, ◌-◌, ◌%◌, ◌^◌, ◌<◌, ◌≢◌, List, [], ◌∷◌, slice_index, slice_set}
use Rattle.std.proofs.Math.Option.{some}
use Rattle.machine.specs.declared.Operation.TheVariants.{P, V, Lock, Unlock}
use Rattle.machine.specs.declared.Item.{Item}
use Rattle.machine.specs.Machine.{Local, Instr, Object, nothing, variable, semaphore, mutex, object, State, Code, start, here, Able, Run, after}
use Rattle.machine.specs.Words.{times}

-- the item with another value
abbrev pub with_value : Item → ℕ → Item
with_value x n = record { value = n; version = x.version; made = x.made }

-- thread i of m has made one step more: its registers are r, its place is q and object o holds x; all else is as it was
pub record Becomes (m : State) (i : ℕ) (r : List ℕ) (q : ℕ) (o : Object) (x : Item) (n : State) : Type 0 where
  pub own : n.thread i ≡ record { registers = r; place = q; count = suc (m.thread i).count }
  pub others : (k : ℕ) → k ≢ i → n.thread k ≡ m.thread k
  pub acted_on : n.item o ≡ x
  pub left_alone : (u : Object) → u ≢ o → n.item u ≡ m.item u

module _ (p : Code) (m : State) (i : ℕ) where
  -- the registers of the thread, and one of them
  abbrev pub registers : List ℕ
  registers = (m.thread i).registers

  abbrev pub register : ℕ → ℕ
  register a = slice_index registers a

  -- the place after the one at which the thread stands
  abbrev pub onward : ℕ
  onward = suc (m.thread i).place

  -- only the thread changes
  abbrev pub Keeps : List ℕ → ℕ → State → Type 0
  Keeps r q n = Becomes m i r q nothing (m.item nothing) n

  -- the thread moves on, and a semaphore or lock takes another value
  abbrev pub Sets : Object → ℕ → State → Type 0
  Sets o x n = Becomes m i registers onward o (with_value (m.item o) x) n

  -- the instruction can be made, and leads to n
  pub data Makes : Instr → State → Type 0 where
    loads : {a k : ℕ} {n : State} → Keeps (slice_set registers a k) onward n → Makes (Instr.local (Local.load a k)) n
    adds : {a b : ℕ} {n : State} → Keeps (slice_set registers a ((register a + register b) % 2 ^ 32)) onward n → Makes (Instr.local (Local.add a b)) n
    subtracts : {a b : ℕ} {n : State} → Keeps (slice_set registers a ((register a + 2 ^ 32 - register b) % 2 ^ 32)) onward n → Makes (Instr.local (Local.subtract a b)) n
    jumps_at_zero : {a k : ℕ} {n : State} → register a ≡ 0 → Keeps registers k n → Makes (Instr.local (Local.jump_if_zero a k)) n
    goes_on : {a k : ℕ} {n : State} → register a ≢ 0 → Keeps registers onward n → Makes (Instr.local (Local.jump_if_zero a k)) n
    jumps : {k : ℕ} {n : State} → Keeps registers k n → Makes (Instr.local (Local.jump k)) n
    reads : {a v : ℕ} {n : State} → (let x = m.item (variable v) in Becomes m i (slice_set registers a x.value) onward (variable v) (record { value = x.value; version = x.version; made = suc x.made }) n) → Makes (Instr.read a v) n
    writes : {a v : ℕ} {n : State} → Becomes m i registers onward (variable v) (record { value = register a; version = suc (m.item (variable v)).version; made = 0 }) n → Makes (Instr.write a v) n
    takes : {s : ℕ} {n : State} → 0 < (m.item (semaphore s)).value → Sets (semaphore s) ((m.item (semaphore s)).value - 1) n → Makes (Instr.synchronise P s) n
    gives : {s : ℕ} {n : State} → (m.item (semaphore s)).value < p.limits s → Sets (semaphore s) ((m.item (semaphore s)).value + 1) n → Makes (Instr.synchronise V s) n
    locks : {k : ℕ} {n : State} → (m.item (mutex k)).value ≡ 0 → Sets (mutex k) i n → Makes (Instr.synchronise Lock k) n
    unlocks : {k : ℕ} {n : State} → (m.item (mutex k)).value ≡ i → Sets (mutex k) 0 n → Makes (Instr.synchronise Unlock k) n

-- thread i's step leads from m to n: the rule of the instruction at which it stands
pub record Steps (p : Code) (m : State) (i : ℕ) (n : State) : Type 0 where
  pub c : Instr
  pub is : here p m i ≡ some c
  pub rule : Makes p m i c n

-- the steps of these threads lead from m to the last state
pub data Leads (p : Code) : State → List ℕ → State → Type 0 where
  there : {m : State} → Leads p m [] m
  then : {m n k : State} {i : ℕ} {us : List ℕ} → Steps p m i n → Leads p n us k → Leads p m (i ∷ us) k

-- what holds of all steps and runs of a program
pub record RunLaws (p : Code) : Type 0 where
  -- a thread is able exactly where a rule lets it step
  pub able : (m : State) (i : ℕ) → Able p m i → (n : State) × Steps p m i n
  pub only_able : (m n : State) (i : ℕ) → Steps p m i n → Able p m i
  -- a step leaves all other threads and all but one object as they were
  pub threads : (m n : State) (i : ℕ) → Steps p m i n → (k : ℕ) → k ≢ i → n.thread k ≡ m.thread k
  pub objects : (m n : State) (i : ℕ) (s : Steps p m i n) (o : Object) → o ≢ object s.c → n.item o ≡ m.item o
  -- a run is determined by its list of threads
  pub leads : (m : State) (us : List ℕ) → Run p m us → Leads p m us (after p m us)
  pub determined : (m n : State) (us : List ℕ) → Leads p m us n → Run p m us × (n ≡ after p m us)
  -- the count of a thread is how often it stands in the run
  pub counted : (us : List ℕ) → Run p (start p) us → (i : ℕ) → ((after p (start p) us).thread i).count ≡ times i us
