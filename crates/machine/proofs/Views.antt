-- A write to one element of an array is a put in the map that the array means.
use Rattle.std.proofs.Common.{◌≡◌, ℕ, suc, ◌<◌, ◌≢◌, List, ◌∷◌, length, get_or, set, sym, refl, ap, ◌∙◌, arith, get_or-set_other, get_or-set_same}
use mathlib.Core.Path.{fun_ext}
use Rattle.machine.specs.declared.Operation.TheVariants.{P, V, Lock, Unlock}
use Rattle.machine.specs.declared.Thread.{Thread}
use Rattle.machine.specs.declared.Item.{Item}
use Rattle.machine.specs.declared.Machine.{Machine}
use Rattle.program.specs.declared.Instruction.{Instruction}
use Rattle.program.specs.Form.{Usable}
use Rattle.machine.specs.Map.{put, same_number}
use Rattle.machine.specs.Machine.{Instr, Object, nothing, variable, semaphore, mutex, same_object, object, next, touch, plain, idle, perform}
use Rattle.machine.specs.Proper.{InRange}
use Rattle.machine.specs.View.{item_of, view, meaning, change, performed, Sized}
use Rattle.machine.proofs.Maps.{put_is}
use Rattle.machine.proofs.Programs.{in_range}

pub view_set : {A : Type 0} (xs : List A) (k : ℕ) (x d : A) → k < length xs → (λ n. get_or (set xs k x) n d) ≡ put same_number (λ n. get_or xs n d) k x
view_set xs k x d h =
    put_is same_number (λ n. get_or xs n d) k x (λ n. get_or (set xs k x) n d) (get_or-set_same xs k x d h) (λ n ne. get_or-set_other xs k n x d ne)

-- the object has a place in its array
abbrev Fits : Object → Machine → Type 0
Fits nothing m = Unit {0}
Fits (variable n) m = n < length m.variables
Fits (semaphore n) m = n < length m.semaphores
Fits (mutex n) m = n < length m.holders

-- the item is one that the object's array can hold
abbrev Shaped : Object → Item → Type 0
Shaped nothing x = x ≡ plain 0
Shaped (variable n) x = Unit {0}
Shaped (semaphore n) x = x ≡ plain x.value
Shaped (mutex n) x = x ≡ plain x.value

at_own : (m : Machine) (o : Object) (x : Item) → Fits o m → Shaped o x → item_of (change o x m) o ≡ x
at_own m nothing x f s = sym s
at_own m (variable n) x f s = get_or-set_same m.variables n x (plain 0) f
at_own m (semaphore n) x f s = ap plain (get_or-set_same m.semaphores n x.value 0 f) ∙ sym s
at_own m (mutex n) x f s = ap plain (get_or-set_same m.holders n x.value 0 f) ∙ sym s

at_other : (m : Machine) (o : Object) (x : Item) (k : Object) → k ≢ o → item_of (change o x m) k ≡ item_of m k
at_other m nothing x k h = refl
at_other m (variable n) x nothing h = refl
at_other m (variable n) x (variable k) h = get_or-set_other m.variables n k x (plain 0) (λ (e : k ≡ n). h (ap variable e))
at_other m (variable n) x (semaphore k) h = refl
at_other m (variable n) x (mutex k) h = refl
at_other m (semaphore n) x nothing h = refl
at_other m (semaphore n) x (variable k) h = refl
at_other m (semaphore n) x (semaphore k) h = ap plain (get_or-set_other m.semaphores n k x.value 0 (λ (e : k ≡ n). h (ap semaphore e)))
at_other m (semaphore n) x (mutex k) h = refl
at_other m (mutex n) x nothing h = refl
at_other m (mutex n) x (variable k) h = refl
at_other m (mutex n) x (semaphore k) h = refl
at_other m (mutex n) x (mutex k) h = ap plain (get_or-set_other m.holders n k x.value 0 (λ (e : k ≡ n). h (ap mutex e)))

view_change : (m : Machine) (o : Object) (x : Item) → Fits o m → Shaped o x → item_of (change o x m) ≡ put same_object (item_of m) o x
view_change m o x f s = put_is same_object (item_of m) o x (item_of (change o x m)) (at_own m o x f s) (at_other m o x)

shaped : (i : ℕ) (c : Instr) (l : Thread) (m : Machine) → Shaped (object c) (touch i c l (item_of m (object c)))
shaped i (Instr.local c) l m = refl
shaped i (Instr.read a v) l m = tt
shaped i (Instr.write a v) l m = tt
shaped i (Instr.synchronise P n) l m = refl
shaped i (Instr.synchronise V n) l m = refl
shaped i (Instr.synchronise Lock n) l m = refl
shaped i (Instr.synchronise Unlock n) l m = refl

items_of : (m : Machine) (ts : List Thread) (o : Object) → item_of (record { threads = ts; variables = m.variables; semaphores = m.semaphores; holders = m.holders }) o ≡ item_of m o
items_of m ts nothing = refl
items_of m ts (variable n) = refl
items_of m ts (semaphore n) = refl
items_of m ts (mutex n) = refl

-- an object that there is has a place in the arrays
placed : (o : Object) (m : Machine) → InRange o → Sized m → Fits o m
placed nothing m h s = tt
placed (variable n) m h s = omega arith
placed (semaphore n) m h s = omega arith
placed (mutex n) m h s = omega arith

-- an instruction that can be made has its object in the arrays
pub fits : (i : Instruction) (m : Machine) → Usable i → Sized m → Fits (object (meaning i)) m
fits i m u s = placed (object (meaning i)) m (in_range i u) s

-- what the arrays mean after an instruction
pub performs : (n : ℕ) (c : Instr) (m : Machine) → n < length m.threads → Fits (object c) m → view (performed n c m) ≡ perform (suc n) c (view m)
performs n c m h f =
    let x = item_of m (object c) in
    let l = next c ((view m).thread (suc n)) x.value in
    let y = touch (suc n) c ((view m).thread (suc n)) x in
    let ts : (λ k. get_or (idle ∷ set m.threads n l) k idle) ≡ put same_number (view m).thread (suc n) l = view_set (idle ∷ m.threads) (suc n) l idle (omega arith) in
    let is : item_of (performed n c m) ≡ put same_object (item_of m) (object c) y = fun_ext (λ k. items_of (change (object c) y m) (set m.threads n l) k) ∙ view_change m (object c) y f (shaped (suc n) c ((view m).thread (suc n)) m) in
    λ t. record { thread = ts t; item = is t }
