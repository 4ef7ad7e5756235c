-- A variable's version and reads made stay at most the events used of it.
use Rattle.std.proofs.Common.{◌≡◌, ℕ, ◌≤◌, List, [], ◌∷◌, length, subst, arith}
use Rattle.std.proofs.lemmas.Bool.Decides.{nat_tests}
use Rattle.machine.specs.declared.Thread.{Thread}
use Rattle.machine.specs.declared.Item.{Item}
use Rattle.machine.specs.Map.{pick, put}
use Rattle.machine.specs.Machine.{Instr, Object, variable, same_object, object, touch}
use Rattle.trace.specs.declared.Event.{Event}
use Rattle.following.specs.Following.{spend, Turn, use_up}
use Rattle.following.specs.View.{Roomy}
use Rattle.following.proofs.Events.{spend_length}

spend_fewer : (i : ℕ) (q : List Event) → length (spend i q) ≤ length q
spend_fewer i [] = omega arith
spend_fewer i (e ∷ q) = let again = spend_fewer i q in grind (arith, nat_tests)

roomy_touch : (n : ℕ) (c : Instr) (l : Thread) (x : Item) (q all : List Event) → Turn n c x q → Roomy x q all → Roomy (touch n c l x) (use_up n c q) all
roomy_touch n (Instr.local c) l x q all f r = r
roomy_touch n (Instr.read a v) l x q all f r = let one = spend_length n q _ f in record { versions = omega (arith, r.versions); reads = omega (arith, r.reads) }
roomy_touch n (Instr.write a v) l x q all f r = let one = spend_length n q _ f in record { versions = omega (arith, r.versions); reads = omega (arith, r.versions) }
roomy_touch n (Instr.synchronise o k) l x q all f r = let le = spend_fewer n q in record { versions = omega (arith, r.versions); reads = omega (arith, r.reads) }

module _ (item : Object → Item) (left : Object → List Event) (all : ℕ → List Event) where
  abbrev Room : Type 0
  Room = (v : ℕ) → Roomy (item (variable v)) (left (variable v)) (all v)

pub room_after : (item : Object → Item) (left : Object → List Event) (all : ℕ → List Event) (n : ℕ) (c : Instr) (l : Thread) → Turn n c (item (object c)) (left (object c)) → Room item left all → Room (put same_object item (object c) (touch n c l (item (object c)))) (put same_object left (object c) (use_up n c (left (object c)))) all
room_after item left all n c l f r v = go (same_object (variable v) (object c))
  where
    go : (d : Dec (variable v ≡ object c)) → Roomy (pick d (touch n c l (item (object c))) (item (variable v))) (pick d (use_up n c (left (object c))) (left (variable v))) (all v)
    go (yes e) = roomy_touch n c l (item (object c)) (left (object c)) (all v) f (subst (λ (o : Object). Roomy (item o) (left o) (all v)) e (r v))
    go (no h) = r v
