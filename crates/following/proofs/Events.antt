-- What is left of a sound sequence once an event is used, shown by induction from the front of the sequence.
use Rattle.std.proofs.Common.{◌≡◌, ℕ, suc, ◌+◌, ◌<◌, ◌≤◌, Bool, true, false, cond, ◌&&◌, eqb, ◌≢◌, List, [], ◌∷◌, length, refl, subst, arith}
use mathlib.Core.Option.{some}
use Rattle.std.proofs.lemmas.Bool.Decides.{nat_tests}
use Rattle.machine.specs.declared.Operation.{Operation}
use Rattle.trace.specs.declared.Event.{Event}
use Rattle.trace.specs.declared.Event.TheVariants.{Read, Write, Sync}
use Rattle.trace.specs.Sound.{writes, SoundFrom}
use Rattle.trace.specs.Agreement.{reads_of}
use Rattle.following.specs.Following.{first, first_of, spend}

-- 0 is not 1
pub no_clash : {X : Type 0} → ◌≡◌ {A = ℕ} 0 1 → X
no_clash h = absurd (omega arith)

-- the version that an event bears
abbrev version : Event → ℕ
version (Read i v) = v
version (Write i v n) = v
version (Sync i o) = 0

-- another thread's first event stays first
pub spend_first : (i j : ℕ) (q : List Event) → i ≢ j → first_of j (spend i q) ≡ first_of j q
spend_first i j [] h = refl
spend_first i j (e ∷ q) h = let again = spend_first i j q h in grind (arith, nat_tests)

-- two threads' events are used in either order
pub spend_swap : (i j : ℕ) (q : List Event) → spend j (spend i q) ≡ spend i (spend j q)
spend_swap i j [] = refl
spend_swap i j (e ∷ q) = let again = spend_swap i j q in grind (arith, nat_tests)

-- one event is used
pub spend_length : (i : ℕ) (q : List Event) (e : Event) → first_of i q ≡ some e → length q ≡ suc (length (spend i q))
spend_length i [] e h = grind arith
spend_length i (x ∷ q) e h = let again = spend_length i q e in grind (arith, nat_tests)

-- the first event of all, where it is of thread i, is the one that i uses
pub sync_first : (i : ℕ) (o : Operation) (q : List Event) → first q ≡ some (Sync i o) → q ≡ Sync i o ∷ spend i q
sync_first i o [] f = no_clash (cc)
sync_first i o (e ∷ q) f = grind (arith, nat_tests)

-- what is left bears the present version or a later one
not_earlier : (i v m : ℕ) (q : List Event) (e : Event) → SoundFrom v m q → first_of i q ≡ some e → v ≤ version e
not_earlier i v m [] e s f = grind arith
not_earlier i v m (Read k w ∷ q) e s f = let again = not_earlier i v (suc m) q e s.1 in grind (arith, nat_tests)
not_earlier i v m (Write k w n ∷ q) e s f = let again = not_earlier i (suc v) 0 q e s.2 in grind (arith, nat_tests)
not_earlier i v m (Sync k o ∷ q) e s f = absurd s

-- a write of the present version counts the reads made
not_fewer : (i v m n : ℕ) (q : List Event) → SoundFrom v m q → first_of i q ≡ some (Write i v n) → m ≤ n
not_fewer i v m n [] s f = grind arith
not_fewer i v m n (Read k w ∷ q) s f = let again = not_fewer i v (suc m) n q s.1 in grind (arith, nat_tests)
not_fewer i v m n (Write k w l ∷ q) s f = let late = not_earlier i (suc v) 0 q (Write i v n) s.2 in grind (arith, nat_tests)
not_fewer i v m n (Sync k o ∷ q) s f = absurd s

-- a write on turn is the first of all that is left
pub write_first : (i v m : ℕ) (q : List Event) → SoundFrom v m q → first_of i q ≡ some (Write i v m) → q ≡ Write i v m ∷ spend i q
write_first i v m [] s f = grind arith
write_first i v m (Read k w ∷ q) s f = let more = not_fewer i v (suc m) m q s.1 in grind (arith, nat_tests)
write_first i v m (Write k w n ∷ q) s f = let late = not_earlier i (suc v) 0 q (Write i v m) s.2 in grind (arith, nat_tests)
write_first i v m (Sync k o ∷ q) s f = absurd s

-- and the only event on turn
pub alone : (i j v m : ℕ) (q : List Event) (e : Event) → SoundFrom v m q → first_of i q ≡ some (Write i v m) → first_of j q ≡ some e → version e ≡ v → i ≡ j
alone i j v m [] e s f g h = grind arith
alone i j v m (Read k w ∷ q) e s f g h = let more = not_fewer i v (suc m) m q s.1 in grind (arith, nat_tests)
alone i j v m (Write k w n ∷ q) e s f g h =
    let late = not_earlier i (suc v) 0 q (Write i v m) s.2 in
    let late' = not_earlier j (suc v) 0 q e s.2 in
    grind (arith, nat_tests)
alone i j v m (Sync k o ∷ q) e s f g h = absurd s

-- once a write is used, what is left is sound
pub write_kept : (i v m : ℕ) (q : List Event) → SoundFrom v m q → first_of i q ≡ some (Write i v m) → SoundFrom (suc v) 0 (spend i q)
write_kept i v m q s f = (subst (SoundFrom v m) (write_first i v m q s f) s).2

-- once a read is used, what is left is sound
pub read_kept : (i v m : ℕ) (q : List Event) → SoundFrom v m q → first_of i q ≡ some (Read i v) → SoundFrom v (suc m) (spend i q)
read_kept i v m [] s f = tt
read_kept i v m (Read k w ∷ q) s f = go (read_kept i v (suc m) q s.1) (eqb k i) refl
  where
    go : (first_of i q ≡ some (Read i v) → SoundFrom v (suc (suc m)) (spend i q)) → (b : Bool) → eqb k i ≡ b → SoundFrom v (suc m) (spend i (Read k w ∷ q))
    go again true b = rw b s.1
    go again false b = rw b (s.0, again (rw b at f))
read_kept i v m (Write k w n ∷ q) s f = let late = not_earlier i (suc v) 0 q (Read i v) s.2 in no_clash (grind (arith, nat_tests))
read_kept i v m (Sync k o ∷ q) s f = absurd s

-- no read of an earlier version is left
none_earlier : (i u v m : ℕ) (q : List Event) → SoundFrom v m q → u < v → reads_of i u q ≡ 0
none_earlier i u v m [] s h = refl
none_earlier i u v m (Read k w ∷ q) s h = let again = none_earlier i u v (suc m) q s.1 h in grind (arith, nat_tests)
none_earlier i u v m (Write k w n ∷ q) s h = none_earlier i u (suc v) 0 q s.2 (omega arith)
none_earlier i u v m (Sync k o ∷ q) s h = absurd s

-- where a thread has reads of the present version left, one is its first event
pub read_first : (i v m : ℕ) (q : List Event) → SoundFrom v m q → 0 < reads_of i v q → first_of i q ≡ some (Read i v)
read_first i v m [] s h = no_clash (omega arith)
read_first i v m (Read k w ∷ q) s h = let again = read_first i v (suc m) q s.1 in grind (arith, nat_tests)
read_first i v m (Write k w n ∷ q) s h = let none = none_earlier i v (suc v) 0 q s.2 (omega arith) in no_clash (omega arith)
read_first i v m (Sync k o ∷ q) s h = absurd s

-- to use a read takes it from the reads
pub spent_reads : (i v k w : ℕ) (q : List Event) → first_of i q ≡ some (Read i v) → reads_of k w q ≡ cond (eqb i k && eqb v w) 1 0 + reads_of k w (spend i q)
spent_reads i v k w [] f = grind arith
spent_reads i v k w (Read l u ∷ q) f = let again = spent_reads i v k w q in grind (arith, nat_tests)
spent_reads i v k w (Write l u n ∷ q) f = let again = spent_reads i v k w q in grind (arith, nat_tests)
spent_reads i v k w (Sync l o ∷ q) f = let again = spent_reads i v k w q in grind (arith, nat_tests)

-- and none from the writes
pub spent_writes : (i v : ℕ) (q : List Event) → first_of i q ≡ some (Read i v) → writes (spend i q) ≡ writes q
spent_writes i v [] f = refl
spent_writes i v (Read l u ∷ q) f = let again = spent_writes i v q in grind (arith, nat_tests)
spent_writes i v (Write l u n ∷ q) f = let again = spent_writes i v q in grind (arith, nat_tests)
spent_writes i v (Sync l o ∷ q) f = let again = spent_writes i v q in grind (arith, nat_tests)

-- the first write that is left counts the reads made
counts_reads : (i v m n : ℕ) (q ws : List Event) → SoundFrom v m q → writes q ≡ Write i v n ∷ ws → m ≤ n
counts_reads i v m n [] ws s f = grind arith
counts_reads i v m n (Read k w ∷ q) ws s f = let again = counts_reads i v (suc m) n q ws s.1 f in omega arith
counts_reads i v m n (Write k w l ∷ q) ws s f = let same : l ≡ n = cc in omega (arith, s.1)
counts_reads i v m n (Sync k o ∷ q) ws s f = absurd s

-- where it counts no more, it is its thread's first event
pub write_leads : (i v m : ℕ) (q ws : List Event) → SoundFrom v m q → writes q ≡ Write i v m ∷ ws → first_of i q ≡ some (Write i v m)
write_leads i v m [] ws s f = grind arith
write_leads i v m (Read k w ∷ q) ws s f = let more = counts_reads i v (suc m) m q ws s.1 f in no_clash (omega arith)
write_leads i v m (Write k w l ∷ q) ws s f = grind (arith, nat_tests)
write_leads i v m (Sync k o ∷ q) ws s f = absurd s
