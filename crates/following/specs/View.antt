-- What the arrays of a follower mean.
use Rattle.std.specs.Prelude.{◌≡◌, ℕ, ◌+◌, ◌-◌, ◌<◌, ◌≤◌, Bool, cond, List, [], length, drop, map, replicate, Some, None, Option as Answer, nat_lt, slice_index, slice_index_or, slice_set}
use Rattle.std.specs.List.{list_any, range_with_len}
use Rattle.std.proofs.Math.Option.{Option, none, some}
use Rattle.machine.specs.declared.Item.{Item}
use Rattle.machine.specs.Machine.{Object, variable}
use Rattle.machine.specs.View.{view as machine_view}
use Rattle.trace.specs.declared.Event.{Event}
use Rattle.trace.specs.declared.Trace.{Trace}
use Rattle.trace.specs.declared.next.Access.{Access}
use Rattle.trace.specs.Traces.{named, parts, position}
use Rattle.following.specs.declared.used.Used.{Used}
use Rattle.following.specs.declared.stage.Stage.{Stage}
use Rattle.following.specs.Following.{Progress}
use Rattle.following.specs.Cursors.{unused, cursor, from, firsts, Settled}

-- the sequence at place k
abbrev pub row : Trace → ℕ → List Event
row t k = slice_index_or (parts t).sequences k []

-- the threads' cursors in the sequence at place k
abbrev pub cursors_at : Used → ℕ → List ℕ
cursors_at u k = slice_index_or u.cursors k []

-- what is unused of the sequence q at place k: of a variable by the threads' cursors, of any other all from its front on
abbrev pub rest : Used → ℕ → List Event → List Event
rest u k q = cond (nat_lt k 16) (unused (cursor (cursors_at u k)) 0 q) (drop (slice_index u.fronts (k - 16)) q)

-- the events of each object that are not yet used
abbrev pub left : Trace → Used → Object → List Event
left t u o = rest u (position o) (row t (position o))

-- whether one of the cursors, or the front, at place k stands before the end of the sequence q
abbrev pub before_end : Used → ℕ → List Event → Bool
before_end u k q = cond (nat_lt k 16) (list_any (λ n. nat_lt n (length q)) (cursors_at u k)) (nat_lt (slice_index u.fronts (k - 16)) (length q))

-- how far the arrays say that a replay has come
abbrev pub progress : Trace → Stage → Progress
progress t s = record { machine = machine_view s.machine; left = left t s.used }

-- where thread i's next event stands in the sequence at place k
abbrev pub next_at : Used → ℕ → ℕ → ℕ
next_at u k i = cond (nat_lt k 16) (slice_index (cursors_at u k) (i - 1)) (slice_index u.fronts (k - 16))

-- what is used once thread i's next event in the sequence q at place k is
abbrev pub marked : Used → ℕ → ℕ → List Event → Used
marked u k i q =
    cond (nat_lt k 16)
    (record { cursors = slice_set u.cursors k (slice_set (cursors_at u k) (i - 1) (from i (next_at u k i + 1) q)); fronts = u.fronts })
    (record { cursors = u.cursors; fronts = slice_set u.fronts (k - 16) (next_at u k i + 1) })

-- the arrays are as long as they are declared; the check knows it of an inner array only where that is read
pub record Sized (u : Used) : Type 0 where
  pub cursors : length u.cursors ≡ 16
  pub fronts : length u.fronts ≡ 16
  pub each : (k : ℕ) → k < 16 → length (cursors_at u k) ≡ 8

-- version and reads made of a variable that holds x are at most the events used of it, where q is left of all its events
pub record Roomy (x : Item) (q all : List Event) : Type 0 where
  pub versions : x.version + length q ≤ length all
  pub reads : x.made + length q ≤ length all

-- each cursor stands at an event of its thread, or at the end of its sequence
abbrev pub SettledIn : Trace → Used → Type 0
SettledIn t u = (k i : ℕ) → k < 16 → 1 ≤ i → i ≤ 8 → Settled i (cursor (cursors_at u k) i) (row t k)

-- what every follower keeps
pub record Kept (t : Trace) (s : Stage) : Type 0 where
  pub sized : Sized s.used
  pub settled : SettledIn t s.used
  pub room : (v : ℕ) → Roomy ((machine_view s.machine).item (variable v)) (left t s.used (variable v)) (row t (position (variable v)))

-- what is used once the event of thread i's access is, if it has one
abbrev pub spent : Trace → ℕ → Answer Access → Used → Used
spent t i None u = u
spent t i (Some a) u = marked u (position (named a.object)) i (row t (position (named a.object)))

-- no event is used: the cursors stand at the threads' first events, and the fronts at the beginning
abbrev pub fresh : Trace → Used
fresh t = record { cursors = map (λ k. firsts (row t k)) (range_with_len 0 16); fronts = replicate 16 0 }

-- an answer as an option of the definitions
abbrev pub lifted : {A : Type 0} → Answer A → Option A
lifted None = none
lifted (Some x) = some x

-- thread i and place k are such that an event can be due there
pub record Inside (i k : ℕ) : Type 0 where
  pub one : 1 ≤ i
  pub eight : i ≤ 8
  pub place : k < 32

-- thread i's access, if it has one, has an event due
abbrev pub Due : Trace → Used → ℕ → Answer Access → Type 0
Due t u i None = Unit {0}
Due t u i (Some a) = Inside i (position (named a.object)) × (next_at u (position (named a.object)) i < length (row t (position (named a.object))))
