-- Whether an event is unused, by the cursors and fronts.
use Rattle.std.proofs.Common.{◌≡◌, ℕ, zero, suc, ◌-◌, ◌<◌, ◌≤◌, Bool, true, false, ◌||◌, ltb, List, [], ◌∷◌, length, get_or, drop, inl, inr, sym, refl, ap, ◌∙◌, subst, arith}
use mathlib.Core.Bool.{true≢false}
use mathlib.Core.Option.{none, some}
use Rattle.std.proofs.lemmas.List.{drop_all}
use Rattle.std.specs.List.{list_any}
use Rattle.std.proofs.lemmas.List.Folds.{list_any_at}
use Rattle.std.proofs.lemmas.Bool.{cond-true, cond-false, cond_both, cases_lt, lt-ltb, le-ltb, ltb-true}
use Rattle.std.proofs.lemmas.Bool.Decides.{nat_tests}
use Rattle.machine.specs.Machine.{Object, variable}
use Rattle.trace.specs.declared.Event.{Event}
use Rattle.trace.specs.declared.Event.TheVariants.{Read}
use Rattle.trace.specs.declared.Trace.{Trace}
use Rattle.trace.specs.History.{ProperEvents}
use Rattle.trace.specs.Sound.{who}
use Rattle.trace.proofs.Exactly.{checks_exactly}
use Rattle.following.specs.declared.used.Used.{Used}
use Rattle.following.specs.Following.{first_of}
use Rattle.following.specs.Cursors.{unused, cursor}
use Rattle.following.specs.Ends.{some_event}
use Rattle.following.specs.View.{row, cursors_at, rest, before_end, Sized, SettledIn}
use Rattle.following.proofs.Cursors.{first_settled, first_unused}
use Rattle.following.proofs.Due.{first_at, cursor_at}
use Rattle.following.proofs.Events.{no_clash}
use Rattle.following.proofs.Positions.{variable_place}

-- where there is a first event, there is one
some_first : (i : ℕ) (q : List Event) (e : Event) → first_of i q ≡ some e → some_event q ≡ true
some_first i [] e h = no_clash (cc)
some_first i (x ∷ q) e h = refl

-- one of the numbers is below the end
some_at : (end : ℕ) (ns : List ℕ) → list_any (λ n. ltb n end) ns ≡ true → (k : ℕ) × (k < length ns) × (get_or ns k 0 < end)
some_at end [] e = no_clash (cc)
some_at end (n ∷ ns) e = elim (cases_lt n end) [ inl b ↦ (0, omega arith, b) | inr b ↦ later (some_at end ns (sym (ap (λ (t : Bool). t || list_any (λ k. ltb k end) ns) (le-ltb n end b)) ∙ e)) ]
  where
    later : (k : ℕ) × (k < length ns) × (get_or ns k 0 < end) → (k : ℕ) × (k < length (n ∷ ns)) × (get_or (n ∷ ns) k 0 < end)
    later (k, a, b) = (suc k, omega arith, b)

-- what holds of all events of a sequence holds of the unused
proper_unused : (T : ℕ) (o : Object) (c : ℕ → ℕ) (k : ℕ) (q : List Event) → ProperEvents T o q → ProperEvents T o (unused c k q)
proper_unused T o c k [] h = tt
proper_unused T o c k (e ∷ q) h = cond_both (ltb k (c (who e))) _ _ (ProperEvents T o) (λ _. proper_unused T o c (suc k) q h.2) (λ _. (h.0, h.1, proper_unused T o c (suc k) q h.2))

own_first : (e : Event) (q : List Event) → first_of (who e) (e ∷ q) ≡ some e
own_first e q = grind (arith, nat_tests)

module _ (t : Trace) (u : Used) (size : Sized u) (settled : SettledIn t u) (k : ℕ) (lt : k < 16) where
  abbrev cs : List ℕ
  cs = cursors_at u k

  abbrev q : List Event
  q = row t k

  by_threads : ProperEvents t.rows.threads (variable k) q
  by_threads = subst (λ (n : ℕ). ProperEvents t.rows.threads (variable k) (row t n)) (variable_place k lt) ((checks_exactly.only t).proper (variable k))

  -- all cursors are at the end: nothing is unused
  none_unused : ((n : ℕ) → n < length cs → length q ≤ get_or cs n 0) → unused (cursor cs) 0 q ≡ []
  none_unused h = go (unused (cursor cs) 0 q) refl (proper_unused t.rows.threads (variable k) (cursor cs) 0 q by_threads)
    where
      go : (l : List Event) → unused (cursor cs) 0 q ≡ l → ProperEvents t.rows.threads (variable k) l → l ≡ []
      go [] e p = refl
      go (x ∷ l) e p =
          let few = t.rows.few in
          let w = p.0 in
          let one : 1 ≤ who x = grind (arith, nat_tests) in
          let most : who x ≤ 8 = grind (arith, nat_tests) in
          let past : length q ≤ cursor cs (who x) = subst (λ (n : ℕ). length q ≤ n) (sym (cursor_at cs (who x) one)) (h (who x - 1) (omega (arith, size.each k lt))) in
          let found : first_of (who x) (drop (cursor cs (who x)) q) ≡ some x = sym (first_unused (who x) (cursor cs) q) ∙ ap (first_of (who x)) e ∙ own_first x l in
          let none_there : first_of (who x) (drop (cursor cs (who x)) q) ≡ none = ap (first_of (who x)) (drop_all (cursor cs (who x)) q past) in
          no_clash (cc)

  -- a cursor before the end is at an unused event
  some_unused : (n : ℕ) → n < length cs → get_or cs n 0 < length q → some_event (unused (cursor cs) 0 q) ≡ true
  some_unused n a b =
      let eight = size.each k lt in
      let e = sym (first_at (get_or cs n 0) q (Read 0 0) b) in
      some_first (suc n) (unused (cursor cs) 0 q) _ (first_settled (suc n) (cursor cs) q (settled k (suc n) lt (omega arith) (omega arith)) ∙ e)

  abbrev before : ℕ → Bool
  before n = ltb n (length q)

  by_cursors : list_any before cs ≡ some_event (unused (cursor cs) 0 q)
  by_cursors = by (list_any before cs) refl
    where
      by : (b : Bool) → list_any before cs ≡ b → b ≡ some_event (unused (cursor cs) 0 q)
      by true e = let w = some_at (length q) cs e in sym (some_unused w.0 w.1 w.2)
      by false e = sym (ap some_event (none_unused (λ n a. elim (cases_lt (get_or cs n 0) (length q)) [ inl b ↦ absurd (true≢false (sym (list_any_at before cs n 0 a (lt-ltb _ _ b)) ∙ e)) | inr b ↦ b ])))

-- something is left from a front on where the front is before the end
some_drop : (n : ℕ) (q : List Event) → ltb n (length q) ≡ some_event (drop n q)
some_drop zero [] = grind (arith, nat_tests)
some_drop (suc n) [] = grind (arith, nat_tests)
some_drop zero (e ∷ q) = grind (arith, nat_tests)
some_drop (suc n) (e ∷ q) = let again = some_drop n q in grind (arith, nat_tests)

pub left_by_front : (u : Used) (k : ℕ) (q : List Event) → 16 ≤ k → ltb (get_or u.fronts (k - 16) 0) (length q) ≡ some_event (rest u k q)
left_by_front u k q ge = some_drop (get_or u.fronts (k - 16) 0) q ∙ ap some_event (sym (cond-false (ltb k 16) (unused (cursor (cursors_at u k)) 0 q) (drop (get_or u.fronts (k - 16) 0) q) (le-ltb k 16 ge)))

pub some_before : (t : Trace) (u : Used) → Sized u → SettledIn t u → (k : ℕ) → before_end u k (row t k) ≡ some_event (rest u k (row t k))
some_before t u size settled k = cond_both (ltb k 16) _ _ (λ b. b ≡ some_event (rest u k (row t k)))
    (λ lt. by_cursors t u size settled k (ltb-true k 16 lt) ∙ ap some_event (sym (cond-true (ltb k 16) (unused (cursor (cursors_at u k)) 0 (row t k)) (drop (get_or u.fronts (k - 16) 0) (row t k)) lt)))
    (λ ge. some_drop (get_or u.fronts (k - 16) 0) (row t k) ∙ ap some_event (sym (cond-false (ltb k 16) (unused (cursor (cursors_at u k)) 0 (row t k)) (drop (get_or u.fronts (k - 16) 0) (row t k)) ge)))
