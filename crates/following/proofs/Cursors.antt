-- To move a cursor past its event is to use that event.
use Rattle.std.proofs.Common.{◌≡◌, ℕ, zero, suc, ◌+◌, ◌-◌, ◌<◌, ◌≤◌, Bool, true, false, cond, eqb, List, [], ◌∷◌, length, length-drop, take, drop, set, not, sym, refl, ap, ◌∙◌, subst, arith, get_or-set_other, get_or-set_same}
use mathlib.Core.Path.{fun_ext}
use mathlib.Core.Option.{some}
use Rattle.std.proofs.lemmas.List.{drop-drop, take_all}
use Rattle.std.proofs.lemmas.Bool.{eqb-true, eqb-false, eq-eqb}
use Rattle.std.proofs.lemmas.Bool.Decides.{nat_tests}
use Rattle.std.specs.List.{prefix_len}
use Rattle.trace.specs.declared.Event.{Event}
use Rattle.trace.specs.Sound.{who}
use Rattle.following.specs.Following.{first, first_of, spend}
use Rattle.following.specs.Cursors.{seek, from, unused, moved, cursor, Settled}

-- thread i's first unused event is its first at or after its cursor
first_ahead : (i : ℕ) (c : ℕ → ℕ) (k : ℕ) (q : List Event) (n : ℕ) → c i - k ≡ n → first_of i (unused c k q) ≡ first_of i (drop n q)
first_ahead i c k [] zero h = refl
first_ahead i c k [] (suc n) h = refl
first_ahead i c k (e ∷ q) zero h =
    let again = first_ahead i c (suc k) q 0 (omega arith) in
    let w : who e ≡ i → c (who e) ≡ c i = ap c in
    grind (arith, nat_tests)
first_ahead i c k (e ∷ q) (suc n) h =
    let again = first_ahead i c (suc k) q n (omega arith) in
    let w : who e ≡ i → c (who e) ≡ c i = ap c in
    grind (arith, nat_tests)

pub first_unused : (i : ℕ) (c : ℕ → ℕ) (q : List Event) → first_of i (unused c 0 q) ≡ first_of i (drop (c i) q)
first_unused i c q = first_ahead i c 0 q (c i) (omega arith)

-- a cursor that moves before the sequence changes nothing of it
before : (i n : ℕ) (c : ℕ → ℕ) (k : ℕ) (q : List Event) → c i ≤ k → n ≤ k → unused (moved i n c) k q ≡ unused c k q
before i n c k [] a b = refl
before i n c k (e ∷ q) a b =
    let again = before i n c (suc k) q (omega arith) (omega arith) in
    let w : who e ≡ i → c (who e) ≡ c i = ap c in
    grind (arith, nat_tests)

pub seek_on : (i k : ℕ) (q : List Event) → k ≤ seek i k q
seek_on i k [] = omega arith
seek_on i k (e ∷ q) = let again = seek_on i (suc k) q in grind (arith, nat_tests)

-- over other threads' events a cursor moves freely
over : (i : ℕ) (c : ℕ → ℕ) (k : ℕ) (q : List Event) → c i ≤ k → unused (moved i (seek i k q) c) k q ≡ unused c k q
over i c k [] a = refl
over i c k (e ∷ q) a =
    let here = before i k c k (e ∷ q) a (omega arith) in
    let again = over i c (suc k) q (omega arith) in
    go here again (eqb (who e) i) refl
  where
    go : unused (moved i k c) k (e ∷ q) ≡ unused c k (e ∷ q) → unused (moved i (seek i (suc k) q) c) (suc k) q ≡ unused c (suc k) q → (b : Bool) → eqb (who e) i ≡ b → unused (moved i (cond b k (seek i (suc k) q)) c) k (e ∷ q) ≡ unused c k (e ∷ q)
    go here again true h = here
    go here again false h = grind (arith, nat_tests)

over_at : (i : ℕ) (c : ℕ → ℕ) (k : ℕ) (q : List Event) (n : ℕ) → c i ≡ n + k → unused (moved i (seek i (c i) (drop n q)) c) k q ≡ unused c k q
over_at i c k q zero h = subst (λ (m : ℕ). unused (moved i (seek i m q) c) k q ≡ unused c k q) (let e : k ≡ c i = omega arith in e) (over i c k q (omega arith))
over_at i c k [] (suc n) h = refl
over_at i c k (e ∷ q) (suc n) h =
    let again = over_at i c (suc k) q n (omega arith) in
    let on = seek_on i (c i) (drop n q) in
    let w : who e ≡ i → c (who e) ≡ c i = ap c in
    grind (arith, nat_tests)

-- the event at the cursor is used by moving the cursor past it
past : (i : ℕ) (c : ℕ → ℕ) (k : ℕ) (q : List Event) (n : ℕ) (e : Event) → c i ≡ n + k → first (drop n q) ≡ some e → who e ≡ i → spend i (unused c k q) ≡ unused (moved i (suc (c i)) c) k q
past i c k [] zero e h f w = grind arith
past i c k [] (suc n) e h f w = grind arith
past i c k (x ∷ q) zero e h f w =
    let same : x ≡ e = cc in
    let who_x : who x ≡ i = ap who same ∙ w in
    let rest = before i (suc (c i)) c (suc k) q (omega arith) (omega arith) in
    let v : c (who x) ≡ c i = ap c who_x in
    grind (arith, nat_tests)
past i c k (x ∷ q) (suc n) e h f w =
    let again = past i c (suc k) q n e (omega arith) f w in
    let v : who x ≡ i → c (who x) ≡ c i = ap c in
    grind (arith, nat_tests)

moved_again : (i m n : ℕ) (c : ℕ → ℕ) → moved i n (moved i m c) ≡ moved i n c
moved_again i m n c = fun_ext (λ k. grind (arith, nat_tests))

-- thread i's first unused event is used by moving its cursor to its next event
pub spent : (i : ℕ) (c : ℕ → ℕ) (q : List Event) (e : Event) → first (drop (c i) q) ≡ some e → who e ≡ i → unused (moved i (from i (suc (c i)) q) c) 0 q ≡ spend i (unused c 0 q)
spent i c q e f w =
    let d : ℕ → ℕ = moved i (suc (c i)) c in
    let at : d i ≡ suc (c i) = ap (λ (b : Bool). cond b (suc (c i)) (c i)) (eq-eqb i i refl) in
    let free : unused (moved i (seek i (d i) (drop (suc (c i)) q)) d) 0 q ≡ unused d 0 q = over_at i d 0 q (suc (c i)) (omega (arith, at)) in
    let same : moved i (seek i (d i) (drop (suc (c i)) q)) d ≡ moved i (from i (suc (c i)) q) c = moved_again i (suc (c i)) _ c ∙ ap (λ (n : ℕ). moved i (seek i n (drop (suc (c i)) q)) c) at in
    ap (λ (g : ℕ → ℕ). unused g 0 q) (sym same) ∙ free ∙ sym (past i c 0 q (c i) e (omega arith) f w)

-- a cursor that was sought stays
stays : (i k : ℕ) (q : List Event) (n : ℕ) → seek i k q ≡ n + k → seek i (n + k) (drop n q) ≡ n + k
stays i k [] zero h = refl
stays i k [] (suc n) h = refl
stays i k (e ∷ q) zero h = ap (λ (m : ℕ). seek i m (e ∷ q)) (let z : 0 + k ≡ k = omega arith in z) ∙ h
stays i k (e ∷ q) (suc n) h =
    let w : eqb (who e) i ≡ false = grind (arith, nat_tests) in
    let again = stays i (suc k) q n (let z : seek i (suc k) q ≡ n + suc k = grind (arith, nat_tests) in z) in
    subst (λ (m : ℕ). seek i m (drop n q) ≡ m) (let z : n + suc k ≡ suc n + k = omega arith in z) again

pub settles : (i k : ℕ) (q : List Event) → Settled i (from i k q) q
settles i k q =
    let s = seek i k (drop k q) in
    let on = seek_on i k (drop k q) in
    let z : s ≡ (s - k) + k = omega arith in
    let d : drop (s - k) (drop k q) ≡ drop ((s - k) + k) q = drop-drop (s - k) k q ∙ ap (λ (m : ℕ). drop m q) (let y : k + (s - k) ≡ (s - k) + k = omega arith in y) in
    subst (λ (m : ℕ). seek i m (drop m q) ≡ m) (sym z) (ap (seek i ((s - k) + k)) (sym d) ∙ stays i k (drop k q) (s - k) z)

-- and it is in range
pub seek_within : (i k : ℕ) (q : List Event) → seek i k q ≤ k + length q
seek_within i k [] = omega arith
seek_within i k (e ∷ q) = let again = seek_within i (suc k) q in grind (arith, nat_tests)

-- at a settled cursor stands thread i's first unused event
settled_head : (i k : ℕ) (q : List Event) → seek i k q ≡ k → first_of i q ≡ first q
settled_head i k [] h = refl
settled_head i k (e ∷ q) h = let on = seek_on i (suc k) q in grind (arith, nat_tests)

pub first_settled : (i : ℕ) (c : ℕ → ℕ) (q : List Event) → Settled i (c i) q → first_of i (unused c 0 q) ≡ first (drop (c i) q)
first_settled i c q h = first_unused i c q ∙ settled_head i (c i) (drop (c i) q) h

pub of_thread : (i : ℕ) (q : List Event) (e : Event) → first_of i q ≡ some e → who e ≡ i
of_thread i [] e h = grind arith
of_thread i (x ∷ q) e h = let again = of_thread i q e in grind (arith, nat_tests)

-- the list of cursors
pub cursor_set : (cs : List ℕ) (i n : ℕ) → i < length cs → cursor (set cs i n) ≡ moved (suc i) n (cursor cs)
cursor_set cs i n h = fun_ext (λ k. go k (eqb k (suc i)) refl)
  where
    go : (k : ℕ) (b : Bool) → eqb k (suc i) ≡ b → cursor (set cs i n) k ≡ cond b n (cursor cs k)
    go k true e = ap (cursor (set cs i n)) (eqb-true k (suc i) e) ∙ get_or-set_same cs i n 0 h
    go zero false e = refl
    go (suc k) false e = get_or-set_other cs i k n 0 (λ (z : k ≡ i). eqb-false (suc k) (suc i) e (ap suc z))

-- thread i's first event stands behind the events of others
past_others : (i k : ℕ) (q : List Event) → k + prefix_len (λ e. not (eqb (who e) i)) q ≡ seek i k q
past_others i k [] = omega arith
past_others i k (e ∷ q) = let again = past_others i (suc k) q in grind (arith, nat_tests)

pub from_others : (i k : ℕ) (q : List Event) → k + prefix_len (λ e. not (eqb (who e) i)) (take (length q - k) (drop k q)) ≡ from i k q
from_others i k q = ap (λ (l : List Event). k + prefix_len (λ e. not (eqb (who e) i)) l) (take_all (length q - k) (drop k q) (omega (arith, length-drop k q))) ∙ past_others i k (drop k q)
