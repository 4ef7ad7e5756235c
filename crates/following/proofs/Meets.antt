-- Two lists of steps from one state can be completed to one state, shown of any steps that may be made in either order.
use Rattle.std.proofs.Common.{◌≡◌, ℕ, suc, ◌+◌, ◌-◌, ◌<◌, ◌≤◌, Bool, true, false, cond, eqb, ◌≢◌, ◌⊎◌, List, [], ◌∷◌, length, sym, refl, ap, ◌∙◌, subst, inl, inr, arith}
use Rattle.std.proofs.lemmas.Bool.{eqb-true, eqb-false}
use Rattle.std.proofs.lemmas.Bool.Decides.{nat_tests}
use Rattle.machine.specs.Words.{Word, reach, times}

-- the list without the first i
abbrev without : ℕ → List ℕ → List ℕ
without i [] = []
without i (k ∷ u) = cond (eqb k i) u (k ∷ without i u)

-- a thread that does not stand in u is not one that does
not_both : (i k : ℕ) (u : List ℕ) → times i u ≡ 0 → (cond {A = ℕ} (eqb i k) 1 0 ≡ 0) ⊎ (times k u ≡ 0)
not_both i k u none = go (eqb i k) refl
  where
    go : (b : Bool) → eqb i k ≡ b → (cond {A = ℕ} (eqb i k) 1 0 ≡ 0) ⊎ (times k u ≡ 0)
    go true e = inr (subst (λ (n : ℕ). times n u ≡ 0) (eqb-true i k e) none)
    go false e = inl (rw e refl)

-- only in the empty list no thread stands
no_steps : (v : List ℕ) → ((i : ℕ) → times i v ≡ 0) → v ≡ []
no_steps [] h = refl
no_steps (k ∷ v) h = let e = h k in let z : ◌≡◌ {A = ℕ} 0 1 = grind (arith, nat_tests) in absurd (omega arith)

module _ {S : Type 0} (step : ℕ → S → S) (May : S → ℕ → Type 0) where
  -- no thread may step
  abbrev pub Stuck : S → Type 0
  Stuck s = (i : ℕ) → May s i → ⊥

  -- i and j may step: j may still after i, and the order does not matter
  abbrev pub Diamond : Type 0
  Diamond = (s : S) (i j : ℕ) → i ≢ j → May s i → May s j → May (step i s) j × (step j (step i s) ≡ step i (step j s))

  -- two words meet again: each is completed by what the other has more of
  record Meet (s : S) (w u : List ℕ) : Type 0 where
    v : List ℕ
    x : List ℕ
    after_w : Word step May (reach step s w) v
    after_u : Word step May (reach step s u) x
    same : reach step (reach step s w) v ≡ reach step (reach step s u) x
    v_times : (i : ℕ) → times i v ≡ times i u - times i w
    x_times : (i : ℕ) → times i x ≡ times i w - times i u
    lengths : length w + length v ≡ length u + length x

  -- i does not stand in u, and may still step after it
  record Beside (s : S) (i : ℕ) (u : List ℕ) : Type 0 where
    absent : times i u ≡ 0
    word : Word step May (step i s) u
    may : May (reach step s u) i
    same : reach step (step i s) u ≡ step i (reach step s u)

  -- i stands in u, and is drawn to its front
  record Drawn (s : S) (i : ℕ) (u : List ℕ) : Type 0 where
    there : 0 < times i u
    word : Word step May (step i s) (without i u)
    same : reach step (step i s) (without i u) ≡ reach step s u
    longer : length u ≡ suc (length (without i u))
    more : (k : ℕ) → times k u ≡ cond (eqb i k) 1 0 + times k (without i u)

  -- a stuck state has no word but the empty one
  stuck_empty : (s : S) (v : List ℕ) → Stuck s → Word step May s v → v ≡ []
  stuck_empty s [] h w = refl
  stuck_empty s (i ∷ v) h w = absurd (h i w.0)

  module _ (diamond : Diamond) where
    -- a thread that may step stands in u or not
    draw : (s : S) (i : ℕ) (u : List ℕ) → May s i → Word step May s u → Beside s i u ⊎ Drawn s i u
    draw s i [] p w = inl (record { absent = refl; word = tt; may = p; same = refl })
    draw s i (k ∷ u) p w = go (draw (step k s) i u) (eqb k i) refl
      where
        go : (May (step k s) i → Word step May (step k s) u → Beside (step k s) i u ⊎ Drawn (step k s) i u) → (b : Bool) → eqb k i ≡ b → Beside s i (k ∷ u) ⊎ Drawn s i (k ∷ u)
        go again true e =
            let ki : k ≡ i = eqb-true k i e in
            inr (record {
              there = rw e (omega arith);
              word = rw e (subst (λ (n : ℕ). Word step May (step n s) u) ki w.1);
              same = rw e (ap (λ (n : ℕ). reach step (step n s) u) (sym ki));
              longer = rw e refl;
              more = λ n. rw (e, ki) refl;
            })
        go again false e =
            let d = diamond s k i (eqb-false k i e) w.0 p in
            let d' = diamond s i k (λ (q : i ≡ k). eqb-false k i e (sym q)) p w.0 in
            elim (again d.0 w.1) [
              | inl h ↦ inl (record {
                absent = rw e (omega (arith, h.absent));
                word = (d'.0, subst (λ (z : S). Word step May z u) d.1 h.word);
                may = h.may;
                same = ap (λ (z : S). reach step z u) (sym d.1) ∙ h.same;
              })
              | inr h ↦ inr (record {
                there = rw e (omega (arith, h.there));
                word = rw e (d'.0, subst (λ (z : S). Word step May z (without i u)) d.1 h.word);
                same = rw e (ap (λ (z : S). reach step z (without i u)) (sym d.1) ∙ h.same);
                longer = rw e (ap suc h.longer);
                more = λ n. rw e (omega (arith, h.more n));
              })
            ]

    -- any two words meet again
    meet : (s : S) (w u : List ℕ) → Word step May s w → Word step May s u → Meet s w u
    meet s [] u a b = record {
      v = u;
      x = [];
      after_w = b;
      after_u = tt;
      same = refl;
      v_times = λ i. omega arith;
      x_times = λ i. omega arith;
      lengths = omega arith;
    }
    meet s (i ∷ w) u a b = elim (draw s i u a.0 b) [
      | inl h ↦ (let m = meet (step i s) w u a.1 h.word in record {
        v = m.v;
        x = i ∷ m.x;
        after_w = m.after_w;
        after_u = (h.may, subst (λ (z : S). Word step May z m.x) h.same m.after_u);
        same = m.same ∙ ap (λ (z : S). reach step z m.x) h.same;
        v_times = λ k. omega (arith, m.v_times k, not_both i k u h.absent);
        x_times = λ k. omega (arith, m.x_times k, not_both i k u h.absent);
        lengths = omega (arith, m.lengths);
      })
      | inr h ↦ (let m = meet (step i s) w (without i u) a.1 h.word in record {
        v = m.v;
        x = m.x;
        after_w = m.after_w;
        after_u = subst (λ (z : S). Word step May z m.x) h.same m.after_u;
        same = m.same ∙ ap (λ (z : S). reach step z m.x) h.same;
        v_times = λ k. omega (arith, m.v_times k, h.more k);
        x_times = λ k. omega (arith, m.x_times k, h.more k);
        lengths = omega (arith, m.lengths, h.longer);
      })
    ]

    module _ (s : S) (w u : List ℕ) (a : Word step May s w) (b : Word step May s u) where
      -- where nothing is left to complete, both are in one state
      met : (m : Meet s w u) → m.v ≡ [] → m.x ≡ [] → reach step s w ≡ reach step s u
      met m ev ex = sym (ap (reach step (reach step s w)) ev) ∙ m.same ∙ ap (reach step (reach step s u)) ex

      -- no word is longer than one that ends stuck
      pub longest : Stuck (reach step s u) → length w ≤ length u
      longest h =
          let m = meet s w u a b in
          let e = stuck_empty (reach step s u) m.x h m.after_u in
          omega (arith, m.lengths, ap length e)

      -- two words that end stuck end in one state
      pub one_end : Stuck (reach step s w) → Stuck (reach step s u) → reach step s w ≡ reach step s u
      one_end h k =
          let m = meet s w u a b in
          met m (stuck_empty (reach step s w) m.v h m.after_w) (stuck_empty (reach step s u) m.x k m.after_u)

      -- two words with the same steps of each thread end in one state
      pub same_steps : ((i : ℕ) → times i w ≡ times i u) → reach step s w ≡ reach step s u
      same_steps h =
          let m = meet s w u a b in
          met m (no_steps m.v (λ i. omega (arith, h i, m.v_times i))) (no_steps m.x (λ i. omega (arith, h i, m.x_times i)))
