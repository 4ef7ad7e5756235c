-- The arrays before the first step mean the machine at its start.
use Rattle.std.proofs.Common.{◌≡◌, ℕ, zero, suc, cond, ◌&&◌, ltb, leb, List, ◌∷◌, get_or, replicate, refl, ap, arith}
use mathlib.Core.Path.{fun_ext}
use Rattle.std.proofs.lemmas.Bool.Decides.{nat_tests}
use Rattle.std.proofs.lemmas.List.{get_or-replicate, get_or_past, length-replicate}
use Rattle.machine.specs.declared.Thread.{Thread}
use Rattle.machine.specs.declared.Machine.{Machine}
use Rattle.program.specs.declared.Program.{Program}
use Rattle.machine.specs.Machine.{Object, nothing, variable, semaphore, mutex, plain, idle, ready, begin, start}
use Rattle.machine.specs.View.{item_of, view, code_of}

-- one of equal elements
filled : {A : Type 0} (n k : ℕ) (x d : A) → get_or (replicate n x) k d ≡ cond (ltb k n) x d
filled {A} n k x d = grind (arith, nat_tests, get_or-replicate {A = A}, get_or_past {X = A}, length-replicate {A = A})

same_filled : {A : Type 0} (n k : ℕ) (x : A) → get_or (replicate n x) k x ≡ x
same_filled {A} n k x = grind (arith, get_or-replicate {A = A}, get_or_past {X = A}, length-replicate {A = A})

threads : (r : Thread) (i : ℕ) → get_or (idle ∷ replicate 8 r) i idle ≡ cond (leb 1 i && leb i 8) r idle
threads r zero = refl
threads r (suc i) = let f = filled 8 i r idle in grind (arith, nat_tests)

module _ (p : Program) (values : List ℕ) (same : values ≡ p.starts) where
  -- the arrays of a new machine
  abbrev pub fresh : Machine
  fresh = record {
    threads = replicate 8 (record { registers = replicate 4 0; place = 0; count = 0 });
    variables = replicate 16 (plain 0);
    semaphores = values;
    holders = replicate 8 0;
  }

  items : (o : Object) → item_of fresh o ≡ begin (code_of p) o
  items nothing = refl
  items (variable n) = same_filled 16 n (plain 0)
  items (semaphore n) = ap (λ l. plain (get_or l n 0)) same
  items (mutex n) = ap plain (same_filled 8 n 0)

  pub starts : view fresh ≡ start (code_of p)
  starts =
      let ts : (λ i. get_or (idle ∷ fresh.threads) i idle) ≡ ready = fun_ext (threads (record { registers = replicate 4 0; place = 0; count = 0 })) in
      λ t. record { thread = ts t; item = fun_ext items t }
