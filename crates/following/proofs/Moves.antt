-- A step moves one thread, one object and what is left of its events; two such moves of different threads can be made in either order, by the laws of changed maps.
use Rattle.std.proofs.Common.{◌≡◌, ℕ, ◌≢◌, sym, ap, ◌∙◌}
use mathlib.Core.Option.{some}
use Rattle.machine.specs.declared.Thread.{Thread}
use Rattle.machine.specs.declared.Item.{Item}
use Rattle.machine.specs.Map.{put, same_number}
use Rattle.machine.specs.Machine.{Code, Instr, Object, same_object, object, next, touch, here, step_at}
use Rattle.machine.proofs.Maps.{put_same, put_other}
use Rattle.following.specs.Following.{Progress, advance, use_up, left_at}
use Rattle.following.proofs.Puts.{put_cross, put_apart, put_level}
use Rattle.following.proofs.Objects.{Calm}

-- thread i, which is l, makes the instruction c on the object o
abbrev pub move : ℕ → Instr → Thread → Object → Progress → Progress
move i c l o r = record {
  machine = record {
    thread = put same_number r.machine.thread i (next c l (r.machine.item o).value);
    item = put same_object r.machine.item o (touch i c l (r.machine.item o));
  };
  left = put same_object r.left o (use_up i c (r.left o));
}

-- a step is a move
pub moved : (p : Code) (i : ℕ) (c : Instr) (r : Progress) → here p r.machine i ≡ some c → advance p i r ≡ move i c (r.machine.thread i) (object c) r
moved p i c r e = λ t. record { machine = step_at (e t) i r.machine; left = left_at (e t) i r.left }

-- what is equal in its parts is equal
progress_path : (r s : Progress) → r.machine.thread ≡ s.machine.thread → r.machine.item ≡ s.machine.item → r.left ≡ s.left → r ≡ s
progress_path r s p q u = λ t. record { machine = record { thread = p t; item = q t }; left = u t }

module _ (i j : ℕ) (c d : Instr) (l k : Thread) (r : Progress) (apart : i ≢ j) (o u : Object) where
  abbrev first_i : Progress
  first_i = move j d k u (move i c l o r)

  abbrev first_j : Progress
  first_j = move i c l o (move j d k u r)

  -- the threads end alike where no move changes the value that the other one sees
  moves_swap : ((move j d k u r).machine.item o).value ≡ (r.machine.item o).value → ((move i c l o r).machine.item u).value ≡ (r.machine.item u).value → first_i.machine.item ≡ first_j.machine.item → first_i.left ≡ first_j.left → first_i ≡ first_j
  moves_swap ei ej = progress_path first_i first_j (put_cross same_number r.machine.thread i j _ _ _ _ apart (ap (next c l) ei) (ap (next d k) ej))

module _ (i j : ℕ) (c d : Instr) (l k : Thread) (r : Progress) (apart : i ≢ j) where
  -- on two objects
  pub move_apart : (o u : Object) → o ≢ u → move j d k u (move i c l o r) ≡ move i c l o (move j d k u r)
  move_apart o u h =
      moves_swap i j c d l k r apart o u
      (ap (λ (y : Item). y.value) (put_other same_object r.machine.item u (touch j d k (r.machine.item u)) o h))
      (ap (λ (y : Item). y.value) (put_other same_object r.machine.item o (touch i c l (r.machine.item o)) u (λ (e : u ≡ o). h (sym e))))
      (put_apart same_object r.machine.item o u (touch i c l) (touch j d k) h)
      (put_apart same_object r.left o u (use_up i c) (use_up j d) h)

  -- on one object
  pub move_same : (o : Object) → Calm i j c d l k (r.machine.item o) (r.left o) → move j d k o (move i c l o r) ≡ move i c l o (move j d k o r)
  move_same o w =
      moves_swap i j c d l k r apart o o
      (ap (λ (y : Item). y.value) (put_same same_object r.machine.item o (touch j d k (r.machine.item o))) ∙ w.value_j)
      (ap (λ (y : Item). y.value) (put_same same_object r.machine.item o (touch i c l (r.machine.item o))) ∙ w.value_i)
      (put_level same_object r.machine.item o (touch i c l) (touch j d k) w.swap_touch)
      (put_level same_object r.left o (use_up i c) (use_up j d) w.swap_use)
