-- A vector of vectors, read as a list of lists.
use Rattle.std.proofs.Common.{◌≡◌, ℕ, ◌<◌, List, [], map, length, get_or, vec_items, vec_len, sym, ap, ◌∙◌, arith}
use Rattle.std.specs.Global.{Vec}
use Rattle.std.proofs.lemmas.List.{get_or-map, length-map}

module _ {X : Type 0} (v : Vec (Vec X)) where
  -- the lists
  abbrev pub rows : List (List X)
  rows = map vec_items (vec_items v)

  pub rows_length : vec_len v ≡ length rows
  rows_length = v.ok.0 ∙ sym (length-map (vec_items v) vec_items)

  pub row_at : (k : ℕ) (x : Vec X) → k < vec_len v → x ≡ get_or (vec_items v) k x → vec_items x ≡ get_or rows k []
  row_at k x lt e = ap vec_items e ∙ sym (get_or-map vec_items (vec_items v) k x [] (omega (arith, v.ok.0)))
