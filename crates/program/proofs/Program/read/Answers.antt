use Rattle.std.proofs.Common.{◌≡◌, [], Ok, map, vec_items, arith}
use Rattle.std.proofs.lemmas.List.{length-map}
use Rattle.program.specs.Form.{Parts}
use Rattle.program.specs.Reading.{byte, starts, limits, repeated, text, program}
use Rattle.program.proofs.Chains.{row_made}
use Rattle.program.proofs.Exact.{exact}
use Rattle.program.proofs.Program.read.Goals as goal

-- what was read is well formed
pub invariant_of-program : goal.invariant_of-program
invariant_of-program c =
    let bs = c.args.bytes.now in
    let rows = c.in_ok-texts.texts in
    let taken = c.texts.new.self.at in
    let q : Parts = record { starts = c.in_ok-starts.starts; limits = c.in_ok-limits.limits; texts = map vec_items (vec_items rows) } in
    let hs : starts bs ≡ Ok q.starts = cc (c.in_ok-count.ensures.bytes, c.in_ok-starts.ensures.value) in
    let hl : limits bs q.starts 9 [] ≡ Ok q.limits = cc (c.in_ok-count.ensures.bytes, c.in_ok-starts.ensures.bytes, c.in_ok-limits.ensures.value) in
    let ht : repeated (text bs) c.in_ok-count.count 17 [] ≡ Ok (q.texts, taken) = cc (c.in_ok-count.ensures.bytes, c.in_ok-starts.ensures.bytes, c.in_ok-limits.ensures.bytes, c.in_ok-limits.ensures.after, c.in_ok-texts.ensures.value) in
    let read : program bs ≡ Ok (q, taken) = row_made (starts bs) (λ ss. limits bs ss 9 []) (λ t. repeated (text bs) t 17 []) q taken (byte bs 0 1 8) c.in_ok-count.count (cc c.in_ok-count.ensures.value) hs hl ht in
    let w = ((exact bs (λ k. omega (arith, c.type_inv.bytes k))).only _ _ read).well_formed in
    let n = length-map (vec_items rows) vec_items in
    record { some = omega (arith, w.some, n, rows.ok.0); few = omega (arith, w.few, n, rows.ok.0); eight = w.eight; limited = w.limited; fit = w.fit }
