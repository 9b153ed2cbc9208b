use Rattle.std.proofs.Common.{◌≡◌, ◌-◌, ◌+◌, ◌<◌, ◌∙◌, ℕ, ap, arith, drop, take, length, sym, false}
use Rattle.std.proofs.Common.{length-drop, length-take, vec_len}
use Rattle.std.specs.Prelude.{nat_le, if◌then◌else◌}
use Rattle.std.proofs.lemmas.List.{drop-take}
use Rattle.ddcmp_io.proofs.byte_queue.ByteQueue.take_back.Goals as goal

less : (n m : ℕ) → n < m → nat_le m n ≡ false
less n m lt = grind (arith, lt)

pub returns-else-waiting-n : goal.returns-else-waiting-n
returns-else-waiting-n c =
    let held = c.self.inside.bytes in
    let s = c.self.inside.start in
    let size = c.self.inside.size in
    let n = c.args.n in
    let m = length (drop s held.items) - n in
    let waiting = c.waiting-waiting.ensures ∙ sym (ap (λ v. v.waiting) c.self.view_is) in
    let items : c.truncate.new.self.items ≡ take (s + m) held.items =
    c.truncate.ensures.items ∙ ap (λ xs. take (s + (length xs - n)) held.items) waiting in
    let lt : n < length (drop s held.items) =
    omega (arith, c.if-waiting-n.false, ap length waiting) in
    let room : size - vec_len c.truncate.new.self ≡ (size - vec_len held) + n =
    omega (
      arith,
      ap length items,
      length-take (s + m) held.items,
      length-drop s held.items,
      lt,
      c.self.invariant.0,
      c.self.invariant.1,
    ) in
    rw (sym c.self.view_is) (λ i. record {
      size = size;
      waiting = (ap (drop s) items ∙ drop-take s m held.items) i;
      room = (room
          ∙ ap (λ b. if b then size else (size - vec_len held) + n)
          (sym (less n (length (drop s held.items)) lt))) i;
      is_cut = c.self.inside.is_cut;
    })
