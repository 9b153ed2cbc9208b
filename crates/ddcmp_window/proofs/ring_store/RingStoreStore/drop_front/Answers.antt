use Rattle.std.proofs.Common.{ℕ, ◌≤◌, refl, arith}
use Rattle.std.proofs.lemmas.List.{length-drop}
use Rattle.std.proofs.lemmas.List.Elements.{All-drop}
use Rattle.std.proofs.lemmas.List.Sums.{sum_by-take-drop}
use Rattle.ddcmp_window.specs.Inside.Cuts.{length-cut}
use Rattle.ddcmp_window.proofs.Cuts.{drop-cut}
use Rattle.ddcmp_window.proofs.ring_store.RingStoreStore.drop_front.Goals as goal

pub bytes_before-bytes-requires : goal.bytes_before-bytes-requires
bytes_before-bytes-requires c = omega (arith, length-cut)

pub drop_first-requires : goal.drop_first-requires
drop_first-requires c =
    omega (arith, sum_by-take-drop (λ (k : ℕ). k) c.args.self.now.lengths.items c.args.n)

pub drop_first-requires-2 : goal.drop_first-requires-2
drop_first-requires-2 c = omega (arith, length-cut)

pub invariant_of-self : goal.invariant_of-self
invariant_of-self c =
    let store = c.args.self.now in
    let lengths = store.lengths.items in
    let n = c.args.n in
    let split = sum_by-take-drop (λ (k : ℕ). k) lengths n in
    record {
      limit_in_range = store.limit_in_range;
      longest_in_range = store.longest_in_range;
      within_limit = rw c.drop_first-2.ensures (omega (arith, length-drop n lengths));
      lengths_in_range =
          rw c.drop_first-2.ensures
          (All-drop (λ k. (1 ≤ k) × (k ≤ store.longest)) n lengths store.lengths_in_range);
      no_other_bytes = rw (c.drop_first-2.ensures, c.drop_first.ensures)
          (omega (arith, length-drop c.bytes_before-bytes.result store.ring.items));
      room_for_lengths = rw c.drop_first-2.ensures store.room_for_lengths;
      room_for_bytes = rw c.drop_first.ensures store.room_for_bytes;
    }

pub returns-clause-messages : goal.returns-clause-messages
returns-clause-messages c =
    let store = c.args.self.now in
    rw (
      c.drop_first-2.ensures,
      c.drop_first.ensures,
      c.bytes_before-bytes.ensures,
      drop-cut c.args.n store.lengths.items store.ring.items,
    ) refl
