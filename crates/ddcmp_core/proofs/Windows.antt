-- Numbers stay in order, and stores within their limits.
use Rattle.std.proofs.Common.{◌≡◌, ◌≢◌, ◌⊎◌, inl, inr, ℕ, zero, suc, ◌+◌, ◌-◌, ◌%◌, ◌<◌, ◌≤◌, Bool}
use Rattle.std.proofs.Common.{true, false, cond, List, [], ◌∷◌, ◌++◌, length, drop, refl, arith}
use Rattle.std.proofs.Common.{length-append, length-drop}
use Rattle.std.specs.Prelude.{◌==◌, nat_lt, slice_index_or}
use Rattle.std.proofs.lemmas.List.{get_or-drop}
use Rattle.ddcmp_num.specs.Sequence.{distance}
use Rattle.ddcmp_window.specs.Sender.{Outgoing, nothing_sent, IsInWindow, outgoing_before_next}
use Rattle.ddcmp_window.specs.Sender.{outgoing_after_ack}
use Rattle.ddcmp_window.specs.Store.{IsStored}
use Rattle.ddcmp_window.specs.Numbers.{is_within, next_number}

-- where m messages up to q leave
passed : (a q t n : ℕ) → a < 256 → q < 256 → t < 256 → n < 256 → (t + 511 - a) % 256 ≤ distance a n
    → distance a q ≤ distance a n
    → (cond (nat_lt ((t + 511 - a) % 256) (distance a q)) (next_number q) t + 511 - q) % 256
    ≤ distance q n
passed a q t n ha hq ht hn hp hm = by (nat_lt ((t + 511 - a) % 256) (distance a q)) refl
  where
    by : (b : Bool) → nat_lt ((t + 511 - a) % 256) (distance a q) ≡ b
        → (cond b (next_number q) t + 511 - q) % 256 ≤ distance q n
    by true e = omega arith
    by false e = let x : distance a q ≤ (t + 511 - a) % 256 = grind (arith) in omega (arith, x)

byte_of : (b : Bool) (q t : ℕ) → t < 256 → cond b (next_number q) t < 256
byte_of true q t h = omega arith
byte_of false q t h = h

window_left : (o : Outgoing) (q : ℕ) → q < 256 → distance o.a q ≤ distance o.a o.n → IsInWindow o
    → IsInWindow (record {
      a = q;
      n = o.n;
      t = cond (nat_lt (outgoing_before_next o) (distance o.a q)) (next_number q) o.t;
      out = drop (distance o.a q) o.out;
    })
window_left o q hq hm h =
    let m = distance o.a q in
    let l = length-drop m o.out in
    record {
      a_byte = hq;
      n_byte = h.n_byte;
      t_byte = byte_of (nat_lt (outgoing_before_next o) m) q o.t h.t_byte;
      next_sent = passed o.a q o.t o.n h.a_byte hq h.t_byte h.n_byte h.next_sent hm;
      sent_kept = omega (arith, l, h.sent_kept, h.a_byte, h.n_byte, hm);
    }

-- where none leaves
window_same : (o : Outgoing) (q : ℕ) → IsInWindow o
    → IsInWindow
    (record {
      a = o.a;
      n = o.n;
      t = cond (nat_lt (outgoing_before_next o) 0) (next_number q) o.t;
      out = drop 0 o.out;
    })
window_same o q h = by (nat_lt (outgoing_before_next o) 0) refl
  where
    by : (b : Bool) → nat_lt (outgoing_before_next o) 0 ≡ b
        → IsInWindow
        (record { a = o.a; n = o.n; t = cond b (next_number q) o.t; out = drop 0 o.out })
    by true e = let x : outgoing_before_next o < 0 = grind (arith) in absurd (omega (arith, x))
    by false e = h

window_by : (o : Outgoing) (q m : ℕ) → (b : Bool) → (m == 0) ≡ b → q < 256
    → (m ≡ 0) ⊎ (m ≡ distance o.a q) → m ≤ distance o.a o.n → IsInWindow o
    → IsInWindow
    (record {
      a = cond b o.a q;
      n = o.n;
      t = cond (nat_lt (outgoing_before_next o) m) (next_number q) o.t;
      out = drop m o.out;
    })
window_by o q m true e hq either hm h =
    let z : m ≡ 0 = grind (arith) in
    let P : ℕ → Type 0 =
    λ k. IsInWindow
    (record {
      a = o.a;
      n = o.n;
      t = cond (nat_lt (outgoing_before_next o) k) (next_number q) o.t;
      out = drop k o.out;
    }) in
    rw z (window_same o q h)
window_by o q m false e hq (inl z) hm h = absurd (let x : m ≢ 0 = grind (arith) in x z)
window_by o q m false e hq (inr d) hm h =
    rw d (window_left o q hq (omega (arith, d, hm)) h)

pub window_acknowledging : (o : Outgoing) (q : ℕ) → q < 256 → IsInWindow o
    → IsInWindow (outgoing_after_ack o q)
window_acknowledging o q hq h = by (is_within o.a q o.n) refl
  where
    by : (b : Bool) → is_within o.a q o.n ≡ b
        → (let m = cond b (distance o.a q) 0 in
        IsInWindow
        (record {
          a = cond (m == 0) o.a q;
          n = o.n;
          t = cond (nat_lt (outgoing_before_next o) m) (next_number q) o.t;
          out = drop m o.out;
        }))
    by true e =
        window_by o q (distance o.a q) (distance o.a q == 0) refl hq (inr refl) (grind (arith)) h
    by false e = window_same o q h

-- all that is kept is to be retransmitted
pub window_again : (o : Outgoing) → IsInWindow o → IsInWindow (record o { t = next_number o.a })
window_again o h = record {
  a_byte = h.a_byte;
  n_byte = h.n_byte;
  t_byte = omega arith;
  next_sent = omega (arith, h.a_byte);
  sent_kept = h.sent_kept;
}

-- a message was sent
sent_next : (a n t : ℕ) → a < 256 → n < 256 → t < 256 → (t + 511 - a) % 256 ≤ distance a n
    → (t + 511 - a) % 256 < 255
    → (next_number t + 511 - a) % 256 ≤ distance a (cond (t == next_number n) t n)
sent_next a n t ha hn ht h p = by (t == next_number n) refl
  where
    by : (b : Bool) → (t == next_number n) ≡ b
        → (next_number t + 511 - a) % 256 ≤ distance a (cond b t n)
    by true e = let x : t ≡ next_number n = grind (arith) in omega (arith, x)
    by false e = let x : t ≢ next_number n = grind (arith) in omega (arith, x)

sent_kept : (a n t k : ℕ) → a < 256 → n < 256 → t < 256 → (t + 511 - a) % 256 < k → distance a n ≤ k
    → distance a (cond (t == next_number n) t n) ≤ k
sent_kept a n t k ha hn ht p h = by (t == next_number n)
  where
    by : (b : Bool) → distance a (cond b t n) ≤ k
    by true = omega arith
    by false = h

sent_byte : (b : Bool) (t n : ℕ) → t < 256 → n < 256 → cond b t n < 256
sent_byte true t n ht hn = ht
sent_byte false t n ht hn = hn

pub window_sent : (o : Outgoing) → outgoing_before_next o < length o.out → length o.out ≤ 255
    → IsInWindow o
    → IsInWindow (record o { n = cond (o.t == next_number o.n) o.t o.n; t = next_number o.t })
window_sent o place small h = record {
  a_byte = h.a_byte;
  n_byte = sent_byte (o.t == next_number o.n) o.t o.n h.t_byte h.n_byte;
  t_byte = omega arith;
  next_sent =
      sent_next o.a o.n o.t h.a_byte h.n_byte h.t_byte h.next_sent (omega (arith, place, small));
  sent_kept = sent_kept o.a o.n o.t (length o.out) h.a_byte h.n_byte h.t_byte place h.sent_kept;
}

pub window_more : (o : Outgoing) (message : List ℕ) → IsInWindow o
    → IsInWindow (record o { out = o.out ++ message ∷ [] })
window_more o message h = record {
  a_byte = h.a_byte;
  n_byte = h.n_byte;
  t_byte = h.t_byte;
  next_sent = h.next_sent;
  sent_kept = omega (arith, h.sent_kept, length-append o.out (message ∷ []));
}

pub window_new : IsInWindow nothing_sent
window_new =
    record {
      a_byte = omega arith;
      n_byte = omega arith;
      t_byte = omega arith;
      next_sent = omega arith;
      sent_kept = omega arith;
    }

-- where all is acknowledged, the first message may leave
pub window_popped : (o : Outgoing) (rest : List (List ℕ)) → o.a ≡ o.n → IsInWindow o
    → IsInWindow (record o { out = rest })
window_popped o rest e h = record {
  a_byte = h.a_byte;
  n_byte = h.n_byte;
  t_byte = h.t_byte;
  next_sent = h.next_sent;
  sent_kept = omega (arith, e, h.a_byte);
}

-- ---- stores

pub stored_drop : (limit longest m : ℕ) (xs : List (List ℕ)) → IsStored limit longest xs
    → IsStored limit longest (drop m xs)
stored_drop limit longest m xs h =
    let l = length-drop m xs in
    record {
      limit_min = h.limit_min;
      limit_max = h.limit_max;
      longest_min = h.longest_min;
      longest_max = h.longest_max;
      count = omega (arith, l, h.count);
      lengths = λ i below. rw (get_or-drop m xs i []) (h.lengths (m + i) (omega (arith, l)));
    }

pub stored_none : (limit longest : ℕ) (xs : List (List ℕ)) → IsStored limit longest xs
    → IsStored limit longest []
stored_none limit longest xs h = record {
  limit_min = h.limit_min;
  limit_max = h.limit_max;
  longest_min = h.longest_min;
  longest_max = h.longest_max;
  count = omega arith;
  lengths = λ i below. absurd (omega arith);
}

lengths_more : (out : List (List ℕ)) (message : List ℕ) (longest : ℕ)
    → (1 ≤ length message) × (length message ≤ longest)
    → ((i : ℕ) → i < length out
    → (1 ≤ length (slice_index_or out i [])) × (length (slice_index_or out i []) ≤ longest))
    → (i : ℕ) → i < length (out ++ message ∷ [])
    → (1 ≤ length (slice_index_or (out ++ message ∷ []) i []))
    × (length (slice_index_or (out ++ message ∷ []) i []) ≤ longest)
lengths_more [] message longest h all zero below = h
lengths_more [] message longest h all (suc i) below = absurd (omega arith)
lengths_more (x ∷ out) message longest h all zero below = all 0 (omega arith)
lengths_more (x ∷ out) message longest h all (suc i) below =
    lengths_more out message longest h (λ j le. all (suc j) (omega arith)) i (omega arith)

pub stored_more : (limit longest : ℕ) (xs : List (List ℕ)) (message : List ℕ) → length xs < limit
    → 1 ≤ length message → length message ≤ longest
    → IsStored limit longest xs → IsStored limit longest (xs ++ message ∷ [])
stored_more limit longest xs message room low high h = record {
  limit_min = h.limit_min;
  limit_max = h.limit_max;
  longest_min = h.longest_min;
  longest_max = h.longest_max;
  count = omega (arith, room, length-append xs (message ∷ []));
  lengths = lengths_more xs message longest (low, high) h.lengths;
}
