-- Messages that are taken, one after another, are all taken.
use Rattle.std.proofs.Common.{◌≡◌, ℕ, Bool, true, false, cond, List, [], ◌∷◌, length, drop, refl}
use Rattle.std.proofs.Common.{sym, ap, subst, arith, ◌++◌, ◌<◌, length-append}
use Rattle.std.specs.Prelude.{◌&&◌, nat_lt}
use Rattle.ddcmp_core.specs.declared.state.Owed.{Owed}
use Rattle.ddcmp_core.specs.declared.state.Owed.TheVariants.{Quiet, Ack, Nak}
use Rattle.ddcmp_core.specs.Core.{IsSound, IsTimed}
use Rattle.ddcmp_core.specs.Table.{StationState, Limits, is_running, owed_after_take}
use Rattle.ddcmp_core.specs.Table.{acknowledges_by_take, after_take, owed_after_message}
use Rattle.ddcmp_core.specs.Choosing.{after_take_all}
use Rattle.ddcmp_core.proofs.Sound.{reply_taken}

owed_again : (y : Owed) → owed_after_take (owed_after_take y) ≡ owed_after_take y
owed_again Quiet = refl
owed_again Ack = refl
owed_again (Nak why) = refl

-- what is owed if some were taken, and then the rest
rest_taken : (k : Bool) (y : Owed) → k ≡ true → (c : Bool)
    → cond c (owed_after_take (cond k (owed_after_take y) y)) (cond k (owed_after_take y) y)
    ≡ cond k (owed_after_take y) y
rest_taken k y q c =
    subst
    (λ (k : Bool). cond c (owed_after_take (cond k (owed_after_take y) y))
    (cond k (owed_after_take y) y) ≡ cond k (owed_after_take y) y) (sym q) (at c)
  where
    at : (c : Bool) → cond c (owed_after_take (owed_after_take y)) (owed_after_take y)
        ≡ owed_after_take y
    at true = owed_again y
    at false = refl

reply_after : (b d : Bool) (inbox : List (List ℕ)) (y : Owed)
    → cond ((b && d) && nat_lt 0 (length (drop 1 inbox)))
    (owed_after_take (cond ((b && d) && nat_lt 0 (length inbox)) (owed_after_take y) y))
    (cond ((b && d) && nat_lt 0 (length inbox)) (owed_after_take y) y)
    ≡ cond ((b && d) && nat_lt 0 (length inbox)) (owed_after_take y) y
reply_after false d inbox y = refl
reply_after true false inbox y = refl
reply_after true true [] y = refl
reply_after true true (m ∷ rest) y =
    rest_taken (nat_lt 0 (length (m ∷ rest))) y (grind (arith)) (nat_lt 0 (length rest))

pub take_all_after : (s : StationState) → after_take_all (after_take s) ≡ after_take_all s
take_all_after s =
    ap (λ (y : Owed). record s { inbox = []; reply = y })
    (reply_after s.by_user (is_running s.state) s.inbox s.reply)

-- once a message is taken that came to a running station, an ACK is owed
pub owed_taken : (b r n : Bool) (reply : Owed) → r ≡ true → n ≡ true
    → cond ((b && r) && n) (owed_after_take (owed_after_message b reply))
    (owed_after_message b reply) ≡ Ack
owed_taken true true true Quiet e f = refl
owed_taken true true true Ack e f = refl
owed_taken true true true (Nak why) e f = refl
owed_taken true true false reply e f = absurd (cc f)
owed_taken true false n reply e f = absurd (cc e)
owed_taken false r n reply e f = refl

pub some_more : (inbox : List (List ℕ)) (message : List ℕ)
    → nat_lt 0 (length (inbox ++ message ∷ [])) ≡ true
some_more inbox message =
    let n = length-append inbox (message ∷ []) in
    let above : 0 < length (inbox ++ message ∷ []) = omega (arith, n) in
    grind (arith, above)

-- nothing is owed for no message
pub none_owed : (b : Bool) (inbox : List (List ℕ)) → inbox ≡ []
    → (b && nat_lt 0 (length inbox)) ≡ false
none_owed b [] e = by b
  where
    by : (b : Bool) → (b && nat_lt 0 0) ≡ false
    by true = refl
    by false = refl
none_owed b (m ∷ rest) e = absurd (cc)

pub take_all_none : (s : StationState) → s.inbox ≡ [] → after_take_all s ≡ s
take_all_none s e =
    let z = none_owed (s.by_user && is_running s.state) s.inbox e in
    λ i. record s { inbox = sym e i; reply = cond (z i) (owed_after_take s.reply) s.reply }

pub sound_taken_all : (l : Limits) (s : StationState) → IsSound l s → IsSound l (after_take_all s)
sound_taken_all l s h = record {
  r_byte = h.r_byte;
  in_window = h.in_window;
  out_stored = h.out_stored;
  inbox_stored = record {
    limit_min = h.inbox_stored.limit_min;
    limit_max = h.inbox_stored.limit_max;
    longest_min = h.inbox_stored.longest_min;
    longest_max = h.inbox_stored.longest_max;
    count = omega arith;
    lengths = λ i below. absurd (omega (arith, below));
  };
  fits = record {
    starting_r = h.fits.starting_r;
    starting_out = h.fits.starting_out;
    starting_inbox = λ e. refl;
    maintenance_n = h.fits.maintenance_n;
    maintenance_t = h.fits.maintenance_t;
    sent_reply = reply_taken (acknowledges_by_take s) s.reply h.fits.sent_reply;
  };
}

pub timed_taken_all : (s : StationState) → IsTimed s → IsTimed (after_take_all s)
timed_taken_all s h = record { waits = h.waits; asks = h.asks; begins = h.begins }
