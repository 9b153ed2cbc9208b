-- A frame arrives: its position and its count are taken off the wire, and then used or lost.
use Rattle.std.proofs.Common.{◌≡◌, ℕ, suc, ◌+◌, ◌-◌, ◌%◌, ◌<◌, ◌≤◌, max, Bool, true, false, cond}
use Rattle.std.proofs.Common.{List}
use Rattle.std.proofs.Common.{[], ◌∷◌, ◌++◌, length, Some, refl, sym, ap, ◌∙◌, subst, arith}
use Rattle.std.proofs.Common.{append_assoc, length-append}
use Rattle.std.specs.Prelude.{◌==◌, nat_lt, slice_get, slice_index_or}
use Rattle.ddcmp_core.specs.Numbers.{next_number}
use Rattle.ddcmp_core.specs.Inbox.{answer_to_offer}
use Rattle.ddcmp_core.specs.declared.state.Owed.{Owed}
use Rattle.ddcmp_core.specs.Table.{Limits, StationState, Frame, incoming, newly_acknowledged}
use Rattle.ddcmp_core.specs.Table.{after_ack, reply_to_offer, after_offer}
use Rattle.ddcmp_pair.specs.Link.{IsReached, link_of}
use Rattle.ddcmp_pair.proofs.Reached.{reached-forward, reached-back}
use Rattle.ddcmp_pair.proofs.Modulo.{next-near, forward-near, back-between}
use Rattle.ddcmp_pair.proofs.Wires.{wire-first, wire-behind, reached-lose-forwards}
use Rattle.ddcmp_pair.proofs.Wires.{reached-lose-backs, get-index}
use Rattle.ddcmp_pair.proofs.Numbers.{newly-is, counts-after-ack}
use Rattle.ddcmp_pair.proofs.Calls.{fits_flags}
use Rattle.ddcmp_pair.proofs.Relation.{Face, up, Wire, Numbers, Counts, StateFits, begun, Fits}
use Rattle.ddcmp_pair.proofs.Relation.{Pending, Mail, confirmed}
use Rattle.ddcmp_pair.proofs.Links.{Rising, rising-after, rising-high}

-- they are lost
pub passed : (x y : Face) (fs fs' : List Frame) (ks qs : List ℕ) → Pending x y fs fs' ks qs
    → Fits x y fs fs'
passed x y fs fs' ks qs h = record {
  sent = h.sent;
  next = h.next;
  forward = h.forward;
  back = h.back;
  sent' = h.sent';
  next' = h.next';
  forward' = h.forward';
  back' = h.back';
  small = h.small;
  small' = h.small';
  reached = reached-lose-backs _ _ _ _ _ _ qs _ h.reached;
  reached' = reached-lose-forwards _ _ _ _ _ ks _ _ h.reached';
  stands = h.stands;
  stands' = h.stands';
  wire = h.wire;
  wire' = h.wire';
  mail = h.mail;
  mail' = h.mail';
  rising = rising-after x.acknowledged (confirmed y) qs h.back h.rising;
  rising' = h.rising';
}

-- the first frame that isn't lost comes
pub record Comes (x y : Face) (fs : List Frame) (f : Frame) (rest : List Frame) : Type 0 where
  pub ks : List ℕ
  pub qs : List ℕ
  pub first : Wire y.given (f ∷ []) ks qs
  pub pending : Pending x y fs rest ks qs

pub comes : (x y : Face) (fs lost : List Frame) (f : Frame) (rest : List Frame)
    → Fits x y fs (lost ++ f ∷ rest) → Comes x y fs f rest
comes x y fs lost f rest h =
    let z = wire-behind lost (f ∷ rest) h.wire' in
    let t = wire-first z.wire in
    let r =
    subst
    (λ qs. IsReached x.limits.window
    (link_of x.given x.acknowledged h.sent (up y) h.forward qs)) z.qs_are h.reached in
    let r' =
    subst
    (λ ks. IsReached y.limits.window (link_of y.given y.acknowledged h.sent' (up x) ks h.back'))
    z.ks_are h.reached' in
    record {
      ks = t.first_ks;
      qs = t.first_qs;
      first = t.first;
      pending =
          record {
            sent = h.sent;
            next = h.next;
            forward = h.forward;
            back = t.rest_qs;
            sent' = h.sent';
            next' = h.next';
            forward' = t.rest_ks;
            back' = h.back';
            small = h.small;
            small' = h.small';
            reached =
                subst
                (λ qs. IsReached x.limits.window
                (link_of x.given x.acknowledged h.sent (up y) h.forward qs)) t.qs_are
                (reached-lose-backs _ _ _ _ _ _ z.lost_qs _ r);
            reached' =
                subst
                (λ ks. IsReached y.limits.window
                (link_of y.given y.acknowledged h.sent' (up x) ks h.back')) t.ks_are
                (reached-lose-forwards _ _ _ _ _ z.lost_ks _ _ r');
            stands = h.stands;
            stands' = h.stands';
            wire = h.wire;
            wire' = t.wire;
            mail = h.mail;
            mail' = h.mail';
            rising =
                subst (λ qs. Rising x.acknowledged (confirmed y) qs) t.qs_are
                (rising-after x.acknowledged (confirmed y) z.lost_qs z.rest_qs
                (subst (λ qs. Rising x.acknowledged (confirmed y) qs) z.qs_are h.rising));
            rising' = h.rising';
          };
    }

-- ---- a count is used

abbrev pub acknowledging : Face → ℕ → Face
acknowledging x resp =
    record x {
      station = after_ack x.station resp;
      acknowledged = x.acknowledged + newly_acknowledged x.station resp;
    }

pub use_count : (x y : Face) (fs fs' : List Frame) (ks : List ℕ) (q : ℕ)
    (h : Pending x y fs fs' ks (q ∷ [])) → 0 < x.starts
    → Counts x.station x.limits.window x.given x.acknowledged h.sent h.next (length (up x))
    → StateFits x.station.state x.given
    → Pending (acknowledging x (q % 256)) y fs fs' ks []
use_count x y fs fs' ks q h s c p =
    let k =
    back-between x.limits.window q h.back
    (link_of x.given x.acknowledged h.sent (up y) h.forward (q ∷ h.back)) h.reached refl in
    let m : newly_acknowledged x.station (q % 256) ≡ q - x.acknowledged =
    newly-is x.station x.limits.window x.given x.acknowledged h.sent h.next (length (up x))
    q c k.0 k.1 in
    let low : x.acknowledged ≤ q = k.0 in
    let a : q ≡ x.acknowledged + newly_acknowledged x.station (q % 256) = omega (arith, m, low) in
    let most : max x.acknowledged q ≡ x.acknowledged + newly_acknowledged x.station (q % 256) =
    omega (arith, m, low) in
    record {
      sent = h.sent;
      next = max h.next (q + 1);
      forward = h.forward;
      back = h.back;
      sent' = h.sent';
      next' = h.next';
      forward' = h.forward';
      back' = h.back';
      small = h.small;
      small' = h.small';
      reached =
          subst (λ n. IsReached x.limits.window (link_of x.given n h.sent (up y) h.forward h.back))
          most
          (reached-back x.limits.window x.given x.acknowledged h.sent (up y)
          h.forward h.back q h.reached);
      reached' = h.reached';
      stands = begun s
          (subst
          (λ n. Counts (after_ack x.station (q % 256)) x.limits.window x.given n h.sent
          (max h.next (q + 1)) (length (up x))) a
          (counts-after-ack x.station x.limits.window x.given x.acknowledged h.sent h.next
          (length (up x)) q c k.0 k.1)) p;
      stands' = h.stands';
      wire = h.wire;
      wire' = h.wire';
      mail = record { room = h.mail.room; inbox = h.mail.inbox };
      mail' = h.mail';
      rising = subst (λ n. Rising n (confirmed y) h.back) a h.rising.1;
      rising' = h.rising';
    }

-- ---- a position is used

counts_offer : (s : StationState) (w : ℕ) (given : List (List ℕ)) (acked sent next up up' num : ℕ)
    → num ≡ up' % 256
    → Counts s w given acked sent next up
    → Numbers s.a s.n s.t num s.out w given acked sent next up'
counts_offer s w given acked sent next up up' num e c = record {
  a_is = c.a_is;
  n_is = c.n_is;
  t_is = c.t_is;
  r_is = e;
  out_is = c.out_is;
  t_low = c.t_low;
  t_high = c.t_high;
  window = c.window;
  small = c.small;
  acked_given = c.acked_given;
  sent_given = c.sent_given;
}

-- what is owed for data that come
abbrev owed : Limits → StationState → ℕ → Owed
owed l s num = reply_to_offer s.by_user (answer_to_offer l.room (incoming s) num) s.reply

-- data are taken, find no room, or aren't the next
taken : (l : Limits) (s : StationState) (num : ℕ) (m : List ℕ) → (num == next_number s.r) ≡ true
    → nat_lt (length s.inbox) l.room ≡ true
    → after_offer l s num m ≡ record s { r = num; inbox = s.inbox ++ m ∷ []; reply = owed l s num }
taken l s num m e d = rw (e, d) refl

no-room : (l : Limits) (s : StationState) (num : ℕ) (m : List ℕ)
    → (num == next_number s.r) ≡ true
    → nat_lt (length s.inbox) l.room ≡ false
    → after_offer l s num m ≡ record s { reply = owed l s num }
no-room l s num m e d = rw (e, d) refl

out-of-sequence : (l : Limits) (s : StationState) (num : ℕ) (m : List ℕ)
    → (num == next_number s.r) ≡ false
    → after_offer l s num m ≡ record s { reply = owed l s num }
out-of-sequence l s num m e = rw e refl

one-more : (x : Face) (message : List ℕ) → Mail x
    → nat_lt (length x.station.inbox) x.limits.room ≡ true
    → length (x.station.inbox ++ message ∷ []) ≤ 255
one-more x message h room =
    let below : length x.station.inbox < x.limits.room = grind (arith, room) in
    let l = length-append x.station.inbox (message ∷ []) in
    omega (arith, l, below, h.room)

confirms-more : (x : Face) (message : List ℕ)
    → confirmed x
    ≤ cond x.station.by_user (length x.taken) (length (x.taken ++
    (x.station.inbox ++ message ∷ [])))
confirms-more x message = by x.station.by_user
  where
    by : (b : Bool) → cond b (length x.taken) (length (up x))
        ≤ cond b (length x.taken) (length (x.taken ++ (x.station.inbox ++ message ∷ [])))
    by true = omega arith
    by false = omega (
      arith,
      length-append x.taken x.station.inbox,
      length-append x.taken (x.station.inbox ++ message ∷ []),
      length-append x.station.inbox (message ∷ []),
    )

pub use_position : (x y : Face) (fs fs' : List Frame) (k num : ℕ) (message : List ℕ)
    (h : Pending x y fs fs' (suc k ∷ []) []) → num ≡ suc k % 256
    → slice_get y.given k ≡ Some message → 0 < x.starts
    → Counts x.station x.limits.window x.given x.acknowledged h.sent h.next (length (up x))
    → StateFits x.station.state x.given
    → Fits (record x { station = after_offer x.limits x.station num message }) y fs fs'
use_position x y fs fs' k num message h e g s c p =
    by (num == next_number x.station.r) refl (nat_lt (length x.station.inbox) x.limits.room) refl
  where
    lost : Fits x y fs fs'
    lost = passed x y fs fs' (suc k ∷ []) [] h

    with : (t : StationState) → after_offer x.limits x.station num message ≡ t
        → Fits (record x { station = t }) y fs fs'
        → Fits (record x { station = after_offer x.limits x.station num message }) y fs fs'
    with t same f = subst (λ t. Fits (record x { station = t }) y fs fs') (sym same) f

    by : (b : Bool) → (num == next_number x.station.r) ≡ b → (d : Bool)
        → nat_lt (length x.station.inbox) x.limits.room ≡ d
        → Fits (record x { station = after_offer x.limits x.station num message }) y fs fs'
    by false t d room =
        with _ (out-of-sequence x.limits x.station num message t)
        (fits_flags x y fs fs' _ _ _ _ lost)
    by true t false room =
        with _ (no-room x.limits x.station num message t room)
        (fits_flags x y fs fs' _ _ _ _ lost)
    by true t true room =
        with _ (taken x.limits x.station num message t room) (
        let near =
        forward-near y.limits.window (suc k) h.forward'
        (link_of y.given y.acknowledged h.sent' (up x) (suc k ∷ h.forward') h.back')
        h.reached' refl in
        let u = length (up x) in
        let t' : num ≡ next_number x.station.r = grind (arith) in
        let n : suc k ≡ u + 1 =
        next-near y.limits.window u (suc k) h.small' near.0 near.1
        (omega (arith, t', e, c.r_is)) in
        let n' : k ≡ u = omega (arith, n) in
        let m : slice_index_or y.given u [] ≡ message =
        ap (λ i. slice_index_or y.given i []) (sym n') ∙ get-index y.given k message g in
        let l : up x ++ slice_index_or y.given u [] ∷ []
        ≡ x.taken ++ (x.station.inbox ++ message ∷ []) =
        ap (λ v. up x ++ v ∷ []) m ∙ append_assoc x.taken x.station.inbox (message ∷ []) in
        let z : num ≡ length (x.taken ++ (x.station.inbox ++ message ∷ [])) % 256 =
        (let len = ap length l in
        let more = length-append (up x) (slice_index_or y.given u [] ∷ []) in
        omega (arith, e, n, len, more)) in
        record {
          sent = h.sent;
          next = h.next;
          forward = h.forward;
          back = h.back;
          sent' = h.sent';
          next' = h.next';
          forward' = h.forward';
          back' = h.back';
          small = h.small;
          small' = h.small';
          reached = h.reached;
          reached' =
              subst
              (λ v. IsReached y.limits.window
              (link_of y.given y.acknowledged h.sent' v h.forward' h.back')) l
              (reached-forward y.limits.window y.given y.acknowledged h.sent' (up x)
              h.forward' h.back' (suc k) n h.reached');
          stands = begun s
              (counts_offer x.station x.limits.window x.given x.acknowledged h.sent h.next u
              (length (x.taken ++ (x.station.inbox ++ message ∷ []))) num z c) p;
          stands' = h.stands';
          wire = h.wire;
          wire' = h.wire';
          mail = record { room = h.mail.room; inbox = one-more x message h.mail room };
          mail' = h.mail';
          rising = h.rising;
          rising' =
              rising-high y.acknowledged (confirmed x) _ h.back'
              (confirms-more x message) h.rising';
        })
