-- What an end sends keeps the links.
use Rattle.std.proofs.Common.{◌≡◌, ◌≢◌, ℕ, suc, ◌+◌, ◌-◌, ◌%◌, ◌<◌, max, Bool, true, false, cond}
use Rattle.std.proofs.Common.{List, [], ◌∷◌, ◌++◌, length, drop, Some, refl, sym, ap, ◌∙◌, subst}
use Rattle.std.proofs.Common.{arith, length-append, length-drop, append-nil, ◌≤◌}
use Rattle.std.specs.Prelude.{◌==◌, slice_get, slice_index_or}
use Rattle.std.proofs.lemmas.List.{get_or-drop}
use Rattle.ddcmp_core.specs.Numbers.{next_number}
use Rattle.ddcmp_core.specs.declared.state.State.TheVariants.{Halted, Running, Maintenance}
use Rattle.ddcmp_core.specs.declared.state.Owed.{Owed}
use Rattle.ddcmp_core.specs.declared.state.Owed.TheVariants.{Quiet}
use Rattle.ddcmp_core.specs.declared.state.Timer.{Timer}
use Rattle.ddcmp_core.specs.declared.state.Timer.TheVariants.{Fresh}
use Rattle.ddcmp_core.specs.Frames.{frame_of, header_of, message_of}
use Rattle.ddcmp_core.specs.Table.{StationState, Frame, Data, Acked, Naked, Rep, Strt, Stack, Next}
use Rattle.ddcmp_core.specs.Table.{Idle, Sends, before_next, message_at_next, timer_started}
use Rattle.ddcmp_core.specs.Table.{after_next, next, resp_of}
use Rattle.ddcmp_core.specs.Sequence.{distance}
use Rattle.ddcmp_core.specs.NextFrame.{SentFor, sends_strt, sends_stack, sends_nak, sends_rep}
use Rattle.ddcmp_core.specs.NextFrame.{sends_data, sends_ack, sends_maint, halted_idles}
use Rattle.ddcmp_core.specs.NextFrame.{starting_idles, running_idles, maintenance_idles}
use Rattle.ddcmp_core.proofs.Sent.{sending}
use Rattle.ddcmp_pair.specs.Link.{IsReached, link_of}
use Rattle.ddcmp_pair.proofs.Links.{Rising, rising-more, rising-last}
use Rattle.ddcmp_pair.proofs.Reached.{reached-answer-less, reached-send}
use Rattle.ddcmp_pair.proofs.Wires.{wire-append, get-at}
use Rattle.ddcmp_pair.proofs.Numbers.{before-is}
use Rattle.ddcmp_pair.proofs.Relation.{Face, up, Wire, no_wire, wire_data, wire_ack, wire_nak}
use Rattle.ddcmp_pair.proofs.Relation.{wire_rep, wire_strt, wire_stack, Numbers, Counts, StateFits}
use Rattle.ddcmp_pair.proofs.Relation.{Stands, not_begun, begun, Fits}
use Rattle.ddcmp_pair.proofs.Relation.{Mail, confirmed}

-- a frame that is sent, as it is read
abbrev pub as_read : Frame → Frame
as_read f = frame_of (header_of f) (message_of f)

-- what is sent is in flight then
abbrev pub frames_next : Next → List Frame
frames_next Idle = []
frames_next (Sends f u) = as_read f ∷ []

abbrev pub after_sending : Face → Next → Face
after_sending x t = record x { station = after_next t x.station }

-- x after it sent a frame, where what else may change in a running station does
abbrev sender : Face → Bool → ℕ → ℕ → Owed → Bool → Timer → Face
sender x due n t reply rep timer =
    record x {
      station = record x.station
          { due = due; n = n; t = t; reply = reply; rep = rep; timer = timer };
    }

fits_sends : (x y : Face) (fs fs' new : List Frame) (h : Fits x y fs fs') (due : Bool) (n t : ℕ)
    (reply : Owed) (rep : Bool) (timer : Timer) (ks qs : List ℕ) (sent next : ℕ)
    → Wire x.given new ks qs
    → IsReached x.limits.window
    (link_of x.given x.acknowledged sent (up y) (h.forward ++ ks) h.back)
    → IsReached y.limits.window
    (link_of y.given y.acknowledged h.sent' (up x) h.forward' (h.back' ++ qs))
    → Rising y.acknowledged (confirmed x) (h.back' ++ qs)
    → Stands (sender x due n t reply rep timer) sent next
    → Fits (sender x due n t reply rep timer) y (fs ++ new) fs'
fits_sends x y fs fs' new h due n t reply rep timer ks qs sent next w r r' g s = record {
  sent = sent;
  next = next;
  forward = h.forward ++ ks;
  back = h.back;
  sent' = h.sent';
  next' = h.next';
  forward' = h.forward';
  back' = h.back' ++ qs;
  small = h.small;
  small' = h.small';
  reached = r;
  reached' = r';
  stands = s;
  stands' = h.stands';
  wire = wire-append h.wire w;
  wire' = h.wire';
  mail = record { room = h.mail.room; inbox = h.mail.inbox };
  mail' = h.mail';
  rising = h.rising;
  rising' = g;
}

stands_sends : (x : Face) (due : Bool) (reply : Owed) (rep : Bool) (timer : Timer) (n t : ℕ)
    → Stands x n t
    → Stands (sender x due x.station.n x.station.t reply rep timer) n t
stands_sends x due reply rep timer n t (not_begun s p g u) = not_begun s p g u
stands_sends x due reply rep timer n t (begun s c p) = begun s c p

-- a frame that carries neither a position nor a count
fits_plain : (x y : Face) (fs fs' new : List Frame) (due : Bool) (reply : Owed) (rep : Bool)
    (timer : Timer) → Wire x.given new [] []
    → Fits x y fs fs'
    → Fits (sender x due x.station.n x.station.t reply rep timer) y (fs ++ new) fs'
fits_plain x y fs fs' new due reply rep timer w h =
    fits_sends x y fs fs' new h due _ _ reply rep timer [] [] h.sent h.next w
    (subst (λ l. IsReached x.limits.window (link_of x.given x.acknowledged h.sent (up y) l h.back))
    (sym (append-nil h.forward)) h.reached)
    (subst
    (λ l. IsReached y.limits.window
    (link_of y.given y.acknowledged h.sent' (up x) h.forward' l)) (sym (append-nil h.back'))
    h.reached')
    (subst (λ l. Rising y.acknowledged (confirmed x) l) (sym (append-nil h.back')) h.rising')
    (stands_sends x due reply rep timer h.sent h.next h.stands)

-- what may be reported was delivered
confirms-delivered : (x : Face) → confirmed x ≤ length (up x)
confirms-delivered x = by x.station.by_user
  where
    by : (b : Bool) → cond b (length x.taken) (length (up x)) ≤ length (up x)
    by true = let l = length-append x.taken x.station.inbox in omega (arith, l)
    by false = omega arith

-- RESP is the number of what may be reported
resp-is : (x : Face) → Mail x → x.station.r ≡ length (up x) % 256
    → resp_of x.station ≡ confirmed x % 256
resp-is x m e = by x.station.by_user
  where
    by : (b : Bool)
        → cond b (distance (length x.station.inbox) x.station.r) x.station.r
        ≡ cond b (length x.taken) (length (up x)) % 256
    by true =
        let l = length-append x.taken x.station.inbox in
        let i = m.inbox in
        omega (arith, l, i, e)
    by false = e

-- a frame that carries a count
fits_counted : (x y : Face) (fs fs' new : List Frame) (due : Bool) (reply : Owed) (rep : Bool)
    (timer : Timer) → Wire x.given new [] (confirmed x ∷ [])
    → Fits x y fs fs'
    → Fits (sender x due x.station.n x.station.t reply rep timer) y (fs ++ new) fs'
fits_counted x y fs fs' new due reply rep timer w h =
    fits_sends x y fs fs' new h due _ _ reply rep timer [] (confirmed x ∷ []) h.sent h.next w
    (subst (λ l. IsReached x.limits.window (link_of x.given x.acknowledged h.sent (up y) l h.back))
    (sym (append-nil h.forward)) h.reached)
    (reached-answer-less y.limits.window y.given y.acknowledged h.sent' (up x)
    h.forward' h.back' (confirmed x) (rising-last y.acknowledged (confirmed x) h.back' h.rising')
    (confirms-delivered x) h.reached')
    (rising-more y.acknowledged (confirmed x) (confirmed x) h.back'
    (rising-last y.acknowledged (confirmed x) h.back' h.rising') (omega arith) h.rising')
    (stands_sends x due reply rep timer h.sent h.next h.stands)

-- nothing
fits_idle : (x y : Face) (fs fs' : List Frame) → Fits x y fs fs' → Fits x y (fs ++ []) fs'
fits_idle x y fs fs' h = subst (λ l. Fits x y l fs') (sym (append-nil fs)) h

-- ---- a data message

pub counts_sent : (s : StationState) (w : ℕ) (given : List (List ℕ)) (acked sent next up : ℕ)
    → before_next s < length s.out
    → Counts s w given acked sent next up
    → Numbers s.a (cond (s.t == next_number s.n) s.t s.n) (next_number s.t) s.r s.out w given acked
    (max sent next) (next + 1) up
counts_sent s w given acked sent next up room c =
    let o : length s.out ≡ length given - acked = ap length c.out_is ∙ length-drop acked given in
    let b = before-is s w given acked sent next up c in
    record {
      a_is = c.a_is;
      n_is = by (s.t == next_number s.n) refl;
      t_is = omega (arith, c.t_is);
      r_is = c.r_is;
      out_is = c.out_is;
      t_low = omega (arith, c.t_low);
      t_high = omega (arith, c.t_high);
      window = c.window;
      small = c.small;
      acked_given = omega (arith, c.acked_given);
      sent_given = omega (arith, c.sent_given, o, b, room, c.t_low);
    }
  where
    by : (e : Bool) → (s.t == next_number s.n) ≡ e → cond e s.t s.n ≡ max sent next % 256
    by true e =
        let q : s.t ≡ next_number s.n = grind (arith) in
        omega (
          arith,
          q,
          c.t_is,
          c.n_is,
          c.t_low,
          c.t_high,
          c.window,
          c.small,
          c.sent_given,
          c.acked_given,
        )
    by false e =
        let q : s.t ≢ next_number s.n = grind (arith) in omega (arith, q, c.t_is, c.n_is, c.t_high)

at_drop : (given out : List (List ℕ)) (n p k : ℕ) → out ≡ drop n given → k ≡ n + p → p < length out
    → slice_get given k ≡ Some (slice_index_or out p [])
at_drop given out n p k o e h =
    let l : length out ≡ length given - n = ap length o ∙ length-drop n given in
    get-at given k (omega arith)
    ∙ ap (λ i. Some (slice_index_or given i [])) e
    ∙ ap Some (sym (get_or-drop n given p []))
    ∙ ap (λ l. Some (slice_index_or l p [])) (sym o)

fits_data : (x y : Face) (fs fs' : List Frame) → before_next x.station < length x.station.out
    → 0 < x.starts → StateFits x.station.state x.given
    → (h : Fits x y fs fs')
    → Counts x.station x.limits.window x.given x.acknowledged h.sent h.next (length (up x))
    → Fits
    (sender x x.station.due
    (cond (x.station.t == next_number x.station.n) x.station.t x.station.n)
    (next_number x.station.t) Quiet x.station.rep
    (timer_started x.station.timer)) y
    (fs ++ Data (resp_of x.station) x.station.t (message_at_next x.station) ∷ []) fs'
fits_data x y fs fs' room started state h c =
    let s = x.station in
    let w = x.limits.window in
    let u = length (up x) in
    let p = before_next s in
    let b = before-is s w x.given x.acknowledged h.sent h.next u c in
    let o : length s.out ≡ length x.given - x.acknowledged =
    ap length c.out_is ∙ length-drop x.acknowledged x.given in
    let k : ℕ = x.acknowledged + p in
    let e : suc k ≡ h.next = omega (arith, b, c.t_low) in
    fits_sends x y fs fs' (Data (resp_of s) s.t (slice_index_or s.out p []) ∷ []) h s.due
    (cond (s.t == next_number s.n) s.t s.n) (next_number s.t) Quiet s.rep
    (timer_started s.timer) (suc k ∷ []) (confirmed x ∷ []) (max h.sent (suc k)) (h.next + 1)
    (wire_data {k = k} (resp-is x h.mail c.r_is) (c.t_is ∙ ap (λ n. n % 256) (sym e))
    (at_drop x.given s.out x.acknowledged p k c.out_is refl room) no_wire)
    (reached-send w x.given x.acknowledged h.sent (up y) h.forward h.back (suc k) (omega arith)
    (omega (arith, c.t_high, e)) (omega (arith, o, room))
    (omega (arith, o, room, c.window)) h.reached)
    (reached-answer-less y.limits.window y.given y.acknowledged h.sent' (up x)
    h.forward' h.back' (confirmed x) (rising-last y.acknowledged (confirmed x) h.back' h.rising')
    (confirms-delivered x) h.reached')
    (rising-more y.acknowledged (confirmed x) (confirmed x) h.back'
    (rising-last y.acknowledged (confirmed x) h.back' h.rising') (omega arith) h.rising')
    (begun started
    (subst
    (λ n. Numbers s.a (cond (s.t == next_number s.n) s.t s.n) (next_number s.t)
    s.r s.out w x.given x.acknowledged (max h.sent n) (h.next + 1) u) (sym e)
    (counts_sent s w x.given x.acknowledged h.sent h.next u room c)) state)

-- ---- each reason to send

pub record Begun (x : Face) (sent next : ℕ) : Type 0 where
  pub started : 0 < x.starts
  pub counts : Counts x.station x.limits.window x.given x.acknowledged sent next (length (up x))
  pub state : StateFits x.station.state x.given

-- an end that isn't halted has been started
pub awake : (x : Face) (n t : ℕ) → (x.station.state ≡ Halted → ⊥) → Stands x n t → Begun x n t
awake x n t up (not_begun s h g u) = absurd (up h)
awake x n t up (begun s c f) = record { started = s; counts = c; state = f }

pub is-awake : (x : Face) → x.station.state ≡ Running → x.station.state ≡ Halted → ⊥
is-awake x r h = let z = sym r ∙ h in cc

fits_next : (x y : Face) (fs fs' : List Frame) (t : Next) → SentFor x.station t → Fits x y fs fs'
    → Fits (after_sending x t) y (fs ++ frames_next t) fs'
fits_next x y fs fs' _ (sends_strt p d) h =
    fits_plain x y fs fs' (Strt ∷ []) false x.station.reply x.station.rep Fresh (wire_strt no_wire)
    h
fits_next x y fs fs' _ (sends_stack p d) h =
    fits_plain x y fs fs' (Stack ∷ []) false x.station.reply x.station.rep Fresh
    (wire_stack no_wire) h
fits_next x y fs fs' _ (sends_nak why p r) h =
    let b = awake x h.sent h.next (is-awake x p) h.stands in
    fits_counted x y fs fs' (as_read (Naked why (resp_of x.station)) ∷ [])
    x.station.due Quiet x.station.rep x.station.timer (wire_nak
    (resp-is x h.mail b.counts.r_is) no_wire) h
fits_next x y fs fs' _ (sends_rep p n r) h =
    fits_plain x y fs fs' (Rep x.station.n ∷ []) x.station.due x.station.reply false Fresh
    (wire_rep no_wire) h
fits_next x y fs fs' _ (sends_data p n r room) h =
    let b = awake x h.sent h.next (is-awake x p) h.stands in
    fits_data x y fs fs' room b.started b.state h b.counts
fits_next x y fs fs' _ (sends_ack p r n room) h =
    let b = awake x h.sent h.next (is-awake x p) h.stands in
    fits_counted x y fs fs' (Acked (resp_of x.station) ∷ [])
    x.station.due Quiet x.station.rep x.station.timer (wire_ack
    (resp-is x h.mail b.counts.r_is) no_wire) h
fits_next x y fs fs' _ (sends_maint message rest p o) h =
    let b = awake x h.sent h.next (λ q. let z = sym p ∙ q in cc) h.stands in
    let never : StateFits Maintenance x.given = subst (λ s. StateFits s x.given) p b.state in
    absurd never
fits_next x y fs fs' _ (halted_idles p) h = fits_idle x y fs fs' h
fits_next x y fs fs' _ (starting_idles p d) h = fits_idle x y fs fs' h
fits_next x y fs fs' _ (running_idles p r n room) h = fits_idle x y fs fs' h
fits_next x y fs fs' _ (maintenance_idles p o) h = fits_idle x y fs fs' h

pub fits_poll : (x y : Face) (fs fs' : List Frame) → Fits x y fs fs'
    → Fits (after_sending x (next x.station)) y (fs ++ frames_next (next x.station)) fs'
fits_poll x y fs fs' h = fits_next x y fs fs' (next x.station) (sending x.station) h
