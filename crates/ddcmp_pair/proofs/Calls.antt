-- What the user does at an end, and its timer, keep the links.
use Rattle.std.proofs.Common.{◌≡◌, ℕ, ◌-◌, ◌<◌, ◌≤◌, Bool, true, false, cond, List, [], ◌∷◌, ◌++◌}
use Rattle.std.proofs.Common.{length, drop}
use Rattle.std.proofs.Common.{refl, sym, ap, ◌∙◌, subst, arith, append_assoc, append-nil}
use Rattle.std.proofs.Common.{length-append, length-drop}
use Rattle.std.specs.Prelude.{option_to_list}
use Rattle.std.proofs.lemmas.List.{drop-append-le}
use Rattle.ddcmp_core.specs.declared.state.State.{State}
use Rattle.ddcmp_core.specs.declared.state.State.TheVariants.{Halted, IStart, AStart, Running}
use Rattle.ddcmp_core.specs.declared.state.State.TheVariants.{Maintenance}
use Rattle.ddcmp_core.specs.declared.state.Owed.{Owed}
use Rattle.ddcmp_core.specs.declared.state.Timer.{Timer}
use Rattle.ddcmp_core.specs.declared.state.Timer.TheVariants.{Off, Fresh, On}
use Rattle.ddcmp_core.specs.Store.{first_message}
use Rattle.ddcmp_core.specs.Table.{StationState, Frame, after_halt, after_start, may_send}
use Rattle.ddcmp_core.specs.Table.{is_running, after_accept, after_take, after_expire_in}
use Rattle.ddcmp_core.specs.Choosing.{after_choose}
use Rattle.ddcmp_core.specs.Table.{after_expire_with, after_expire}
use Rattle.ddcmp_pair.specs.Link.{IsReached, link_of}
use Rattle.ddcmp_pair.proofs.Reached.{reached-give, reached-counts}
use Rattle.ddcmp_pair.proofs.Wires.{wire-more}
use Rattle.ddcmp_pair.proofs.Relation.{Face, up, Counts, StateFits, Stands, not_begun, begun, Fits}
use Rattle.ddcmp_pair.proofs.Relation.{pending_station, confirmed}

-- flags and timer play no part
pub stands_flags : (x : Face) (due : Bool) (reply : Owed) (rep : Bool) (timer : Timer) (n t : ℕ)
    → Stands x n t
    → Stands
    (record x
    { station = record x.station { due = due; reply = reply; rep = rep; timer = timer } }) n t
stands_flags x due reply rep timer n t (not_begun s p g u) = not_begun s p g u
stands_flags x due reply rep timer n t (begun s c p) = begun s c p

pub fits_flags : (x y : Face) (fs fs' : List Frame) (due : Bool) (reply : Owed) (rep : Bool)
    (timer : Timer) → Fits x y fs fs'
    → Fits
    (record x
    { station = record x.station { due = due; reply = reply; rep = rep; timer = timer } })
    y fs fs'
fits_flags x y fs fs' due reply rep timer h =
    pending_station x y fs fs' [] []
    (record x.station { due = due; reply = reply; rep = rep; timer = timer }) x.taken refl
    (omega arith) (omega arith) (stands_flags x due reply rep timer) h

-- ---- halt, expire and take

stands_halt : (x : Face) (n t : ℕ) → Stands x n t
    → Stands (record x { station = after_halt x.station }) n t
stands_halt x n t (not_begun s p g u) = not_begun s refl g u
stands_halt x n t (begun s c p) = begun s c tt

pub fits_halt : (x y : Face) (fs fs' : List Frame) → Fits x y fs fs'
    → Fits (record x { station = after_halt x.station }) y fs fs'
fits_halt x y fs fs' h =
    pending_station x y fs fs' [] [] (after_halt x.station) x.taken refl
    (omega arith) (omega arith) (stands_halt x) h

pub fits_expire : (x y : Face) (fs fs' : List Frame) → Fits x y fs fs'
    → Fits (record x { station = after_expire x.station }) y fs fs'
fits_expire x y fs fs' h = at x.station.timer
  where
    by : (p : State) → Fits (record x { station = after_expire_in p x.station }) y fs fs'
    by Halted = fits_flags x y fs fs' _ _ _ _ h
    by IStart = fits_flags x y fs fs' _ _ _ _ h
    by AStart = fits_flags x y fs fs' _ _ _ _ h
    by Running = fits_flags x y fs fs' _ _ _ _ h
    by Maintenance = fits_flags x y fs fs' _ _ _ _ h

    at : (t : Timer) → Fits (record x { station = after_expire_with t x.station }) y fs fs'
    at Off = h
    at Fresh = by x.station.state
    at On = by x.station.state

-- what is taken stays delivered
pub take-up : (taken inbox : List (List ℕ))
    → (taken ++ option_to_list (first_message inbox)) ++ drop 1 inbox ≡ taken ++ inbox
take-up taken [] = append-nil _ ∙ append-nil taken ∙ sym (append-nil taken)
take-up taken (m ∷ inbox) = append_assoc taken (m ∷ []) inbox

stands_take : (x : Face) (n t : ℕ) → Stands x n t
    → Stands
    (record x {
      station = after_take x.station;
      taken = x.taken ++ option_to_list (first_message x.station.inbox);
    }) n t
stands_take x n t (not_begun s p g u) = not_begun s p g (take-up x.taken x.station.inbox ∙ u)
stands_take x n t (begun s c p) =
    begun s
    (subst (λ l. Counts x.station x.limits.window x.given x.acknowledged n t (length l))
    (sym (take-up x.taken x.station.inbox)) c) p

fewer : (inbox : List (List ℕ)) → length (drop 1 inbox) ≤ length inbox
fewer [] = omega arith
fewer (m ∷ inbox) = omega arith

-- a message that is taken may be reported
confirms-taken : (x : Face) → confirmed x
    ≤ confirmed
    (record x {
      station = after_take x.station;
      taken = x.taken ++ option_to_list (first_message x.station.inbox);
    })
confirms-taken x = by x.station.by_user
  where
    by : (b : Bool)
        → cond b (length x.taken) (length (up x))
        ≤ cond b (length (x.taken ++ option_to_list (first_message x.station.inbox)))
        (length ((x.taken ++ option_to_list
        (first_message x.station.inbox)) ++ drop 1 x.station.inbox))
    by true =
        let l = length-append x.taken (option_to_list (first_message x.station.inbox)) in
        omega (arith, l)
    by false =
        let l = ap length (take-up x.taken x.station.inbox) in omega (arith, l)

pub fits_take : (x y : Face) (fs fs' : List Frame) → Fits x y fs fs'
    → Fits
    (record x {
      station = after_take x.station;
      taken = x.taken ++ option_to_list (first_message x.station.inbox);
    }) y fs fs'
fits_take x y fs fs' h =
    pending_station x y fs fs' [] [] (after_take x.station) _ (take-up x.taken x.station.inbox)
    (fewer x.station.inbox) (confirms-taken x) (stands_take x) h

-- ---- the user chooses when messages are acknowledged

stands_choose : (x : Face) (by_user : Bool) (n t : ℕ) → Stands x n t
    → Stands (record x { station = after_choose by_user x.station }) n t
stands_choose x by_user n t (not_begun s p g u) = not_begun s p g u
stands_choose x by_user n t (begun s c p) = begun s c p

pub fits_choose : (x y : Face) (fs fs' : List Frame) (by_user : Bool) → x.station.inbox ≡ []
    → Fits x y fs fs' → Fits (record x { station = after_choose by_user x.station }) y fs fs'
fits_choose x y fs fs' by_user e h =
    pending_station x y fs fs' [] [] (after_choose by_user x.station) x.taken refl
    (omega arith) (same x.station.by_user by_user) (stands_choose x by_user) h
  where
    all : length (up x) ≡ length x.taken
    all = ap (λ l. length (x.taken ++ l)) e ∙ ap length (append-nil x.taken)

    same : (b c : Bool)
        → cond b (length x.taken) (length (up x)) ≤ cond c (length x.taken) (length (up x))
    same true true = omega arith
    same true false = omega (arith, all)
    same false true = omega (arith, all)
    same false false = omega arith

-- ---- send

counts_give : (s : StationState) (w : ℕ) (given : List (List ℕ)) (acked sent next up : ℕ)
    (m : List ℕ) → length s.out < w
    → Counts s w given acked sent next up
    → Counts (after_accept s m) w (given ++ m ∷ []) acked sent next up
counts_give s w given acked sent next up m room c =
    let o : length s.out ≡ length given - acked = ap length c.out_is ∙ length-drop acked given in
    let l = length-append given (m ∷ []) in
    record {
      a_is = c.a_is;
      n_is = c.n_is;
      t_is = c.t_is;
      r_is = c.r_is;
      out_is =
          ap (λ l. l ++ m ∷ []) c.out_is
          ∙ sym (drop-append-le acked given (m ∷ []) (omega (arith, c.acked_given, c.sent_given)));
      t_low = c.t_low;
      t_high = c.t_high;
      window = omega (arith, l, o, room, c.acked_given, c.sent_given);
      small = c.small;
      acked_given = c.acked_given;
      sent_given = omega (arith, l, c.sent_given);
    }

state_give : (p : State) (given given' : List (List ℕ)) → is_running p ≡ true → StateFits p given
    → StateFits p given'
state_give Halted given given' e f = tt
state_give IStart given given' e f = absurd (cc)
state_give AStart given given' e f = absurd (cc)
state_give Running given given' e f = tt
state_give Maintenance given given' e f = f

-- a message that is accepted is at a running end, which has room for it
send-means : (x : Face) (m : List ℕ) → may_send x.limits x.station m ≡ true
    → (is_running x.station.state ≡ true) × (length x.station.out < x.limits.window)
send-means x m e = grind (arith)

stands_give : (x : Face) (m : List ℕ) (n t : ℕ) → may_send x.limits x.station m ≡ true
    → Stands x n t
    → Stands (record x { station = after_accept x.station m; given = x.given ++ m ∷ [] }) n t
stands_give x m n t e (not_begun s p g u) =
    let r = (send-means x m e).0 in let r' : is_running Halted ≡ true = rw p at r in absurd (cc)
stands_give x m n t e (begun s c p) =
    let r = send-means x m e in
    begun s
    (counts_give x.station x.limits.window x.given x.acknowledged n t (length (up x)) m r.1 c)
    (state_give x.station.state x.given (x.given ++ m ∷ []) r.0 p)

pub fits_give : (x y : Face) (fs fs' : List Frame) (m : List ℕ)
    → may_send x.limits x.station m ≡ true → Fits x y fs fs'
    → Fits (record x { station = after_accept x.station m; given = x.given ++ m ∷ [] }) y fs fs'
fits_give x y fs fs' m e h = record {
  sent = h.sent;
  next = h.next;
  forward = h.forward;
  back = h.back;
  sent' = h.sent';
  next' = h.next';
  forward' = h.forward';
  back' = h.back';
  small = h.small;
  small' = h.small';
  reached =
      reached-give x.limits.window x.given x.acknowledged h.sent (up y)
      h.forward h.back m h.reached;
  reached' = h.reached';
  stands = stands_give x m h.sent h.next e h.stands;
  stands' = h.stands';
  wire = wire-more m h.wire;
  wire' = h.wire';
  mail = record { room = h.mail.room; inbox = h.mail.inbox };
  mail' = h.mail';
  rising = h.rising;
  rising' = h.rising';
}

-- ---- the first start

counts_start : (x y : Face) (n : ℕ) (forward back : List ℕ) → x.limits.window ≤ 255
    → IsReached x.limits.window (link_of x.given x.acknowledged n (up y) forward back)
    → x.given ≡ [] → up x ≡ []
    → Counts (after_start x.station) x.limits.window x.given x.acknowledged n 1 (length (up x))
counts_start x y n forward back small r g u =
    let k = reached-counts _ _ r in
    let none : length x.given ≡ 0 = ap length g in
    let z : x.acknowledged ≡ 0 = omega (arith, k.0, k.1, k.2, none) in
    let n0 : n ≡ 0 = omega (arith, k.2, none) in
    let u0 : length (up x) ≡ 0 = ap length u in
    record {
      a_is = omega (arith, z);
      n_is = omega (arith, n0);
      t_is = refl;
      r_is = omega (arith, u0);
      out_is = sym (ap (λ n. drop n x.given) z ∙ g);
      t_low = omega (arith, z);
      t_high = omega arith;
      window = omega (arith, none);
      small = small;
      acked_given = omega (arith, z);
      sent_given = k.2;
    }

stands_start : (x y : Face) (n t starts : ℕ) (forward back : List ℕ) → x.limits.window ≤ 255
    → IsReached x.limits.window (link_of x.given x.acknowledged n (up y) forward back)
    → x.starts ≡ 0 → 0 < starts → Stands x n t
    → Stands (record x { station = after_start x.station; starts = starts }) n 1
stands_start x y n t starts forward back small r z some (not_begun s p g u) =
    begun some (counts_start x y n forward back small r g u) g
stands_start x y n t starts forward back small r z some (begun s c p) = absurd (omega (arith, s, z))

pub fits_start : (x y : Face) (fs fs' : List Frame) (starts : ℕ) → x.starts ≡ 0 → 0 < starts
    → Fits x y fs fs'
    → Fits (record x { station = after_start x.station; starts = starts }) y fs fs'
fits_start x y fs fs' starts z some h = record {
  sent = h.sent;
  next = 1;
  forward = h.forward;
  back = h.back;
  sent' = h.sent';
  next' = h.next';
  forward' = h.forward';
  back' = h.back';
  small = h.small;
  small' = h.small';
  reached = h.reached;
  reached' = h.reached';
  stands = stands_start x y h.sent h.next starts h.forward h.back h.small h.reached z some h.stands;
  stands' = h.stands';
  wire = h.wire;
  wire' = h.wire';
  mail = record { room = h.mail.room; inbox = h.mail.inbox };
  mail' = h.mail';
  rising = h.rising;
  rising' = h.rising';
}
