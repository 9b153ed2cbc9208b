-- What comes to an end keeps the links.
use Rattle.std.proofs.Common.{◌≡◌, ℕ, suc, ◌+◌, ◌%◌, Bool, true, false, cond, List, [], ◌∷◌, ◌++◌}
use Rattle.std.proofs.Common.{length, Some, None, refl, sym, ap, ◌∙◌, subst, arith}
use Rattle.std.specs.Prelude.{◌==◌}
use Rattle.ddcmp_core.specs.Sequence.{distance}
use Rattle.ddcmp_core.specs.Numbers.{is_within, next_number}
use Rattle.ddcmp_frame.specs.declared.nak.Nak.{Nak as Reason}
use Rattle.ddcmp_core.specs.declared.state.State.{State}
use Rattle.ddcmp_core.specs.declared.state.State.TheVariants.{Halted, IStart, AStart, Running}
use Rattle.ddcmp_core.specs.declared.state.State.TheVariants.{Maintenance}
use Rattle.ddcmp_core.specs.declared.state.Owed.{Owed}
use Rattle.ddcmp_core.specs.declared.state.Timer.{Timer}
use Rattle.ddcmp_core.specs.declared.state.Timer.TheVariants.{Off}
use Rattle.ddcmp_core.specs.declared.notice.Notice.TheVariants as notice
use Rattle.ddcmp_core.specs.Table.{StationState, Frame, Data, Acked, Naked, Rep, Strt, Stack, Maint}
use Rattle.ddcmp_core.specs.Table.{Received, Good, BadHeader, BadData, TooLong, BadFormat}
use Rattle.ddcmp_core.specs.Table.{newly_acknowledged, after_ack, on_data, on_nak, on_by, on}
use Rattle.ddcmp_core.specs.Table.{after_startup, takes_data, notice_by, notice_of, acknowledged_by}
use Rattle.ddcmp_core.specs.Laws.{is_fault}
use Rattle.ddcmp_core.proofs.ToldLaws.{number_told, number_told_data}
use Rattle.ddcmp_pair.proofs.Calls.{fits_flags}
use Rattle.ddcmp_pair.proofs.Comings.{Comes, comes, passed, acknowledging, use_count, use_position}
use Rattle.ddcmp_pair.proofs.Sendings.{awake, is-awake}
use Rattle.ddcmp_pair.proofs.Relation.{Face, up, Wire, no_wire, wire_data, wire_ack, wire_nak}
use Rattle.ddcmp_pair.proofs.Relation.{StateFits, Stands, not_begun, begun, Fits, Pending}
use Rattle.ddcmp_pair.proofs.Relation.{pending_station}

abbrev pub is_strt : Frame → Bool
is_strt Strt = true
is_strt _ = false

-- an end after something came, but for its count of starts
abbrev pub hearing_by : State → Face → Received → Face
hearing_by p x h = record x {
  station = on_by p x.limits x.station h;
  acknowledged = x.acknowledged + acknowledged_by (notice_by p x.limits x.station h);
}

abbrev pub hearing : Face → Received → Face
hearing x h = record x {
  station = on x.limits x.station h;
  acknowledged = x.acknowledged + acknowledged_by (notice_of x.limits x.station h);
}

-- ---- a running end

hear_data : (x y : Face) (fs fs' : List Frame) (resp num : ℕ) (message : List ℕ) {ks qs : List ℕ}
    → x.station.state ≡ Running
    → Wire y.given (Data resp num message ∷ []) ks qs → Pending x y fs fs' ks qs
    → Fits
    (record x {
      station = on_data x.limits x.station resp num message;
      acknowledged = x.acknowledged + newly_acknowledged x.station resp;
    }) y fs fs'
hear_data x y fs fs' resp num message p (wire_data {k = k} {q = q} e n a no_wire) h =
    let b = awake x h.sent h.next (is-awake x p) h.stands in
    let h' = use_count x y fs fs' (suc k ∷ []) q h b.started b.counts b.state in
    let x' = acknowledging x (q % 256) in
    let b' = awake x' h'.sent h'.next (is-awake x p) h'.stands in
    subst
    (λ r. Fits
    (record x {
      station = on_data x.limits x.station r num message;
      acknowledged = x.acknowledged + newly_acknowledged x.station r;
    }) y fs fs') (sym e)
    (use_position x' y fs fs' k num message h' n a b'.started b'.counts b'.state)

hear_ack : (x y : Face) (fs fs' : List Frame) (resp : ℕ) {ks qs : List ℕ}
    → x.station.state ≡ Running → Wire y.given (Acked resp ∷ []) ks qs
    → Pending x y fs fs' ks qs → Fits (acknowledging x resp) y fs fs'
hear_ack x y fs fs' resp p (wire_ack {q = q} e no_wire) h =
    let b = awake x h.sent h.next (is-awake x p) h.stands in
    subst (λ r. Fits (acknowledging x r) y fs fs') (sym e)
    (passed _ y fs fs' [] [] (use_count x y fs fs' [] q h b.started b.counts b.state))

-- all that is kept is retransmitted
stands_back : (x : Face) (n t : ℕ) → Stands x n t
    → Stands
    (record x
    { station = record x.station { t = next_number x.station.a; rep = false; timer = Off } }) n
    (x.acknowledged + 1)
stands_back x n t (not_begun s h g u) = not_begun s h g u
stands_back x n t (begun s c f) =
    begun s (record {
      a_is = c.a_is;
      n_is = c.n_is;
      t_is = omega (arith, c.a_is);
      r_is = c.r_is;
      out_is = c.out_is;
      t_low = omega arith;
      t_high = omega (arith, c.acked_given);
      window = c.window;
      small = c.small;
      acked_given = c.acked_given;
      sent_given = c.sent_given;
    }) f

fits_back : (x y : Face) (fs fs' : List Frame) → Fits x y fs fs'
    → Fits
    (record x
    { station = record x.station { t = next_number x.station.a; rep = false; timer = Off } })
    y fs fs'
fits_back x y fs fs' f = record {
  sent = f.sent;
  next = x.acknowledged + 1;
  forward = f.forward;
  back = f.back;
  sent' = f.sent';
  next' = f.next';
  forward' = f.forward';
  back' = f.back';
  small = f.small;
  small' = f.small';
  reached = f.reached;
  reached' = f.reached';
  stands = stands_back x f.sent f.next f.stands;
  stands' = f.stands';
  wire = f.wire;
  wire' = f.wire';
  mail = record { room = f.mail.room; inbox = f.mail.inbox };
  mail' = f.mail';
  rising = f.rising;
  rising' = f.rising';
}

hear_nak : (x y : Face) (fs fs' : List Frame) (resp : ℕ) {ks qs : List ℕ} (why : Reason)
    → x.station.state ≡ Running → Wire y.given (Naked why resp ∷ []) ks qs
    → Pending x y fs fs' ks qs
    → Fits
    (record x {
      station = on_nak x.station resp;
      acknowledged = x.acknowledged + newly_acknowledged x.station resp;
    }) y fs fs'
hear_nak x y fs fs' resp why p (wire_nak {q = q} e no_wire) h =
    subst
    (λ r. Fits
    (record x {
      station = on_nak x.station r;
      acknowledged = x.acknowledged + newly_acknowledged x.station r;
    }) y fs fs') (sym e)
    (by (is_within x.station.a (q % 256) x.station.n) refl)
  where
    by : (b : Bool) → is_within x.station.a (q % 256) x.station.n ≡ b
        → Fits (record x {
          station =
              cond b
              (record (after_ack x.station (q % 256))
              { t = next_number (after_ack x.station (q % 256)).a; rep = false; timer = Off })
              x.station;
          acknowledged = x.acknowledged + newly_acknowledged x.station (q % 256);
        }) y fs fs'
    by true t =
        let b = awake x h.sent h.next (is-awake x p) h.stands in
        fits_back (acknowledging x (q % 256)) y fs fs'
        (passed (acknowledging x (q % 256)) y fs fs' [] []
        (use_count x y fs fs' [] q h b.started b.counts b.state))
    by false t =
        let m : newly_acknowledged x.station (q % 256) ≡ 0 =
        ap (λ b. cond b (distance x.station.a (q % 256)) 0) t in
        let a : x.acknowledged ≡ x.acknowledged + newly_acknowledged x.station (q % 256) =
        omega (arith, m) in
        subst (λ n. Fits (record x { acknowledged = n }) y fs fs') a
        (passed x y fs fs' [] (q ∷ []) h)

-- ---- what reports nothing

quiet : (x y : Face) (fs fs' : List Frame) → Fits x y fs fs'
    → Fits (record x { acknowledged = x.acknowledged + 0 }) y fs fs'
quiet x y fs fs' h =
    let a : x.acknowledged ≡ x.acknowledged + 0 = omega arith in
    subst (λ n. Fits (record x { acknowledged = n }) y fs fs') a h

flags : (x y : Face) (fs fs' : List Frame) (due : Bool) (reply : Owed) (rep : Bool) (timer : Timer)
    → Fits x y fs fs'
    → Fits
    (record x {
      station = record x.station { due = due; reply = reply; rep = rep; timer = timer };
      acknowledged = x.acknowledged + 0;
    }) y fs fs'
flags x y fs fs' due reply rep timer h =
    quiet _ y fs fs' (fits_flags x y fs fs' due reply rep timer h)

-- another state, of an end that has been started
stands_state : (x : Face) (p q : State) (n t : ℕ) (due : Bool) (reply : Owed) (timer : Timer)
    → x.station.state ≡ p → (p ≡ Halted → ⊥)
    → (StateFits p x.given → StateFits q x.given) → Stands x n t
    → Stands
    (record x
    { station = record x.station { state = q; due = due; reply = reply; timer = timer } }) n t
stands_state x p q n t due reply timer e up f s =
    let b = awake x n t (λ h. up (sym e ∙ h)) s in
    begun b.started b.counts (f (subst (λ st. StateFits st x.given) e b.state))

state_to : (x y : Face) (fs fs' : List Frame) (p q : State) (due : Bool) (reply : Owed)
    (timer : Timer) → x.station.state ≡ p → (p ≡ Halted → ⊥)
    → (StateFits p x.given → StateFits q x.given) → Fits x y fs fs'
    → Fits
    (record x {
      station = record x.station { state = q; due = due; reply = reply; timer = timer };
      acknowledged = x.acknowledged + 0;
    }) y fs fs'
state_to x y fs fs' p q due reply timer e up f h =
    quiet _ y fs fs'
    (pending_station x y fs fs' [] [] _ x.taken refl (omega arith) (omega arith)
    (λ n t. stands_state x p q n t due reply timer e up f) h)

starting-awake : IStart ≡ Halted → ⊥
starting-awake e = cc

answering-awake : AStart ≡ Halted → ⊥
answering-awake e = cc

-- ---- data by which an end begins to run

newly-zero : (s : StationState) (resp : ℕ) → s.a ≡ 0 → s.n ≡ 0 → resp ≡ 0
    → newly_acknowledged s resp ≡ 0
newly-zero s resp a n r =
    ap (λ (p : ℕ × ℕ × ℕ). cond (is_within p.0 p.2 p.1) (distance p.0 p.2) 0) (λ i. (a i, n i, r i))

told-none : (b : Bool)
    → acknowledged_by (Some (cond b notice.RunningAndHandedUp notice.Running)) ≡ 0
told-none true = refl
told-none false = refl

first_data : (x y : Face) (fs rest : List Frame) (resp num : ℕ) (message : List ℕ)
    → x.station.state ≡ AStart → resp ≡ 0
    → Comes x y fs (Data resp num message) rest
    → Fits (record x {
      station = on_data x.limits (after_startup x.station) resp num message;
      acknowledged =
          x.acknowledged
          + acknowledged_by
          (Some
          (cond (takes_data x.limits x.station num) notice.RunningAndHandedUp notice.Running));
    }) y fs rest
first_data x y fs rest resp num message e zero c =
    let b = awake x c.pending.sent c.pending.next (λ h. let z = sym e ∙ h in cc) c.pending.stands in
    let g : x.given ≡ [] = subst (λ st. StateFits st x.given) e b.state in
    let none : length x.given ≡ 0 = ap length g in
    let z : c.pending.sent ≡ 0 = omega (arith, b.counts.sent_given, none) in
    let a0 : x.station.a ≡ 0 = omega (arith, b.counts.a_is, b.counts.acked_given, z) in
    let n0 : x.station.n ≡ 0 = omega (arith, b.counts.n_is, z) in
    let m : newly_acknowledged (after_startup x.station) resp ≡ 0 =
    newly-zero (after_startup x.station) resp a0 n0 zero in
    let told = told-none (takes_data x.limits x.station num) in
    let v : x.acknowledged + newly_acknowledged (after_startup x.station) resp
    ≡ x.acknowledged
    + acknowledged_by
    (Some (cond (takes_data x.limits x.station num) notice.RunningAndHandedUp notice.Running)) =
    omega (arith, m, told) in
    let h = pending_station x y fs rest c.ks c.qs (after_startup x.station) x.taken refl
    (omega arith) (omega arith)
    (λ n t. stands_state x AStart Running n t false x.station.reply Off e answering-awake (λ g. tt))
    c.pending in
    subst
    (λ n. Fits
    (record x
    { station = on_data x.limits (after_startup x.station) resp num message; acknowledged = n })
    y fs rest) v
    (hear_data (record x { station = after_startup x.station })
    y fs rest resp num message refl c.first h)

-- ---- each frame in each state

-- it isn't looked at
passes : (x y : Face) (fs : List Frame) (f : Frame) (rest : List Frame) → Comes x y fs f rest
    → Fits x y fs rest
passes x y fs f rest c = passed x y fs rest c.ks c.qs c.pending

hears_by : (x y : Face) (fs : List Frame) (p : State) → x.station.state ≡ p
    → (f : Frame) (rest : List Frame) → Comes x y fs f rest
    → (p ≡ Running → is_strt f ≡ false) → Fits (hearing_by p x (Good f)) y fs rest
hears_by x y fs Halted e Strt rest c n = quiet x y fs rest (passes x y fs Strt rest c)
hears_by x y fs Halted e (Maint m) rest c n = quiet x y fs rest (passes x y fs (Maint m) rest c)
hears_by x y fs Halted e f rest c n = quiet x y fs rest (passes x y fs f rest c)
hears_by x y fs Maintenance e f rest c n =
    let b = awake x c.pending.sent c.pending.next (λ h. let z = sym e ∙ h in cc) c.pending.stands in
    let never : StateFits Maintenance x.given = subst (λ st. StateFits st x.given) e b.state in
    absurd never
hears_by x y fs IStart e Strt rest c n =
    state_to x y fs rest IStart AStart _ _ _ e starting-awake (λ g. g) (passes x y fs Strt rest c)
hears_by x y fs IStart e Stack rest c n =
    state_to x y fs rest IStart Running _ _ _ e starting-awake (λ g. tt)
    (passes x y fs Stack rest c)
hears_by x y fs IStart e f rest c n = quiet x y fs rest (passes x y fs f rest c)
hears_by x y fs AStart e Strt rest c n = flags x y fs rest _ _ _ _ (passes x y fs Strt rest c)
hears_by x y fs AStart e Stack rest c n =
    state_to x y fs rest AStart Running _ _ _ e answering-awake (λ g. tt)
    (passes x y fs Stack rest c)
hears_by x y fs AStart e (Acked resp) rest c n = by (resp == 0)
  where
    by : (b : Bool) → Fits (record x {
      station = cond b (after_startup x.station) x.station;
      acknowledged = x.acknowledged + acknowledged_by (cond b (Some notice.Running) None);
    }) y fs rest
    by true =
        state_to x y fs rest AStart Running _ _ _ e answering-awake (λ g. tt)
        (passes x y fs (Acked resp) rest c)
    by false = quiet x y fs rest (passes x y fs (Acked resp) rest c)
hears_by x y fs AStart e (Data resp num message) rest c n = by (resp == 0) refl
  where
    by : (b : Bool) → (resp == 0) ≡ b → Fits (record x {
      station = cond b (on_data x.limits (after_startup x.station) resp num message) x.station;
      acknowledged = x.acknowledged
          + acknowledged_by
          (cond b
          (Some
          (cond (takes_data x.limits x.station num) notice.RunningAndHandedUp notice.Running))
          None);
    }) y fs rest
    by false t = quiet x y fs rest (passes x y fs (Data resp num message) rest c)
    by true t = first_data x y fs rest resp num message e (grind (arith)) c
hears_by x y fs AStart e f rest c n = quiet x y fs rest (passes x y fs f rest c)
hears_by x y fs Running e Strt rest c n = absurd (let z = n refl in cc)
hears_by x y fs Running e Stack rest c n = flags x y fs rest _ _ _ _ (passes x y fs Stack rest c)
hears_by x y fs Running e (Rep num) rest c n =
    flags x y fs rest _ _ _ _ (passes x y fs (Rep num) rest c)
hears_by x y fs Running e (Maint m) rest c n = quiet x y fs rest (passes x y fs (Maint m) rest c)
hears_by x y fs Running e (Acked resp) rest c n =
    subst
    (λ n. Fits
    (record x { station = after_ack x.station resp; acknowledged = x.acknowledged + n })
    y fs rest)
    (sym (number_told (newly_acknowledged x.station resp)))
    (hear_ack x y fs rest resp e c.first c.pending)
hears_by x y fs Running e (Naked why resp) rest c n =
    subst
    (λ n. Fits (record x { station = on_nak x.station resp; acknowledged = x.acknowledged + n })
    y fs rest)
    (sym (number_told (newly_acknowledged x.station resp)))
    (hear_nak x y fs rest resp why e c.first c.pending)
hears_by x y fs Running e (Data resp num message) rest c n =
    subst
    (λ n. Fits
    (record x {
      station = on_data x.limits x.station resp num message;
      acknowledged = x.acknowledged + n;
    }) y fs rest)
    (sym (number_told_data x.limits x.station resp num))
    (hear_data x y fs rest resp num message e c.first c.pending)

-- a frame comes, in front of which some are lost, and isn't a STRT at a running end
pub fits_frame : (x y : Face) (fs lost : List Frame) (f : Frame) (rest : List Frame)
    → (x.station.state ≡ Running → is_strt f ≡ false)
    → Fits x y fs (lost ++ f ∷ rest) → Fits (hearing x (Good f)) y fs rest
unfolding on notice_of
fits_frame x y fs lost f rest n h =
    hears_by x y fs x.station.state refl f rest (comes x y fs lost f rest h) n

-- ---- faults

faults_by : (x y : Face) (fs fs' : List Frame) (p : State) (h : Received) → is_fault h ≡ true
    → Fits x y fs fs' → Fits (hearing_by p x h) y fs fs'
faults_by x y fs fs' p (Good f) e h = absurd (cc)
faults_by x y fs fs' Running BadHeader e h = flags x y fs fs' _ _ _ _ h
faults_by x y fs fs' Running (BadData b) e h = flags x y fs fs' _ _ _ _ h
faults_by x y fs fs' Running (TooLong b) e h = flags x y fs fs' _ _ _ _ h
faults_by x y fs fs' Running BadFormat e h = flags x y fs fs' _ _ _ _ h
faults_by x y fs fs' Halted h e f = quiet x y fs fs' f
faults_by x y fs fs' IStart h e f = quiet x y fs fs' f
faults_by x y fs fs' AStart h e f = quiet x y fs fs' f
faults_by x y fs fs' Maintenance h e f = quiet x y fs fs' f

pub fits_fault : (x y : Face) (fs fs' : List Frame) (h : Received) → is_fault h ≡ true
    → Fits x y fs fs' → Fits (hearing x h) y fs fs'
unfolding on notice_of
fits_fault x y fs fs' h e f = faults_by x y fs fs' x.station.state h e f
