-- Turns of `drive` are calls.
use Rattle.std.proofs.Common.{◌≡◌, ℕ, Bool, true, false, cond, ◌&&◌, List, [], ◌∷◌, ◌++◌, length}
use Rattle.std.proofs.Common.{map, replicate, drop, refl, sym, ◌∙◌, ap, subst, append_assoc}
use Rattle.std.proofs.Common.{append-nil}
use Rattle.std.proofs.Common.{Option, Some, None}
use Rattle.std.specs.Prelude.{nat_le, option_map, option_to_list}
use Rattle.ddcmp_frame.specs.Wire.{wire}
use Rattle.ddcmp_core.specs.Table.{Frame, is_on, may_send, next, next_frame}
use Rattle.ddcmp_proto.specs.Bytes.{notices_of_piece}
use Rattle.ddcmp_station.specs.UserCalls.{UserCall, Asked, Handed, is_user_asked, calls_of_offer}
use Rattle.ddcmp_station.specs.UserCalls.{calls_of_notices, calls_of_mail}
use Rattle.ddcmp_station.specs.Driving.{DriveTurn, Driving, driving_from, deadline_at, is_due}
use Rattle.ddcmp_station.specs.Driving.{core_after_expire, core_after_take_arm, core_at_deadline}
use Rattle.ddcmp_station.specs.Driving.{core_after_message, frame_bytes, core_after_halt}
use Rattle.ddcmp_station.specs.Driving.{before_read, after_read, after_turn, after_turns}
use Rattle.ddcmp_pair.specs.Place.{WholeFrame}
use Rattle.ddcmp_pair.specs.Run.{EndState, with_station, whole_frame, after_poll_here}
use Rattle.ddcmp_pair.specs.Run.{after_arrival_here, after_take_here}
use Rattle.ddcmp_core.specs.Store.{first_message}
use Rattle.ddcmp_pair.proofs.Crossings.{emptied, emptied-none, emptied-after-take}
use Rattle.ddcmp_laws.specs.Faithful.{bytes_of, written}
use Rattle.ddcmp_laws.specs.PairCalls.{Call, Halt, Send, Poll, Arrive, Expire, Take, Arm}
use Rattle.ddcmp_laws.specs.PairCalls.{after_arm_here, after_call_here, after_calls_here}
use Rattle.ddcmp_laws.specs.Driven.{shown_by, shown_in, calls_of_timer, calls_of_message}
use Rattle.ddcmp_laws.specs.Driven.{calls_before_read, calls_of_read, calls_of_turn}
use Rattle.ddcmp_laws.specs.Driven.{calls_of_turns, DriveCall, after_last, calls_of_last, driven}
use Rattle.ddcmp_laws.specs.Driven.{calls_of_drive, after_drive, after_drives, calls_of_drives}
use Rattle.ddcmp_laws.specs.Driven.{Does}
use Rattle.ddcmp_laws.proofs.Seen.{sent_where_asked}

pub calls_append : (a b : List Call) (x : EndState)
    → after_calls_here (a ++ b) x ≡ after_calls_here b (after_calls_here a x)
unfolding after_calls_here
calls_append [] b x = refl
calls_append (c ∷ a) b x = calls_append a b (after_call_here c x)

pub shown_append : (a b : List Call) (x : EndState)
    → shown_in (a ++ b) x ≡ shown_in a x ++ shown_in b (after_calls_here a x)
unfolding after_calls_here shown_in
shown_append [] b x = refl
shown_append (c ∷ a) b x =
    ap (λ y. shown_by c x ++ y) (shown_append a b (after_call_here c x))
    ∙ sym (append_assoc (shown_by c x) _ _)

-- ---- what goes on the line

bytes_more : (fill : ℕ) (frames : List WholeFrame) (f : WholeFrame)
    → bytes_of fill (frames ++ f ∷ [])
    ≡ bytes_of fill frames ++ (replicate fill 150 ++ wire f.0 f.1)
unfolding bytes_of
bytes_more fill [] f = append-nil (replicate fill 150 ++ wire f.0 f.1)
bytes_more fill (g ∷ frames) f =
    ap (λ (x : List ℕ). (replicate fill 150 ++ wire g.0 g.1) ++ x) (bytes_more fill frames f)
    ∙ sym
    (append_assoc (replicate fill 150 ++ wire g.0 g.1) (bytes_of fill frames)
    (replicate fill 150 ++ wire f.0 f.1))

pub frame_written : (fill : ℕ) (sent : List WholeFrame) (f : Option Frame)
    → bytes_of fill (sent ++ option_to_list (option_map whole_frame f))
    ≡ bytes_of fill sent ++ frame_bytes fill f
frame_written fill sent None =
    ap (bytes_of fill) (append-nil sent) ∙ sym (append-nil (bytes_of fill sent))
frame_written fill sent (Some f) = bytes_more fill sent (whole_frame f)

-- ---- the parts of a turn

pub timer_done : (now : ℕ) (deadline : Option ℕ) (x : EndState)
    → after_calls_here (calls_of_timer now deadline x.core) x
    ≡ record x { core = core_at_deadline now deadline x.core }
unfolding after_calls_here
timer_done now deadline x = by (is_on x.core.station.timer && is_due now deadline)
  where
    by : (b : Bool)
        → after_calls_here (cond b (Expire ∷ []) []) x
        ≡ record x { core = cond b (core_after_expire x.core) x.core }
    by true = refl
    by false = refl

timer_shown : (now : ℕ) (deadline : Option ℕ) (x : EndState)
    → shown_in (calls_of_timer now deadline x.core) x ≡ []
unfolding shown_in
timer_shown now deadline x = by (is_on x.core.station.timer && is_due now deadline)
  where
    by : (b : Bool) → shown_in (cond b (Expire ∷ []) []) x ≡ []
    by true = refl
    by false = refl

-- an end after a message of its user
offered_to : List ℕ → EndState → EndState
offered_to offered x =
    record x {
      core = core_after_message offered x.core;
      given = (after_calls_here (calls_of_message offered x.core) x).given;
    }

message_done : (offered : List ℕ) (x : EndState)
    → after_calls_here (calls_of_message offered x.core) x ≡ offered_to offered x
unfolding after_calls_here offered_to
message_done offered x = by (is_user_asked x.core) refl
  where
    by : (b : Bool) → is_user_asked x.core ≡ b → after_calls_here (cond b (Send offered ∷ []) []) x
        ≡ record x {
          core = core_after_message offered x.core;
          given = (after_calls_here (cond b (Send offered ∷ []) []) x).given;
        }
    by true e = refl
    by false e =
        let none : may_send x.core.limits x.core.station offered ≡ false =
        sent_where_asked x.core.limits x.core.station offered
        ∙ ap
        (λ b. b && (nat_le 1 (length offered) && nat_le (length offered) x.core.limits.longest))
        e in
        ap
        (λ b. with_station
        (cond b (record x.core.station { out = x.core.station.out ++ offered ∷ [] })
        x.core.station) x) (sym none)

message_shown : (offered : List ℕ) (x : EndState)
    → shown_in (calls_of_message offered x.core) x ≡ calls_of_offer x.core offered
unfolding shown_in
message_shown offered x = by (is_user_asked x.core) refl
  where
    by : (b : Bool) → is_user_asked x.core ≡ b
        → shown_in (cond b (Send offered ∷ []) []) x
        ≡ cond b (Asked x.core.limits.longest offered ∷ []) []
    by true e = ap (λ b. cond b (Asked x.core.limits.longest offered ∷ []) [] ++ []) e
    by false e = refl

mail_done : (inbox : List (List ℕ)) (x : EndState) → x.core.station.inbox ≡ inbox
    → after_calls_here (replicate (length inbox) Take) x ≡ emptied x
unfolding after_calls_here
mail_done [] x e = sym (emptied-none x e)
mail_done (m ∷ inbox) x e =
    mail_done inbox (after_take_here x) (ap (drop 1) e) ∙ emptied-after-take x

mail_shown : (inbox : List (List ℕ)) (x : EndState) → x.core.station.inbox ≡ inbox
    → shown_in (replicate (length inbox) Take) x ≡ map Handed inbox
unfolding shown_in
mail_shown [] x e = refl
mail_shown (m ∷ inbox) x e =
    ap
    (λ (l : List (List ℕ)). map Handed (option_to_list (first_message l))
    ++ shown_in (replicate (length inbox) Take) (after_take_here x)) e
    ∙ ap (λ y. Handed m ∷ y) (mail_shown inbox (after_take_here x) (ap (drop 1) e))

-- ---- an end and a driven station go together

-- an end as it is driven
abbrev pub at_end : EndState → Option ℕ → List ℕ → List UserCall → Driving
at_end x deadline before seen =
    record { core = x.core; text = x.arrived; deadline = deadline; written = before; seen = seen }

-- These calls took an end, driven so far with these bytes and this that was seen, to a driven
-- station.
pub record Went (calls : List Call) (x : EndState) (before : List ℕ) (seen : List UserCall)
    (d : Driving) : Type 0 where
  pub deadline : Option ℕ
  pub more : List ℕ
  pub is : d
      ≡ at_end (after_calls_here calls x) deadline (before ++ more) (seen ++ shown_in calls x)
  pub wrote : written (after_calls_here calls x) ≡ written x ++ more
  pub syn : (after_calls_here calls x).syn ≡ x.syn

went_then : (a b : List Call) (x : EndState) (before : List ℕ) (seen : List UserCall)
    (d e : Driving) → (w : Went a x before seen d)
    → Went b (after_calls_here a x) (before ++ w.more) (seen ++ shown_in a x) e
    → Went (a ++ b) x before seen e
went_then a b x before seen d e w v = record {
  deadline = v.deadline;
  more = w.more ++ v.more;
  is =
      v.is
      ∙ ap
      (λ y. at_end y v.deadline ((before ++ w.more) ++ v.more)
      ((seen ++ shown_in a x) ++ shown_in b (after_calls_here a x))) (sym (calls_append a b x))
      ∙ ap
      (λ y. at_end (after_calls_here (a ++ b) x) v.deadline y
      ((seen ++ shown_in a x) ++ shown_in b (after_calls_here a x)))
      (append_assoc before w.more v.more)
      ∙ ap (λ y. at_end (after_calls_here (a ++ b) x) v.deadline (before ++ (w.more ++ v.more)) y)
      (append_assoc seen (shown_in a x) (shown_in b (after_calls_here a x))
      ∙ ap (λ y. seen ++ y) (sym (shown_append a b x)));
  wrote =
      ap written (calls_append a b x) ∙ v.wrote ∙ ap (λ y. y ++ v.more) w.wrote
      ∙ append_assoc (written x) w.more v.more;
  syn = ap (λ y. y.syn) (calls_append a b x) ∙ v.syn ∙ w.syn;
}

went_nowhere : (x : EndState) (deadline : Option ℕ) (before : List ℕ) (seen : List UserCall)
    → Went [] x before seen (at_end x deadline before seen)
unfolding after_calls_here shown_in
went_nowhere x deadline before seen = record {
  deadline = deadline;
  more = [];
  is =
      ap (λ y. at_end x deadline y seen) (sym (append-nil before))
      ∙ ap (λ y. at_end x deadline (before ++ []) y) (sym (append-nil seen));
  wrote = sym (append-nil (written x));
  syn = refl;
}

-- ---- up to the read

module _ (ms : ℕ) (turn : DriveTurn) (x : EndState) (deadline : Option ℕ) (before : List ℕ)
    (seen : List UserCall) where
  abbrev due : Option ℕ
  due = deadline_at ms turn.now x.core.station.timer deadline

  abbrev timed : EndState
  timed = record x { core = core_at_deadline turn.now due (core_after_take_arm x.core) }

  abbrev timer_calls : List Call
  timer_calls = Arm ∷ calls_of_timer turn.now due (core_after_take_arm x.core)

  abbrev message_calls : List Call
  message_calls = calls_of_message turn.offered timed.core

  abbrev frame : List ℕ
  frame = frame_bytes x.syn (next_frame (next (core_after_message turn.offered timed.core).station))

  timer_all : after_calls_here timer_calls x ≡ timed
  unfolding after_calls_here
  timer_all = timer_done turn.now due (after_arm_here x)

  timer_none : shown_in timer_calls x ≡ []
  unfolding shown_in
  timer_none = timer_shown turn.now due (after_arm_here x)

  poll_all : (y : EndState) → after_calls_here (Poll ∷ []) y ≡ after_poll_here y
  unfolding after_calls_here
  poll_all y = refl

  poll_none : (y : EndState) → shown_in (Poll ∷ []) y ≡ []
  unfolding shown_in
  poll_none y = refl

  abbrev all : List Call
  all = timer_calls ++ (message_calls ++ Poll ∷ [])

  before_all : after_calls_here all x ≡ after_poll_here (offered_to turn.offered timed)
  before_all =
      calls_append timer_calls (message_calls ++ Poll ∷ []) x
      ∙ ap (after_calls_here (message_calls ++ Poll ∷ [])) timer_all
      ∙ calls_append message_calls (Poll ∷ []) timed
      ∙ poll_all (after_calls_here message_calls timed)
      ∙ ap after_poll_here (message_done turn.offered timed)

  before_shown : shown_in all x ≡ calls_of_offer timed.core turn.offered
  before_shown =
      shown_append timer_calls (message_calls ++ Poll ∷ []) x
      ∙ ap (λ y. y ++ shown_in (message_calls ++ Poll ∷ []) (after_calls_here timer_calls x))
      timer_none
      ∙ ap (shown_in (message_calls ++ Poll ∷ [])) timer_all
      ∙ shown_append message_calls (Poll ∷ []) timed
      ∙ ap (λ y. shown_in message_calls timed ++ y)
      (poll_none (after_calls_here message_calls timed))
      ∙ append-nil (shown_in message_calls timed)
      ∙ message_shown turn.offered timed

  went_before : Went (calls_before_read ms turn (at_end x deadline before seen)) x before seen
      (before_read ms x.syn turn (at_end x deadline before seen))
  unfolding offered_to
  went_before = record {
    deadline = due;
    more = frame;
    is =
        ap (λ y. at_end y due (before ++ frame) (seen ++ calls_of_offer timed.core turn.offered))
        (sym before_all)
        ∙ ap (λ y. at_end (after_calls_here all x) due (before ++ frame) (seen ++ y))
        (sym before_shown);
    wrote =
        ap written before_all
        ∙ frame_written x.syn x.sent
        (next_frame (next (core_after_message turn.offered timed.core).station));
    syn = ap (λ y. y.syn) before_all;
  }

-- ---- the read

module _ (came : List ℕ) (x : EndState) (deadline : Option ℕ) (before : List ℕ)
    (seen : List UserCall) where
  abbrev fed : EndState
  fed = after_arrival_here came x

  abbrev read_calls : List Call
  read_calls = Arrive came ∷ replicate (length fed.core.station.inbox) Take

  abbrev read_to : EndState
  read_to = emptied fed

  read_all : after_calls_here read_calls x ≡ read_to
  unfolding after_calls_here
  read_all = mail_done fed.core.station.inbox fed refl

  abbrev read_sees : List UserCall
  read_sees = calls_of_notices (notices_of_piece x.arrived came x.core) ++ calls_of_mail fed.core

  read_shown : shown_in read_calls x ≡ read_sees
  unfolding shown_in
  read_shown =
      ap (λ y. calls_of_notices (notices_of_piece x.arrived came x.core) ++ y)
      (mail_shown fed.core.station.inbox fed refl)

  pub went_read : Went (calls_of_read came (at_end x deadline before seen)) x before seen
      (after_read came (at_end x deadline before seen))
  went_read = record {
    deadline = deadline;
    more = [];
    is =
        ap (λ y. at_end y deadline before (seen ++ read_sees)) (sym read_all)
        ∙ ap (λ y. at_end (after_calls_here read_calls x) deadline before (seen ++ y))
        (sym read_shown)
        ∙ ap
        (λ y. at_end (after_calls_here read_calls x) deadline y (seen ++ shown_in read_calls x))
        (sym (append-nil before));
    wrote = ap written read_all ∙ sym (append-nil (written x));
    syn = ap (λ y. y.syn) read_all;
  }

-- ---- turns

went_from : (syn : ℕ) (calls : ℕ → Driving → List Call) (after : ℕ → Driving → Driving)
    (x : EndState) (before : List ℕ) (seen : List UserCall) (d : Driving) (w : List Call)
    → (m : Went w x before seen d)
    → (let y = after_calls_here w x in
    Went (calls y.syn (at_end y m.deadline (before ++ m.more) (seen ++ shown_in w x))) y
    (before ++ m.more) (seen ++ shown_in w x)
    (after y.syn (at_end y m.deadline (before ++ m.more) (seen ++ shown_in w x))))
    → Went (w ++ calls x.syn d) x before seen (after x.syn d)
went_from syn calls after x before seen d w m v =
    let y = after_calls_here w x in
    let e = at_end y m.deadline (before ++ m.more) (seen ++ shown_in w x) in
    let b = before ++ m.more in
    let t = seen ++ shown_in w x in
    let one = subst (λ n. Went (calls n e) y b t (after n e)) m.syn v in
    let two = subst (λ z. Went (calls x.syn z) y b t (after x.syn z)) (sym m.is) one in
    went_then w (calls x.syn d) x before seen d (after x.syn d) m two

went_turn : (ms : ℕ) (turn : DriveTurn) (x : EndState) (deadline : Option ℕ) (before : List ℕ)
    (seen : List UserCall)
    → Went (calls_of_turn ms x.syn turn (at_end x deadline before seen)) x before seen
    (after_turn ms x.syn turn (at_end x deadline before seen))
went_turn ms turn x deadline before seen =
    let m = went_before ms turn x deadline before seen in
    let y = after_calls_here (calls_before_read ms turn (at_end x deadline before seen)) x in
    went_from x.syn (λ n d. calls_of_read turn.came d) (λ n d. after_read turn.came d) x before seen
    (before_read ms x.syn turn (at_end x deadline before seen))
    (calls_before_read ms turn (at_end x deadline before seen)) m
    (went_read turn.came y m.deadline (before ++ m.more)
    (seen ++ shown_in (calls_before_read ms turn (at_end x deadline before seen)) x))

pub went_turns : (ms : ℕ) (turns : List DriveTurn) (x : EndState) (deadline : Option ℕ)
    (before : List ℕ) (seen : List UserCall)
    → Went (calls_of_turns ms x.syn turns (at_end x deadline before seen)) x before seen
    (after_turns ms x.syn turns (at_end x deadline before seen))
unfolding calls_of_turns after_turns
went_turns ms [] x deadline before seen = went_nowhere x deadline before seen
went_turns ms (turn ∷ rest) x deadline before seen =
    let d = at_end x deadline before seen in
    let w = calls_of_turn ms x.syn turn d in
    let m = went_turn ms turn x deadline before seen in
    went_from x.syn (λ n e. calls_of_turns ms n rest e) (λ n e. after_turns ms n rest e)
    x before seen (after_turn ms x.syn turn d) w m
    (went_turns ms rest (after_calls_here w x) m.deadline (before ++ m.more) (seen ++ shown_in w x))

-- ---- a call of `drive`

halt_all : (y : EndState) → after_calls_here (Halt ∷ []) y ≡ after_call_here Halt y
unfolding after_calls_here
halt_all y = refl

halt_none : (y : EndState) → shown_in (Halt ∷ []) y ≡ []
unfolding shown_in
halt_none y = refl

went_halt : (y : EndState) (deadline : Option ℕ) (before : List ℕ) (seen : List UserCall)
    → Went (Halt ∷ []) y before seen
    (record (at_end y deadline before seen) { core = core_after_halt y.core })
went_halt y deadline before seen = record {
  deadline = deadline;
  more = [];
  is =
      ap (λ z. at_end z deadline before seen) (sym (halt_all y))
      ∙ ap (λ z. at_end (after_calls_here (Halt ∷ []) y) deadline z seen) (sym (append-nil before))
      ∙ ap (λ z. at_end (after_calls_here (Halt ∷ []) y) deadline (before ++ []) z)
      (sym (append-nil seen) ∙ ap (λ z. seen ++ z) (sym (halt_none y)));
  wrote = ap written (halt_all y) ∙ sym (append-nil (written y));
  syn = ap (λ z. z.syn) (halt_all y);
}

went_last : (ms : ℕ) (last : Option DriveTurn) (x : EndState) (deadline : Option ℕ)
    (before : List ℕ) (seen : List UserCall)
    → Went (calls_of_last ms last (at_end x deadline before seen)) x before seen
    (after_last ms x.syn last (at_end x deadline before seen))
went_last ms None x deadline before seen = went_nowhere x deadline before seen
went_last ms (Some turn) x deadline before seen =
    let d = at_end x deadline before seen in
    let m = went_before ms turn x deadline before seen in
    let y = after_calls_here (calls_before_read ms turn d) x in
    went_from x.syn (λ n e. Halt ∷ []) (λ n e. record e { core = core_after_halt e.core })
    x before seen (before_read ms x.syn turn d) (calls_before_read ms turn d) m
    (went_halt y m.deadline (before ++ m.more) (seen ++ shown_in (calls_before_read ms turn d) x))

pub went_drive : (call : DriveCall) (x : EndState)
    → Went (calls_of_drive x.syn call x.core x.arrived) x [] [] (driven x.syn call x.core x.arrived)
went_drive call x =
    let d = driving_from x.core x.arrived in
    let w = calls_of_turns call.milliseconds x.syn call.turns d in
    let m = went_turns call.milliseconds call.turns x None [] [] in
    went_from x.syn (λ n e. calls_of_last call.milliseconds call.last e)
    (λ n e. after_last call.milliseconds n call.last e) x [] []
    (after_turns call.milliseconds x.syn call.turns d) w m
    (went_last call.milliseconds call.last (after_calls_here w x) m.deadline ([] ++ m.more)
    ([] ++ shown_in w x))

-- with what was written and seen before
pub went_on : (call : DriveCall) (x : EndState) (deadline : Option ℕ) (before : List ℕ)
    (seen : List UserCall)
    → Went (calls_of_drive x.syn call x.core x.arrived) x before seen
    (after_drive x.syn call (at_end x deadline before seen))
went_on call x deadline before seen =
    let m = went_drive call x in
    record {
      deadline = m.deadline;
      more = m.more;
      is =
          ap (λ (e : Driving). record e { written = before ++ e.written; seen = seen ++ e.seen })
          m.is;
      wrote = m.wrote;
      syn = m.syn;
    }

pub went_drives : (calls : List DriveCall) (x : EndState) (deadline : Option ℕ) (before : List ℕ)
    (seen : List UserCall)
    → Went (calls_of_drives x.syn calls (at_end x deadline before seen)) x before seen
    (after_drives x.syn calls (at_end x deadline before seen))
unfolding calls_of_drives after_drives
went_drives [] x deadline before seen = went_nowhere x deadline before seen
went_drives (call ∷ rest) x deadline before seen =
    let d = at_end x deadline before seen in
    let w = calls_of_drive x.syn call x.core x.arrived in
    let m = went_on call x deadline before seen in
    went_from x.syn (λ n e. calls_of_drives n rest e) (λ n e. after_drives n rest e) x before seen
    (after_drive x.syn call d) w m
    (went_drives rest (after_calls_here w x) m.deadline (before ++ m.more) (seen ++ shown_in w x))

-- ---- from an end as it is

does : (calls : List Call) (x : EndState) (d : Driving) → Went calls x [] [] d → Does calls x d
does calls x d m = record {
  core = sym (ap (λ (e : Driving). e.core) m.is);
  text = sym (ap (λ (e : Driving). e.text) m.is);
  written = m.wrote ∙ ap (λ y. written x ++ y) (sym (ap (λ (e : Driving). e.written) m.is));
  seen = sym (ap (λ (e : Driving). e.seen) m.is);
}

pub turns_do : (ms : ℕ) (turns : List DriveTurn) (x : EndState)
    → Does (calls_of_turns ms x.syn turns (driving_from x.core x.arrived)) x
    (after_turns ms x.syn turns (driving_from x.core x.arrived))
turns_do ms turns x = does _ x _ (went_turns ms turns x None [] [])

pub drive_does : (call : DriveCall) (x : EndState)
    → Does (calls_of_drive x.syn call x.core x.arrived) x (driven x.syn call x.core x.arrived)
drive_does call x = does _ x _ (went_drive call x)
