-- How a served station begins, what its user was called for, and what came of the report.
use Rattle.std.proofs.Common.{◌≡◌, ◌∙◌, ap, sym, subst, refl, Bool, true, false, cond, ◌&&◌}
use Rattle.std.proofs.Common.{if◌then◌else◌, ℕ, ◌≤◌, List, [], ◌∷◌, ◌++◌, length, take, map, arith}
use Rattle.std.proofs.Common.{append-nil, Option, Result, Ok, Err}
use Rattle.std.proofs.lemmas.List.{take_all}
use Rattle.std.proofs.KnownBytes.{Appends-nil}
use Rattle.std.specs.Io.KnownBytes.{Appends}
use Rattle.ddcmp_core.specs.declared.notice.Notice.{Notice}
use Rattle.ddcmp_core.specs.Core.{CoreView}
use Rattle.ddcmp_core.specs.Table.{may_start, after_start, is_on}
use Rattle.ddcmp_frame.specs.Reader.{StandsFor}
use Rattle.ddcmp_io.specs.Written.{Known, HandsOver, HoldsBy, output_of}
use Rattle.ddcmp_io.proofs.WrittenLaws.{sends-then}
use Rattle.ddcmp_io.proofs.TextLaws.{sends-nothing}
use Rattle.ddcmp_proto.specs.declared.config.Config.{Config}
use Rattle.ddcmp_proto.specs.Bytes.{after_piece, notices_of_piece}
use Rattle.ddcmp_proto.proofs.FeedLaws.{after_piece-limits}
use Rattle.ddcmp_station.specs.declared.driver.Driven.{Driven}
use Rattle.ddcmp_io.specs.declared.device.LineFault.{LineFault}
use Rattle.ddcmp_io.specs.declared.device.LineFault.TheVariants.{Read, Write, Ended, Memory}
use Rattle.ddcmp_station.specs.Config.{core_made}
use Rattle.ddcmp_station.specs.Driving.{is_due, Devices, DriveTurn, Driving, Drives, EndsAtFault}
use Rattle.ddcmp_station.specs.Driving.{driving_from, after_turns, after_turn, before_read}
use Rattle.ddcmp_station.specs.Driving.{before_offer, core_at_deadline, core_after_expire}
use Rattle.ddcmp_station.specs.Driving.{deadline_at, core_after_take_arm}
use Rattle.ddcmp_station.specs.Station.{StationView}
use Rattle.ddcmp_station.specs.UserCalls.{UserCall, Asked, Told, Handed, Calls, is_user_asked}
use Rattle.ddcmp_station.specs.UserCalls.{calls_of_offer, calls_of_notices}
use Rattle.ddcmp_net.specs.Serving.{HasStarted, default_config, calls_text, OffersOnce, WritesOut}
use Rattle.ddcmp_net.specs.Inside.Reporting.{Leaves, Reports}
use Rattle.ddcmp_net.specs.declared.reporter.Reporter.{Reporter}

abbrev started : CoreView → CoreView
started k = record k { station = if may_start k.station then after_start k.station else k.station }

pub begun-of : (restart : Bool) (config : Config) (made begun : StationView)
    → config ≡ default_config restart
    → made.core ≡ core_made config → made.syn ≡ config.syn → StandsFor made.line []
    → begun
    ≡ record made {
      core = record made.core {
        station = if may_start made.core.station then after_start made.core.station else
            made.core.station;
      };
    }
    → HasStarted restart begun
begun-of restart config made begun e c s l b = record {
  core = ap (λ (v : StationView). v.core) b ∙ ap started (c ∙ ap core_made e);
  syn = ap (λ (v : StationView). v.syn) b ∙ s ∙ ap (λ (k : Config). k.syn) e;
  line = subst (λ (v : StationView). StandsFor v.line []) (sym b) l;
}

-- ---- the room that a user is asked with

-- each time that the user was asked, it had so much room
abbrev pub AreAskedWith : ℕ → List UserCall → Type 0
AreAskedWith n [] = Unit {0}
AreAskedWith n (Asked room message ∷ calls) = (room ≡ n) × AreAskedWith n calls
AreAskedWith n (Told notice ∷ calls) = AreAskedWith n calls
AreAskedWith n (Handed message ∷ calls) = AreAskedWith n calls

asked-then : (n : ℕ) (xs ys : List UserCall) → AreAskedWith n xs → AreAskedWith n ys
    → AreAskedWith n (xs ++ ys)
asked-then n [] ys p q = q
asked-then n (Asked room message ∷ xs) ys p q = (p.0, asked-then n xs ys p.1 q)
asked-then n (Told notice ∷ xs) ys p q = asked-then n xs ys p q
asked-then n (Handed message ∷ xs) ys p q = asked-then n xs ys p q

asked-told : (n : ℕ) (xs : List Notice) → AreAskedWith n (map Told xs)
asked-told n [] = tt
asked-told n (x ∷ xs) = asked-told n xs

asked-handed : (n : ℕ) (xs : List (List ℕ)) → AreAskedWith n (map Handed xs)
asked-handed n [] = tt
asked-handed n (x ∷ xs) = asked-handed n xs

asked-offer : (n : ℕ) (k : CoreView) (offered : List ℕ) → k.limits.longest ≡ n
    → AreAskedWith n (calls_of_offer k offered)
asked-offer n k offered e = by (is_user_asked k)
  where
    by : (b : Bool) → AreAskedWith n (cond b (Asked k.limits.longest offered ∷ []) [])
    by true = (e, tt)
    by false = tt

deadline-limits : (now : ℕ) (deadline : Option ℕ) (k : CoreView)
    → (core_at_deadline now deadline k).limits ≡ k.limits
deadline-limits now deadline k = by (is_on k.station.timer && is_due now deadline)
  where
    by : (b : Bool) → (cond b (core_after_expire k) k).limits ≡ k.limits
    by true = refl
    by false = refl

asked-before : (n ms syn : ℕ) (turn : DriveTurn) (d : Driving) → d.core.limits.longest ≡ n
    → AreAskedWith n d.seen → AreAskedWith n (before_read ms syn turn d).seen
asked-before n ms syn turn d e h =
    asked-then n d.seen _ h
    (asked-offer n (before_offer ms turn d) turn.offered
    (ap (λ l. l.longest) (offer-limits ms turn d) ∙ e))
  where
    offer-limits : (ms : ℕ) (turn : DriveTurn) (d : Driving)
        → (before_offer ms turn d).limits ≡ d.core.limits
    offer-limits ms turn d =
        deadline-limits turn.now (deadline_at ms turn.now d.core.station.timer d.deadline)
        (core_after_take_arm d.core)

read-limits : (ms syn : ℕ) (turn : DriveTurn) (d : Driving)
    → (before_read ms syn turn d).core.limits ≡ d.core.limits
read-limits ms syn turn d =
    deadline-limits turn.now (deadline_at ms turn.now d.core.station.timer d.deadline)
    (core_after_take_arm d.core)

asked-turn : (n ms syn : ℕ) (turn : DriveTurn) (d : Driving) → d.core.limits.longest ≡ n
    → AreAskedWith n d.seen → AreAskedWith n (after_turn ms syn turn d).seen
asked-turn n ms syn turn d e h =
    let b = before_read ms syn turn d in
    asked-then n b.seen _ (asked-before n ms syn turn d e h)
    (asked-then n (calls_of_notices (notices_of_piece b.text turn.came b.core)) _
    (asked-told n (notices_of_piece b.text turn.came b.core))
    (asked-handed n (after_piece b.text turn.came b.core).station.inbox))

turn-limits : (ms syn : ℕ) (turn : DriveTurn) (d : Driving)
    → (after_turn ms syn turn d).core.limits ≡ d.core.limits
turn-limits ms syn turn d =
    let b = before_read ms syn turn d in
    after_piece-limits b.text turn.came b.core ∙ read-limits ms syn turn d

asked-turns : (n ms syn : ℕ) (turns : List DriveTurn) (d : Driving) → d.core.limits.longest ≡ n
    → AreAskedWith n d.seen
    → AreAskedWith n (after_turns ms syn turns d).seen
    × ((after_turns ms syn turns d).core.limits.longest ≡ n)
unfolding after_turns
asked-turns n ms syn [] d e h = (h, e)
asked-turns n ms syn (turn ∷ turns) d e h =
    asked-turns n ms syn turns (after_turn ms syn turn d)
    (ap (λ l. l.longest) (turn-limits ms syn turn d) ∙ e) (asked-turn n ms syn turn d e h)

-- ---- what holds of the calls of a driven station holds in another form

weakens : (n ms count : ℕ) (old new : StationView) (devices : Devices)
    (saw saw' : List UserCall → Type 0) (fault : LineFault) → StandsFor old.line []
    → old.core.limits.longest ≡ n
    → ((calls : List UserCall) → AreAskedWith n calls → saw calls → saw' calls)
    → EndsAtFault ms count old new devices saw fault
    → EndsAtFault ms count old new devices saw' fault
weakens n ms count old new devices saw saw' fault s e f
    (turns, last, written, frame, sent, seen, few, part, h) =
    let t = asked-turns n ms old.syn turns (driving_from old.core []) e tt in (
      turns,
      last,
      written,
      frame,
      sent,
      seen,
      few,
      part,
      record {
        reads = h.reads;
        consumed = h.consumed;
        appended = h.appended;
        clocked = h.clocked;
        answered = h.answered;
        shown =
            f seen
            (subst (AreAskedWith n) (h.seen_is [] s)
            (asked-before n ms old.syn last
            (after_turns ms old.syn turns (driving_from old.core [])) t.1 t.0)) h.shown;
        syn = h.syn;
        limits = h.limits;
        offset = h.offset;
        stands = h.stands;
        core = h.core;
        written_is = h.written_is;
        frame_is = h.frame_is;
        seen_is = h.seen_is;
      },
    )

pub drives-as : (n ms count : ℕ) (old new : StationView) (devices : Devices)
    (saw saw' : List UserCall → Type 0) (answer : Result Driven LineFault) → StandsFor old.line []
    → old.core.limits.longest ≡ n
    → ((calls : List UserCall) → AreAskedWith n calls → saw calls → saw' calls)
    → Drives ms count old new devices saw answer → Drives ms count old new devices saw' answer
drives-as n ms count old new devices saw saw' (Ok driven) s e f
    (turns, written, seen, deadline, many, told, h) = (
      turns,
      written,
      seen,
      deadline,
      many,
      told,
      record {
        reads = h.reads;
        consumed = h.consumed;
        appended = h.appended;
        clocked = h.clocked;
        answered = h.answered;
        shown =
            f seen
            (subst (AreAskedWith n) (ap (λ d. d.seen) (h.driven_is [] s))
            (asked-turns n ms old.syn turns (driving_from old.core []) e tt).0) h.shown;
        syn = h.syn;
        limits = h.limits;
        offset = h.offset;
        stands = h.stands;
        driven_is = h.driven_is;
      },
    )
drives-as n ms count old new devices saw saw' (Err Read) s e f h =
    weakens n ms count old new devices saw saw' Read s e f h
drives-as n ms count old new devices saw saw' (Err Write) s e f h =
    weakens n ms count old new devices saw saw' Write s e f h
drives-as n ms count old new devices saw saw' (Err Ended) s e f h =
    weakens n ms count old new devices saw saw' Ended s e f h
drives-as n ms count old new devices saw saw' (Err Memory) s e f h = tt

-- ---- what a reporter did

-- By its calls it kept its sink, passed on their lines and sent its message once.
pub record Reported {P : Type 0} (broken : P → Bool) (contents : P → Known) (old new : Reporter P)
    (calls : List UserCall) : Type 0 where
  pub same_reference : new.report.ghost_name ≡ old.report.ghost_name
  pub sends : HandsOver (output_of broken contents old.report.now [])
      (output_of broken contents new.report.now []) (calls_text calls)
  pub offers : (n : ℕ) → length old.send.now ≤ n → AreAskedWith n calls
      → OffersOnce old.send.now calls

offers-more : (n : ℕ) (send left : List ℕ) (call : UserCall) (calls : List UserCall)
    → Leaves send call left → (length left ≤ n → AreAskedWith n calls → OffersOnce left calls)
    → length send ≤ n → AreAskedWith n (call ∷ calls) → OffersOnce send (call ∷ calls)
offers-more n send left (Asked room message) calls l rest w a = (
  l.0 ∙ ap (λ k. take k send) a.0 ∙ take_all n send w,
  subst (λ s. OffersOnce s calls) l.1
      (rest (subst (λ s. length s ≤ n) (sym l.1) (omega arith)) a.1),
)
offers-more n send left (Told notice) calls l rest w a =
    subst (λ s. OffersOnce s calls) l (rest (subst (λ s. length s ≤ n) (sym l) w) a)
offers-more n send left (Handed message) calls l rest w a =
    subst (λ s. OffersOnce s calls) l (rest (subst (λ s. length s ≤ n) (sym l) w) a)

pub reported : {P : Type 0} (broken : P → Bool) (contents : P → Known) (old new : Reporter P)
    (calls : List UserCall) → Calls (Reports broken contents) old new calls
    → Reported broken contents old new calls
unfolding Calls
reported broken contents old new [] h =
    subst (λ u. Reported broken contents old u []) h (record {
      same_reference = refl;
      sends = sends-nothing (output_of broken contents old.report.now []);
      offers = λ n w a. tt;
    })
reported broken contents old new (call ∷ calls) h =
    let r = reported broken contents h.0 new calls h.2 in
    record {
      same_reference = r.same_reference ∙ h.1.same_reference;
      sends = sends-then h.1.sends r.sends;
      offers =
          λ n w a. offers-more n old.send.now h.0.send.now call calls h.1.leaves (r.offers n) w a;
    }

-- all of a text that was passed on went out, or a beginning of it
pub goes-out : {P : Type 0} (broken : P → Bool) (contents : P → Known) (old new : P) (text : List ℕ)
    → broken old ≡ false
    → HandsOver (output_of broken contents old []) (output_of broken contents new []) text
    → WritesOut (broken new) (contents old) (contents new) text
goes-out broken contents old new text fine h =
    held (broken new)
    (h.holds (contents old) []
    (subst (λ b. HoldsBy b (contents old) (contents old) [] []) (sym fine)
    ([], Appends-nil (contents old), refl)))
  where
    held : (b : Bool) → HoldsBy b (contents old) (contents new) [] text
        → WritesOut b (contents old) (contents new) text
    held false g =
        subst (Appends (contents old) (contents new)) (sym (append-nil g.0) ∙ sym g.2) g.1
    held true g = g

-- What the calls of a reporter come to, where its report is then what `report` is and the text
-- after those of the calls is passed on too.
pub comes-to : {P : Type 0} (broken : P → Bool) (contents : P → Known) (begun ended : Reporter P)
    (given report after : P) (send text : List ℕ) (calls : List UserCall)
    → begun.report.now ≡ given → begun.send.now ≡ send → length send ≤ 1500 → broken given ≡ false
    → (begun.report.ghost_name ≡ ended.report.ghost_name → report ≡ ended.report.now)
    → HandsOver (output_of broken contents report []) (output_of broken contents after []) text
    → AreAskedWith 1500 calls → Calls (Reports broken contents) begun ended calls
    → OffersOnce send calls
    × WritesOut (broken after) (contents given) (contents after) (calls_text calls ++ text)
comes-to broken contents begun ended given report after send text calls is sends short fine tie more
    asked h =
    let r = reported broken contents begun ended calls h in (
      subst (λ s. OffersOnce s calls) sends
          (r.offers 1500 (subst (λ s. length s ≤ 1500) (sym sends) short) asked),
      goes-out broken contents given after (calls_text calls ++ text) fine
          (sends-then
          (subst
          (λ p. HandsOver (output_of broken contents p []) (output_of broken contents report [])
          (calls_text calls)) is
          (subst
          (λ p. HandsOver (output_of broken contents begun.report.now [])
          (output_of broken contents p []) (calls_text calls))
          (sym (tie (sym r.same_reference))) r.sends))
          more),
    )

pub comes-to-all : {P : Type 0} (broken : P → Bool) (contents : P → Known)
    (begun ended : Reporter P) (given after : P) (send : List ℕ) (calls : List UserCall)
    → begun.report.now ≡ given → begun.send.now ≡ send → length send ≤ 1500 → broken given ≡ false
    → (begun.report.ghost_name ≡ ended.report.ghost_name → after ≡ ended.report.now)
    → AreAskedWith 1500 calls → Calls (Reports broken contents) begun ended calls
    → OffersOnce send calls
    × WritesOut (broken after) (contents given) (contents after) (calls_text calls)
comes-to-all broken contents begun ended given after send calls is sends short fine tie asked h =
    subst
    (λ t. OffersOnce send calls × WritesOut (broken after) (contents given) (contents after) t)
    (append-nil (calls_text calls))
    (comes-to broken contents begun ended given after after send [] calls is sends short fine tie
    (sends-nothing (output_of broken contents after [])) asked h)

-- the room of a station of the default sizes
pub default-room : (restart : Bool) (v : StationView) → HasStarted restart v
    → v.core.limits.longest ≡ 1500
default-room restart v h = ap (λ k. k.limits.longest) h.core
