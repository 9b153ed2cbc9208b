-- The log of a tap, from its start to its end.
use Rattle.std.proofs.Common.{◌≡◌, ◌≢◌, ◌≤◌, ℕ, ◌+◌, ◌-◌, ◌==◌, List, [], ◌∷◌, ◌++◌, length, drop, take}
use Rattle.std.proofs.Common.{sym, ◌∙◌, ap, refl, subst, Bool, true, false, Option, Some, None}
use Rattle.std.proofs.Common.{arith, if◌then◌else◌, is_some, Result, Ok, Err, inl, inr, ◌⊎◌, ◌&&◌}
use Rattle.std.specs.Prelude.{⊤}
use Rattle.std.specs.Io.KnownBytes.{Appends}
use Rattle.std.proofs.KnownBytes.{Appends-nil, Appends-trans}
use Rattle.std.proofs.Math.ListN.{drop_of_length-le}
use Rattle.std.proofs.Math.Seq.{take-length}
use Rattle.ddcmp_frame.proofs.Tests.{eqb-true}
use Rattle.std.proofs.lemmas.List.{nil_from_length, append-nil, length-drop, take-append-drop, take-append-le}
use Rattle.std.proofs.lemmas.List.Elements.{All-cons, All-nil}
use Rattle.ddcmp_io.specs.Written.{AppendsPart, Known}
use Rattle.ddcmp_log.specs.declared.side.Side.TheVariants.{Caller, Called}
use Rattle.ddcmp_ports.specs.declared.port.Port.TheVariants.{Input, Output, Errors, First, Second}
use Rattle.ddcmp_ports.specs.Running.{AllAgree, Event, Gave, GoesOn, Held, Left, Passage, Passed, Rested}
use Rattle.ddcmp_ports.specs.Running.{Shut, Stopped, Told, Took, Trace}
use Rattle.ddcmp_tap.specs.Logging.{AreStamped, Piece, Says, WritesText, said, tap_text}
use Rattle.ddcmp_tap.specs.Tapping.{IsRest, PassesBetween, TapView, Taps, asked_of, end_of, last_lines}
use Rattle.ddcmp_tap.specs.Tapping.{log_of, moment_of, outcome_of, piece_of, pieces_of, stamp_of}
use Rattle.ddcmp_tap.specs.Tapping.{EndsItself, HasEnded, IsOwn}
use Rattle.ddcmp_tap.specs.declared.machine.TapPause.{TapPause}
use Rattle.ddcmp_tap.specs.declared.machine.TapPause.TheVariants.{Ended, Logging}
use Rattle.ddcmp_tap.specs.declared.tap_fault.CarrierFault.{CarrierFault}
use Rattle.ddcmp_tap.specs.declared.tap_fault.TapFault.{TapFault}
use Rattle.ddcmp_tap.specs.declared.tap_fault.TapFault.TheVariants.{Carrier, Read, Write, Report}
use Rattle.ddcmp_tap.specs.declared.tap_fault.TapFault.TheVariants.{Memory}
use Rattle.ddcmp_tap.specs.declared.tap_log.LogTimes.{LogTimes}
use Rattle.ddcmp_tap.specs.declared.tap_log.LogTimes.TheVariants.{Absent, Elapsed, OfDay}
use Rattle.ddcmp_tap.specs.declared.tap_log.TapLog.{TapLog}
use Rattle.ddcmp_tap.specs.Stamping.{IsStamp, stamp_in}
use Rattle.ddcmp_io.proofs.WrittenLaws.{part-append}
use Rattle.ddcmp_log.specs.Items.{HasTold}
use Rattle.ddcmp_tap.proofs.HeadLaws.{behind}
use Rattle.ddcmp_tap.proofs.PieceLaws.{log-grows, part-behind}

-- how it pauses and ends
pauses-by : (b : Bool) (fault : Option TapFault) (over : Bool)
    → (if b then end_of fault over else Some Logging) ≡ Some Logging → b ≡ false
pauses-by false fault over e = refl
pauses-by true (Some why) over e = cc
pauses-by true None true e = cc
pauses-by true None false e = cc

ends-by : (b : Bool) (fault : Option TapFault) (over : Bool) (ended : Result (Unit {0}) TapFault)
    → (if b then end_of fault over else Some Logging) ≡ Some (Ended ended)
    → (b ≡ true) × (end_of fault over ≡ Some (Ended ended))
ends-by true fault over ended e = (refl, e)
ends-by false fault over ended e = cc

pausing : (t : TapView) → outcome_of t ≡ Some Logging → (length t.text == 0) ≡ false
pausing t e = pauses-by (length t.text == 0) t.fault (t.up.over && t.down.over) e

ending : (t : TapView) (ended : Result (Unit {0}) TapFault) → outcome_of t ≡ Some (Ended ended)
    → ((length t.text == 0) ≡ true) × (end_of t.fault (t.up.over && t.down.over) ≡ Some (Ended ended))
ending t ended e = ends-by (length t.text == 0) t.fault (t.up.over && t.down.over) ended e

no-text : (text : List ℕ) → (length text == 0) ≡ true → text ≡ []
no-text text e = nil_from_length text (eqb-true (length text) 0 e)

-- A tap goes on: of its log so far so much was written.
pub record Going (log : TapLog) (t : TapView) (held : Held) (trace : Trace) (old new : Known)
    : Type 0 where
  pub history : List Event
  pub taps : Taps t history
  pub agrees : AllAgree history held trace
  pub same : t.log ≡ log
  pub wrote : Appends old new (take t.written (log_of t.log history))

pub starts : (log : TapLog) (t : TapView) (held : Held) (trace : Trace) (old : Known)
    → Taps t [] → AllAgree [] held trace → t.written ≡ 0 → t.log ≡ log
    → Going log t held trace old old
starts log t held trace old k agrees none same = record {
  history = [];
  taps = k;
  agrees = agrees;
  same = same;
  wrote = subst (λ n. Appends old old (take n (log_of t.log []))) (sym none) (Appends-nil old);
}

-- after a run
pub runs : (log : TapLog) (t t' : TapView) (held held' : Held) (trace trace' : Trace)
    (old new : Known)
    → GoesOn Taps asked_of t held trace t' held' trace' → Going log t held trace old new
    → Going log t' held' trace' old new
runs log t t' held held' trace trace' old new on k =
    let went = on.goes k.history k.taps k.agrees in
    let is-log : t'.log ≡ t.log = ap (λ a. a.0) on.same in
    let is-written : t'.written ≡ t.written = ap (λ a. a.1) on.same in
    let grown = log-grows t.log went.0 k.history in
    let longer : take t.written (log_of t.log (went.0 ++ k.history))
    ≡ take t.written (log_of t.log k.history) =
    ap (λ x. take t.written x) grown.1
    ∙ take-append-le t.written (log_of t.log k.history) grown.0 k.taps.written in
    record {
      history = went.0 ++ k.history;
      taps = went.1;
      agrees = went.2;
      same = is-log ∙ k.same;
      wrote = subst (λ x. Appends old new x)
          (sym (ap (λ l. take t'.written (log_of l (went.0 ++ k.history))) is-log
          ∙ ap (λ n. take n (log_of t.log (went.0 ++ k.history))) is-written ∙ longer)) k.wrote;
    }

-- a text that isn't empty is all the rest
rest-of : (fault : Option TapFault) (rest text : List ℕ) → (length text == 0) ≡ false
    → IsRest fault rest text → text ≡ rest
rest-of None rest text some is = is
rest-of (Some Read) rest text some is = is
rest-of (Some Write) rest text some is = is
rest-of (Some Memory) rest text some is =
    let bad : ◌≡◌ {A = Bool} true false = ap (λ x. length x == 0) (sym is) ∙ some in cc
rest-of (Some Report) rest text some is = absurd is
rest-of (Some (Carrier why)) rest text some is = absurd is

-- nothing is left
rest-none : (fault : Option TapFault) (rest before text : List ℕ) → IsRest fault before text
    → rest ≡ [] → IsRest fault rest []
rest-none None rest before text is none = sym none
rest-none (Some Read) rest before text is none = sym none
rest-none (Some Write) rest before text is none = sym none
rest-none (Some Memory) rest before text is none = refl
rest-none (Some Report) rest before text is none = absurd is
rest-none (Some (Carrier why)) rest before text is none = absurd is

-- all of a list
take-rest : (n : ℕ) (l text : List ℕ) → n ≤ length l → text ≡ drop n l
    → n + length text ≡ length l
take-rest n l text fits is =
    let shorter = ap (λ x. length x) is ∙ length-drop n l in omega arith

-- its lines were written
pub logged : (log : TapLog) (t t' : TapView) (held : Held) (trace : Trace) (old mid new : Known)
    → outcome_of t ≡ Some Logging → Appends mid new t.text
    → t' ≡ record t { text = []; written = t.written + length t.text }
    → Going log t held trace old mid → Going log t' held trace old new
logged log t t' held trace old mid new pauses wrote is k =
    let l = log_of t.log k.history in
    let rest = rest-of t.fault _ t.text (pausing t pauses) k.taps.rest in
    let whole = take-rest t.written l t.text k.taps.written rest in
    let after : Going log (record t { text = []; written = t.written + length t.text }) held trace old new =
    record {
      history = k.history;
      taps =
          record {
            moment = k.taps.moment;
            caller = k.taps.caller;
            called = k.taps.called;
            caller_ended = k.taps.caller_ended;
            called_ended = k.taps.called_ended;
            up = k.taps.up;
            down = k.taps.down;
            written = omega arith;
            rest = rest-none t.fault _ _ t.text k.taps.rest (drop_of_length-le l (omega arith));
          };
      agrees = k.agrees;
      same = k.same;
      wrote = subst (λ x. Appends old new x)
          (ap (λ x. take t.written l ++ x) rest ∙ take-append-drop t.written l
          ∙ sym (ap (λ n. take n l) whole ∙ take-length l))
          (Appends-trans old mid new (take t.written l) t.text k.wrote wrote);
    } in
    subst (λ x. Going log x held trace old new) (sym is) after

-- the milliseconds are logged if they are asked for
stamped-by : (times : LogTimes) (began now : ℕ) → IsStamp times (stamp_in times began now)
stamped-by Absent began now = tt
stamped-by Elapsed began now = tt
stamped-by OfDay began now = tt

stamped-all : (log : TapLog) (h : List Event) → AreStamped log.times (pieces_of log h)
stamped-all log [] = All-nil (λ (p : Piece). IsStamp log.times p.stamp)
stamped-all log (Gave First bytes ∷ h) =
    All-cons (λ (p : Piece). IsStamp log.times p.stamp) (piece_of Caller log (moment_of h) bytes)
    (pieces_of log h) (stamped-by log.times log.began (moment_of h)) (stamped-all log h)
stamped-all log (Gave Second bytes ∷ h) =
    All-cons (λ (p : Piece). IsStamp log.times p.stamp) (piece_of Called log (moment_of h) bytes)
    (pieces_of log h) (stamped-by log.times log.began (moment_of h)) (stamped-all log h)
stamped-all log (Gave Input bytes ∷ h) = stamped-all log h
stamped-all log (Gave Output bytes ∷ h) = stamped-all log h
stamped-all log (Gave Errors bytes ∷ h) = stamped-all log h
stamped-all log (Took q bytes ∷ h) = stamped-all log h
stamped-all log (Told q what ∷ h) = stamped-all log h
stamped-all log (Shut q ∷ h) = stamped-all log h
stamped-all log (Left q ∷ h) = stamped-all log h
stamped-all log (Passed now ∷ h) = stamped-all log h
stamped-all log (Rested ∷ h) = stamped-all log h
stamped-all log (Stopped ∷ h) = stamped-all log h

-- both sides have ended
both-over : (fault : Option TapFault) (up down : Bool)
    → end_of fault (up && down) ≡ Some (Ended (Ok tt)) → (up ≡ true) × (down ≡ true)
both-over (Some why) up down e = cc
both-over None true true e = (refl, refl)
both-over None true false e = cc
both-over None false down e = cc

pub passes : (t : TapView) (h : List Event) (held : Held) (trace : Trace)
    (result : Result (Unit {0}) TapFault) → Taps t h → AllAgree h held trace
    → (result ≡ Ok tt → (t.up.over ≡ true) × (t.down.over ≡ true))
    → (one two : Passage) → trace First ≡ Some one → trace Second ≡ Some two
    → PassesBetween (pieces_of t.log h) result one two
passes t h held trace result k agrees over one two first second =
    let one-agrees = agrees First one first in
    let two-agrees = agrees Second two second in
    record {
      held = held First;
      held_back = held Second;
      waiting = t.up.waiting;
      waiting_back = t.down.waiting;
      came = one-agrees.came ∙ ap (λ x. x ++ held First) (sym k.caller);
      gone = k.caller ∙ k.up.in_order ∙ ap (λ x. x ++ t.up.waiting) (sym two-agrees.gone);
      came_back = two-agrees.came ∙ ap (λ x. x ++ held Second) (sym k.called);
      gone_back =
          k.called ∙ k.down.in_order ∙ ap (λ x. x ++ t.down.waiting) (sym one-agrees.gone);
      done = λ ok.
          let up = k.up.over (over ok).0 in
          let down = k.down.over (over ok).1 in (
            up.0,
            down.0,
            one-agrees.whole ∙ k.up.at_end up.1 ∙ sym k.caller,
            two-agrees.whole ∙ k.down.at_end down.1 ∙ sym k.called,
            subst HasEnded (sym one-agrees.said) (k.caller_ended up.1),
            subst HasEnded (sym two-agrees.said) (k.called_ended down.1),
          );
    }

-- what a tap promises of its log and of both lines
abbrev pub Tapped : TapLog → Known → Known → Trace → Result (Unit {0}) TapFault → Type 0
Tapped log old new trace result =
    (says : Says [] log.notation log.times log.max old new result)
    × ((one two : Passage) → trace First ≡ Some one → trace Second ≡ Some two
    → PassesBetween says.pieces result one two)

tapped : (log : TapLog) (t : TapView) (h : List Event) (held : Held) (trace : Trace)
    (old new : Known) (result : Result (Unit {0}) TapFault)
    → Taps t h → AllAgree h held trace → t.log ≡ log
    → (result ≡ Ok tt → (t.up.over ≡ true) × (t.down.over ≡ true))
    → WritesText old new result
    (log_of t.log h ++ last_lines t (said Caller (pieces_of t.log h))
    (said Called (pieces_of t.log h)))
    → Tapped log old new trace result
tapped log t h held trace old new result k agrees same over wrote =
    subst (λ l. Tapped l old new trace result) same (
      record {
        pieces = pieces_of t.log h;
        stamp = stamp_of t;
        stamped = (stamped-all t.log h, stamped-by t.log.times t.log.began t.moment);
        wrote = wrote;
      },
      passes t h held trace result k agrees over,
    )

-- a log that was cut off
pub cut-off : (log : TapLog) (t : TapView) (h : List Event) (held : Held) (trace : Trace)
    (old new : Known) (fault : TapFault) → (fault ≡ Report) ⊎ (fault ≡ Memory)
    → Taps t h → AllAgree h held trace → t.log ≡ log → AppendsPart old new (log_of t.log h)
    → Tapped log old new trace (Err fault)
cut-off log t h held trace old new Report why k agrees same part =
    tapped log t h held trace old new (Err Report) k agrees same (λ ok. cc)
    (part-append old new (log_of t.log h) _ part)
cut-off log t h held trace old new Memory why k agrees same part =
    tapped log t h held trace old new (Err Memory) k agrees same (λ ok. cc)
    (part-append old new (log_of t.log h) _ part)
cut-off log t h held trace old new Read (inl e) k agrees same part = cc
cut-off log t h held trace old new Read (inr e) k agrees same part = cc
cut-off log t h held trace old new Write (inl e) k agrees same part = cc
cut-off log t h held trace old new Write (inr e) k agrees same part = cc
cut-off log t h held trace old new (Carrier why) (inl e) k agrees same part = cc
cut-off log t h held trace old new (Carrier why) (inr e) k agrees same part = cc

-- an allocation failed, or there were too many pauses
pub stops : (log : TapLog) (t : TapView) (held : Held) (trace : Trace) (old new : Known)
    → Going log t held trace old new → Tapped log old new trace (Err Memory)
stops log t held trace old new k =
    cut-off log t k.history held trace old new Memory (inr refl) k.taps k.agrees k.same
    (t.written, k.wrote)

part-of : (old new : Known) (fault : TapFault) (text : List ℕ) → (fault ≡ Report) ⊎ (fault ≡ Memory)
    → WritesText old new (Err fault) text → AppendsPart old new text
part-of old new Report text e w = w
part-of old new Memory text e w = w
part-of old new Read text (inl e) w = cc
part-of old new Read text (inr e) w = cc
part-of old new Write text (inl e) w = cc
part-of old new Write text (inr e) w = cc
part-of old new (Carrier why) text (inl e) w = cc
part-of old new (Carrier why) text (inr e) w = cc

-- its lines weren't written
pub unlogged : (log : TapLog) (t t' : TapView) (held : Held) (trace : Trace) (old mid new : Known)
    (fault : TapFault) → (fault ≡ Report) ⊎ (fault ≡ Memory) → outcome_of t ≡ Some Logging
    → WritesText mid new (Err fault) t.text
    → Going log t held trace old mid → Tapped log old new trace (Err fault)
unlogged log t t' held trace old mid new fault why pauses wrote k =
    let l = log_of t.log k.history in
    let rest = rest-of t.fault _ t.text (pausing t pauses) k.taps.rest in
    cut-off log t k.history held trace old new fault why k.taps k.agrees k.same
    (subst (λ x. AppendsPart old new x)
    (ap (λ x. take t.written l ++ x) rest ∙ take-append-drop t.written l)
    (part-behind old mid new (take t.written l) t.text k.wrote
    (part-of mid new fault t.text why wrote)))

-- all lines were written
whole-log : (fault : Option TapFault) (over : Bool) (ended : Result (Unit {0}) TapFault)
    (rest text : List ℕ) → end_of fault over ≡ Some (Ended ended) → ended ≢ Err Memory
    → IsRest fault rest text → text ≡ rest
whole-log None over ended rest text e n is = is
whole-log (Some Read) over ended rest text e n is = is
whole-log (Some Write) over ended rest text e n is = is
whole-log (Some Memory) over ended rest text e n is =
    let why : ended ≡ Err Memory = cc in absurd (n why)
whole-log (Some Report) over ended rest text e n is = absurd is
whole-log (Some (Carrier why)) over ended rest text e n is = absurd is

take-all : (n : ℕ) (l : List ℕ) → drop n l ≡ [] → take n l ≡ l
take-all n l none = sym (append-nil (take n l)) ∙ ap (λ x. take n l ++ x) (sym none) ∙ take-append-drop n l

-- with the last lines below it
pub ends : (log : TapLog) (t : TapView) (held : Held) (trace : Trace) (old mid new : Known)
    (ended result : Result (Unit {0}) TapFault) → outcome_of t ≡ Some (Ended ended)
    → ended ≢ Err Memory → (result ≡ Ok tt → ended ≡ Ok tt)
    → ((why : CarrierFault) → result ≢ Err (Carrier why))
    → ((up down : List ℕ) → HasTold t.up.log.frames t.up.log.items up
    → HasTold t.down.log.frames t.down.log.items down
    → WritesText mid new result (last_lines t up down))
    → Going log t held trace old mid → Tapped log old new trace result
ends log t held trace old mid new ended result is whole done carrier wrote k =
    let e = ending t ended is in
    let l = log_of t.log k.history in
    let none : drop t.written l ≡ [] =
    sym (whole-log t.fault _ ended _ t.text e.1 whole k.taps.rest) ∙ no-text t.text e.0 in
    tapped log t k.history held trace old new result k.taps k.agrees k.same
    (λ ok. both-over t.fault t.up.over t.down.over (e.1 ∙ ap (λ r. Some (Ended r)) (done ok)))
    (behind old mid new l _ result carrier
    (subst (λ x. Appends old mid x) (take-all t.written l none) k.wrote)
    (wrote _ _
    (subst (λ x. HasTold t.up.log.frames t.up.log.items x) (sym k.taps.caller) k.taps.up.logged)
    (subst (λ x. HasTold t.down.log.frames t.down.log.items x) (sym k.taps.called)
    k.taps.down.logged)))

abbrev IsMemory : Result (Unit {0}) TapFault → Type 0
IsMemory (Ok u) = ⊥
IsMemory (Err Read) = ⊥
IsMemory (Err Write) = ⊥
IsMemory (Err Report) = ⊥
IsMemory (Err (Carrier why)) = ⊥
IsMemory (Err Memory) = ⊤

-- whichever way it ends
pub ended-as : (log : TapLog) (t : TapView) (held : Held) (trace : Trace) (old mid new : Known)
    (ended result : Result (Unit {0}) TapFault) → outcome_of t ≡ Some (Ended ended)
    → (ended ≡ Err Memory → (result ≡ Err Memory) × (new ≡ mid))
    → (result ≡ Ok tt → ended ≡ Ok tt)
    → ((why : CarrierFault) → result ≢ Err (Carrier why))
    → (ended ≢ Err Memory → (up down : List ℕ) → HasTold t.up.log.frames t.up.log.items up
    → HasTold t.down.log.frames t.down.log.items down
    → WritesText mid new result (last_lines t up down))
    → Going log t held trace old mid → Tapped log old new trace result
ended-as log t held trace old mid new (Err Memory) result is memory done carrier wrote k =
    let m = memory refl in
    subst (λ r. Tapped log old new trace r) (sym m.0)
    (subst (λ x. Tapped log old x trace (Err Memory)) (sym m.1) (stops log t held trace old mid k))
ended-as log t held trace old mid new (Ok u) result is memory done carrier wrote k =
    let other : (Ok u) ≢ Err Memory = λ e. subst IsMemory (sym e) tt in
    ends log t held trace old mid new (Ok u) result is other done carrier (wrote other) k
ended-as log t held trace old mid new (Err Read) result is memory done carrier wrote k =
    let other : (Err Read) ≢ Err Memory = λ e. subst IsMemory (sym e) tt in
    ends log t held trace old mid new (Err Read) result is other done carrier (wrote other) k
ended-as log t held trace old mid new (Err Write) result is memory done carrier wrote k =
    let other : (Err Write) ≢ Err Memory = λ e. subst IsMemory (sym e) tt in
    ends log t held trace old mid new (Err Write) result is other done carrier (wrote other) k
ended-as log t held trace old mid new (Err Report) result is memory done carrier wrote k =
    let other : (Err Report) ≢ Err Memory = λ e. subst IsMemory (sym e) tt in
    ends log t held trace old mid new (Err Report) result is other done carrier (wrote other) k
ended-as log t held trace old mid new (Err (Carrier why)) result is memory done carrier wrote k =
    let other : (Err (Carrier why)) ≢ Err Memory = λ e. subst IsMemory (sym e) tt in
    ends log t held trace old mid new (Err (Carrier why)) result is other done carrier (wrote other) k

own-by : (fault : Option TapFault) (over : Bool) (ended : Result (Unit {0}) TapFault)
    → IsOwn fault → end_of fault over ≡ Some (Ended ended) → EndsItself ended
own-by None true ended is e =
    let why : ended ≡ Ok tt = cc in subst EndsItself (sym why) tt
own-by None false ended is e = cc
own-by (Some fault) over ended is e =
    let why : ended ≡ Err fault = cc in subst EndsItself (sym why) is

-- it ends by itself
pub own : (t : TapView) (ended : Result (Unit {0}) TapFault) → IsOwn t.fault
    → outcome_of t ≡ Some (Ended ended) → EndsItself ended
own t ended is e = own-by t.fault (t.up.over && t.down.over) ended is (ending t ended e).1
