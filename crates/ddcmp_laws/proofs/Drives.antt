-- What the contract of `drive` says is that the station was driven by a call of it.
use Rattle.std.proofs.Common.{◌≡◌, ◌≢◌, ℕ, List, [], ◌∷◌, ◌++◌, drop, refl, sym, ◌∙◌, ap}
use Rattle.std.proofs.Common.{append_assoc, append-nil, Some, None, Ok, Err}
use Rattle.std.specs.Prelude.{Result}
use Rattle.std.proofs.lemmas.List.{take-append-drop}
use Rattle.ddcmp_station.specs.UserCalls.{UserCall}
use Rattle.ddcmp_station.specs.declared.driver.Driven.{Driven}
use Rattle.ddcmp_io.specs.declared.device.LineFault.{LineFault}
use Rattle.ddcmp_io.specs.declared.device.LineFault.TheVariants.{Read, Write, Ended, Memory}
use Rattle.ddcmp_station.specs.Driving.{DriveTurn, Driving, Devices, driving_from, after_turn}
use Rattle.ddcmp_station.specs.Driving.{after_turns, bytes_read, IsSentPart, EndsAtFault, Drives}
use Rattle.ddcmp_proto.specs.Station.{StationView}
use Rattle.ddcmp_laws.specs.Prefix.{Begins}
use Rattle.ddcmp_laws.specs.Driven.{DriveCall, IsDriven}

text_after : (ms syn : ℕ) (turns : List DriveTurn) (d : Driving)
    → (after_turns ms syn turns d).text ≡ d.text ++ bytes_read turns
unfolding after_turns
text_after ms syn [] d = sym (append-nil d.text)
text_after ms syn (turn ∷ rest) d =
    text_after ms syn rest (after_turn ms syn turn d)
    ∙ append_assoc d.text turn.came (bytes_read rest)

sent_begins : (fault : LineFault) (sent frame : List ℕ) → IsSentPart fault sent frame
    → Begins sent frame
sent_begins Read sent frame h = ([], append-nil sent ∙ h)
sent_begins Write sent frame h =
    (drop h.0 frame, ap (λ x. x ++ drop h.0 frame) h.1 ∙ take-append-drop h.0 frame)
sent_begins Ended sent frame h = ([], append-nil sent ∙ h)
sent_begins Memory sent frame h = absurd h

broke_off : (ms count : ℕ) (old new : StationView) (devices : Devices)
    (saw : List UserCall → Type 0) (fault : LineFault)
    → EndsAtFault ms count old new devices saw fault
    → (call : DriveCall) × IsDriven ms call old new devices saw
broke_off ms count old new devices saw fault
    (turns, last, written, frame, sent, seen, short, part, b) =
    let begins = sent_begins fault sent frame part in
    let call : DriveCall = record { milliseconds = ms; turns = turns; last = Some last } in (
      call,
      record {
        timer = refl;
        sent = written ++ sent;
        seen = seen;
        consumed = b.consumed;
        appended = b.appended;
        shown = b.shown;
        syn = b.syn;
        stands = b.stands;
        core = λ text s. sym (b.core text s);
        text = λ text s. text_after ms old.syn turns (driving_from old.core text);
        written =
            λ text
            s. (
              begins.0,
              append_assoc written sent begins.0 ∙ ap (λ x. written ++ x) begins.1
                  ∙ sym (b.frame_is text s),
            );
        seen_is = b.seen_is;
      },
    )

pub drives_by_a_call : (ms count : ℕ) (old new : StationView) (devices : Devices)
    (saw : List UserCall → Type 0) (answer : Result Driven LineFault) → answer ≢ Err Memory
    → Drives ms count old new devices saw answer
    → (call : DriveCall) × IsDriven ms call old new devices saw
drives_by_a_call ms count old new devices saw (Ok told) n
    (turns, written, seen, deadline, many, tells, t) =
    let call : DriveCall = record { milliseconds = ms; turns = turns; last = None } in (
      call,
      record {
        timer = refl;
        sent = written;
        seen = seen;
        consumed = t.consumed;
        appended = t.appended;
        shown = t.shown;
        syn = t.syn;
        stands = t.stands;
        core = λ text s. ap (λ (d : Driving). d.core) (t.driven_is text s);
        text = λ text s. ap (λ (d : Driving). d.text) (t.driven_is text s);
        written =
            λ text
            s. (
              [],
              append-nil written
                  ∙ sym (ap (λ (d : Driving). d.written) (t.driven_is text s)),
            );
        seen_is = λ text s. ap (λ (d : Driving). d.seen) (t.driven_is text s);
      },
    )
drives_by_a_call ms count old new devices saw (Err Read) n h =
    broke_off ms count old new devices saw Read h
drives_by_a_call ms count old new devices saw (Err Write) n h =
    broke_off ms count old new devices saw Write h
drives_by_a_call ms count old new devices saw (Err Ended) n h =
    broke_off ms count old new devices saw Ended h
drives_by_a_call ms count old new devices saw (Err Memory) n h = absurd (n refl)
