-- The history of a tap, event by event.
use Rattle.std.proofs.Common.{◌≡◌, ◌≤◌, ℕ, ◌+◌, List, [], ◌∷◌, ◌++◌, length, drop, take, sym, ◌∙◌, ap}
use Rattle.std.proofs.Common.{refl, subst, Bool, true, false, Option, Some, None, if◌then◌else◌}
use Rattle.std.proofs.Common.{arith, is_some, not}
use Rattle.std.proofs.lemmas.List.{drop-append-le, length-append}
use Rattle.ddcmp_log.specs.declared.side.Side.{Side}
use Rattle.ddcmp_log.specs.declared.side.Stamp.{Stamp}
use Rattle.ddcmp_tap.specs.Stamping.{stamp_at}
use Rattle.ddcmp_log.specs.declared.side.Side.TheVariants.{Caller, Called}
use Rattle.ddcmp_log.specs.Items.{HasTold}
use Rattle.ddcmp_log.specs.Logged.{items_added, logged_lines}
use Rattle.ddcmp_ports.specs.declared.port.Down.{Down}
use Rattle.ddcmp_ports.specs.declared.port.Need.{Need}
use Rattle.ddcmp_ports.specs.declared.port.Need.TheVariants.{Bytes, Closing, Nothing, Opening, Shutting}
use Rattle.ddcmp_ports.specs.declared.port.News.TheVariants.{Ended}
use Rattle.ddcmp_ports.specs.declared.port.Port.{Port}
use Rattle.ddcmp_ports.specs.declared.port.Port.TheVariants.{Input, Output, Errors, First, Second}
use Rattle.ddcmp_ports.specs.Running.{Event, Gave, Passed, Shut, Told, Took, taken, used, used_whole}
use Rattle.ddcmp_tap.specs.Forwarding.{DirectionView, Forwards, IsOf, ends, need_of, reads, room_of}
use Rattle.ddcmp_tap.specs.Logging.{Piece, pieces_text, said}
use Rattle.ddcmp_tap.specs.Tapping.{IsRest, TapView, Taps, log_of, moment_of, needs_of, piece_of, stamp_of}
use Rattle.ddcmp_tap.specs.Tapping.{pieces_of}
use Rattle.ddcmp_tap.specs.declared.tap_fault.TapFault.{TapFault}
use Rattle.ddcmp_tap.specs.declared.tap_fault.TapFault.TheVariants.{Memory}
use Rattle.ddcmp_tap.proofs.PieceLaws.{lines-as, said-called, said-caller, said-more, said-none}
use Rattle.ddcmp_tap.proofs.PieceLaws.{text-more, text-none}

pub true-false : {A : Type 0} (b : Bool) → b ≡ false → b ≡ true → A
true-false b f t = let bad : ◌≡◌ {A = Bool} true false = sym t ∙ f in cc

-- A direction takes bytes.
abbrev pub Takes : DirectionView → DirectionView → List ℕ → Type 0
Takes old new bytes = (came gone whole : List ℕ) → Forwards old came gone whole
    → Forwards new (came ++ bytes) gone whole

-- what is to be logged of a piece
abbrev pub lines_of : TapView → Side → Option Stamp → List ℕ → List ℕ → List ℕ
lines_of t side stamp told bytes =
    logged_lines t.log.notation stamp side (items_added t.log.max told bytes)

-- the log and the lines of one more piece
module _ (t : TapView) (h : List Event) (p : Piece) where
  abbrev lines : List ℕ
  lines = lines_of t p.side p.stamp (said p.side (pieces_of t.log h)) p.bytes

  log-more : pieces_text t.log.notation t.log.max (p ∷ pieces_of t.log h)
      ≡ log_of t.log h ++ lines
  log-more = text-more t.log.notation t.log.max p (pieces_of t.log h)

  longer : t.written ≤ length (log_of t.log h)
      → t.written ≤ length (pieces_text t.log.notation t.log.max (p ∷ pieces_of t.log h))
  longer fits =
      let more = ap (λ x. length x) log-more ∙ length-append (log_of t.log h) lines in
      omega arith

  rest-more : t.written ≤ length (log_of t.log h)
      → drop t.written (pieces_text t.log.notation t.log.max (p ∷ pieces_of t.log h))
      ≡ drop t.written (log_of t.log h) ++ lines
  rest-more fits =
      ap (λ x. drop t.written x) log-more ∙ drop-append-le t.written (log_of t.log h) lines fits

rest-none : (fault : Option TapFault) (rest text : List ℕ) → fault ≡ None → IsRest fault rest text
    → text ≡ rest
rest-none fault rest text none is = subst (λ f. IsRest f rest text) none is

none-rest : (fault : Option TapFault) (rest text : List ℕ) → fault ≡ None → text ≡ rest
    → IsRest fault rest text
none-rest fault rest text none is = subst (λ f. IsRest f rest text) (sym none) is

pub gave-first : (t : TapView) (up : DirectionView) (text bytes : List ℕ) (h : List Event)
    → t.fault ≡ None → IsOf Caller t.log.notation t.log.max t.up.log
    → Takes t.up up bytes → up.ended ≡ false
    → (stamp : Option Stamp) → stamp ≡ stamp_of t
    → ((came : List ℕ) → HasTold t.up.log.frames t.up.log.items came
    → text ≡ t.text ++ logged_lines t.up.log.notation stamp t.up.log.side
    (items_added t.up.log.frames.max came bytes))
    → Taps t h → Taps (record t { up = up; text = text }) (Gave First bytes ∷ h)
gave-first t up text bytes h none is takes going stamp stamped lines k =
    let p = piece_of Caller t.log (moment_of h) bytes in
    let is-moment = stamped ∙ ap (λ m. stamp_at t.log m) k.moment in
    record {
      moment = k.moment;
      caller = said-more Caller p.stamp bytes (pieces_of t.log h) ∙ ap (λ x. x ++ bytes) k.caller;
      called = said-called p.stamp bytes (pieces_of t.log h) ∙ k.called;
      up = takes (used First h) (taken Second h) (used_whole First h) k.up;
      down = k.down;
      caller_ended = λ e. true-false up.ended going e;
      called_ended = k.called_ended;
      written = longer t h p k.written;
      rest = none-rest t.fault _ text none
          (lines (used First h) k.up.logged
          ∙ ap (λ x. t.text ++ x)
          (lines-as Caller t.log.notation t.log.max _ t.up.log (used First h) bytes is
          ∙ ap (λ s. lines_of t Caller s (used First h) bytes) is-moment
          ∙ ap (λ x. lines_of t Caller p.stamp x bytes) (sym k.caller))
          ∙ ap (λ x. x ++ lines_of t Caller p.stamp (said Caller (pieces_of t.log h)) bytes)
          (rest-none t.fault _ t.text none k.rest)
          ∙ sym (rest-more t h p k.written));
    }

pub gave-second : (t : TapView) (down : DirectionView) (text bytes : List ℕ) (h : List Event)
    → t.fault ≡ None → IsOf Called t.log.notation t.log.max t.down.log
    → Takes t.down down bytes → down.ended ≡ false
    → (stamp : Option Stamp) → stamp ≡ stamp_of t
    → ((came : List ℕ) → HasTold t.down.log.frames t.down.log.items came
    → text ≡ t.text ++ logged_lines t.down.log.notation stamp t.down.log.side
    (items_added t.down.log.frames.max came bytes))
    → Taps t h → Taps (record t { down = down; text = text }) (Gave Second bytes ∷ h)
gave-second t down text bytes h none is takes going stamp stamped lines k =
    let p = piece_of Called t.log (moment_of h) bytes in
    let is-moment = stamped ∙ ap (λ m. stamp_at t.log m) k.moment in
    record {
      moment = k.moment;
      caller = said-caller p.stamp bytes (pieces_of t.log h) ∙ k.caller;
      called = said-more Called p.stamp bytes (pieces_of t.log h) ∙ ap (λ x. x ++ bytes) k.called;
      up = k.up;
      down = takes (used Second h) (taken First h) (used_whole Second h) k.down;
      caller_ended = k.caller_ended;
      called_ended = λ e. true-false down.ended going e;
      written = longer t h p k.written;
      rest = none-rest t.fault _ text none
          (lines (used Second h) k.down.logged
          ∙ ap (λ x. t.text ++ x)
          (lines-as Called t.log.notation t.log.max _ t.down.log (used Second h) bytes is
          ∙ ap (λ s. lines_of t Called s (used Second h) bytes) is-moment
          ∙ ap (λ x. lines_of t Called p.stamp x bytes) (sym k.called))
          ∙ ap (λ x. x ++ lines_of t Called p.stamp (said Called (pieces_of t.log h)) bytes)
          (rest-none t.fault _ t.text none k.rest)
          ∙ sym (rest-more t h p k.written));
    }

-- an allocation failed
pub lost-first : (t : TapView) (up : DirectionView) (text bytes : List ℕ) (h : List Event)
    → text ≡ [] → Takes t.up up bytes → up.ended ≡ false → Taps t h
    → Taps (record t { up = up; text = text; fault = Some Memory }) (Gave First bytes ∷ h)
lost-first t up text bytes h none takes going k =
    let p = piece_of Caller t.log (moment_of h) bytes in
    record {
      moment = k.moment;
      caller = said-more Caller p.stamp bytes (pieces_of t.log h) ∙ ap (λ x. x ++ bytes) k.caller;
      called = said-called p.stamp bytes (pieces_of t.log h) ∙ k.called;
      up = takes (used First h) (taken Second h) (used_whole First h) k.up;
      down = k.down;
      caller_ended = λ e. true-false up.ended going e;
      called_ended = k.called_ended;
      written = longer t h p k.written;
      rest = none;
    }

pub lost-second : (t : TapView) (down : DirectionView) (text bytes : List ℕ) (h : List Event)
    → text ≡ [] → Takes t.down down bytes → down.ended ≡ false → Taps t h
    → Taps (record t { down = down; text = text; fault = Some Memory }) (Gave Second bytes ∷ h)
lost-second t down text bytes h none takes going k =
    let p = piece_of Called t.log (moment_of h) bytes in
    record {
      moment = k.moment;
      caller = said-caller p.stamp bytes (pieces_of t.log h) ∙ k.caller;
      called = said-more Called p.stamp bytes (pieces_of t.log h) ∙ ap (λ x. x ++ bytes) k.called;
      up = k.up;
      down = takes (used Second h) (taken First h) (used_whole Second h) k.down;
      caller_ended = k.caller_ended;
      called_ended = λ e. true-false down.ended going e;
      written = longer t h p k.written;
      rest = none;
    }

pub took-first : (t : TapView) (down : DirectionView) (bytes : List ℕ) (h : List Event)
    → ((came gone whole : List ℕ) → Forwards t.down came gone whole
    → Forwards down came (gone ++ bytes) whole)
    → down.ended ≡ t.down.ended → Taps t h → Taps (record t { down = down }) (Took First bytes ∷ h)
took-first t down bytes h took same k = record {
  moment = k.moment;
  caller = k.caller;
  called = k.called;
  up = k.up;
  down = took (used Second h) (taken First h) (used_whole Second h) k.down;
  caller_ended = k.caller_ended;
  called_ended = λ e. k.called_ended (sym same ∙ e);
  written = k.written;
  rest = k.rest;
}

pub took-second : (t : TapView) (up : DirectionView) (bytes : List ℕ) (h : List Event)
    → ((came gone whole : List ℕ) → Forwards t.up came gone whole
    → Forwards up came (gone ++ bytes) whole)
    → up.ended ≡ t.up.ended → Taps t h → Taps (record t { up = up }) (Took Second bytes ∷ h)
took-second t up bytes h took same k = record {
  moment = k.moment;
  caller = k.caller;
  called = k.called;
  up = took (used First h) (taken Second h) (used_whole First h) k.up;
  down = k.down;
  caller_ended = λ e. k.caller_ended (sym same ∙ e);
  called_ended = k.called_ended;
  written = k.written;
  rest = k.rest;
}

-- what is reported of a port changes nothing, but that a side has sent no more
pub told-ended : (t : TapView) (p : Port) (why : Down) (h : List Event) → Taps t h
    → Taps t (Told p (Ended why) ∷ h)
told-ended t First why h k = record {
  moment = k.moment;
  caller = k.caller;
  called = k.called;
  up = record {
    in_order = k.up.in_order;
    logged = k.up.logged;
    at_end = λ ended. refl;
    over = k.up.over;
  };
  down = k.down;
  caller_ended = λ e. tt;
  called_ended = k.called_ended;
  written = k.written;
  rest = k.rest;
}
told-ended t Second why h k = record {
  moment = k.moment;
  caller = k.caller;
  called = k.called;
  up = k.up;
  down = record {
    in_order = k.down.in_order;
    logged = k.down.logged;
    at_end = λ ended. refl;
    over = k.down.over;
  };
  caller_ended = k.caller_ended;
  called_ended = λ e. tt;
  written = k.written;
  rest = k.rest;
}
told-ended t Input why h k = record {
  moment = k.moment;
  caller = k.caller;
  called = k.called;
  up = k.up;
  down = k.down;
  caller_ended = k.caller_ended;
  called_ended = k.called_ended;
  written = k.written;
  rest = k.rest;
}
told-ended t Output why h k = record {
  moment = k.moment;
  caller = k.caller;
  called = k.called;
  up = k.up;
  down = k.down;
  caller_ended = k.caller_ended;
  called_ended = k.called_ended;
  written = k.written;
  rest = k.rest;
}
told-ended t Errors why h k = record {
  moment = k.moment;
  caller = k.caller;
  called = k.called;
  up = k.up;
  down = k.down;
  caller_ended = k.caller_ended;
  called_ended = k.called_ended;
  written = k.written;
  rest = k.rest;
}

-- where bytes are needed it hasn't failed
idle : (fault : Option TapFault) (n : Need)
    → (if is_some fault then Closing else n) ≡ Bytes → fault ≡ None
idle None n e = refl
idle (Some f) n e = cc

pub bytes-first : (t : TapView) → needs_of t First ≡ Bytes → t.fault ≡ None
bytes-first t e = idle t.fault (need_of t.up t.down) e

pub bytes-second : (t : TapView) → needs_of t Second ≡ Bytes → t.fault ≡ None
bytes-second t e = idle t.fault (need_of t.down t.up) e

-- Its lines are open.
no-opening : {A : Type 0} (b c d : Bool)
    → (if b then Closing else if c then Shutting else if d then Bytes else Nothing) ≡ Opening → A
no-opening true c d e = cc
no-opening false true d e = cc
no-opening false false true e = cc
no-opening false false false e = cc

pub never-opens : {A : Type 0} (t : TapView) (p : Port) → needs_of t p ≡ Opening → A
never-opens t First e = no-opening (is_some t.fault) (ends t.down) (reads t.up) e
never-opens t Second e = no-opening (is_some t.fault) (ends t.up) (reads t.down) e
never-opens t Input e = cc
never-opens t Output e = cc
never-opens t Errors e = cc

pub is-logged : (b : Bool) → not b ≡ false → b ≡ true
is-logged true e = refl
is-logged false e = cc
