-- Two links over lines that lose nothing from some moment on: what is in flight between them, and
-- when all is delivered.
use Rattle.std.specs.Prelude.{◌≡◌, ℕ, List, [], ◌∷◌, ◌++◌, length, drop, None}
use Rattle.ddcmp_frame.specs.Reader.{ReaderView}
use Rattle.ddcmp_proto.specs.Config.{first_refusal}
use Rattle.ddcmp_proto.specs.declared.config.Config.{Config}
use Rattle.ddcmp_io.specs.declared.carrier.End.{End}
use Rattle.ddcmp_io.specs.declared.carrier.End.TheVariants.{A, B}
use Rattle.ddcmp_pair.specs.declared.event.Event.{Event}
use Rattle.ddcmp_pair.specs.Run.{PairState, run, new_pair}
use Rattle.ddcmp_laws.specs.LossFree.{Line, ComesFirst, IsWhole}
use Rattle.ddcmp_laws.specs.Rests.{IsUnderWay}
use Rattle.ddcmp_laws.specs.PairCalls.{events_in}
use Rattle.ddcmp_laws.specs.Links.{LinkCall, LinkStep, Links, link_at, HasDone, used_by, gone_by}
use Rattle.ddcmp_laws.specs.Links.{after_step_at, after_steps, new_links}
use Rattle.ddcmp_laws.specs.LinkLines.{AreLinkCalls, calls_of_steps, LinkIsDelivered}

-- ---- what is in flight

-- Two links, and the bytes in flight to each: the other has written them to its line, and it hasn't
-- used them yet.
pub record LinkLine : Type 0 where
  pub links : Links
  pub to_a : List ℕ
  pub to_b : List ℕ

-- what a step does on a line
abbrev pub after_on_links : End → LinkStep → LinkLine → LinkLine
after_on_links A step l = record {
  links = after_step_at A step l.links;
  to_a = drop (length (used_by step.call)) l.to_a;
  to_b = l.to_b ++ gone_by step.call l.links.a.link;
}
after_on_links B step l = record {
  links = after_step_at B step l.links;
  to_a = l.to_a ++ gone_by step.call l.links.b.link;
  to_b = drop (length (used_by step.call)) l.to_b;
}

unfoldable pub run_on_links : List (End × LinkStep) → LinkLine → LinkLine
run_on_links [] l = l
run_on_links (step ∷ rest) l = run_on_links rest (after_on_links step.0 step.1 l)

-- the bytes that a call uses are a prefix of those in flight
abbrev pub UsesTheFirst : End → LinkCall → LinkLine → Type 0
UsesTheFirst A call l = ComesFirst (used_by call) l.to_a
UsesTheFirst B call l = ComesFirst (used_by call) l.to_b

-- Each step is a call of one of the links, which does what its contract states, and nothing is
-- lost.
abbrev pub LinksLoseNothing : List (End × LinkStep) → LinkLine → Type 0
LinksLoseNothing [] l = Unit {0}
LinksLoseNothing (step ∷ rest) l =
    HasDone step.1.call (link_at step.0 l.links).used (link_at step.0 l.links).link step.1.link
    × UsesTheFirst step.0 step.1.call l
    × LinksLoseNothing rest (after_on_links step.0 step.1 l)

-- ---- the line of their stations

-- the events of these calls of links
abbrev pub events_of_steps : List (End × LinkStep) → Links → List Event
events_of_steps steps p = events_in (calls_of_steps steps p)

-- The line between the two stations as a pair: bytes queued in an outbox are in flight, too.
abbrev pub line_of : PairState → LinkLine → Line
line_of p l = record {
  pair = p;
  to_a = l.to_a ++ l.links.b.link.outbox.waiting;
  to_b = l.to_b ++ l.links.a.link.outbox.waiting;
}

-- The line of the stations of two new links after these steps, with these bytes in flight.
abbrev pub line_after : Config → Config → List (End × LinkStep) → Links → List ℕ → List ℕ → Line
line_after first second steps p to_a to_b =
    line_of (run (events_of_steps steps p) (new_pair first second))
    (record { links = after_steps steps p; to_a = to_a; to_b = to_b })

-- ---- two links under way

-- A promise about two links under way: these steps led to them from two new links of any sizes in
-- range, and these bytes are in flight to each. Anything may have been lost before, but the line
-- was honest, neither started twice, neither is halted, and what is in flight arrives whole.
abbrev pub IsKeptUnderWay : (Line → LinkLine → Type 0) → Type 0
IsKeptUnderWay Promise = (first second : Config) (milliseconds other_milliseconds : ℕ)
    (line other_line : ReaderView) (before : List (End × LinkStep)) (to_a to_b : List ℕ)
    → first_refusal first ≡ None → first_refusal second ≡ None
    → AreLinkCalls before
    (new_links first milliseconds line second other_milliseconds other_line)
    → IsWhole (line_after first second before
    (new_links first milliseconds line second other_milliseconds other_line) to_a to_b)
    → IsUnderWay (line_after first second before
    (new_links first milliseconds line second other_milliseconds other_line) to_a to_b)
    → Promise (line_after first second before
    (new_links first milliseconds line second other_milliseconds other_line) to_a to_b)
    (record {
      links = after_steps before
          (new_links first milliseconds line second other_milliseconds other_line);
      to_a = to_a;
      to_b = to_b;
    })

-- Both run, and each message that one accepted is received by the other and acknowledged.
pub record LinksAreDone (p : Links) : Type 0 where
  pub from_a : LinkIsDelivered p.a p.b
  pub from_b : LinkIsDelivered p.b p.a
