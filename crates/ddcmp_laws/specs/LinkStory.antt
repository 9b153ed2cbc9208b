-- One run of two links, written out: both are started, and one message is transferred.
use Rattle.std.specs.Prelude.{◌≡◌, ℕ, true, List, [], ◌∷◌, ◌++◌}
use Rattle.ddcmp_frame.specs.Reader.{ReaderView}
use Rattle.ddcmp_core.specs.Table.{after_halt}
use Rattle.ddcmp_proto.specs.Bytes.{after_piece}
use Rattle.ddcmp_station.specs.Linking.{LinkView, with_state, started, anew, after_wake}
use Rattle.ddcmp_station.specs.Linking.{after_offered}
use Rattle.ddcmp_station.specs.Linking.{after_frame, after_sent, after_taking, delivered}
use Rattle.ddcmp_io.specs.declared.carrier.End.{End}
use Rattle.ddcmp_io.specs.declared.carrier.End.TheVariants.{A, B}
use Rattle.ddcmp_laws.specs.Story.{strt_bytes, stack_bytes, first_bytes, ack_1_bytes}
use Rattle.ddcmp_laws.specs.Vectors.{abc, small}
use Rattle.ddcmp_laws.specs.Links.{LinkCall, Starts, BeginsAnew, Halts, Wakes, Offers, FillsOne}
use Rattle.ddcmp_laws.specs.Links.{IsSent, Feeds, Takes, LinkHistory, LinkStep, Links, link_at}
use Rattle.ddcmp_laws.specs.Links.{after_step_at, new_links}
use Rattle.ddcmp_laws.specs.LinkLines.{LinksAreUp, LinkIsAsleep}

-- ---- steps of these calls

-- a link after a call
abbrev pub link_after : LinkCall → LinkHistory → LinkView
link_after Starts h = with_state (started h.link.station.core.station) h.link
link_after BeginsAnew h = anew h.link.station.line h.link
link_after Halts h = with_state (after_halt h.link.station.core.station) h.link
link_after (Wakes now) h = after_wake now h.link
link_after (Offers message) h = after_offered message h.link
link_after FillsOne h = after_frame h.link
link_after (IsSent n) h = after_sent n h.link
link_after (Feeds used) h =
    record h.link {
      station = record h.link.station {
        core = after_piece h.used used h.link.station.core;
      };
    }
link_after Takes h = after_taking h.link

abbrev pub step_of : LinkCall → LinkHistory → LinkStep
step_of call h = record { call = call; link = link_after call h }

unfoldable pub steps_of : List (End × LinkCall) → Links → List (End × LinkStep)
steps_of [] p = []
steps_of (one ∷ rest) p =
    (one.0, step_of one.1 (link_at one.0 p))
    ∷ steps_of rest (after_step_at one.0 (step_of one.1 (link_at one.0 p)) p)

-- ---- the story

abbrev pub small_links : ReaderView → ReaderView → Links
small_links line other_line = new_links small 1000 line small 1000 other_line

-- A frame is queued, the line takes it, and the other link is fed with it.
abbrev pub carried_from_a : ℕ → List ℕ → List (End × LinkCall)
carried_from_a n bytes = (A, FillsOne) ∷ (A, IsSent n) ∷ (B, Feeds bytes) ∷ []

abbrev pub carried_from_b : ℕ → List ℕ → List (End × LinkCall)
carried_from_b n bytes = (B, FillsOne) ∷ (B, IsSent n) ∷ (A, Feeds bytes) ∷ []

-- B is started as well when the STRT of A arrives, and replies with a STACK. Then A runs, and
-- accepts a message, whose acknowledgement it receives.
abbrev pub story_calls : List (End × LinkCall)
story_calls =
    (A, Starts) ∷ (B, Starts) ∷ []
    ++ carried_from_a 8 strt_bytes
    ++ carried_from_b 8 stack_bytes
    ++ (A, Offers abc) ∷ []
    ++ carried_from_a 13 first_bytes
    ++ carried_from_b 8 ack_1_bytes
    ++ (B, Takes) ∷ []

abbrev pub story_steps : ReaderView → ReaderView → List (End × LinkStep)
story_steps line other_line = steps_of story_calls (small_links line other_line)

-- How it ends: A accepted one message, the user of B took it, A reports it acknowledged and all
-- delivered, neither link is halted, and both sleep.
pub record HasGotAcross (p : Links) : Type 0 where
  pub accepted : p.a.accepted ≡ abc ∷ []
  pub taken : p.b.taken ≡ abc ∷ []
  pub delivered_a : delivered p.a.link ≡ true
  pub acknowledged : p.a.acknowledged ≡ 1
  pub up : LinksAreUp p
  pub asleep_a : LinkIsAsleep p.a.link
  pub asleep_b : LinkIsAsleep p.b.link
