-- Two links over lines that may lose, cut and damage what they carry, and forge nothing.
use Rattle.std.specs.Prelude.{◌≡◌, ◌≢◌, ℕ, true, false, List, [], ◌∷◌, ◌++◌, length, map, None}
use Rattle.ddcmp_frame.specs.Reader.{ReaderView}
use Rattle.ddcmp_core.specs.declared.state.State.TheVariants.{Halted, Running}
use Rattle.ddcmp_proto.specs.Config.{first_refusal}
use Rattle.ddcmp_proto.specs.declared.config.Config.{Config}
use Rattle.ddcmp_station.specs.Linking.{LinkView, wakes_at, fits, puts_frame}
use Rattle.ddcmp_io.specs.declared.carrier.End.{End}
use Rattle.ddcmp_pair.specs.Run.{new_pair}
use Rattle.ddcmp_laws.specs.PairCalls.{Call, run_calls}
use Rattle.ddcmp_laws.specs.Links.{LinkStep, LinkHistory, Links, station_calls, HasDone, link_at}
use Rattle.ddcmp_laws.specs.Links.{after_step_at, after_steps, AreStartedOnce, new_links}
use Rattle.ddcmp_laws.specs.Links.{received}

-- Each step is a call of one of two links, which does what its contract states.
abbrev pub AreLinkCalls : List (End × LinkStep) → Links → Type 0
AreLinkCalls [] p = Unit {0}
AreLinkCalls (step ∷ rest) p =
    HasDone step.1.call (link_at step.0 p).used (link_at step.0 p).link step.1.link
    × AreLinkCalls rest (after_step_at step.0 step.1 p)

-- the calls of both stations that these steps make
abbrev pub calls_at_end : End → List Call → List (End × Call)
calls_at_end end calls = map (λ call. (end, call)) calls

unfoldable pub calls_of_steps : List (End × LinkStep) → Links → List (End × Call)
calls_of_steps [] p = []
calls_of_steps (step ∷ rest) p =
    calls_at_end step.0 (station_calls step.1.call (link_at step.0 p).link)
    ++ calls_of_steps rest (after_step_at step.0 step.1 p)

-- A promise about two links' histories is kept over honest lines, for two new links of any sizes in
-- range, each started at most once, whatever the calls, the moments and the chunks of bytes. The
-- line is honest if the good frames that each received are, in their order, among those that the
-- other sent.
abbrev pub IsKeptOverHonestLines : (Links → Type 0) → Type 0
IsKeptOverHonestLines Promise = (first second : Config) (milliseconds other_milliseconds : ℕ)
    (line other_line : ReaderView) (steps : List (End × LinkStep))
    → first_refusal first ≡ None → first_refusal second ≡ None
    → AreLinkCalls steps
    (new_links first milliseconds line second other_milliseconds other_line)
    → (run_calls (calls_of_steps steps
    (new_links first milliseconds line second other_milliseconds other_line))
    (new_pair first second)).honest ≡ true
    → AreStartedOnce steps
    → Promise (after_steps steps
    (new_links first milliseconds line second other_milliseconds other_line))

-- ---- links that sleep

-- neither link is halted
pub record LinksAreUp (p : Links) : Type 0 where
  pub a : p.a.link.station.core.station.state ≢ Halted
  pub b : p.b.link.station.core.station.state ≢ Halted

-- A link sleeps if it has no moment to wake at and would queue no frame, though there is room for
-- one.
pub record LinkIsAsleep (d : LinkView) : Type 0 where
  pub no_moment : wakes_at d ≡ None
  pub room : fits d ≡ true
  pub no_frame : puts_frame d ≡ false

-- A link runs, and each message that it accepted is received by the other and acknowledged.
pub record LinkIsDelivered (giver taker : LinkHistory) : Type 0 where
  pub runs : giver.link.station.core.station.state ≡ Running
  pub received : received taker ≡ giver.accepted
  pub acknowledged : giver.acknowledged ≡ length giver.accepted
