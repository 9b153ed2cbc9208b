-- What stays of two sessions over a line that may lose, cut and damage what it carries.
use Rattle.std.proofs.Common.{◌≡◌, ◌∙◌, ap, sym, ℕ, true, List, [], ◌∷◌, length}
use Rattle.std.specs.Prelude.{◌==◌}
use Rattle.ddcmp_frame.specs.Reading.{good_frames}
use Rattle.ddcmp_core.specs.Table.{Limits}
use Rattle.ddcmp_proto.specs.Config.{limits_of}
use Rattle.ddcmp_proto.specs.declared.config.Config.{Config}
use Rattle.ddcmp_io.specs.declared.carrier.End.{End}
use Rattle.ddcmp_pair.specs.Place.{IsSubsequence, WholeFrame}
use Rattle.ddcmp_pair.specs.Run.{EndState, PairState}
use Rattle.ddcmp_session.specs.Calls.{SessionStep}
use Rattle.ddcmp_laws.specs.Connections.{Connections, after_step_at}
use Rattle.ddcmp_laws.specs.Links.{IsSameEnd, LinkHistory}
use Rattle.ddcmp_laws.specs.Pipe.{Made}
use Rattle.ddcmp_laws.specs.StationRuns.{has_heard_none}
use Rattle.ddcmp_laws.proofs.Anew.{Rest, both}
use Rattle.ddcmp_laws.proofs.FaithfulLaws.{begins_among}
use Rattle.ddcmp_laws.proofs.LastCalls.{IsFinal}
use Rattle.ddcmp_laws.proofs.StationRuns.{Kept}
use Rattle.ddcmp_laws.proofs.TwoLinks.{AreSame}

-- The good frames in what each session used are a subsequence of those in what the other has
-- written to its line.
pub record AreFrames (first second : Made) (p : Connections) : Type 0 where
  pub to_a
      : IsSubsequence (good_frames first.options.config.max p.a.history.used)
      (good_frames first.options.config.max p.b.history.gone)
  pub to_b
      : IsSubsequence (good_frames second.options.config.max p.b.history.used)
      (good_frames second.options.config.max p.a.history.gone)

-- This is so after each of these calls.
abbrev pub AreOverFrames : Made → Made → List (End × SessionStep) → Connections → Type 0
AreOverFrames first second [] p = Unit {0}
AreOverFrames first second (step ∷ rest) p =
    AreFrames first second (after_step_at step.0 step.1 p)
    × AreOverFrames first second rest (after_step_at step.0 step.1 p)

pub record Inv (first second : Made) (c : Connections) (p : PairState) (j k : Rest) : Type 0 where
  pub same : AreSame p (both first second c j k)
  pub kept : Kept p
  pub limits_a : p.a.core.limits ≡ limits_of first.options.config
  pub limits_b : p.b.core.limits ≡ limits_of second.options.config
  pub final_a : IsFinal p.a
  pub final_b : IsFinal p.b
  pub honest : p.honest ≡ true

-- the good frames in what its line took are some of those that its station sent
pub among-sent : (l : Limits) (y : EndState) (h : LinkHistory) → IsSameEnd y h → IsFinal y
    → IsSubsequence (good_frames l.longest h.gone) y.sent
among-sent l y h s f =
    begins_among l y.syn y.sent h.gone f.well.sent (h.link.outbox.waiting, sym s.wrote)

pub heard-none : (y : EndState) (config : Config) (used : List ℕ)
    → y.core.limits ≡ limits_of config → y.arrived ≡ used → good_frames config.max used ≡ []
    → has_heard_none y ≡ true
heard-none y config used limits arrived none =
    ap (λ (l : Limits). length (good_frames l.longest y.arrived) == 0) limits
    ∙ ap (λ t. length (good_frames config.max t) == 0) arrived
    ∙ ap (λ (fs : List WholeFrame). length fs == 0) none
