-- An order of the calls of two sessions, made from an order of what their devices did.
use Rattle.std.proofs.Common.{◌≡◌, ◌∙◌, inl, ap, sym, subst, refl, ℕ, List, [], ◌∷◌}
use Rattle.std.proofs.Common.{◌++◌, append_assoc, append-nil}
use Rattle.ddcmp_frame.specs.Reading.{good_frames}
use Rattle.ddcmp_frame.proofs.ReadingLaws.{good-more}
use Rattle.ddcmp_io.specs.declared.carrier.End.{End}
use Rattle.ddcmp_io.specs.declared.carrier.End.TheVariants.{A, B}
use Rattle.ddcmp_pair.specs.Place.{IsSubsequence, WholeFrame}
use Rattle.ddcmp_session.specs.Traffic.{LineAct, received, sent, written_by}
use Rattle.ddcmp_session.proofs.OrderLaws.{received-more}
use Rattle.ddcmp_session.specs.Calls.{SessionStep}
use Rattle.ddcmp_laws.specs.Arrival.{IsStream}
use Rattle.ddcmp_laws.specs.Prefix.{Begins}
use Rattle.ddcmp_laws.specs.Connections.{Connections, after_step_at}
use Rattle.ddcmp_laws.specs.Pipe.{Made}
use Rattle.ddcmp_laws.specs.SessionRuns.{calls_of}
use Rattle.ddcmp_laws.specs.Traces.{AreAmong, IsHonest, acts_if, acts_of}
use Rattle.ddcmp_laws.proofs.FaithfulLaws.{front_of}
use Rattle.ddcmp_laws.proofs.FrameSteps.{AreFrames, AreOverFrames}

pub record Merged (first second : Made) (sa sb : List SessionStep) (p : Connections) : Type 0 where
  pub steps : List (End × SessionStep)
  pub of_a : calls_of A steps ≡ sa
  pub of_b : calls_of B steps ≡ sb
  pub over : AreOverFrames first second steps p

pub merged-none : (first second : Made) (p : Connections) → Merged first second [] [] p
unfolding calls_of
merged-none first second p = record { steps = []; of_a = refl; of_b = refl; over = tt }

pub then-a : (first second : Made) (step : SessionStep) (sa sb : List SessionStep)
    (p : Connections) → AreFrames first second (after_step_at A step p)
    → Merged first second sa sb (after_step_at A step p) → Merged first second (step ∷ sa) sb p
unfolding calls_of
then-a first second step sa sb p frames m = record {
  steps = (A, step) ∷ m.steps;
  of_a = ap (λ (xs : List SessionStep). step ∷ xs) m.of_a;
  of_b = m.of_b;
  over = (frames, m.over);
}

pub then-b : (first second : Made) (step : SessionStep) (sa sb : List SessionStep)
    (p : Connections) → AreFrames first second (after_step_at B step p)
    → Merged first second sa sb (after_step_at B step p) → Merged first second sa (step ∷ sb) p
unfolding calls_of
then-b first second step sa sb p frames m = record {
  steps = (B, step) ∷ m.steps;
  of_a = m.of_a;
  of_b = ap (λ (xs : List SessionStep). step ∷ xs) m.of_b;
  over = (frames, m.over);
}

-- ---- where the devices got to

-- The devices did this, and each session used what they received but for these bytes.
pub record Stands (past : List (End × LineAct)) (p : Connections) (pa pb : List ℕ) : Type 0 where
  pub used_a : p.a.history.used ++ pa ≡ received (acts_of A past)
  pub gone_a : p.a.history.gone ≡ sent (acts_of A past)
  pub used_b : p.b.history.used ++ pb ≡ received (acts_of B past)
  pub gone_b : p.b.history.gone ≡ sent (acts_of B past)

abbrev pub IsHonestNow : Made → Made → List (End × LineAct) → Type 0
IsHonestNow first second past =
    AreAmong first.options.config.max (acts_of A past) (acts_of B past)
    × AreAmong second.options.config.max (acts_of B past) (acts_of A past)

among-front : (max : ℕ) (used left all gone other : List ℕ) → used ++ left ≡ all → gone ≡ other
    → IsSubsequence (good_frames max all) (good_frames max other)
    → IsSubsequence (good_frames max used) (good_frames max gone)
among-front max used left all gone other e f a =
    subst (λ t. IsSubsequence (good_frames max used) (good_frames max t)) (sym f)
    (front_of (good_frames max used) _ (good_frames max other)
    (subst (λ fs. IsSubsequence fs (good_frames max other))
    (ap (good_frames max) (sym e) ∙ good-more max used left) a))

pub frames-at : (first second : Made) (past : List (End × LineAct)) (p : Connections)
    (pa pb : List ℕ) → IsHonestNow first second past → Stands past p pa pb
    → AreFrames first second p
frames-at first second past p pa pb honest s = record {
  to_a =
      among-front first.options.config.max p.a.history.used pa (received (acts_of A past))
      p.b.history.gone (sent (acts_of B past)) s.used_a s.gone_b honest.0;
  to_b =
      among-front second.options.config.max p.b.history.used pb (received (acts_of B past))
      p.a.history.gone (sent (acts_of A past)) s.used_b s.gone_a honest.1;
}

-- ---- one more

pub acts-more : (e : End) (past : List (End × LineAct)) (step : End × LineAct)
    → acts_of e (past ++ step ∷ []) ≡ acts_of e past ++ acts_if e step.0 step.1
unfolding acts_of
acts-more e [] step = append-nil (acts_if e step.0 step.1)
acts-more e (x ∷ past) step =
    ap (λ (xs : List LineAct). acts_if e x.0 x.1 ++ xs) (acts-more e past step)
    ∙ sym (append_assoc (acts_if e x.0 x.1) (acts_of e past) (acts_if e step.0 step.1))

pub sent-more : (xs ys : List LineAct) → sent (xs ++ ys) ≡ sent xs ++ sent ys
unfolding sent
sent-more [] ys = refl
sent-more (x ∷ xs) ys =
    ap (λ zs. written_by x ++ zs) (sent-more xs ys)
    ∙ sym (append_assoc (written_by x) (sent xs) (sent ys))

pub received-then : (e : End) (past : List (End × LineAct)) (step : End × LineAct)
    → received (acts_of e (past ++ step ∷ []))
    ≡ received (acts_of e past) ++ received (acts_if e step.0 step.1)
received-then e past step =
    ap received (acts-more e past step) ∙ received-more (acts_of e past) (acts_if e step.0 step.1)

pub sent-then : (e : End) (past : List (End × LineAct)) (step : End × LineAct)
    → sent (acts_of e (past ++ step ∷ []))
    ≡ sent (acts_of e past) ++ sent (acts_if e step.0 step.1)
sent-then e past step =
    ap sent (acts-more e past step) ∙ sent-more (acts_of e past) (acts_if e step.0 step.1)

-- ---- streams

among-own : (fs gs : List WholeFrame) → IsSubsequence fs (fs ++ gs)
among-own [] gs = tt
among-own (f ∷ fs) gs = inl (refl, among-own fs gs)

among-begun : (max : ℕ) (own theirs : List ℕ) → Begins own theirs
    → IsSubsequence (good_frames max own) (good_frames max theirs)
among-begun max own theirs b =
    subst (IsSubsequence (good_frames max own))
    (sym (good-more max own b.0) ∙ ap (good_frames max) b.1) (among-own (good_frames max own) _)

pub streams-honest : (max other_max : ℕ) (order : List (End × LineAct)) → IsStream order
    → IsHonest max other_max order
streams-honest max other_max order stream past future e =
    let s = stream past future e in (among-begun max _ _ s.0, among-begun other_max _ _ s.1)
