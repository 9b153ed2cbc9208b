-- Histories of a session.
use Rattle.std.proofs.Common.{◌≡◌, ℕ, List, [], ◌∷◌}
use Rattle.std.proofs.Common.{◌++◌, refl, sym, ◌∙◌, ap, subst, take}
use Rattle.std.proofs.Common.{append_assoc, append-nil}
use Rattle.ddcmp_frame.specs.Reader.{ReaderView}
use Rattle.ddcmp_io.specs.declared.line_kind.LineKind.{LineKind}
use Rattle.ddcmp_streams.specs.declared.options.Options.{Options}
use Rattle.ddcmp_streams.specs.declared.messages.MessageForm.{MessageForm}
use Rattle.ddcmp_laws.specs.Links.{LinkHistory, LinkStep}
use Rattle.ddcmp_laws.specs.Links.{after_step, IsHistory, after_history, offered_in_call}
use Rattle.ddcmp_laws.specs.Links.{offered_in}
use Rattle.ddcmp_session.specs.Calls.{SessionHistory, new_session, SessionStep}
use Rattle.ddcmp_session.specs.Calls.{after_session_step, IsSessionHistory, after_session_steps}
use Rattle.ddcmp_laws.specs.Sessions.{IsPlain, history_begun, messages_of, link_steps_of}
use Rattle.ddcmp_laws.specs.Sessions.{link_steps_in, IsOfLink}
use Rattle.ddcmp_laws.proofs.Holding.{Holds, Leads, StepLeads, link_history}
use Rattle.ddcmp_laws.proofs.LinkSteps.{begins, step_leads}

-- ---- histories

pub history_then : (xs ys : List LinkStep) (l : LinkHistory) → IsHistory xs l
    → IsHistory ys (after_history xs l)
    → IsHistory (xs ++ ys) l × (after_history (xs ++ ys) l ≡ after_history ys (after_history xs l))
unfolding after_history
history_then [] ys l h more = (more, refl)
history_then (x ∷ xs) ys l h more =
    let r = history_then xs ys (after_step x l) h.1 more in ((h.0, r.0), r.1)

pub offered_more : (xs ys : List LinkStep) → offered_in (xs ++ ys) ≡ offered_in xs ++ offered_in ys
unfolding offered_in
offered_more [] ys = refl
offered_more (x ∷ xs) ys =
    ap (λ ms. offered_in_call x.call ++ ms) (offered_more xs ys)
    ∙ sym (append_assoc (offered_in_call x.call) (offered_in xs) (offered_in ys))

-- what a list of calls of a session leads to
abbrev pub HistoryLeads : MessageForm → ℕ → List SessionStep → SessionHistory → ℕ → Type 0
HistoryLeads f max steps h k =
    Leads (link_steps_in steps h) (link_history f max h k) f max (after_session_steps steps h)
    × Holds f max (after_session_steps steps h)
    × (messages_of f max (after_session_steps steps h).input
    ≡ messages_of f max h.input ++ offered_in (link_steps_in steps h))

pub history_leads : (f : MessageForm) (max : ℕ) (steps : List SessionStep) (h : SessionHistory)
    (k : ℕ)
    → IsSessionHistory steps h → Holds f max h → HistoryLeads f max steps h k
unfolding after_session_steps link_steps_in after_history offered_in
history_leads f max [] h k does holds =
    ((tt, (k, refl)), holds, sym (append-nil (messages_of f max h.input)))
history_leads f max (step ∷ rest) h k does holds =
    let one = step_leads f max step h k does.0 holds in
    then one (history_leads f max rest (after_session_step step h) one.0.1.0 does.1 one.1)
  where
    then : (one : StepLeads f max step h k)
        → HistoryLeads f max rest (after_session_step step h) one.0.1.0
        → HistoryLeads f max (step ∷ rest) h k
    then one more =
        let xs = link_steps_of step.call h.session step.session.link in
        let ys = link_steps_in rest (after_session_step step h) in
        let l = link_history f max h k in
        let j = history_then xs ys l one.0.0
        (subst (IsHistory ys) (sym one.0.1.1) more.0.0) in (
          (j.0, (more.0.1.0, j.1 ∙ ap (after_history ys) one.0.1.1 ∙ more.0.1.1)),
          more.1,
          more.2
              ∙ ap (λ ms. ms ++ offered_in ys) one.2
              ∙ append_assoc (messages_of f max h.input) (offered_in xs) (offered_in ys)
              ∙ ap (λ ms. messages_of f max h.input ++ ms) (sym (offered_more xs ys)),
        )

-- ---- from a new session

module _ (o : Options) (kind : LineKind) (line : ReaderView) (steps : List SessionStep)
    (plain : IsPlain o)
    (does : IsSessionHistory steps (new_session o kind line)) where
  abbrev new : SessionHistory
  new = new_session o kind line

  leads : HistoryLeads o.form o.config.max steps (new_session o kind line) 0
  leads =
      history_leads o.form o.config.max steps (new_session o kind line) 0 does
      (begins o kind line plain).0

  abbrev ended : SessionHistory
  ended = after_session_steps steps (new_session o kind line)

  pub are_calls : IsHistory (link_steps_in steps (new_session o kind line))
      (history_begun o line)
  are_calls =
      subst (IsHistory (link_steps_in steps (new_session o kind line)))
      (sym (begins o kind line plain).1) leads.0.0

  pub are_same : IsOfLink o.form o.config.max (after_session_steps steps (new_session o kind line))
      (after_history (link_steps_in steps (new_session o kind line))
      (history_begun o line))
  are_same =
      let e =
      ap (after_history (link_steps_in steps (new_session o kind line)))
      (begins o kind line plain).1
      ∙ leads.0.1.1 in
      record {
        link = ap (λ (l : LinkHistory). l.link) e;
        used = ap (λ (l : LinkHistory). l.used) e;
        gone = ap (λ (l : LinkHistory). l.gone) e;
        accepted = ap (λ (l : LinkHistory). l.accepted) e;
        taken =
            ap
            (λ (l : LinkHistory). l.taken
            ++ take ended.session.unwritten ended.session.link.station.core.station.inbox) e
            ∙ sym leads.1.queued.is;
      }

  pub are_offered : offered_in (link_steps_in steps (new_session o kind line))
      ≡ messages_of o.form o.config.max (after_session_steps steps (new_session o kind line)).input
  are_offered =
      sym
      (leads.2
      ∙ ap (λ xs. xs ++ offered_in (link_steps_in steps (new_session o kind line)))
      (ap (λ (l : LinkHistory). l.accepted) (sym (begins o kind line plain).1)))
