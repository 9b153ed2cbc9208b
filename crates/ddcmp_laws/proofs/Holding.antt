-- What stays of a session with its history, and calls that leave its input.
use Rattle.std.proofs.Common.{Bool, ◌≡◌, ℕ, zero, suc, ◌+◌, ◌-◌, true, false, cond, List}
use Rattle.std.proofs.Common.{[], ◌∷◌}
use Rattle.std.specs.Prelude.{◌&&◌}
use Rattle.ddcmp_core.proofs.Taken.{none_owed}
use Rattle.ddcmp_core.specs.Table.{is_running, owed_after_take}
use Rattle.std.proofs.Common.{◌++◌, refl, sym, ◌∙◌, ap, take, drop}
use Rattle.std.proofs.Common.{arith, append-nil, append_assoc, option_to_list}
use Rattle.ddcmp_station.specs.Linking.{LinkView}
use Rattle.ddcmp_station.specs.Linking.{after_frame, after_frames, after_taking}
use Rattle.ddcmp_station.specs.Linking.{totals_after_take, with_state}
use Rattle.ddcmp_window.specs.Store.{first_message}
use Rattle.ddcmp_streams.specs.declared.messages.MessageForm.{MessageForm}
use Rattle.ddcmp_streams.specs.Messages.{has_events, messages_begun, after_input}
use Rattle.ddcmp_session.specs.Session.{SessionView, after_takes, form_of}
use Rattle.ddcmp_laws.specs.Links.{LinkCall, FillsOne, Takes}
use Rattle.ddcmp_laws.specs.Links.{HasDone, LinkHistory, LinkStep}
use Rattle.ddcmp_laws.specs.Links.{after_step, IsHistory, after_history}
use Rattle.ddcmp_laws.specs.Links.{offered_in}
use Rattle.ddcmp_session.specs.Calls.{Shown, SessionHistory, SessionStep, after_session_step}
use Rattle.ddcmp_laws.specs.Sessions.{messages_of, mail_in, link_step, frames_put, link_steps_of}
use Rattle.ddcmp_laws.specs.Sessions.{takes_put}
use Rattle.ddcmp_laws.proofs.Queues.{IsKept, IsQueued, drop-one-more, take-one-more, taken_kept}
use Rattle.ddcmp_laws.proofs.Queues.{taken_of}
use Rattle.ddcmp_laws.proofs.Texts.{no_text, IsText, writes, keeps}
use Rattle.ddcmp_laws.proofs.Limits.{longest_of}

-- ---- what stays of a session with its history

pub record Holds (f : MessageForm) (max : ℕ) (h : SessionHistory) : Type 0 where
  pub kind : form_of h.session.messages ≡ f
  pub longest : h.session.link.station.core.limits.longest ≡ max
  pub reads : h.session.is_read ≡ false
      → h.session.messages ≡ after_input h.input (messages_begun f max)
  pub text : IsText f h.written h.session.output h.shown
  pub of_data : h.session.options.maintenance ≡ false
  pub plain : has_events f ≡ false
  pub queued : IsQueued h.session h.shown

-- the history of its link
abbrev pub link_history : MessageForm → ℕ → SessionHistory → ℕ → LinkHistory
link_history f max h acknowledged = record {
  link = h.session.link;
  used = h.used;
  gone = h.gone;
  accepted = messages_of f max h.input;
  taken = taken_of h.session h.shown;
  acknowledged = acknowledged;
}

abbrev pub parts : LinkView → List ℕ → List ℕ → List (List ℕ) → List (List ℕ) → ℕ → LinkHistory
parts new used gone accepted taken acknowledged = record {
  link = new;
  used = used;
  gone = gone;
  accepted = accepted;
  taken = taken;
  acknowledged = acknowledged;
}

-- calls of a link lead from one history to another
abbrev pub Leads : List LinkStep → LinkHistory → MessageForm → ℕ → SessionHistory → Type 0
Leads steps l f max new =
    IsHistory steps l × ((k : ℕ) × (after_history steps l ≡ link_history f max new k))

-- and what stays stays
abbrev pub StepLeads : MessageForm → ℕ → SessionStep → SessionHistory → ℕ → Type 0
StepLeads f max step h k =
    Leads (link_steps_of step.call h.session step.session.link) (link_history f max h k) f max
    (after_session_step step h)
    × Holds f max (after_session_step step h)
    × (messages_of f max (after_session_step step h).input
    ≡ messages_of f max h.input
    ++ offered_in (link_steps_of step.call h.session step.session.link))

-- ---- histories of a link, piece by piece

pub plus_none : (n : ℕ) → n + 0 ≡ n
plus_none n = omega arith

pub same_parts : (d : LinkView) {u v g h : List ℕ} {a b t s : List (List ℕ)} (k : ℕ) → u ≡ v → g ≡ h
    → a ≡ b → t ≡ s → parts d u g a t k ≡ parts d v h b s k
same_parts d k eu eg ea et = λ i. parts d (eu i) (eg i) (ea i) (et i) k

-- a history to which nothing is added
pub added_none : (d : LinkView) (l : LinkHistory)
    → parts d (l.used ++ []) (l.gone ++ []) (l.accepted ++ []) (l.taken ++ []) (l.acknowledged + 0)
    ≡ parts d l.used l.gone l.accepted l.taken l.acknowledged
added_none d l = λ i. parts d (append-nil l.used i) (append-nil l.gone i) (append-nil l.accepted i)
    (append-nil l.taken i) (plus_none l.acknowledged i)

pub no_input : (f : MessageForm) (max : ℕ) (input : List ℕ)
    → messages_of f max (input ++ []) ≡ messages_of f max input
no_input f max input = ap (messages_of f max) (append-nil input)

pub frames_again : (n : ℕ) (d : LinkView)
    → after_frames n (after_frame d) ≡ after_frame (after_frames n d)
unfolding after_frames
frames_again zero d = refl
frames_again (suc n) d = ap after_frame (frames_again n d)

pub frames_done : (n : ℕ) (l : LinkHistory)
    → IsHistory (frames_put n l.link) l
    × (after_history (frames_put n l.link) l ≡ record l { link = after_frames n l.link })
unfolding frames_put after_history after_frames
frames_done zero l = (tt, refl)
frames_done (suc n) l =
    let next = after_step (link_step FillsOne (after_frame l.link)) l in
    let r = frames_done n next in (
      (refl, r.0),
      r.1
          ∙ added_none (after_frames n (after_frame l.link)) l
          ∙ ap (λ d. record l { link = d }) (frames_again n l.link),
    )

-- messages that are taken, one after another
pub takes_again : (n : ℕ) (d : LinkView)
    → after_takes n (after_taking d) ≡ after_taking (after_takes n d)
unfolding after_takes
takes_again zero d = refl
takes_again (suc n) d = ap after_taking (takes_again n d)

pub takes_inbox : (n : ℕ) (d : LinkView)
    → (after_takes n d).station.core.station.inbox ≡ drop n d.station.core.station.inbox
unfolding after_takes
takes_inbox zero d = refl
takes_inbox (suc n) d =
    ap (λ (x : LinkView). x.station.core.station.inbox) (sym (takes_again n d))
    ∙ takes_inbox n (after_taking d)
    ∙ drop-one-more d.station.core.station.inbox n

pub takes_state : (n : ℕ) (d : LinkView)
    → (after_takes n d).station.core.station.state ≡ d.station.core.station.state
unfolding after_takes
takes_state zero d = refl
takes_state (suc n) d = takes_state n d

pub takes_longest : (n : ℕ) (d : LinkView)
    → (after_takes n d).station.core.limits.longest ≡ d.station.core.limits.longest
unfolding after_takes
takes_longest zero d = refl
takes_longest (suc n) d = takes_longest n d

pub takes_done : (n : ℕ) (l : LinkHistory)
    → IsHistory (takes_put n l.link) l
    × (after_history (takes_put n l.link) l ≡ record l {
      link = after_takes n l.link;
      taken = l.taken ++ take n l.link.station.core.station.inbox;
    })
unfolding takes_put after_history after_takes
takes_done zero l = (tt, λ i. record l { taken = sym (append-nil l.taken) i })
takes_done (suc n) l =
    let inbox = l.link.station.core.station.inbox in
    let first = option_to_list (first_message inbox) in
    let next = after_step (link_step Takes (after_taking l.link)) l in
    let r = takes_done n next in (
      (refl, r.0),
      r.1
          ∙ (λ i. parts (takes_again n l.link i) (append-nil l.used i) (append-nil l.gone i)
          (append-nil l.accepted i)
          ((append_assoc l.taken first (take n (drop 1 inbox))
          ∙ ap (λ ms. l.taken ++ ms) (take-one-more inbox n)) i)
          (plus_none l.acknowledged i)),
    )

pub takes_offer_none : (n : ℕ) (d : LinkView) → offered_in (takes_put n d) ≡ []
unfolding offered_in takes_put
takes_offer_none zero d = refl
takes_offer_none (suc n) d = takes_offer_none n (after_taking d)

-- from an empty inbox none
pub takes_nothing : (d : LinkView) → d.station.core.station.inbox ≡ [] → after_taking d ≡ d
takes_nothing d e =
    let s = d.station.core.station in
    let left : drop 1 s.inbox ≡ s.inbox = ap (drop 1) e ∙ sym e in
    let owed = none_owed (s.by_user && is_running s.state) s.inbox e in
    let totals = ap (λ (m : List (List ℕ)). totals_after_take m d.totals) e in
    λ i. record (with_state (record s {
      inbox = left i;
      reply = cond (owed i) (owed_after_take s.reply) s.reply;
    }) d) { totals = totals i }

pub takes_none : (n : ℕ) (d : LinkView) → d.station.core.station.inbox ≡ []
    → after_takes n d ≡ d
unfolding after_takes
takes_none zero d e = refl
takes_none (suc n) d e = ap after_taking (takes_none n d e) ∙ takes_nothing d e

-- messages that are neither queued nor taken stay so
pub left_alone : (b : Bool) (n : ℕ) (inbox : List (List ℕ))
    → drop (n - cond b n 0) (drop (cond b n 0) inbox) ≡ drop n inbox
left_alone true n inbox = ap (λ k. drop k (drop n inbox)) none
  where
    none : n - n ≡ 0
    none = omega arith
left_alone false n inbox = ap (λ k. drop k inbox) same
  where
    same : n - 0 ≡ n
    same = omega arith

pub frames_offer_none : (n : ℕ) (d : LinkView) → offered_in (frames_put n d) ≡ []
unfolding offered_in frames_put
frames_offer_none zero d = refl
frames_offer_none (suc n) d = frames_offer_none n (after_frame d)

-- ---- calls that leave the input

abbrev pub session_parts : Bool → SessionView → List ℕ → List ℕ → List ℕ → List ℕ → List Shown
    → SessionHistory
session_parts told new used gone input written shown = record {
  session = new;
  used = used;
  gone = gone;
  input = input;
  is_told = told;
  written = written;
  shown = shown;
}

pub holds_on : {told : Bool} (f : MessageForm) (max : ℕ) (h : SessionHistory) (new : SessionView)
    (used gone written : List ℕ) (shown : List Shown) → Holds f max h
    → new.messages ≡ h.session.messages → new.is_read ≡ h.session.is_read
    → longest_of new.link ≡ longest_of h.session.link → IsText f written new.output shown
    → new.options.maintenance ≡ h.session.options.maintenance → IsQueued new shown
    → Holds f max (session_parts told new used gone (h.input ++ []) written shown)
holds_on {told} f max h new used gone written shown k same read longest text mode queued = record {
  kind = ap form_of same ∙ k.kind;
  longest = longest ∙ k.longest;
  reads = λ going. same ∙ k.reads (sym read ∙ going)
      ∙ ap (λ ys. after_input ys (messages_begun f max)) (sym (append-nil h.input));
  text = text;
  of_data = mode ∙ k.of_data;
  plain = k.plain;
  queued = queued;
}

-- the text stays
pub text_on : (f : MessageForm) (max : ℕ) (h : SessionHistory) (new : SessionView) → Holds f max h
    → new.output ≡ h.session.output → IsText f (h.written ++ []) new.output (h.shown ++ [])
text_on f max h new k same =
    writes f h.written h.shown [] h.session.output new.output [] k.text
    (keeps h.session.output new.output same) (no_text f)

-- one call of the link, of a call that reads nothing
pub one_call : (f : MessageForm) (max : ℕ) (h : SessionHistory) (new : SessionView) (k : ℕ) (call :
    LinkCall)
    (used gone written : List ℕ) (shown : List Shown)
    → HasDone call h.used h.session.link new.link
    → after_history (link_step call new.link ∷ []) (link_history f max h k)
    ≡ parts new.link used gone (messages_of f max h.input ++ []) (taken_of h.session h.shown ++ [])
    (after_step (link_step call new.link) (link_history f max h k)).acknowledged
    → IsKept h.session h.shown new shown
    → Leads (link_step call new.link ∷ []) (link_history f max h k) f max
    (session_parts false new used gone (h.input ++ []) written shown)
one_call f max h new k call used gone written shown done after kept = (
  (done, tt),
  (
    (after_step (link_step call new.link) (link_history f max h k)).acknowledged,
    after
        ∙ same_parts new.link
        (after_step (link_step call new.link) (link_history f max h k)).acknowledged refl refl
        (append-nil (messages_of f max h.input) ∙ sym (no_input f max h.input))
        (append-nil (taken_of h.session h.shown)
        ∙ sym (taken_kept h.session new h.shown shown kept)),
  ),
)

-- no call of the link
pub no_call : (f : MessageForm) (max : ℕ) (h : SessionHistory) (new : SessionView) (k : ℕ)
    (written :
    List ℕ)
    (shown : List Shown) → new.link ≡ h.session.link → IsKept h.session h.shown new shown
    → Leads [] (link_history f max h k) f max
    (session_parts false new (h.used ++ []) (h.gone ++ []) (h.input ++ []) written shown)
unfolding after_history
no_call f max h new k written shown same kept = (
  tt,
  (
    k,
    λ i. parts (sym same i) (sym (append-nil h.used) i) (sym (append-nil h.gone) i)
        (sym (no_input f max h.input) i)
        (sym (taken_kept h.session new h.shown shown kept) i) k,
  ),
)

pub no_offer : (f : MessageForm) (max : ℕ) (input : List ℕ) (steps : List LinkStep)
    → offered_in steps ≡ []
    → messages_of f max (input ++ []) ≡ messages_of f max input ++ offered_in steps
no_offer f max input steps e =
    no_input f max input ∙ sym (append-nil (messages_of f max input))
    ∙ ap (λ ms. messages_of f max input ++ ms) (sym e)

pub quiet_mail : (shown : List Shown) → mail_in (shown ++ []) ≡ mail_in shown
quiet_mail shown = ap mail_in (append-nil shown)

pub quiet_mail_more : (shown : List Shown) → mail_in (shown ++ []) ≡ mail_in shown ++ []
quiet_mail_more shown = quiet_mail shown ∙ sym (append-nil (mail_in shown))
