-- Two sessions over streams, and so their links.
use Rattle.std.proofs.Common.{◌≡◌, ℕ, zero, suc, Bool, true, false, cond, List, [], ◌∷◌}
use Rattle.std.proofs.Common.{◌++◌, ◌⊎◌, inl, inr, refl, sym, ◌∙◌, ap, subst}
use Rattle.std.proofs.Common.{append-nil, option_to_list}
use Rattle.ddcmp_input.specs.declared.entry.Entry.{Entry}
use Rattle.ddcmp_input.specs.declared.entry.Entry.TheVariants.{Message, NotHexadecimal, TooLong}
use Rattle.ddcmp_input.specs.declared.entry.Entry.TheVariants.{Command, Empty}
use Rattle.ddcmp_station.specs.Linking.{LinkView, after_frame, after_taking}
use Rattle.ddcmp_io.specs.declared.carrier.End.{End}
use Rattle.ddcmp_io.specs.declared.carrier.End.TheVariants.{A, B}
use Rattle.ddcmp_streams.specs.Messages.{message_in, after_input, entries_of_input, after_last}
use Rattle.ddcmp_streams.specs.Messages.{entry_of_last}
use Rattle.ddcmp_session.specs.Session.{SessionView, taken_at_once, taken_when_written, takes_end}
use Rattle.ddcmp_laws.specs.Prefix.{Begins}
use Rattle.ddcmp_laws.specs.Links.{LinkHistory, LinkStep, IsHistory, after_history, after_step}
use Rattle.ddcmp_laws.specs.Links.{LinkCall, Starts, BeginsAnew, Halts, Wakes, Offers, FillsOne}
use Rattle.ddcmp_laws.specs.Links.{IsSent, Feeds, Takes, used_by, gone_by, LinkOverStreams}
use Rattle.ddcmp_laws.specs.Links.{Links}
use Rattle.ddcmp_session.specs.Calls.{SessionCall, InputRead, InputEnded, Connected, LineEnded}
use Rattle.ddcmp_session.specs.Calls.{Received, Filled, LineTook, TimedOut, TimePassed, Delivered}
use Rattle.ddcmp_session.specs.Calls.{OutputTook}
use Rattle.ddcmp_session.specs.Calls.{Closed, SessionDoes, SessionStep}
use Rattle.ddcmp_laws.specs.Sessions.{link_step, offers_of, frames_put, link_steps_of, takes_put}
use Rattle.ddcmp_laws.specs.Pipe.{Made, Sessions, session_at}
use Rattle.ddcmp_laws.specs.Pipe.{after_session_at, steps_at_end}
use Rattle.ddcmp_laws.specs.Pipe.{link_steps_at}
use Rattle.ddcmp_laws.specs.Pipe.{AreSessionStreams, SessionsOverStreams}
use Rattle.ddcmp_laws.proofs.LinkSteps.{step_leads}
use Rattle.ddcmp_laws.proofs.Pipes.{BothHold, links_of}

-- ---- over streams

-- a call of a link that neither uses nor takes bytes
abbrev pub IsStill : LinkCall → Type 0
IsStill (Feeds used) = ⊥
IsStill (IsSent n) = ⊥
IsStill _ = Unit {0}

abbrev pub AreStill : List LinkStep → Type 0
AreStill [] = Unit {0}
AreStill (x ∷ xs) = IsStill x.call × AreStill xs

pub frames_still : (n : ℕ) (d : LinkView) → AreStill (frames_put n d)
unfolding frames_put
frames_still zero d = tt
frames_still (suc n) d = (tt, frames_still n (after_frame d))

pub takes_still : (n : ℕ) (d : LinkView) → AreStill (takes_put n d)
unfolding takes_put
takes_still zero d = tt
takes_still (suc n) d = (tt, takes_still n (after_taking d))

pub offers_still : (es : List Entry) (message : List ℕ) (d : LinkView)
    → AreStill (offers_of es message d)
offers_still [] message d = tt
offers_still (Message ∷ rest) message d = (tt, tt)
offers_still (NotHexadecimal ∷ rest) message d = tt
offers_still (TooLong ∷ rest) message d = tt
offers_still (Empty ∷ rest) message d = tt
offers_still (Command ∷ rest) message d = tt

pub still_bytes : (c : LinkCall) (d : LinkView) → IsStill c → (used_by c ≡ []) × (gone_by c d ≡ [])
still_bytes Starts d s = (refl, refl)
still_bytes BeginsAnew d s = (refl, refl)
still_bytes Halts d s = (refl, refl)
still_bytes (Wakes now) d s = (refl, refl)
still_bytes (Offers message) d s = (refl, refl)
still_bytes FillsOne d s = (refl, refl)
still_bytes (IsSent n) d s = absurd s
still_bytes (Feeds used) d s = absurd s
still_bytes Takes d s = (refl, refl)

pub adds_none : (xs ys : List ℕ) → ys ≡ [] → xs ≡ xs ++ ys
adds_none xs ys e = sym (append-nil xs) ∙ ap (λ zs. xs ++ zs) (sym e)

abbrev pub Flows : LinkHistory → LinkHistory → Type 0
Flows h k = Begins h.used k.gone × Begins k.used h.gone

pub flow_on : (x : LinkStep) (h k : LinkHistory) → IsStill x.call → Flows h k
    → Flows (after_step x h) k
flow_on x h k still flow =
    let b = still_bytes x.call h.link still in (
      subst (λ u. Begins u k.gone) (adds_none h.used (used_by x.call) b.0) flow.0,
      subst (λ g. Begins k.used g) (adds_none h.gone (gone_by x.call h.link) b.1) flow.1,
    )

pub still_a : (xs : List LinkStep) (ys : List (End × LinkStep)) (q : Links) → AreStill xs
    → IsHistory xs q.a → Flows q.a q.b
    → LinkOverStreams ys (record { a = after_history xs q.a; b = q.b })
    → LinkOverStreams (steps_at_end A xs ++ ys) q
unfolding after_history
still_a [] ys q still h flow more = more
still_a (x ∷ xs) ys q still h flow more =
    let f = flow_on x q.a q.b still.0 flow in (
      h.0,
      record { to_a = f.0; to_b = f.1 },
      still_a xs ys (record { a = after_step x q.a; b = q.b }) still.1 h.1 f more,
    )

pub still_b : (xs : List LinkStep) (ys : List (End × LinkStep)) (q : Links) → AreStill xs
    → IsHistory xs q.b → Flows q.b q.a
    → LinkOverStreams ys (record { a = q.a; b = after_history xs q.b })
    → LinkOverStreams (steps_at_end B xs ++ ys) q
unfolding after_history
still_b [] ys q still h flow more = more
still_b (x ∷ xs) ys q still h flow more =
    let f = flow_on x q.b q.a still.0 flow in (
      h.0,
      record { to_a = f.1; to_b = f.0 },
      still_b xs ys (record { a = q.a; b = after_step x q.b }) still.1 h.1 f more,
    )

-- The calls of its link that a call makes are still, or there is one.
abbrev pub Shape : List LinkStep → Type 0
Shape xs = AreStill xs ⊎ ((x : LinkStep) × (xs ≡ x ∷ []))

pub shape : (call : SessionCall) (s : SessionView) (new : LinkView)
    → Shape (link_steps_of call s new)
shape (InputRead used) s new =
    inl
    (offers_still (entries_of_input used s.messages) (message_in (after_input used s.messages)) new)
shape InputEnded s new = by (takes_end s)
  where
    by : (b : Bool)
        → Shape
        (cond b
        (offers_of (option_to_list (entry_of_last s.messages)) (message_in (after_last s.messages))
        new) [])
    by true =
        inl
        (offers_still (option_to_list (entry_of_last s.messages))
        (message_in (after_last s.messages)) new)
    by false = inl tt
shape Connected s new = inl (tt, tt)
shape (LineEnded how r) s new = inl (tt, tt)
shape (Received used) s new = inr (link_step (Feeds used) new, refl)
shape (Filled frames) s new = inl (frames_still frames s.link)
shape (LineTook n) s new = inr (link_step (IsSent n) new, refl)
shape (TimedOut now) s new = inl (tt, tt)
shape TimePassed s new = inl tt
shape (Delivered true) s new = inl (takes_still (taken_at_once s) s.link)
shape (Delivered false) s new = inl tt
shape (OutputTook n) s new = inl (takes_still (taken_when_written n s) s.link)
shape (Closed left over r) s new = inl (tt, tt)

pub steps_a : (xs : List LinkStep) (ys : List (End × LinkStep)) (q : Links) → Shape xs
    → IsHistory xs q.a → Flows q.a q.b → Flows (after_history xs q.a) q.b
    → LinkOverStreams ys (record { a = after_history xs q.a; b = q.b })
    → LinkOverStreams (steps_at_end A xs ++ ys) q
unfolding after_history
steps_a xs ys q (inl still) h flow then more = still_a xs ys q still h flow more
steps_a xs ys q (inr one) h flow then more =
    subst (λ zs. LinkOverStreams (steps_at_end A zs ++ ys) q) (sym one.1)
    (single (subst (λ zs. IsHistory zs q.a) one.1 h)
    (subst (λ zs. Flows (after_history zs q.a) q.b) one.1 then)
    (subst (λ zs. LinkOverStreams ys (record { a = after_history zs q.a; b = q.b })) one.1 more))
  where
    single : IsHistory (one.0 ∷ []) q.a → Flows (after_step one.0 q.a) q.b
        → LinkOverStreams ys (record { a = after_step one.0 q.a; b = q.b })
        → LinkOverStreams (steps_at_end A (one.0 ∷ []) ++ ys) q
    single does f later = (does.0, record { to_a = f.0; to_b = f.1 }, later)

pub steps_b : (xs : List LinkStep) (ys : List (End × LinkStep)) (q : Links) → Shape xs
    → IsHistory xs q.b → Flows q.b q.a → Flows (after_history xs q.b) q.a
    → LinkOverStreams ys (record { a = q.a; b = after_history xs q.b })
    → LinkOverStreams (steps_at_end B xs ++ ys) q
unfolding after_history
steps_b xs ys q (inl still) h flow then more = still_b xs ys q still h flow more
steps_b xs ys q (inr one) h flow then more =
    subst (λ zs. LinkOverStreams (steps_at_end B zs ++ ys) q) (sym one.1)
    (single (subst (λ zs. IsHistory zs q.b) one.1 h)
    (subst (λ zs. Flows (after_history zs q.b) q.a) one.1 then)
    (subst (λ zs. LinkOverStreams ys (record { a = q.a; b = after_history zs q.b })) one.1 more))
  where
    single : IsHistory (one.0 ∷ []) q.b → Flows (after_step one.0 q.b) q.a
        → LinkOverStreams ys (record { a = q.a; b = after_step one.0 q.b })
        → LinkOverStreams (steps_at_end B (one.0 ∷ []) ++ ys) q
    single does f later = (does.0, record { to_a = f.1; to_b = f.0 }, later)

pub stream_steps : (first second : Made) (steps : List (End × SessionStep)) (p : Sessions) (j k : ℕ)
    → SessionsOverStreams steps p → BothHold first second p → AreSessionStreams p
    → LinkOverStreams (link_steps_at steps p) (links_of first second p j k)
unfolding link_steps_at
stream_steps first second [] p j k over holds now = tt
stream_steps first second (step ∷ rest) p j k over holds now =
    by step.0 step.1 over.0 over.1
    (λ m n h. stream_steps first second rest (after_session_at step.0 step.1 p) m n over.2 h over.1)
  where
    by : (end : End) (one : SessionStep)
        → SessionDoes one.call (session_at end p).used (session_at end p).session one.session
        → AreSessionStreams (after_session_at end one p)
        → ((m n : ℕ) → BothHold first second (after_session_at end one p)
        → LinkOverStreams (link_steps_at rest (after_session_at end one p))
        (links_of first second (after_session_at end one p) m n))
        → LinkOverStreams
        (steps_at_end end (link_steps_of one.call (session_at end p).session one.session.link)
        ++ link_steps_at rest (after_session_at end one p)) (links_of first second p j k)
    by A one d streams more =
        let s = step_leads first.options.form first.options.config.max one p.a j d holds.0 in
        let q = links_of first second p j k in
        let ys = link_steps_at rest (after_session_at A one p) in
        steps_a (link_steps_of one.call p.a.session one.session.link) ys q
        (shape one.call p.a.session one.session.link) s.0.0 (now.to_a, now.to_b)
        (subst (λ l. Flows l q.b) (sym s.0.1.1) (streams.to_a, streams.to_b))
        (subst (λ l. LinkOverStreams ys (record { a = l; b = q.b })) (sym s.0.1.1)
        (more s.0.1.0 k (s.1, holds.1)))
    by B one d streams more =
        let s = step_leads second.options.form second.options.config.max one p.b k d holds.1 in
        let q = links_of first second p j k in
        let ys = link_steps_at rest (after_session_at B one p) in
        steps_b (link_steps_of one.call p.b.session one.session.link) ys q
        (shape one.call p.b.session one.session.link) s.0.0 (now.to_b, now.to_a)
        (subst (λ l. Flows l q.a) (sym s.0.1.1) (streams.to_b, streams.to_a))
        (subst (λ l. LinkOverStreams ys (record { a = q.a; b = l })) (sym s.0.1.1)
        (more j s.0.1.0 (holds.0, s.1)))
