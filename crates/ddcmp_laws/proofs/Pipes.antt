-- Two sessions and their links.
use Rattle.std.proofs.Common.{◌≡◌, ℕ, zero, suc, ◌+◌, Bool, true, false, cond, List, [], ◌∷◌}
use Rattle.std.proofs.Common.{◌++◌, refl, sym, ◌∙◌, ap, subst, arith}
use Rattle.std.proofs.Common.{option_to_list}
use Rattle.ddcmp_input.specs.declared.entry.Entry.{Entry}
use Rattle.ddcmp_input.specs.declared.entry.Entry.TheVariants.{Message, NotHexadecimal, TooLong}
use Rattle.ddcmp_input.specs.declared.entry.Entry.TheVariants.{Command, Empty}
use Rattle.ddcmp_station.specs.Linking.{LinkView, after_frame, after_taking}
use Rattle.ddcmp_io.specs.declared.carrier.End.{End}
use Rattle.ddcmp_io.specs.declared.carrier.End.TheVariants.{A, B}
use Rattle.ddcmp_streams.specs.Messages.{message_in, after_input, entries_of_input, after_last}
use Rattle.ddcmp_streams.specs.Messages.{entry_of_last}
use Rattle.ddcmp_session.specs.Session.{SessionView, taken_at_once, taken_when_written, takes_end}
use Rattle.ddcmp_laws.specs.Links.{LinkStep, IsHistory, after_history, after_step}
use Rattle.ddcmp_laws.specs.Links.{Links, after_steps, starts_in_call, link_starts}
use Rattle.ddcmp_laws.specs.LinkLines.{AreLinkCalls}
use Rattle.ddcmp_session.specs.Calls.{SessionCall, InputRead, InputEnded, Connected, LineEnded}
use Rattle.ddcmp_session.specs.Calls.{Received, Filled, LineTook, TimedOut, TimePassed, Delivered}
use Rattle.ddcmp_session.specs.Calls.{OutputTook}
use Rattle.ddcmp_session.specs.Calls.{Closed, SessionDoes, SessionStep}
use Rattle.ddcmp_laws.specs.Sessions.{offers_of, frames_put, link_steps_of, takes_put}
use Rattle.ddcmp_laws.specs.Pipe.{Made, Sessions, session_at}
use Rattle.ddcmp_laws.specs.Pipe.{after_session_at, AreSessionCalls, after_sessions, steps_at_end}
use Rattle.ddcmp_laws.specs.Pipe.{link_steps_at, connects_in_call, connects}
use Rattle.ddcmp_laws.proofs.Holding.{Holds, link_history}
use Rattle.ddcmp_laws.proofs.LinkSteps.{step_leads}

-- ---- steps at one end

abbrev pub CallsThen : End → List LinkStep → List (End × LinkStep) → Links → Links → Type 0
CallsThen end xs rest q r =
    AreLinkCalls (steps_at_end end xs ++ rest) q
    × (after_steps (steps_at_end end xs ++ rest) q ≡ after_steps rest r)

pub then_a : (xs : List LinkStep) (rest : List (End × LinkStep)) (q : Links) → IsHistory xs q.a
    → AreLinkCalls rest (record { a = after_history xs q.a; b = q.b })
    → CallsThen A xs rest q (record { a = after_history xs q.a; b = q.b })
unfolding after_history after_steps
then_a [] rest q h more = (more, refl)
then_a (x ∷ xs) rest q h more =
    let r = then_a xs rest (record { a = after_step x q.a; b = q.b }) h.1 more in ((h.0, r.0), r.1)

pub then_b : (xs : List LinkStep) (rest : List (End × LinkStep)) (q : Links) → IsHistory xs q.b
    → AreLinkCalls rest (record { a = q.a; b = after_history xs q.b })
    → CallsThen B xs rest q (record { a = q.a; b = after_history xs q.b })
unfolding after_history after_steps
then_b [] rest q h more = (more, refl)
then_b (x ∷ xs) rest q h more =
    let r = then_b xs rest (record { a = q.a; b = after_step x q.b }) h.1 more in ((h.0, r.0), r.1)

-- ---- two sessions and their links

abbrev pub links_of : Made → Made → Sessions → ℕ → ℕ → Links
links_of first second p j k = record {
  a = link_history first.options.form first.options.config.max p.a j;
  b = link_history second.options.form second.options.config.max p.b k;
}

abbrev pub BothHold : Made → Made → Sessions → Type 0
BothHold first second p =
    Holds first.options.form first.options.config.max p.a
    × Holds second.options.form second.options.config.max p.b

abbrev pub Keeps : Made → Made → List (End × SessionStep) → Sessions → ℕ → ℕ → Type 0
Keeps first second steps p j k =
    AreLinkCalls (link_steps_at steps p) (links_of first second p j k)
    × ((m : ℕ) × (n : ℕ)
    × (after_steps (link_steps_at steps p) (links_of first second p j k)
    ≡ links_of first second (after_sessions steps p) m n))
    × BothHold first second (after_sessions steps p)

abbrev pub StepKeeps : Made → Made → End → SessionStep → List (End × SessionStep) → Sessions → ℕ → ℕ
    → Type 0
StepKeeps first second end one rest p j k =
    AreLinkCalls
    (steps_at_end end
    (link_steps_of one.call (session_at end p).session one.session.link)
    ++ link_steps_at rest (after_session_at end one p)) (links_of first second p j k)
    × ((m : ℕ) × (n : ℕ)
    × (after_steps
    (steps_at_end end
    (link_steps_of one.call (session_at end p).session one.session.link)
    ++ link_steps_at rest (after_session_at end one p)) (links_of first second p j k)
    ≡ links_of first second (after_sessions rest (after_session_at end one p)) m n))
    × BothHold first second (after_sessions rest (after_session_at end one p))

pub keeps_steps : (first second : Made) (steps : List (End × SessionStep)) (p : Sessions) (j k : ℕ)
    → AreSessionCalls steps p → BothHold first second p → Keeps first second steps p j k
unfolding link_steps_at after_steps after_sessions
keeps_steps first second [] p j k does holds = (tt, (j, k, refl), holds)
keeps_steps first second (step ∷ rest) p j k does holds =
    by step.0 step.1 does.0
    (λ m n. keeps_steps first second rest (after_session_at step.0 step.1 p) m n does.1)
  where
    by : (end : End) (one : SessionStep)
        → SessionDoes one.call (session_at end p).used (session_at end p).session one.session
        → ((m n : ℕ) → BothHold first second (after_session_at end one p)
        → Keeps first second rest (after_session_at end one p) m n)
        → StepKeeps first second end one rest p j k
    by A one d more =
        let s = step_leads first.options.form first.options.config.max one p.a j d holds.0 in
        let xs = link_steps_of one.call p.a.session one.session.link in
        let ys = link_steps_at rest (after_session_at A one p) in
        let q = links_of first second p j k in
        let r = more s.0.1.0 k (s.1, holds.1) in
        let t = then_a xs ys q s.0.0
        (subst (λ l. AreLinkCalls ys (record { a = l; b = q.b })) (sym s.0.1.1) r.0) in (
          t.0,
          (
            r.1.0,
            r.1.1,
            t.1 ∙ ap (λ l. after_steps ys (record { a = l; b = q.b })) s.0.1.1 ∙ r.1.2,
          ),
          r.2,
        )
    by B one d more =
        let s = step_leads second.options.form second.options.config.max one p.b k d holds.1 in
        let xs = link_steps_of one.call p.b.session one.session.link in
        let ys = link_steps_at rest (after_session_at B one p) in
        let q = links_of first second p j k in
        let r = more j s.0.1.0 (holds.0, s.1) in
        let t = then_b xs ys q s.0.0
        (subst (λ l. AreLinkCalls ys (record { a = q.a; b = l })) (sym s.0.1.1) r.0) in (
          t.0,
          (
            r.1.0,
            r.1.1,
            t.1 ∙ ap (λ l. after_steps ys (record { a = q.a; b = l })) s.0.1.1 ∙ r.1.2,
          ),
          r.2,
        )

-- ---- each link is started as often as its session is connected

pub starts_in_steps : List LinkStep → ℕ
starts_in_steps [] = 0
starts_in_steps (x ∷ xs) = starts_in_call x.call + starts_in_steps xs

pub frames_start_none : (n : ℕ) (d : LinkView) → starts_in_steps (frames_put n d) ≡ 0
unfolding starts_in_steps frames_put
frames_start_none zero d = refl
frames_start_none (suc n) d = let e = frames_start_none n (after_frame d) in omega (arith, e)

pub takes_start_none : (n : ℕ) (d : LinkView) → starts_in_steps (takes_put n d) ≡ 0
unfolding starts_in_steps takes_put
takes_start_none zero d = refl
takes_start_none (suc n) d = let e = takes_start_none n (after_taking d) in omega (arith, e)

pub offers_start_none : (es : List Entry) (message : List ℕ) (d : LinkView)
    → starts_in_steps (offers_of es message d) ≡ 0
unfolding starts_in_steps
offers_start_none [] message d = refl
offers_start_none (Message ∷ rest) message d = refl
offers_start_none (NotHexadecimal ∷ rest) message d = refl
offers_start_none (TooLong ∷ rest) message d = refl
offers_start_none (Empty ∷ rest) message d = refl
offers_start_none (Command ∷ rest) message d = refl

pub call_starts : (call : SessionCall) (s : SessionView) (new : LinkView)
    → starts_in_steps (link_steps_of call s new) ≡ connects_in_call call
unfolding starts_in_steps
call_starts (InputRead used) s new =
    offers_start_none (entries_of_input used s.messages) (message_in (after_input used s.messages))
    new
call_starts InputEnded s new = by (takes_end s)
  where
    by : (b : Bool)
        → starts_in_steps
        (cond b
        (offers_of (option_to_list (entry_of_last s.messages)) (message_in (after_last s.messages))
        new) [])
        ≡ 0
    by true =
        offers_start_none (option_to_list (entry_of_last s.messages))
        (message_in (after_last s.messages)) new
    by false = refl
call_starts Connected s new = refl
call_starts (LineEnded how r) s new = refl
call_starts (Received used) s new = refl
call_starts (Filled frames) s new = frames_start_none frames s.link
call_starts (LineTook n) s new = refl
call_starts (TimedOut now) s new = refl
call_starts TimePassed s new = refl
call_starts (Delivered true) s new = takes_start_none (taken_at_once s) s.link
call_starts (Delivered false) s new = refl
call_starts (OutputTook n) s new = takes_start_none (taken_when_written n s) s.link
call_starts (Closed left over r) s new = refl

pub own_a : (xs : List LinkStep) (rest : List (End × LinkStep))
    → link_starts A (steps_at_end A xs ++ rest) ≡ starts_in_steps xs + link_starts A rest
unfolding link_starts starts_in_steps
own_a [] rest = omega arith
own_a (x ∷ xs) rest = let e = own_a xs rest in omega (arith, e)

pub other_a : (xs : List LinkStep) (rest : List (End × LinkStep))
    → link_starts A (steps_at_end B xs ++ rest) ≡ link_starts A rest
unfolding link_starts
other_a [] rest = refl
other_a (x ∷ xs) rest = let e = other_a xs rest in omega (arith, e)

pub own_b : (xs : List LinkStep) (rest : List (End × LinkStep))
    → link_starts B (steps_at_end B xs ++ rest) ≡ starts_in_steps xs + link_starts B rest
unfolding link_starts starts_in_steps
own_b [] rest = omega arith
own_b (x ∷ xs) rest = let e = own_b xs rest in omega (arith, e)

pub other_b : (xs : List LinkStep) (rest : List (End × LinkStep))
    → link_starts B (steps_at_end A xs ++ rest) ≡ link_starts B rest
unfolding link_starts
other_b [] rest = refl
other_b (x ∷ xs) rest = let e = other_b xs rest in omega (arith, e)

pub starts_a : (steps : List (End × SessionStep)) (p : Sessions)
    → link_starts A (link_steps_at steps p) ≡ connects A steps
unfolding link_starts link_steps_at connects
starts_a [] p = refl
starts_a (step ∷ rest) p = by step.0 step.1 (starts_a rest (after_session_at step.0 step.1 p))
  where
    by : (end : End) (one : SessionStep)
        → link_starts A (link_steps_at rest (after_session_at end one p)) ≡ connects A rest
        → link_starts A
        (steps_at_end end (link_steps_of one.call (session_at end p).session one.session.link)
        ++ link_steps_at rest (after_session_at end one p))
        ≡ connects A ((end, one) ∷ rest)
    by A one e =
        let xs = link_steps_of one.call p.a.session one.session.link in
        let f = own_a xs (link_steps_at rest (after_session_at A one p)) in
        let g = call_starts one.call p.a.session one.session.link in
        omega (arith, e, f, g)
    by B one e =
        let f =
        other_a (link_steps_of one.call p.b.session one.session.link)
        (link_steps_at rest (after_session_at B one p)) in
        omega (arith, e, f)

pub starts_b : (steps : List (End × SessionStep)) (p : Sessions)
    → link_starts B (link_steps_at steps p) ≡ connects B steps
unfolding link_starts link_steps_at connects
starts_b [] p = refl
starts_b (step ∷ rest) p = by step.0 step.1 (starts_b rest (after_session_at step.0 step.1 p))
  where
    by : (end : End) (one : SessionStep)
        → link_starts B (link_steps_at rest (after_session_at end one p)) ≡ connects B rest
        → link_starts B
        (steps_at_end end (link_steps_of one.call (session_at end p).session one.session.link)
        ++ link_steps_at rest (after_session_at end one p))
        ≡ connects B ((end, one) ∷ rest)
    by A one e =
        let f =
        other_b (link_steps_of one.call p.a.session one.session.link)
        (link_steps_at rest (after_session_at A one p)) in
        omega (arith, e, f)
    by B one e =
        let xs = link_steps_of one.call p.b.session one.session.link in
        let f = own_b xs (link_steps_at rest (after_session_at B one p)) in
        let g = call_starts one.call p.b.session one.session.link in
        omega (arith, e, f, g)
