-- A session that runs over devices from its beginning.
use Rattle.std.proofs.Common.{◌≡◌, ◌∙◌, ap, sym, subst, refl, Bool, true, false, cond, []}
use Rattle.std.proofs.Common.{◌∷◌, ◌++◌, Option, Some, append_assoc, append-nil}
use Rattle.ddcmp_input.specs.InBinary.{in_binary}
use Rattle.ddcmp_laws.specs.Prefix.{Begins}
use Rattle.ddcmp_streams.specs.declared.messages.MessageForm.TheVariants as form
use Rattle.ddcmp_frame.specs.Reader.{StandsFor}
use Rattle.ddcmp_session.specs.Session.{SessionView, form_of}
use Rattle.ddcmp_session.specs.Calls.{SessionDoes, Connected, SessionStep, SessionHistory}
use Rattle.ddcmp_session.specs.Calls.{after_session_step, after_session_steps}
use Rattle.ddcmp_session.specs.Calls.{end_in}
use Rattle.ddcmp_session.specs.Devices.{Agrees, BuffersView, GoesOn, end_of}
use Rattle.ddcmp_session.specs.Traffic.{Traffic, no_traffic, received, sent}
use Rattle.ddcmp_session.specs.Devices.{nothing_read}
use Rattle.ddcmp_laws.specs.Loops.{DevicesPipe, DevicesPipeAll, HasRun}
use Rattle.ddcmp_laws.specs.Pipe.{Made, session_of, PipesBytes, PipesWhole}
use Rattle.ddcmp_laws.specs.Sessions.{texts_of}
use Rattle.ddcmp_laws.proofs.Writing.{is_text}

module _ (made : Made) (connected : SessionView)
    (does : SessionDoes Connected [] (session_of made).session connected) where
  abbrev step : SessionStep
  step = record { call = Connected; session = connected }

  first_agrees : StandsFor connected.link.station.line []
      → Agrees nothing_read (after_session_step step (session_of made)) no_traffic
  unfolding received sent
  first_agrees stands = record {
    read = refl;
    over = refl;
    told = λ e. cc;
    drained = λ e. cc;
    ended = λ e. cc;
    came = refl;
    gone = refl;
    written = refl;
    down = λ why e. cc;
    stands = stands;
  }

  pub is_history : (now : SessionView) (held : BuffersView) (known : Option Traffic)
      → StandsFor connected.link.station.line []
      → GoesOn nothing_read connected (Some no_traffic) held now known
      → (t : Traffic) × (known ≡ Some t) × HasRun made now held t
  unfolding after_session_steps
  is_history now held known stands goes =
      let a =
      goes (after_session_step step (session_of made)) no_traffic refl refl (first_agrees stands) in
      let w = a.2 in (
        a.0,
        a.1,
        record {
          steps = step ∷ w.steps;
          calls = (does, w.calls);
          session = w.session;
          agrees = w.agrees;
        },
      )

pub is_text_of : (made : Made) (now : SessionView) (held : BuffersView) (t : Traffic)
    (went : HasRun made now held t)
    → t.written ++ now.output.waiting
    ≡ texts_of made.options.form (after_session_steps went.steps (session_of made)).shown
is_text_of made now held t went =
    ap (λ xs. xs ++ now.output.waiting) went.agrees.written
    ∙ ap (λ (s : SessionView).
    (after_session_steps went.steps (session_of made)).written ++ s.output.waiting)
    (sym went.session)
    ∙ is_text made.options made.kind made.line went.steps went.calls

-- ---- two of them

no_end : (h : SessionHistory) → form_of h.session.messages ≡ form.Binary → end_of h ≡ []
no_end h kind = by h.is_told
  where
    by : (b : Bool) → cond b (end_in (form_of h.session.messages)) [] ≡ []
    by true = ap end_in kind
    by false = refl

gave : (giver : SessionHistory) (held : BuffersView) (t : Traffic)
    → form_of giver.session.messages ≡ form.Binary → Agrees held giver t
    → giver.input ++ held.input ≡ t.read
gave giver held t kind a =
    sym a.read ∙ ap (λ xs. t.read ++ xs) (no_end giver kind) ∙ append-nil t.read

pub devices_pipe : (made other : Made) (giver taker : SessionHistory)
    → form_of giver.session.messages ≡ made.options.form → PipesBytes made other giver taker
    → DevicesPipe made other giver taker
devices_pipe made other giver taker kind bytes f g messages fit held other_held t other_t a b
    begins =
    subst (λ xs. Begins xs (in_binary messages)) (sym b.written)
    (bytes f g messages fit (
      held.input ++ begins.0,
      sym (append_assoc giver.input held.input begins.0)
          ∙ ap (λ xs. xs ++ begins.0) (gave giver held t (kind ∙ f) a)
          ∙ begins.1,
    ))

pub devices_pipe_all : (made other : Made) (giver taker : SessionHistory)
    → form_of giver.session.messages ≡ made.options.form → PipesWhole made other giver taker
    → DevicesPipeAll made other giver taker
devices_pipe_all made other giver taker kind whole f g messages fit held other_held t other_t a b
    all none over drained waits =
    b.written
    ∙ whole f g messages fit
    (sym (append-nil giver.input)
    ∙ ap (λ xs. giver.input ++ xs) (sym none)
    ∙ gave giver held t (kind ∙ f) a
    ∙ all) over drained waits
