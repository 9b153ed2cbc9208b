-- Two links that ended well: what the one read is what the other wrote.
use Rattle.ddcmp_laws.specs.Sessions.{IsPlain}
use Rattle.std.proofs.Common.{◌≡◌, ◌∙◌, ap, sym, subst, refl, ℕ, Bool, true, false, List, []}
use Rattle.std.proofs.Common.{Option, Some, None, arith, Result, Ok, Err}
use Rattle.std.specs.Prelude.{◌≤◌}
use Rattle.std.specs.List.{All}
use Rattle.ddcmp_input.specs.InBinary.{in_binary, Fits}
use Rattle.ddcmp_proto.specs.Config.{first_refusal}
use Rattle.ddcmp_io.specs.declared.line_kind.LineKind.{LineKind}
use Rattle.ddcmp_streams.specs.declared.options.Options.{Options}
use Rattle.ddcmp_streams.specs.Messages.{has_events}
use Rattle.ddcmp_session.specs.Traffic.{LineLog, Traffic, no_traffic, received}
use Rattle.ddcmp_session.specs.Session.{SessionView}
use Rattle.ddcmp_session.specs.Connections.{AreDone}
use Rattle.ddcmp_session.specs.Devices.{BuffersView}
use Rattle.ddcmp_session.specs.Finishing.{Finishes}
use Rattle.ddcmp_session.specs.Lines.{Closes}
use Rattle.ddcmp_session.specs.NewRun.{RunsNew}
use Rattle.ddcmp_session.specs.Orders.{Follows, IsBehind}
use Rattle.ddcmp_laws.specs.Arrival.{BytesArrive, BytesBegin, IsBinary, IsOneLine}
use Rattle.ddcmp_laws.specs.Prefix.{Begins}
use Rattle.ddcmp_laws.specs.Connected.{IsConnectedOnce}
use Rattle.ddcmp_laws.specs.Connections.{first_connection}
use Rattle.ddcmp_laws.specs.Endings.{WasFinished}
use Rattle.ddcmp_laws.specs.Pipe.{Made, session_of}
use Rattle.ddcmp_laws.specs.SessionRuns.{Ran, RanTogether}
use Rattle.ddcmp_laws.specs.Traces.{IsHonest}
use Rattle.ddcmp_laws.proofs.Acted.{log-lines}
use Rattle.ddcmp_laws.proofs.ConnectionLaws.{once-in-files}
use Rattle.ddcmp_laws.proofs.Finished.{arrives, lost_at_last, read_at_last}
use Rattle.ddcmp_laws.proofs.FramesTogether.{frames-together}
use Rattle.ddcmp_laws.proofs.MergeRuns.{log_of, merged-runs, no_log}
use Rattle.ddcmp_laws.proofs.OverLines.{agrees_first}
use Rattle.ddcmp_laws.proofs.RunLaws.{all-to-b, files-begin-b, files-written-b}
use Rattle.ddcmp_laws.proofs.Extended.{Extended, extended, no_lines}

first-follows : Follows no_log [] no_log
unfolding received
first-follows = record { acts = (tt, [], refl); bytes = refl; lines = refl }

-- a run, from its options to its traffic
pub record WasRun (is_well : Bool) (options : Options) (last : SessionView) (after : Traffic)
    : Type 0 where
  pub ran : Ran
  pub same : ran.made.options ≡ options
  pub done : AreDone ran.steps (first_connection ran.made)
  pub held : BuffersView
  pub t : Traffic
  pub finished : WasFinished is_well ran held t last after
  pub left : List ℕ
  pub follows : Follows (log_of ran) left after.log

plain-binary : (options : Options) → IsBinary options → IsPlain options
plain-binary options binary = record {
  of_data = binary.of_data;
  no_events = ap has_events binary.form;
}

pub was-run : (is_well : Bool) (options : Options) → IsPlain options
    → (kind : LineKind) (last : SessionView) (after : Traffic)
    → RunsNew is_well options kind (Some no_traffic) last (Some after)
    → WasRun is_well options last after
was-run is_well options plain kind last after new =
    let made : Made =
    record { options = options; plain = plain; kind = kind; line = new.line } in
    let ends = new.ends.ends in
    let a =
    ends.over (first_connection made) no_traffic refl refl (agrees_first made new.clear) in
    let w = a.2 in
    let f =
    subst (λ k. Finishes is_well new.ends.closed k last (Some after)) a.1 new.ends.finishes in
    let d = f.delivers.traffic a.0 refl in
    let x = f.takes.traffic _ d.1 in
    let logs : after.log ≡ a.0.log = log-is _ after x.1 in
    record {
      ran = record { made = made; steps = w.steps };
      same = refl;
      done = w.calls;
      held = new.held;
      t = a.0;
      finished = record {
        closed = new.ends.closed;
        ended = record {
          only = w.only;
          agrees = w.agrees;
          closes = subst (λ s. Closes new.held s new.ends.closed) (sym w.session) ends.closes;
        };
        finishes = f;
      };
      left = new.held.received;
      follows =
          subst
          (λ g. Follows (log_of (record { made = made; steps = w.steps })) new.held.received g)
          (sym logs) (w.order no_log first-follows);
    }
  where
    log-is : (x y : Traffic) → ◌≡◌ {A = Option Traffic} (Some y) (Some x) → y.log ≡ x.log
    log-is x y e = cc

once : (ran : Ran) (left : List ℕ) (log : LineLog) → Follows (log_of ran) left log
    → log.lines ≤ 1 → IsConnectedOnce ran
once ran left log follows one =
    let e = follows.lines in
    let k = log-lines ran.steps (session_of ran.made).session no_log in
    omega (arith, e, k, one)

-- two runs over one line
pub record AreTogether (a b : Ran) : Type 0 where
  pub once_a : IsConnectedOnce a
  pub once_b : IsConnectedOnce b
  pub fits_a : first_refusal a.made.options.config ≡ None
  pub fits_b : first_refusal b.made.options.config ≡ None
  pub together : RanTogether a b

pub over-one-line : (a b : Ran) (options other_options : Options) (t u : Traffic)
    (left other_left : List ℕ) → a.made.options ≡ options → b.made.options ≡ other_options
    → first_refusal options.config ≡ None → first_refusal other_options.config ≡ None
    → AreDone a.steps (first_connection a.made) → AreDone b.steps (first_connection b.made)
    → Follows (log_of a) left t.log → Follows (log_of b) other_left u.log
    → IsOneLine options other_options t u → AreTogether a b
over-one-line a b options other_options t u left other_left same other_same f g done_a done_b
    follows other_follows line =
    let f' = ap (λ (o : Options). first_refusal o.config) same ∙ f in
    let g' = ap (λ (o : Options). first_refusal o.config) other_same ∙ g in
    let once_a = once a left t.log follows line.one in
    let once_b = once b other_left u.log other_follows line.other in
    record {
      once_a = once_a;
      once_b = once_b;
      fits_a = f';
      fits_b = g';
      together =
          frames-together a b f' g' done_a done_b once_a once_b
          (merged-runs a b line.order done_a done_b once_a once_b
          (subst (λ (o : Options). IsHonest o.config.max b.made.options.config.max line.order)
          (sym same)
          (subst (λ (o : Options). IsHonest options.config.max o.config.max line.order)
          (sym other_same) line.honest))
          (subst (λ xs. IsBehind [] (log_of a).acts xs) (sym line.of_first) follows.acts)
          (subst (λ xs. IsBehind [] (log_of b).acts xs) (sym line.of_second)
          other_follows.acts));
    }

pub bytes-arrive : (options other_options : Options) (kind other_kind : LineKind)
    (last other_last : SessionView) (t u : Traffic)
    → first_refusal options.config ≡ None → first_refusal other_options.config ≡ None
    → IsBinary options → IsBinary other_options
    → RunsNew true options kind (Some no_traffic) last (Some t) → last.course.lost ≡ 0
    → RunsNew true other_options other_kind (Some no_traffic) other_last (Some u)
    → IsOneLine options other_options t u → BytesArrive options t u
bytes-arrive options other_options kind other_kind last other_last t u f g binary other_binary
    ran none other line messages fit file =
    let a = was-run true options (plain-binary options binary) kind last t ran in
    let b = was-run true other_options (plain-binary other_options other_binary) other_kind other_last u other in
    let both =
    over-one-line a.ran b.ran options other_options t u a.left b.left a.same b.same f g a.done
    b.done a.follows b.follows line in
    arrives a.ran b.ran b.done
    (all-to-b a.ran b.ran both.fits_a both.fits_b a.done b.done both.together)
    (once-in-files a.ran b.ran a.done b.done both.once_a both.once_b
    (ap (λ (o : Options). o.form) a.same ∙ binary.form)
    (ap (λ (o : Options). o.form) b.same ∙ other_binary.form))
    messages
    (subst (λ (o : Options). All (Fits o.config.max) messages) (sym a.same) fit)
    a.held b.held a.t b.t t u last other_last a.finished none b.finished file

-- ---- as the contract of `run_link` has it

pub none-refused : {X R F : Type 0} (why : Option X) (result : Result R F) (fault : X → F)
    (outcome : R) → ((x : X) → why ≡ Some x → result ≡ Err (fault x)) → result ≡ Ok outcome
    → why ≡ None
none-refused None result fault outcome refuses ok = refl
none-refused {X} {R} {F} (Some x) result fault outcome refuses ok =
    absurd (no (sym ok ∙ refuses x refl))
  where
    no : ◌≡◌ {A = Result R F} (Ok outcome) (Err (fault x)) → ⊥
    no e = cc

pub not-refused : {X R F : Type 0} (why : Option X) (result : Result R F) (fault : X → F)
    → ((x : X) → why ≡ Some x → result ≡ Err (fault x))
    → ((x : X) → result ≡ Err (fault x) → ⊥) → why ≡ None
not-refused None result fault refuses ran = refl
not-refused (Some x) result fault refuses ran = absurd (ran x (refuses x refl))

pub known-run : {well : Bool} {options : Options} {kind : LineKind} {before after : Option Traffic}
    {last : SessionView} (t : Traffic) → before ≡ Some no_traffic → after ≡ Some t
    → RunsNew well options kind before last after
    → RunsNew well options kind (Some no_traffic) last (Some t)
known-run {well} {options} {kind} {before} {after} {last} t is now ran =
    subst (λ k. RunsNew well options kind (Some no_traffic) last k) now
    (subst (λ k. RunsNew well options kind k last after) is ran)

-- ---- however they ended

-- a run with messages in binary, to its end
all-of : (is_well : Bool) (options : Options) (binary : IsBinary options) (kind : LineKind)
    (last : SessionView) (after : Traffic)
    → RunsNew is_well options kind (Some no_traffic) last (Some after)
    → Extended options after last after.written
all-of is_well options binary kind last after new =
    let w = was-run is_well options (plain-binary options binary) kind last after new in
    subst (λ (o : Options). Extended o after last after.written) w.same
    (extended is_well w.ran.made w.ran.steps w.held w.t after last w.left w.done w.finished
    w.follows
    (no_lines is_well w.ran.made w.ran.steps w.held w.t after last w.left w.done w.finished
    w.follows (ap (λ (o : Options). o.form) w.same ∙ binary.form)))

pub bytes-begin : (is_well other_is_well : Bool) (options other_options : Options)
    (kind other_kind : LineKind) (last other_last : SessionView) (t u : Traffic)
    → first_refusal options.config ≡ None → first_refusal other_options.config ≡ None
    → IsBinary options → IsBinary other_options
    → RunsNew is_well options kind (Some no_traffic) last (Some t)
    → RunsNew other_is_well other_options other_kind (Some no_traffic) other_last (Some u)
    → IsOneLine options other_options t u → BytesBegin options t u
bytes-begin is_well other_is_well options other_options kind other_kind last other_last t u f g
    binary other_binary ran other line messages fit file =
    let a = all-of is_well options binary kind last t ran in
    let b = all-of other_is_well other_options other_binary other_kind other_last u other in
    let both =
    over-one-line a.ran b.ran options other_options t u a.left b.left a.same b.same f g a.done
    b.done a.follows b.follows line in
    subst (λ xs. Begins xs (in_binary messages)) b.written
    (files-begin-b a.ran b.ran both.fits_a both.fits_b a.done b.done both.together
    (once-in-files a.ran b.ran a.done b.done both.once_a both.once_b
    (ap (λ (o : Options). o.form) a.same ∙ binary.form)
    (ap (λ (o : Options). o.form) b.same ∙ other_binary.form))
    messages
    (subst (λ (o : Options). All (Fits o.config.max) messages) (sym a.same) fit)
    a.held b.held a.t b.t a.agrees b.agrees
    (subst (λ xs. Begins xs (in_binary messages)) (sym a.read) file))

-- and what the other wrote, if that acknowledges what it has written
pub bytes-written : (other_is_well : Bool) (options other_options : Options)
    (kind other_kind : LineKind) (last other_last : SessionView) (t u : Traffic)
    → first_refusal options.config ≡ None → first_refusal other_options.config ≡ None
    → IsBinary options → IsBinary other_options → other_options.acknowledge_early ≡ false
    → RunsNew true options kind (Some no_traffic) last (Some t) → last.course.lost ≡ 0
    → RunsNew other_is_well other_options other_kind (Some no_traffic) other_last (Some u)
    → IsOneLine options other_options t u → BytesArrive options t u
bytes-written other_is_well options other_options kind other_kind last other_last t u f g binary
    other_binary early ran none other line messages fit file =
    let a = was-run true options (plain-binary options binary) kind last t ran in
    let b = all-of other_is_well other_options other_binary other_kind other_last u other in
    let both =
    over-one-line a.ran b.ran options other_options t u a.left b.left a.same b.same f g a.done
    b.done a.follows b.follows line in
    sym b.written
    ∙ files-written-b a.ran b.ran both.fits_a both.fits_b a.done b.done both.together
    (once-in-files a.ran b.ran a.done b.done both.once_a both.once_b
    (ap (λ (o : Options). o.form) a.same ∙ binary.form)
    (ap (λ (o : Options). o.form) b.same ∙ other_binary.form))
    (ap (λ (o : Options). o.acknowledge_early) b.same ∙ early) messages
    (subst (λ (o : Options). All (Fits o.config.max) messages) (sym a.same) fit)
    a.held b.held a.t b.t a.finished.closed a.finished.ended b.agrees
    (lost_at_last true a.ran a.held a.t t last a.finished ∙ none)
    (sym (read_at_last true a.ran a.held a.t t last a.finished) ∙ file)
