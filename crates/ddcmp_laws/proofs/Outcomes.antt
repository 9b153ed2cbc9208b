-- What comes out of two sessions.
use Rattle.std.proofs.Common.{◌≡◌, ℕ, Bool, true, false, List, [], ◌∷◌}
use Rattle.std.proofs.Common.{◌++◌, length, map, refl, sym, ◌∙◌, ap, subst, arith, append_assoc}
use Rattle.std.proofs.Common.{append-nil, cond, None}
use Rattle.std.specs.Prelude.{◌&&◌, ◌||◌, not}
use Rattle.std.specs.List.{All}
use Rattle.ddcmp_input.specs.InBinary.{in_binary, told_in, Fits}
use Rattle.ddcmp_input.specs.Lengths as lengths
use Rattle.ddcmp_input.specs.Told.{Got}
use Rattle.ddcmp_input.proofs.BinaryLaws as in_binary_laws
use Rattle.ddcmp_proto.specs.Config.{first_refusal}
use Rattle.ddcmp_station.specs.Linking.{delivered}
use Rattle.ddcmp_io.specs.declared.carrier.End.{End}
use Rattle.ddcmp_io.specs.declared.carrier.End.TheVariants.{A, B}
use Rattle.ddcmp_core.proofs.Sound.{sound_chosen}
use Rattle.ddcmp_core.specs.Table.{new_station}
use Rattle.ddcmp_pair.proofs.Modes.{acts-hold}
use Rattle.ddcmp_pair.proofs.Ordered.{fresh-new}
use Rattle.ddcmp_pair.proofs.Ready.{Holding}
use Rattle.ddcmp_laws.proofs.StationRuns.{IsAlone, Kept, alone-chosen, alone-fresh}
use Rattle.ddcmp_pair.specs.Choices.{Chooses, after_choice_here, run_acts}
use Rattle.ddcmp_proto.specs.Config.{limits_of}
use Rattle.ddcmp_streams.specs.Options.{takes_at_once}
use Rattle.ddcmp_pair.specs.Prefix.{IsPrefixOf}
use Rattle.ddcmp_pair.specs.Run.{new_end}
use Rattle.ddcmp_streams.specs.declared.messages.MessageForm.{MessageForm}
use Rattle.ddcmp_streams.specs.declared.messages.MessageForm.TheVariants as form
use Rattle.ddcmp_laws.specs.PairCalls.{run_calls}
use Rattle.ddcmp_laws.specs.Links.{LinkOverStreams}
use Rattle.ddcmp_laws.specs.Links.{IsSameEnd, Links, after_steps}
use Rattle.ddcmp_laws.specs.Links.{AreStartedOnce, received, LinkReaches}
use Rattle.ddcmp_laws.specs.LinkLines.{AreLinkCalls, calls_of_steps}
use Rattle.ddcmp_laws.specs.Faithful.{bytes_of, written}
use Rattle.ddcmp_laws.proofs.FaithfulLaws.{IsWell, sound_made}
use Rattle.ddcmp_laws.proofs.Late.{are_written, late_a, late_b}
use Rattle.ddcmp_laws.proofs.Queues.{IsQueued, all_of, taken_of}
use Rattle.ddcmp_laws.proofs.TakenWritten.{late_first}
use Rattle.ddcmp_laws.proofs.TwoLinks.{AreTaken, IsFreshStart, NoneOut, acknowledged_to_a}
use Rattle.ddcmp_laws.proofs.TwoLinks.{acknowledged_to_b, none_out, reaches_a, reaches_b}
use Rattle.ddcmp_laws.proofs.TwoLinks.{stream_calls, stream_honest, taken_from_a, taken_from_b}
use Rattle.ddcmp_session.specs.Calls.{SessionHistory, SessionStep, end_in}
use Rattle.ddcmp_laws.specs.Sessions.{messages_of, mail_in, got_in, texts_of}
use Rattle.ddcmp_laws.specs.Loops.{DevicesDeliver, DevicesPipe, DevicesPipeAll}
use Rattle.ddcmp_laws.specs.Loops.{DevicesPipeClosed}
use Rattle.ddcmp_laws.proofs.LoopLaws.{devices_pipe, devices_pipe_all}
use Rattle.ddcmp_laws.specs.Pipe.{Made, Sessions, link_made_of, new_sessions, links_made, pair_made}
use Rattle.ddcmp_laws.specs.Pipe.{after_session_at, AreSessionCalls, after_sessions}
use Rattle.ddcmp_laws.specs.Pipe.{link_steps_at, AreConnectedOnce}
use Rattle.ddcmp_laws.specs.Pipe.{undelivered, Pipes, PipesAll, PipesBytes, PipesClosed}
use Rattle.ddcmp_laws.specs.Pipe.{PipesWhole}
use Rattle.ddcmp_laws.specs.Written.{PipesWritten, unacknowledged}
use Rattle.ddcmp_laws.specs.Pipe.{IsKeptByPipes, SessionsOverStreams}
use Rattle.ddcmp_laws.specs.Pipe.{IsKeptOverConnections}
use Rattle.ddcmp_laws.proofs.Given.{gave_more, no_more, none_unread}
use Rattle.ddcmp_laws.proofs.Inputs.{got_more}
use Rattle.ddcmp_laws.proofs.Texts.{binary_more, only_mail}
use Rattle.ddcmp_laws.proofs.Holding.{Holds, link_history}
use Rattle.ddcmp_laws.proofs.LinkSteps.{begins}
use Rattle.ddcmp_laws.proofs.Losing.{closed-none, counts-a, counts-b, new-counts}
use Rattle.ddcmp_laws.proofs.Pipes.{BothHold, Keeps, keeps_steps, links_of, starts_a, starts_b}
use Rattle.ddcmp_laws.proofs.SessionStreams.{stream_steps}

-- ---- what comes out

pub last_true : (a b : Bool) → a && b ≡ true → b ≡ true
last_true true b e = e
last_true false b e = cc

-- what is received begins what is accepted
pub delivers_first : (f : MessageForm) (max : ℕ) (g : MessageForm) (other : ℕ)
    (giver taker : SessionHistory)
    (j k : ℕ) → IsQueued taker.session taker.shown
    → LinkReaches (link_history f max giver j) (link_history g other taker k)
    → IsPrefixOf (mail_in taker.shown) (messages_of f max giver.input)
delivers_first f max g other giver taker j k queued r = (
  undelivered taker ++ r.order.0,
  sym (append_assoc (mail_in taker.shown) (undelivered taker) r.order.0)
      ∙ ap (λ ms. ms ++ r.order.0) (all_of taker.session taker.shown queued)
      ∙ r.order.1,
)

pub got_all : (messages : List (List ℕ)) → got_in (map Got messages) ≡ messages
unfolding got_in
got_all [] = refl
got_all (m ∷ rest) = ap (λ ms. m ∷ ms) (got_all rest)

pub read_all : (max : ℕ) (messages : List (List ℕ)) → All (Fits max) messages
    → messages_of form.Binary max (in_binary messages) ≡ messages
read_all max messages fit =
    ap got_in (in_binary_laws.all_messages messages (lengths.begun max) refl fit).0
    ∙ got_all messages

-- what is read of a file's beginning begins what is read of the file
pub read_first : (max : ℕ) (input rest : List ℕ) (messages : List (List ℕ))
    → All (Fits max) messages
    → input ++ rest ≡ in_binary messages
    → IsPrefixOf (messages_of form.Binary max input) messages
read_first max input rest messages fit e =
    let begun = lengths.begun max in
    let more = told_in rest (lengths.after_bytes input begun) in (
      got_in more,
      sym (got_more (told_in input begun) more)
          ∙ ap got_in (sym (in_binary_laws.told_more input rest begun))
          ∙ ap (messages_of form.Binary max) e
          ∙ read_all max messages fit,
    )

-- the output of one that writes binary
pub output_is : (made other : Made) (taker : SessionHistory) → other.options.form ≡ form.Binary
    → Holds other.options.form other.options.config.max taker
    → taker.written ++ taker.session.output.waiting ≡ in_binary (mail_in taker.shown)
output_is made other taker is holds =
    holds.text ∙ ap (λ f. texts_of f taker.shown) is ∙ only_mail taker.shown

pub bytes_first : (made other : Made) (giver taker : SessionHistory)
    → Holds other.options.form other.options.config.max taker
    → IsPrefixOf (mail_in taker.shown)
    (messages_of made.options.form made.options.config.max giver.input)
    → PipesBytes made other giver taker
bytes_first made other giver taker holds order is other_is messages fit begins_file =
    let max = made.options.config.max in
    let r = read_first max giver.input begins_file.0 messages fit begins_file.1 in
    let o = output_is made other taker other_is holds in
    let waiting = taker.session.output.waiting in
    let mail = mail_in taker.shown in
    let all : mail ++ (order.0 ++ r.0) ≡ messages =
    sym (append_assoc mail order.0 r.0)
    ∙ ap (λ ms. ms ++ r.0)
    (order.1 ∙ ap (λ f. messages_of f max giver.input) is)
    ∙ r.1 in (
      waiting ++ in_binary (order.0 ++ r.0),
      sym (append_assoc taker.written waiting (in_binary (order.0 ++ r.0)))
          ∙ ap (λ t. t ++ in_binary (order.0 ++ r.0)) o
          ∙ sym (binary_more mail (order.0 ++ r.0))
          ∙ ap in_binary all,
    )

pub bytes_whole : (made other : Made) (giver taker : SessionHistory)
    → Holds other.options.form other.options.config.max taker → PipesAll made giver taker
    → PipesWhole made other giver taker
bytes_whole made other giver taker holds all is other_is messages fit file over none still =
    let max = made.options.config.max in
    let mail = mail_in taker.shown in
    let o = output_is made other taker other_is holds in
    let given : mail ≡ messages =
    sym (append-nil mail)
    ∙ ap (λ ms. mail ++ ms) (sym none)
    ∙ all over
    ∙ ap (λ f. messages_of f max giver.input) is
    ∙ ap (messages_of form.Binary max) file
    ∙ read_all max messages fit in
    sym (append-nil taker.written)
    ∙ ap (λ t. taker.written ++ t) (sym still)
    ∙ o
    ∙ ap in_binary given

-- all of the messages that an input gave were received, if its session was closed and lost nothing
devices_deliver : (made : Made) (giver taker : SessionHistory)
    → Holds made.options.form made.options.config.max giver → PipesClosed made giver taker
    → DevicesDeliver made giver taker
devices_deliver made giver taker holds closes held t closed first a ends none =
    let f = made.options.form in
    let max = made.options.config.max in
    let p = closes held.input held.is_over ends.is_reported closed ends.closed none in
    p.0
    ∙ sym
    (ap (messages_of f max) (gave_more f giver held t holds.kind a)
    ∙ none_unread f max giver held holds first p.1 p.2)

devices_pipe_closed : (made other : Made) (giver taker : SessionHistory)
    → Holds other.options.form other.options.config.max taker → DevicesDeliver made giver taker
    → DevicesPipeClosed made other giver taker
devices_pipe_closed made other giver taker holds delivers is other_is messages fit held other_held
    t other_t closed first a b ends none file no_mail still =
    let max = made.options.config.max in
    let mail = mail_in taker.shown in
    let given : mail ≡ messages =
    sym (append-nil mail)
    ∙ ap (λ ms. mail ++ ms) (sym no_mail)
    ∙ delivers held t closed first a ends none
    ∙ ap (λ f. messages_of f max (t.read ++ cond t.is_over (end_in f) [])) is
    ∙ ap (messages_of form.Binary max) (no_more t.read t.is_over ∙ file)
    ∙ read_all max messages fit in
    b.written
    ∙ sym (append-nil taker.written)
    ∙ ap (λ xs. taker.written ++ xs) (sym still)
    ∙ output_is made other taker other_is holds
    ∙ ap in_binary given

-- ---- from two new sessions

-- what the links of two sessions do
pub record LinksDo (first second : Made) (q : Links) : Type 0 where
  pub to_b : LinkReaches q.a q.b
  pub to_a : LinkReaches q.b q.a
  pub all_b : NoneOut q.a → received q.b ≡ q.a.accepted
  pub all_a : NoneOut q.b → received q.a ≡ q.b.accepted
  pub taken_b : second.options.acknowledge_early ≡ false → AreTaken q.a q.b
  pub taken_a : first.options.acknowledge_early ≡ false → AreTaken q.b q.a

-- the links of two sessions after their calls
abbrev pub links_after : Made → Made → List (End × SessionStep) → Links
links_after first second steps =
    after_steps (link_steps_at steps (new_sessions first second)) (links_made first second)

-- ---- two stations whose links were made

pub chosen_sound : (made : Made) → first_refusal made.options.config ≡ None
    → IsWell (after_choice_here (not (takes_at_once made.options)) (new_end made.options.config))
chosen_sound made f = record {
  sound =
      sound_chosen (limits_of made.options.config) new_station
      (not (takes_at_once made.options)) (sound_made made.options.config f);
  sent = tt;
}

chosen_same : (made : Made)
    → IsSameEnd
    (after_choice_here (not (takes_at_once made.options)) (new_end made.options.config))
    (link_made_of made)
unfolding bytes_of
chosen_same made = record {
  core = refl;
  syn = refl;
  arrived = refl;
  wrote = refl;
  given = refl;
  taken = refl;
  acknowledged = refl;
}

pub made_holding : (first second : Made) → first_refusal first.options.config ≡ None
    → first_refusal second.options.config ≡ None → Holding (pair_made first second)
unfolding run_acts
made_holding first second f g =
    acts-hold first.options.config second.options.config
    (Chooses A (not (takes_at_once first.options))
    ∷ Chooses B (not (takes_at_once second.options)) ∷ []) f g

-- it acknowledges messages when they are taken, unless it is to do so early
pub chosen_late : (made : Made) → made.options.acknowledge_early ≡ false
    → (after_choice_here (not (takes_at_once made.options))
    (new_end made.options.config)).core.station.by_user ≡ true
chosen_late made early = λ i. not (made.plain.of_data i || early i)

chosen_alone : (made : Made) → first_refusal made.options.config ≡ None
    → IsAlone (after_choice_here (not (takes_at_once made.options)) (new_end made.options.config))
chosen_alone made f =
    alone-chosen (not (takes_at_once made.options)) (new_end made.options.config)
    (alone-fresh (new_end made.options.config) (fresh-new made.options.config f))

pub made_kept : (first second : Made) → first_refusal first.options.config ≡ None
    → first_refusal second.options.config ≡ None → Kept (pair_made first second)
made_kept first second f g = record {
  pair = pair_made first second;
  same = refl;
  keeps = record {
    holds = (made_holding first second f g).holds;
    a = chosen_alone first f;
    b = chosen_alone second g;
  };
}

pub made_start : (first second : Made) → first_refusal first.options.config ≡ None
    → first_refusal second.options.config ≡ None
    → IsFreshStart (pair_made first second) (links_made first second)
made_start first second f g = record {
  is = record {
    same = record { a = chosen_same first; b = chosen_same second };
    holding = made_holding first second f g;
    none_a = refl;
    none_b = refl;
  };
  straight = record { a = chosen_sound first f; b = chosen_sound second g; honest = refl };
  to_a = (written (pair_made first second).b, refl);
  to_b = (written (pair_made first second).a, refl);
}

module _ (first second : Made) (steps : List (End × SessionStep)) where
  pub made_links : links_made first second ≡ links_of first second (new_sessions first second) 0 0
  made_links =
      λ i. record {
        a = (begins first.options first.kind first.line first.plain).1 i;
        b = (begins second.options second.kind second.line second.plain).1 i;
      }

  pub new_hold : BothHold first second (new_sessions first second)
  new_hold = (
    (begins first.options first.kind first.line first.plain).0,
    (begins second.options second.kind second.line second.plain).0,
  )

  pub are_once : AreConnectedOnce steps
      → AreStartedOnce (link_steps_at steps (new_sessions first second))
  are_once once = record {
    at_a =
        let e = starts_a steps (new_sessions first second) in let h = once.at_a in
        omega (arith, e, h);
    at_b =
        let e = starts_b steps (new_sessions first second) in let h = once.at_b in
        omega (arith, e, h);
  }

  links_do : first_refusal first.options.config ≡ None → first_refusal second.options.config ≡ None
      → AreLinkCalls (link_steps_at steps (new_sessions first second)) (links_made first second)
      → (run_calls
      (calls_of_steps (link_steps_at steps (new_sessions first second)) (links_made first second))
      (pair_made first second)).honest ≡ true
      → AreConnectedOnce steps → LinksDo first second (links_after first second steps)
  links_do f g are honest once =
      let calls = link_steps_at steps (new_sessions first second) in
      let started = are_once once in
      let p = pair_made first second in
      let q = links_made first second in
      let start = (made_start first second f g).is in
      record {
        to_b = reaches_b p q start calls are honest started;
        to_a = reaches_a p q start calls are honest started;
        all_b = acknowledged_to_b p q start calls are honest started;
        all_a = acknowledged_to_a p q start calls are honest started;
        taken_b =
            λ early. taken_from_b p q start calls are honest started (chosen_late second early);
        taken_a =
            λ early. taken_from_a p q start calls are honest started (chosen_late first early);
      }

  pub honest_links : first_refusal first.options.config ≡ None
      → first_refusal second.options.config ≡ None
      → AreSessionCalls steps (new_sessions first second)
      → (run_calls
      (calls_of_steps (link_steps_at steps (new_sessions first second)) (links_made first second))
      (pair_made first second)).honest ≡ true
      → AreConnectedOnce steps → LinksDo first second (links_after first second steps)
  honest_links f g does honest once =
      let calls = link_steps_at steps (new_sessions first second) in
      let keeps = keeps_steps first second steps (new_sessions first second) 0 0 does new_hold in
      links_do f g (subst (AreLinkCalls calls) (sym made_links) keeps.0) honest once

  pub stream_links : first_refusal first.options.config ≡ None
      → first_refusal second.options.config ≡ None
      → SessionsOverStreams steps (new_sessions first second) → AreConnectedOnce steps
      → LinksDo first second (links_after first second steps)
  stream_links f g over once =
      let calls = link_steps_at steps (new_sessions first second) in
      let are =
      subst (LinkOverStreams calls) (sym made_links)
      (stream_steps first second steps (new_sessions first second) 0 0 over new_hold
      (record { to_a = ([], refl); to_b = ([], refl) })) in
      links_do f g (stream_calls calls (links_made first second) are)
      (stream_honest (pair_made first second) (links_made first second)
      (made_start first second f g) calls are) once

  module _ (does : AreSessionCalls steps (new_sessions first second))
      (links : LinksDo first second (links_after first second steps)) where
    keeps : Keeps first second steps (new_sessions first second) 0 0
    keeps = keeps_steps first second steps (new_sessions first second) 0 0 does new_hold

    done : LinksDo first second
        (links_of first second (after_sessions steps (new_sessions first second)) keeps.1.0
        keeps.1.1)
    done =
        subst (LinksDo first second)
        (ap (after_steps (link_steps_at steps (new_sessions first second))) made_links
        ∙ keeps.1.2) links

    pub pipes_b : Pipes first (after_sessions steps (new_sessions first second)).a
        (after_sessions steps (new_sessions first second)).b
    pipes_b =
        delivers_first first.options.form first.options.config.max
        second.options.form second.options.config.max
        (after_sessions steps (new_sessions first second)).a
        (after_sessions steps (new_sessions first second)).b keeps.1.0 keeps.1.1
        keeps.2.1.queued done.to_b

    pub pipes_a : Pipes second (after_sessions steps (new_sessions first second)).b
        (after_sessions steps (new_sessions first second)).a
    pipes_a =
        delivers_first second.options.form second.options.config.max
        first.options.form first.options.config.max
        (after_sessions steps (new_sessions first second)).b
        (after_sessions steps (new_sessions first second)).a keeps.1.1 keeps.1.0
        keeps.2.0.queued done.to_a

    pub all_b : PipesAll first (after_sessions steps (new_sessions first second)).a
        (after_sessions steps (new_sessions first second)).b
    all_b over =
        let s = (after_sessions steps (new_sessions first second)).a.session in
        let other = (after_sessions steps (new_sessions first second)).b in
        all_of other.session other.shown keeps.2.1.queued
        ∙ done.all_b
        (none_out (links_of first second (after_sessions steps (new_sessions first second))
        keeps.1.0 keeps.1.1).a (last_true s.is_read (delivered s.link) over))

    pub all_a : PipesAll second (after_sessions steps (new_sessions first second)).b
        (after_sessions steps (new_sessions first second)).a
    all_a over =
        let s = (after_sessions steps (new_sessions first second)).b.session in
        let other = (after_sessions steps (new_sessions first second)).a in
        all_of other.session other.shown keeps.2.0.queued
        ∙ done.all_a
        (none_out (links_of first second (after_sessions steps (new_sessions first second))
        keeps.1.0 keeps.1.1).b (last_true s.is_read (delivered s.link) over))

    pub closed_b : PipesClosed first (after_sessions steps (new_sessions first second)).a
        (after_sessions steps (new_sessions first second)).b
    closed_b left over r closed is none =
        let s = (after_sessions steps (new_sessions first second)).a.session in
        let nothing = closed-none left over r s closed is none
        (counts-a steps (new_sessions first second) does (new-counts first)) in
        let other = (after_sessions steps (new_sessions first second)).b in (
          all_of other.session other.shown keeps.2.1.queued ∙ done.all_b (ap length nothing.0),
          nothing.1,
          nothing.2,
        )

    pub closed_a : PipesClosed second (after_sessions steps (new_sessions first second)).b
        (after_sessions steps (new_sessions first second)).a
    closed_a left over r closed is none =
        let s = (after_sessions steps (new_sessions first second)).b.session in
        let nothing = closed-none left over r s closed is none
        (counts-b steps (new_sessions first second) does (new-counts second)) in
        let other = (after_sessions steps (new_sessions first second)).a in (
          all_of other.session other.shown keeps.2.0.queued ∙ done.all_a (ap length nothing.0),
          nothing.1,
          nothing.2,
        )

    pub written_b : PipesWritten first second (after_sessions steps (new_sessions first second)).a
        (after_sessions steps (new_sessions first second)).b
    written_b early =
        let p = after_sessions steps (new_sessions first second) in
        let t = done.taken_b early in
        are_written second.options.form p.b [] (taken_of p.b.session p.b.shown)
        (messages_of first.options.form first.options.config.max p.a.input)
        (length (unacknowledged p.a)) t.order t.few refl
        (late_b second steps (new_sessions first second) does new_hold.1
        (late_first second.options second.kind second.line second.plain early)).taken

    pub written_a : PipesWritten second first (after_sessions steps (new_sessions first second)).b
        (after_sessions steps (new_sessions first second)).a
    written_a early =
        let p = after_sessions steps (new_sessions first second) in
        let t = done.taken_a early in
        are_written first.options.form p.a [] (taken_of p.a.session p.a.shown)
        (messages_of second.options.form second.options.config.max p.b.input)
        (length (unacknowledged p.b)) t.order t.few refl
        (late_a first steps (new_sessions first second) does new_hold.0
        (late_first first.options first.kind first.line first.plain early)).taken

    pub bytes_b : PipesBytes first second (after_sessions steps (new_sessions first second)).a
        (after_sessions steps (new_sessions first second)).b
    bytes_b =
        bytes_first first second (after_sessions steps (new_sessions first second)).a
        (after_sessions steps (new_sessions first second)).b keeps.2.1 pipes_b

    pub bytes_a : PipesBytes second first (after_sessions steps (new_sessions first second)).b
        (after_sessions steps (new_sessions first second)).a
    bytes_a =
        bytes_first second first (after_sessions steps (new_sessions first second)).b
        (after_sessions steps (new_sessions first second)).a keeps.2.0 pipes_a

    pub whole_b : PipesWhole first second (after_sessions steps (new_sessions first second)).a
        (after_sessions steps (new_sessions first second)).b
    whole_b =
        bytes_whole first second (after_sessions steps (new_sessions first second)).a
        (after_sessions steps (new_sessions first second)).b keeps.2.1 all_b

    pub whole_a : PipesWhole second first (after_sessions steps (new_sessions first second)).b
        (after_sessions steps (new_sessions first second)).a
    whole_a =
        bytes_whole second first (after_sessions steps (new_sessions first second)).b
        (after_sessions steps (new_sessions first second)).a keeps.2.0 all_a

    -- their devices

    pub devices_b : DevicesPipe first second (after_sessions steps (new_sessions first second)).a
        (after_sessions steps (new_sessions first second)).b
    devices_b =
        devices_pipe first second (after_sessions steps (new_sessions first second)).a
        (after_sessions steps (new_sessions first second)).b keeps.2.0.kind bytes_b

    pub devices_a : DevicesPipe second first (after_sessions steps (new_sessions first second)).b
        (after_sessions steps (new_sessions first second)).a
    devices_a =
        devices_pipe second first (after_sessions steps (new_sessions first second)).b
        (after_sessions steps (new_sessions first second)).a keeps.2.1.kind bytes_a

    pub devices_all_b : DevicesPipeAll first second
        (after_sessions steps (new_sessions first second)).a
        (after_sessions steps (new_sessions first second)).b
    devices_all_b =
        devices_pipe_all first second (after_sessions steps (new_sessions first second)).a
        (after_sessions steps (new_sessions first second)).b keeps.2.0.kind whole_b

    pub devices_all_a : DevicesPipeAll second first
        (after_sessions steps (new_sessions first second)).b
        (after_sessions steps (new_sessions first second)).a
    devices_all_a =
        devices_pipe_all second first (after_sessions steps (new_sessions first second)).b
        (after_sessions steps (new_sessions first second)).a keeps.2.1.kind whole_a

    -- until one is closed

    pub deliver_b : DevicesDeliver first (after_sessions steps (new_sessions first second)).a
        (after_sessions steps (new_sessions first second)).b
    deliver_b =
        devices_deliver first (after_sessions steps (new_sessions first second)).a
        (after_sessions steps (new_sessions first second)).b keeps.2.0 closed_b

    pub deliver_a : DevicesDeliver second (after_sessions steps (new_sessions first second)).b
        (after_sessions steps (new_sessions first second)).a
    deliver_a =
        devices_deliver second (after_sessions steps (new_sessions first second)).b
        (after_sessions steps (new_sessions first second)).a keeps.2.1 closed_a

    pub devices_closed_b : DevicesPipeClosed first second
        (after_sessions steps (new_sessions first second)).a
        (after_sessions steps (new_sessions first second)).b
    devices_closed_b =
        devices_pipe_closed first second (after_sessions steps (new_sessions first second)).a
        (after_sessions steps (new_sessions first second)).b keeps.2.1 deliver_b

    pub devices_closed_a : DevicesPipeClosed second first
        (after_sessions steps (new_sessions first second)).b
        (after_sessions steps (new_sessions first second)).a
    devices_closed_a =
        devices_pipe_closed second first (after_sessions steps (new_sessions first second)).b
        (after_sessions steps (new_sessions first second)).a keeps.2.0 deliver_a

-- ---- over honest lines, and over streams

abbrev pub Outcome : (Made → Made → Sessions → Type 0) → Type 0
Outcome Promise = (first second : Made) (steps : List (End × SessionStep))
    → AreSessionCalls steps (new_sessions first second)
    → LinksDo first second (links_after first second steps)
    → Promise first second (after_sessions steps (new_sessions first second))

pub over_honest : (Promise : Made → Made → Sessions → Type 0) → Outcome Promise
    → IsKeptByPipes Promise
over_honest Promise outcome first second steps f g does honest once =
    outcome first second steps does (honest_links first second steps f g does honest once)

pub stream_session_calls : (steps : List (End × SessionStep)) (p : Sessions)
    → SessionsOverStreams steps p → AreSessionCalls steps p
stream_session_calls [] p o = tt
stream_session_calls (step ∷ rest) p o =
    (o.0, stream_session_calls rest (after_session_at step.0 step.1 p) o.2)

pub over_streams : (Promise : Made → Made → Sessions → Type 0) → Outcome Promise
    → IsKeptOverConnections Promise
over_streams Promise outcome first second steps f g over once =
    outcome first second steps (stream_session_calls steps (new_sessions first second) over)
    (stream_links first second steps f g over once)
