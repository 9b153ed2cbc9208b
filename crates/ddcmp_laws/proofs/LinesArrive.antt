-- Two links with their messages in lines: what the one read is what the other wrote.
use Rattle.std.proofs.Common.{◌≡◌, ◌∙◌, ap, sym, subst, refl, ℕ, Bool, true, false, List, [], ◌∷◌}
use Rattle.std.proofs.Common.{◌++◌}
use Rattle.std.proofs.Common.{append_assoc, append-nil, drop, length, map, None, Some}
use Rattle.std.specs.List.{All}
use Rattle.hex.specs.Hex.{encode_lower}
use Rattle.ddcmp_input.specs.InLines.{IsLine, Line, in_lines, told_in}
use Rattle.ddcmp_io.specs.declared.line_kind.LineKind.{LineKind}
use Rattle.ddcmp_pair.specs.Prefix.{IsPrefixOf}
use Rattle.ddcmp_proto.specs.Config.{first_refusal}
use Rattle.ddcmp_streams.specs.declared.messages.MessageForm.{MessageForm}
use Rattle.ddcmp_streams.specs.declared.messages.MessageForm.TheVariants as form
use Rattle.ddcmp_streams.specs.declared.options.Options.{Options}
use Rattle.ddcmp_streams.specs.Messages.{has_events}
use Rattle.ddcmp_session.specs.EndText.{end_text}
use Rattle.ddcmp_session.specs.Finishing.{WritesEndIf, taken_in}
use Rattle.ddcmp_session.specs.NewRun.{RunsNew}
use Rattle.ddcmp_session.specs.Session.{SessionView}
use Rattle.ddcmp_session.specs.Traffic.{Traffic, no_traffic}
use Rattle.ddcmp_laws.specs.Arrival.{IsOneLine}
use Rattle.ddcmp_laws.specs.ArrivalInLines.{IsInLines, LinesArrive, LinesBegin, digits_of}
use Rattle.ddcmp_laws.specs.Connections.{delivered_since}
use Rattle.ddcmp_laws.specs.Endings.{shown_at_last}
use Rattle.ddcmp_laws.specs.Loops.{messages_given}
use Rattle.ddcmp_laws.specs.MailLines.{mails_in}
use Rattle.ddcmp_laws.specs.Pipe.{undelivered}
use Rattle.ddcmp_laws.specs.Prefix.{Begins}
use Rattle.ddcmp_laws.specs.SessionRuns.{Ran, given_since, got_to}
use Rattle.ddcmp_laws.specs.Sessions.{IsPlain, IsTakenAsWritten, got_in, mail_in, messages_of}
use Rattle.ddcmp_laws.specs.Sessions.{texts_of}
use Rattle.ddcmp_laws.proofs.Anew.{text_of_all}
use Rattle.ddcmp_laws.proofs.BytesArrive.{WasRun, over-one-line, was-run}
use Rattle.ddcmp_laws.proofs.Extended.{Extended, delivered_to, extended}
use Rattle.ddcmp_laws.proofs.Finished.{lost_at_last, mail_at_last, none_first_waits, read_at_last}
use Rattle.ddcmp_laws.proofs.Finished.{taken_at_last, took_first, took_lines}
use Rattle.ddcmp_laws.proofs.LineInputs.{given_first, given_lines, message_of}
use Rattle.ddcmp_laws.proofs.OneConnection.{one_history}
use Rattle.ddcmp_laws.proofs.RunLaws.{all-to-b, begins-both, first-to-b, writes-all-b}
use Rattle.ddcmp_laws.proofs.ShownLines.{all_tell, mails_of_output, mails_written}

abbrev digits : List (List ℕ) → List (List ℕ)
digits messages = map encode_lower messages

digits-of : (of : List Line) → digits (map message_of of) ≡ digits_of of
digits-of [] = refl
digits-of (line ∷ rest) = ap (λ ms. encode_lower line.message ∷ ms) (digits-of rest)

digits-more : (xs ys : List (List ℕ)) → digits (xs ++ ys) ≡ digits xs ++ digits ys
digits-more [] ys = refl
digits-more (x ∷ xs) ys = ap (λ zs. encode_lower x ∷ zs) (digits-more xs ys)

begins-then : (xs ys zs : List (List ℕ)) → IsPrefixOf xs ys → IsPrefixOf ys zs → IsPrefixOf xs zs
begins-then xs ys zs p q =
    (p.0 ++ q.0, sym (append_assoc xs p.0 q.0) ∙ ap (λ ws. ws ++ q.0) p.1 ∙ q.1)

digits-begin : (xs ys : List (List ℕ)) → IsPrefixOf xs ys → IsPrefixOf (digits xs) (digits ys)
digits-begin xs ys p = (digits p.0, sym (digits-more xs p.0) ∙ ap digits p.1)

-- ---- over one line nothing was read and delivered before it

given-once : (ran : Ran) (t : Traffic) → ran.made.options.form ≡ form.Digits
    → (got_to ran).input_before ≡ []
    → given_since ran.made (got_to ran) t ≡ messages_given ran.made t
unfolding got_in told_in
given-once ran t is none =
    let max = ran.made.options.config.max in
    let given = messages_given ran.made t in
    ap (λ xs. drop (length (messages_of ran.made.options.form max xs)) given) none
    ∙ ap (λ (f : MessageForm). drop (length (messages_of f max [])) given) is

delivered-once : (ran : Ran) → mail_in (got_to ran).shown_before ≡ []
    → delivered_since (got_to ran) ≡ mail_in (got_to ran).history.shown
delivered-once ran none =
    ap (λ (ms : List (List ℕ)). drop (length ms) (mail_in (got_to ran).history.shown)) none

-- ---- an output

-- a run, until all that it shows was delivered, and the messages in its output
record Output (options : Options) (after : Traffic) : Type 0 where
  new : SessionView
  written : List ℕ
  run : Extended options after new written
  begins : Begins written after.written
  mails : IsPrefixOf (mails_in after.written) (digits (mail_in (got_to run.ran).history.shown))

-- what its output had taken, and what is queued, is the text of what was shown
text-is : (options : Options) (after : Traffic) (new : SessionView) (written : List ℕ)
    (x : Extended options after new written) → options.form ≡ form.Digits
    → written ++ new.output.waiting ≡ texts_of form.Digits (got_to x.ran).history.shown
text-is options after new written x is =
    let h = (got_to x.ran).history in
    ap (λ (s : SessionView). written ++ s.output.waiting) (sym x.session)
    ∙ ap (λ ws. ws ++ h.session.output.waiting) (sym x.written ∙ x.agrees.written)
    ∙ text_of_all x.ran.made x.ran.steps x.done
    ∙ ap (λ (o : Options). texts_of o.form h.shown) x.same
    ∙ ap (λ (f : MessageForm). texts_of f h.shown) is

plain-lines : (options : Options) → IsInLines options → IsPlain options
plain-lines options lines = record {
  of_data = lines.of_data;
  no_events = ap has_events lines.form;
}

output-of : (is_well : Bool) (options : Options) → IsInLines options → (kind : LineKind)
    (last : SessionView) (after : Traffic)
    → RunsNew is_well options kind (Some no_traffic) last (Some after) → Output options after
output-of is_well options lines kind last after new =
    let w = was-run is_well options (plain-lines options lines) kind last after new in
    subst (λ (o : Options). Output o after) w.same
    (by w (ap (λ (o : Options). o.form) w.same ∙ lines.form) w.finished.finishes.writes refl)
  where
    by : (w : WasRun is_well options last after) → w.ran.made.options.form ≡ form.Digits
        → (writes : Bool) → w.finished.finishes.writes ≡ writes → Output w.ran.made.options after
    by w is true e =
        let f = w.finished.finishes in
        let counted = f.delivered.options.counters in
        let link = f.delivered.link in
        let x =
        delivered_to is_well w.ran.made w.ran.steps w.held w.t after last w.left w.done w.finished
        w.follows in
        let shown = (got_to x.ran).history.shown in
        let before = w.t.written ++ taken_in f.delivers.steps w.finished.closed in
        let taken = taken_in f.takes.steps f.with_lines in
        let some = took_lines is_well w.ran w.held w.t after last w.done w.finished e is in
        record {
          new = f.delivered;
          written = before;
          run = x;
          begins = (
            taken,
            sym (taken_at_last is_well w.ran w.held w.t after last w.finished).1,
          );
          mails =
              mails_written after.written last.output.waiting shown counted link some.0 some.1
              (ap (λ ws. ws ++ last.output.waiting)
              (taken_at_last is_well w.ran w.held w.t after last w.finished).1
              ∙ append_assoc before taken last.output.waiting
              ∙ ap (λ ws. before ++ ws) some.2
              ∙ ap (λ ws. ws ++ some.0)
              (sym (append-nil before)
              ∙ ap (λ ws. before ++ ws)
              (sym (none_first_waits is_well w.ran w.held w.t after last w.done w.finished e))
              ∙ text-is w.ran.made.options after f.delivered before x is));
        }
    by w is false e =
        let f = w.finished.finishes in
        let x =
        extended is_well w.ran.made w.ran.steps w.held w.t after last w.left w.done w.finished
        w.follows (subst (λ b. WritesEndIf b f.delivered f.with_lines) e f.lines) in
        let shown = (got_to x.ran).history.shown in
        record {
          new = last;
          written = after.written;
          run = x;
          begins = ([], append-nil after.written);
          mails =
              mails_written after.written last.output.waiting shown last.options.counters last.link
              [] (end_text last.options.counters last.link, refl)
              (text-is w.ran.made.options after last after.written x is
              ∙ sym (append-nil (texts_of form.Digits shown)));
        }

-- ---- two runs

-- the messages of what was written of an output
mails-of-front : (options : Options) (after : Traffic) (o : Output options after)
    → options.form ≡ form.Digits → (messages : List (List ℕ))
    → IsTakenAsWritten o.run.ran.made.options.form (got_to o.run.ran).history messages
    → IsPrefixOf (digits messages) (mails_in after.written)
mails-of-front options after o is messages w =
    let h = (got_to o.run.ran).history in
    let front = w.front in
    let more = w.text.0 ++ o.begins.0 in
    let text : texts_of form.Digits front ++ more ≡ after.written =
    sym (append_assoc (texts_of form.Digits front) w.text.0 o.begins.0)
    ∙ ap (λ f. (texts_of f front ++ w.text.0) ++ o.begins.0)
    (sym (ap (λ (p : Options). p.form) o.run.same ∙ is))
    ∙ ap (λ xs. xs ++ o.begins.0) (w.text.1 ∙ sym o.run.agrees.written ∙ o.run.written)
    ∙ o.begins.1 in (
      mails_in more,
      ap (λ ms. digits ms ++ mails_in more) w.mail ∙ sym (all_tell front more)
          ∙ ap mails_in text,
    )

pub lines-begin : (is_well other_is_well : Bool) (options other_options : Options)
    (kind other_kind : LineKind) (last other_last : SessionView) (t u : Traffic)
    → first_refusal options.config ≡ None → first_refusal other_options.config ≡ None
    → IsInLines options → IsInLines other_options
    → RunsNew is_well options kind (Some no_traffic) last (Some t)
    → RunsNew other_is_well other_options other_kind (Some no_traffic) other_last (Some u)
    → IsOneLine options other_options t u → LinesBegin options t u
lines-begin is_well other_is_well options other_options kind other_kind last other_last t u f g
    in_lines_a in_lines_b ran other line of returns fit input =
    let a = (output-of is_well options in_lines_a kind last t ran).run in
    let o = output-of other_is_well other_options in_lines_b other_kind other_last u other in
    let b = o.run in
    let both =
    over-one-line a.ran b.ran options other_options t u a.left b.left a.same b.same f g a.done
    b.done a.follows b.follows line in
    let is = ap (λ (o : Options). o.form) a.same ∙ in_lines_a.form in
    let first =
    first-to-b a.ran b.ran both.fits_a both.fits_b a.done b.done both.together a.held a.t
    a.agrees in
    let mail = mail_in (got_to b.ran).history.shown in
    let given = messages_given a.ran.made a.t in
    begins-then (mails_in u.written) (digits mail) (digits_of of) o.mails
    (subst (IsPrefixOf (digits mail)) (digits-of of)
    (digits-begin mail (map message_of of)
    (begins-then mail given (map message_of of)
    (subst (λ ms. IsPrefixOf ms given)
    (delivered-once b.ran (one_history b.ran b.done both.once_b).before.none_delivered)
    (subst (IsPrefixOf (delivered_since (got_to b.ran)))
    (given-once a.ran a.t is (one_history a.ran a.done both.once_a).before.none_read) first))
    (given_first a.ran.made a.t of returns is
    (subst (λ (o : Options). All (IsLine o.config.max) of) (sym a.same) fit)
    (record {
      begins = subst (λ xs. Begins xs (in_lines returns of)) (sym a.read) input.begins;
      whole = λ e. a.read ∙ input.whole (sym a.over ∙ e);
    })))))

pub lines-arrive : (options other_options : Options) (kind other_kind : LineKind)
    (last other_last : SessionView) (t u : Traffic)
    → first_refusal options.config ≡ None → first_refusal other_options.config ≡ None
    → IsInLines options → IsInLines other_options
    → RunsNew true options kind (Some no_traffic) last (Some t) → last.course.lost ≡ 0
    → RunsNew true other_options other_kind (Some no_traffic) other_last (Some u)
    → IsOneLine options other_options t u → LinesArrive options t u
lines-arrive options other_options kind other_kind last other_last t u f g in_lines_a in_lines_b
    ran none other line of returns fit file =
    let a = was-run true options (plain-lines options in_lines_a) kind last t ran in
    let b = was-run true other_options (plain-lines other_options in_lines_b) other_kind other_last u other in
    let both =
    over-one-line a.ran b.ran options other_options t u a.left b.left a.same b.same f g a.done
    b.done a.follows b.follows line in
    let is_a = ap (λ (o : Options). o.form) a.same ∙ in_lines_a.form in
    let is_b = ap (λ (o : Options). o.form) b.same ∙ in_lines_b.form in
    let h = (got_to b.ran).history in
    let fin = b.finished in
    let k = fin.finishes in
    let wrote = (k.well refl).0 in
    let reported = fin.ended.closes.is_reported in
    let shown = shown_at_last reported h in
    let some = took_lines true b.ran b.held b.t u other_last b.done fin wrote is_b in
    let before = b.t.written ++ taken_in k.delivers.steps fin.closed in
    let taken = taken_in k.takes.steps k.with_lines in
    let output : u.written ≡ texts_of form.Digits shown ++ some.0 =
    (taken_at_last true b.ran b.held b.t u other_last fin).1
    ∙ ap (λ ws. before ++ ws)
    (sym (append-nil taken) ∙ ap (λ ws. taken ++ ws) (sym (k.well refl).1.waiting) ∙ some.2)
    ∙ ap (λ ws. ws ++ some.0) (took_first true b.ran b.held b.t u other_last b.done fin wrote)
    ∙ ap (λ (f : MessageForm). texts_of f shown ++ some.0) is_b in
    let all =
    all-to-b a.ran b.ran both.fits_a both.fits_b a.done b.done both.together a.held a.t
    a.finished.closed a.finished.ended
    (lost_at_last true a.ran a.held a.t t last a.finished ∙ none) in
    ap mails_in output
    ∙ mails_of_output shown k.delivered.options.counters k.delivered.link some.0 some.1
    ∙ ap digits
    (mail_at_last reported h
    ∙ ap (λ ms. ms ++ undelivered h)
    (sym (delivered-once b.ran (one_history b.ran b.done both.once_b).before.none_delivered))
    ∙ all
    ∙ given-once a.ran a.t is_a (one_history a.ran a.done both.once_a).before.none_read
    ∙ given_lines a.ran.made a.t of returns is_a
    (subst (λ (o : Options). All (IsLine o.config.max) of) (sym a.same) fit)
    (sym (read_at_last true a.ran a.held a.t t last a.finished) ∙ file))
    ∙ digits-of of

-- and what the other wrote, if that acknowledges what it has written
pub lines-written : (other_is_well : Bool) (options other_options : Options)
    (kind other_kind : LineKind) (last other_last : SessionView) (t u : Traffic)
    → first_refusal options.config ≡ None → first_refusal other_options.config ≡ None
    → IsInLines options → IsInLines other_options → other_options.acknowledge_early ≡ false
    → RunsNew true options kind (Some no_traffic) last (Some t) → last.course.lost ≡ 0
    → RunsNew other_is_well other_options other_kind (Some no_traffic) other_last (Some u)
    → IsOneLine options other_options t u → LinesArrive options t u
lines-written other_is_well options other_options kind other_kind last other_last t u f g in_lines_a
    in_lines_b early ran none other line of returns fit file =
    let a = was-run true options (plain-lines options in_lines_a) kind last t ran in
    let o = output-of other_is_well other_options in_lines_b other_kind other_last u other in
    let b = o.run in
    let both =
    over-one-line a.ran b.ran options other_options t u a.left b.left a.same b.same f g a.done
    b.done a.follows b.follows line in
    let is = ap (λ (o : Options). o.form) a.same ∙ in_lines_a.form in
    let w =
    writes-all-b a.ran b.ran both.fits_a both.fits_b a.done b.done both.together
    (ap (λ (o : Options). o.acknowledge_early) b.same ∙ early) a.held a.t a.finished.closed
    a.finished.ended (lost_at_last true a.ran a.held a.t t last a.finished ∙ none) in
    let given : mail_in (got_to b.ran).shown_before ++ given_since a.ran.made (got_to a.ran) a.t
    ≡ map message_of of =
    ap (λ ms. ms ++ given_since a.ran.made (got_to a.ran) a.t)
    (one_history b.ran b.done both.once_b).before.none_delivered
    ∙ given-once a.ran a.t is (one_history a.ran a.done both.once_a).before.none_read
    ∙ given_lines a.ran.made a.t of returns is
    (subst (λ (o : Options). All (IsLine o.config.max) of) (sym a.same) fit)
    (sym (read_at_last true a.ran a.held a.t t last a.finished) ∙ file) in
    let front =
    mails-of-front other_options u o in_lines_b.form (map message_of of)
    (subst (IsTakenAsWritten b.ran.made.options.form (got_to b.ran).history) given w) in
    let first =
    lines-begin true other_is_well options other_options kind other_kind last other_last t u f g
    in_lines_a in_lines_b ran other line of returns fit
    (record {
      begins = ([], append-nil t.read ∙ file);
      whole = λ e. file;
    }) in
    begins-both (mails_in u.written) (digits_of of) first.0 front.0 first.1
    (ap (λ ms. ms ++ front.0) (sym (digits-of of)) ∙ front.1)
