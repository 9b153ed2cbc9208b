use Rattle.std.proofs.Common.{◌≡◌, ◌∙◌, ◌++◌, ℕ, ◌≤◌, List, [], length, ap, sym, refl, subst, arith}
use Rattle.std.proofs.Common.{Option, Some, None, false}
use Rattle.std.specs.Prelude.{option_map, option_to_list, unwrap_or, is_some}
use Rattle.ddcmp_frame.specs.declared.header.Header.{Header}
use Rattle.ddcmp_core.specs.Table.{Frame, next, next_frame}
use Rattle.ddcmp_core.specs.Frames.{header_of}
use Rattle.ddcmp_proto.specs.Bytes.{frame_on_line, after_poll}
use Rattle.ddcmp_proto.specs.Station.{StationView}
use Rattle.ddcmp_pair.specs.Place.{WholeFrame}
use Rattle.ddcmp_pair.specs.Run.{after_poll_here, whole_frame, wrote}
use Rattle.ddcmp_pair.specs.declared.event.Reply.TheVariants as reply
use Rattle.ddcmp_pair.proofs.Errors.{on_err, if_err, ok_or_err}
use Rattle.ddcmp_frame.specs.Reader.{StandsFor}
use Rattle.ddcmp_core.specs.Table.{is_halted}
use Rattle.ddcmp_pair.proofs.Lines.{nothing-polled, sending-keeps}
use Rattle.ddcmp_pair.specs.Inside.Sides.{SideView, end_with}
use Rattle.ddcmp_pair.proofs.side.Side.poll.Goals as goal

pub returns-in_default-clause-state : goal.returns-in_default-clause-state
returns-in_default-clause-state c = λ ok.
    let s = c.self.inside in
    let x =
    end_with s.station s.given.all s.taken.all s.sent.all s.arrived.items s.acknowledged
    s.starts in
    let p = nothing-polled x c.in_default.ensures.header in
    rw (← c.self.view_is) (λ i. record { state = sym p i; place = s.place })

pub invariant_of-self-2 : goal.invariant_of-self-2
invariant_of-self-2 c =
    let i = c.self.invariant in
    let s = c.self.inside.station.core.station in
    let e = c.poll_into.ensures.station in
    let keeps = sending-keeps s in
    let station = ap (λ v. v.core.station) e in
    let limits = ap (λ v. v.core.limits) e in
    let syn = ap (λ v. v.syn) e in
    let state = ap (λ u. is_halted u.state) station ∙ ap is_halted keeps.1 in
    let out = ap (λ u. length u.out) station in
    let longest = ap (λ l. l.longest) limits in
    let buffer = i.2 in (
      record {
        by_station =
            subst (λ v. StandsFor v c.self.inside.arrived.items) (sym (ap (λ v. v.line) e))
            i.0.by_station;
        by_reader = i.0.by_reader;
        max_is = i.0.max_is ∙ sym longest;
      },
      record {
        told = i.1.told;
        kept = λ z. (let before = i.1.kept (sym state ∙ z) in omega (arith, before, out, keeps.0));
        short = λ k below. (let before = i.1.short k below in omega (arith, before, longest));
      },
      omega (arith, buffer, syn, longest, c.poll_into.ensures.buffer),
      i.3,
    )

-- where there is a header there is a frame
some_frame : (h : Header) (o : Option Frame) → Some h ≡ option_map header_of o → is_some o ≡ false
    → ⊥
some_frame h None e n = cc e
some_frame h (Some f) e n = cc n

reply_wrote : (h : Header) (o : Option Frame) (syn own : ℕ) (first bytes : List ℕ)
    → Some h ≡ option_map header_of o → syn ≡ own → first ≡ []
    → bytes ≡ first ++ unwrap_or (option_map (frame_on_line syn) o) [] → reply.Wrote bytes ≡ wrote
    (option_map (frame_on_line own) o)
reply_wrote h None syn own first bytes e same none text = absurd (cc e)
reply_wrote h (Some f) syn own first bytes e same none text = ap reply.Wrote
    (text ∙ ap (λ l. l ++ frame_on_line syn f) none ∙ ap (λ n. frame_on_line n f) same)

module _ (o : StationView) (given taken : List (List ℕ)) (sent : List WholeFrame) (arrived : List ℕ)
    (acknowledged starts : ℕ) (place : Option ℕ) where
  sent_kept : (all : List WholeFrame) → all ≡ sent
      → ◌≡◌ {A = SideView} (record {
        state = end_with o given taken all arrived acknowledged starts;
        place = place;
      }) (record {
        state = end_with o given taken sent arrived acknowledged
            starts;
        place = place;
      })
  sent_kept all e = λ i. record {
    state = end_with o given taken (e i) arrived acknowledged starts;
    place = place;
  }

  view_polled : (n : StationView) (kept all : List WholeFrame) → n ≡ record o {
    core = after_poll
        o.core;
  } → kept ≡ sent
      → all ≡ kept ++ option_to_list (option_map whole_frame (next_frame (next o.core.station)))
      → ◌≡◌ {A = SideView} (record {
        state = end_with n given taken all arrived acknowledged starts;
        place = place;
      })
      (record {
        state = after_poll_here (end_with o given taken sent arrived acknowledged starts);
        place = place;
      })
  view_polled n kept all e k q = λ i. record {
    state = record (end_with o given taken sent arrived acknowledged starts) {
      core = (e i).core;
      syn = (e i).syn;
      sent = (q ∙ ap (λ l. l ++ option_to_list (option_map whole_frame
          (next_frame (next o.core.station)))) k) i;
    };
    place = place;
  }

pub returns-clause-state : goal.returns-clause-state
returns-clause-state c =
    let s = c.self.inside in
    rw (← c.self.view_is) (λ ok. view_polled s.station s.given.all s.taken.all s.sent.all
    s.arrived.items s.acknowledged s.starts s.place c.poll_into.new.station _ _
    c.poll_into.ensures.station c.reserve.ensures.all c.poll_into.ensures.kept)

pub returns-clause-reply : goal.returns-clause-reply
returns-clause-reply c =
    let o = next_frame (next c.self.inside.station.core.station) in
    let text = c.new.ensures ∙ c.poll_into.ensures.line in
    rw (← c.self.view_is) (reply_wrote c.in-Some.header o c.config-syn.result.syn _ _ _
    c.in-Some.ensures.header (ap (λ v. v.syn) c.config-syn.ensures) c.in_ok-line.ensures.items
    text)

pub poll_into-requires-clause-kept : goal.poll_into-requires-clause-kept
poll_into-requires-clause-kept c = λ message fits.
    subst (λ n. n ≤ c.reserve.new.self.spare_bytes) (c.data_length.ensures message fits)
    (c.in_ok-reserve.ensures.bytes refl)

pub returns-in_err-line-clause-state : goal.returns-in_err-line-clause-state
returns-in_err-line-clause-state c = λ ok. absurd (ok_or_err _ c.from_residual.ensures.0 ok)

pub returns-in_err-line-clause-reply : goal.returns-in_err-line-clause-reply
returns-in_err-line-clause-reply c = if_err _ _ c.from_residual.ensures.0

pub returns-in_err-line-clause-asks : goal.returns-in_err-line-clause-asks
returns-in_err-line-clause-asks c =
    rw (← c.self.view_is) (λ none. absurd (some_frame _ _ c.in-Some.ensures.header none))

pub returns-in_err-reserve-clause-state : goal.returns-in_err-reserve-clause-state
returns-in_err-reserve-clause-state c = λ ok. absurd
    (ok_or_err _ c.from_residual-in_err-reserve.ensures.0 ok)

pub returns-in_err-reserve-clause-reply : goal.returns-in_err-reserve-clause-reply
returns-in_err-reserve-clause-reply c = if_err _ _ c.from_residual-in_err-reserve.ensures.0

pub returns-in_err-reserve-clause-asks : goal.returns-in_err-reserve-clause-asks
returns-in_err-reserve-clause-asks c =
    rw (← c.self.view_is) (λ none. absurd (some_frame _ _ c.in-Some.ensures.header none))

pub returns-in_err-line-clause-memory : goal.returns-in_err-line-clause-memory
returns-in_err-line-clause-memory c = on_err _ _ refl

pub returns-in_err-reserve-clause-memory : goal.returns-in_err-reserve-clause-memory
returns-in_err-reserve-clause-memory c =
    let s = c.self.inside in
    on_err _ _ (sent_kept s.station s.given.all s.taken.all s.sent.all s.arrived.items
    s.acknowledged s.starts s.place c.reserve.new.self.all c.reserve.ensures.all ∙
    c.self.view_is)
