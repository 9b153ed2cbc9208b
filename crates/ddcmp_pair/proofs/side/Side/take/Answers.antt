use Rattle.std.proofs.Common.{◌≡◌, ℕ, ◌+◌, ◌<◌, ◌≤◌, List, [], ◌∷◌, ◌++◌, length, take, drop, refl}
use Rattle.std.proofs.Common.{sym, ap, ◌∙◌}
use Rattle.std.proofs.Common.{arith, subst, Option, Some, None, false}
use Rattle.std.proofs.Common.{nat_lt}
use Rattle.std.specs.Prelude.{option_map, option_to_list, slice_index_or}
use Rattle.std.proofs.Math.Seq.{take-append_seam}
use Rattle.std.proofs.lemmas.List.{append-nil}
use Rattle.std.proofs.lemmas.List.{length-take}
use Rattle.std.proofs.lemmas.Bool.Decides.{nat_tests}
use Rattle.std.proofs.lemmas.Grind.{common_steps}
use Rattle.ddcmp_frame.proofs.Tests.{some-inj}
use Rattle.ddcmp_frame.specs.Reader.{ReaderView, StandsFor}
use Rattle.ddcmp_core.specs.Store.{with_front, first_message}
use Rattle.ddcmp_core.specs.Table.{after_take}
use Rattle.ddcmp_proto.specs.Station.{StationView}
use Rattle.ddcmp_pair.specs.Place.{WholeFrame}
use Rattle.ddcmp_pair.specs.Run.{after_take_here, took}
use Rattle.ddcmp_pair.specs.declared.event.Reply.TheVariants as reply
use Rattle.ddcmp_pair.specs.Inside.Sides.{SideView, HasRead, IsSoundEnd, end_with}
use Rattle.ddcmp_pair.proofs.Errors.{on_err, if_err, ok_or_err}
use Rattle.ddcmp_pair.proofs.side.Side.take.Goals as goal

some_waits : (xs : List (List ℕ)) (k : ℕ) → k ≡ length xs → (k ≡ 0 → ⊥)
    → nat_lt 0 (length xs) ≡ false → ⊥
some_waits xs k e not l = grind (arith, nat_tests)

-- what is taken then
took_none : (taken all : List (List ℕ)) (o : Option (List ℕ)) → all ≡ taken
    → None ≡ option_map length o → all ≡ taken ++ option_to_list o
took_none taken all None e h = e ∙ sym (append-nil taken)
took_none taken all (Some m) e h = absurd (cc h)

reply_none : (o : Option (List ℕ)) → None ≡ option_map length o → reply.Nothing ≡ took o
reply_none None h = refl
reply_none (Some m) h = absurd (cc h)

front_is : (k : ℕ) (m before out : List ℕ) → Some k ≡ option_map length (Some m)
    → out ≡ with_front (Some m) before → take k out ≡ m
front_is k m before out h w = ap (λ n. take n out) (some-inj h) ∙ ap (take (length m)) w ∙
    take-append_seam m _

whole : (len : ℕ) (out items : List ℕ) → length out ≡ len
    → take len (out ++ drop (length out) items) ≡ out
whole len out items e = ap (λ n. take n (out ++ drop (length out) items)) (sym e) ∙ take-append_seam
    out _

took_some : (taken kept all : List (List ℕ)) (k : ℕ) (o : Option (List ℕ)) (before out : List ℕ)
    → kept ≡ taken → all ≡ kept ++ take k out ∷ []
    → Some k ≡ option_map length o → out ≡ with_front o before → all ≡ taken ++ option_to_list o
took_some taken kept all k None before out e q h w = absurd (cc h)
took_some taken kept all k (Some m) before out e q h w = q ∙ ap (λ l. l ++ take k out ∷ []) e ∙ ap
    (λ x. taken ++ x ∷ []) (front_is k m before out h w)

reply_some : (k : ℕ) (o : Option (List ℕ)) (before out message : List ℕ) → message ≡ take k out
    → Some k ≡ option_map length o → out ≡ with_front o before → reply.Took message ≡ took o
reply_some k None before out message q h w = absurd (cc h)
reply_some k (Some m) before out message q h w = ap reply.Took (q ∙ front_is k m before out h w)

module _ (o n : StationView) (e : n ≡ record o {
  core = record o.core {
    station = after_take
        o.core.station;
  };
}) (reader : ReaderView) (given taken : List (List ℕ)) (sent : List WholeFrame)
    (arrived : List ℕ) (acknowledged starts : ℕ) where
  view_taken : (all : List (List ℕ)) (place : Option ℕ) → all ≡ taken ++ option_to_list
      (first_message o.core.station.inbox)
      → ◌≡◌ {A = SideView} (record {
        state = end_with n given all sent arrived acknowledged starts;
        place = place;
      })
      (record {
        state = after_take_here (end_with o given taken sent arrived acknowledged starts);
        place = place;
      })
  view_taken all place q = λ i. record {
    state = record
        (end_with o given taken sent arrived acknowledged starts) {
          core = (e i).core;
          syn =
              (e i).syn;
          taken = q i;
        };
    place = place;
  }

  read_taken : HasRead o reader arrived → HasRead n reader arrived
  read_taken h = record {
    by_station = subst (λ v. StandsFor v arrived) (sym (ap (λ v. v.line) e)) h.by_station;
    by_reader = h.by_reader;
    max_is = h.max_is ∙ sym (ap (λ v. v.core.limits.longest) e);
  }

  buffer_taken : (len : ℕ) → len ≡ o.syn + o.core.limits.longest + 10 → len ≡ n.syn +
      n.core.limits.longest + 10
  buffer_taken len b = b ∙ ap (λ v. v.syn + v.core.limits.longest + 10) (sym e)

  sound_taken : (all : List (List ℕ)) → ((i : ℕ) → i < length all → length (slice_index_or all i [])
      ≤ o.core.limits.longest)
      → IsSoundEnd (end_with o given taken sent arrived acknowledged starts) → IsSoundEnd
      (end_with n given all sent arrived acknowledged starts)
  sound_taken all short s = rw e (record { told = s.told; kept = s.kept; short = short })

view_kept : (o : StationView) (given taken all : List (List ℕ)) (sent : List WholeFrame) (arrived :
    List ℕ) (acknowledged starts : ℕ) (place : Option ℕ) → all ≡ taken
    → ◌≡◌ {A = SideView} (record {
      state = end_with o given all sent arrived acknowledged starts;
      place = place;
    }) (record {
      state = end_with o given taken sent arrived acknowledged starts;
      place = place;
    })
view_kept o given taken all sent arrived acknowledged starts place e = λ i. record {
  state =
      end_with o given (e i) sent arrived acknowledged starts;
  place = place;
}

-- what is taken is no longer than what is received
short_more : (most : ℕ) (taken kept all : List (List ℕ)) (m : List ℕ)
    → ((i : ℕ) → i < length taken → length (slice_index_or taken i []) ≤ most)
    → kept ≡ taken → all ≡ kept ++ m ∷ [] → length m ≤ most → (i : ℕ) → i < length all → length
    (slice_index_or all i []) ≤ most
short_more most taken kept all m short e q few i below = grind (arith, common_steps)

first_few : (k most len : ℕ) (inbox : List (List ℕ)) (out : List ℕ)
    → Some k ≡ option_map length (first_message inbox) → len ≡ length (slice_index_or inbox 0 [])
    → len ≤ most → length (take k out) ≤ most
first_few k most len [] out h e few = absurd (cc h)
first_few k most len (m ∷ ms) out h e few = let n : k ≡ length m = some-inj h in omega
    (arith, length-take k out)

pub returns-in_err-message-clause-state : goal.returns-in_err-message-clause-state
returns-in_err-message-clause-state c = λ ok. absurd (ok_or_err _ c.from_residual.ensures.0 ok)

pub returns-in_err-message-clause-reply : goal.returns-in_err-message-clause-reply
returns-in_err-message-clause-reply c = if_err _ _ c.from_residual.ensures.0

pub returns-in_err-message-clause-memory : goal.returns-in_err-message-clause-memory
returns-in_err-message-clause-memory c = on_err _ _ refl

pub returns-in_err-message-clause-asks : goal.returns-in_err-message-clause-asks
returns-in_err-message-clause-asks c = rw (← c.self.view_is)
    (λ none. absurd (some_waits _ _ c.waiting.ensures c.if-waiting-eq0.false none))

pub returns-in_err-reserve-clause-state : goal.returns-in_err-reserve-clause-state
returns-in_err-reserve-clause-state c = λ ok. absurd
    (ok_or_err _ c.from_residual-in_err-reserve.ensures.0 ok)

pub returns-in_err-reserve-clause-reply : goal.returns-in_err-reserve-clause-reply
returns-in_err-reserve-clause-reply c = if_err _ _ c.from_residual-in_err-reserve.ensures.0

pub returns-in_err-reserve-clause-memory : goal.returns-in_err-reserve-clause-memory
returns-in_err-reserve-clause-memory c =
    let s = c.self.inside in
    on_err _ _ (view_kept s.station s.given.all s.taken.all c.reserve.new.self.all s.sent.all
    s.arrived.items s.acknowledged s.starts s.place c.reserve.ensures.all ∙ c.self.view_is)

pub returns-in_err-reserve-clause-asks : goal.returns-in_err-reserve-clause-asks
returns-in_err-reserve-clause-asks c = rw (← c.self.view_is)
    (λ none. absurd (some_waits _ _ c.waiting.ensures c.if-waiting-eq0.false none))

pub invariant_of-self-in-Some : goal.invariant_of-self-in-Some
invariant_of-self-in-Some c =
    let s = c.self.inside in
    let i = c.self.invariant in
    let e = c.take.ensures.state in
    let all = c.push_reserved.ensures.all in (
      read_taken s.station c.take.new.self e s.reader s.given.all s.taken.all s.sent.all
          s.arrived.items s.acknowledged s.starts i.0,
      sound_taken s.station c.take.new.self e s.reader s.given.all s.taken.all s.sent.all
          s.arrived.items s.acknowledged s.starts _
          (short_more _ _ _ _ _ i.1.short c.reserve.ensures.all all
          (first_few _ _ _ _ _ c.in-Some.ensures.length c.waiting_length-length.ensures.length
          c.waiting_length-length.ensures.most)) i.1,
      buffer_taken s.station c.take.new.self e s.reader s.given.all s.taken.all s.sent.all
          s.arrived.items s.acknowledged s.starts _ i.2,
      i.3,
    )

pub returns-in-None-clause-state : goal.returns-in-None-clause-state
returns-in-None-clause-state c =
    let s = c.self.inside in
    rw (← c.self.view_is) (λ ok. view_taken s.station c.take.new.self c.take.ensures.state s.reader
    s.given.all s.taken.all s.sent.all s.arrived.items s.acknowledged s.starts _ s.place
    (took_none _ _ _ c.reserve.ensures.all c.in-None.ensures.length))

pub returns-in-None-clause-reply : goal.returns-in-None-clause-reply
returns-in-None-clause-reply c = rw (← c.self.view_is) (reply_none _ c.in-None.ensures.length)

pub returns-in-Some-clause-state : goal.returns-in-Some-clause-state
returns-in-Some-clause-state c =
    let s = c.self.inside in
    let all = c.push_reserved.ensures.all ∙ ap (λ x. c.reserve.new.self.all ++ take c.in-Some.length
    x ∷ []) (c.deref-in-Some.ensures.value ∙ whole _ _ _
    (c.take.auto.out ∙ c.deref_mut.ensures.len)) in
    rw (← c.self.view_is) (λ ok. view_taken s.station c.take.new.self c.take.ensures.state s.reader
    s.given.all s.taken.all s.sent.all s.arrived.items s.acknowledged s.starts _ s.place
    (took_some _ _ _ c.in-Some.length (first_message s.station.core.station.inbox) _
    c.take.new.out c.reserve.ensures.all all c.in-Some.ensures.length
    c.in-Some.ensures.out))

pub returns-in-Some-clause-reply : goal.returns-in-Some-clause-reply
returns-in-Some-clause-reply c =
    let front = ap (take c.in-Some.length) (c.deref.ensures.value ∙ whole _ _ _
    (c.take.auto.out ∙ c.deref_mut.ensures.len)) in
    let text = c.new.ensures ∙ c.append.ensures.items ∙ ap
    (λ x. x ++ take c.in-Some.length c.deref.result.now) c.in_ok-message.ensures.items ∙ front
    in
    rw (← c.self.view_is) (reply_some c.in-Some.length
    (first_message c.self.inside.station.core.station.inbox) _ c.take.new.out _ text
    c.in-Some.ensures.length c.in-Some.ensures.out)
