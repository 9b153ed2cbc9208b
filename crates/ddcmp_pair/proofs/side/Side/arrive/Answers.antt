use Rattle.std.proofs.Common.{◌≡◌, ◌∙◌, ℕ, ◌+◌, List, [], ◌∷◌, ◌++◌, length, take, drop, refl, ap}
use Rattle.std.proofs.Common.{sym, subst, arith, Option, ◌&&◌}
use Rattle.std.specs.Prelude.{is_some}
use Rattle.std.proofs.Math.Seq.{take-append_seam}
use Rattle.ddcmp_core.specs.Counting.{count_plus}
use Rattle.ddcmp_proto.specs.Bytes.{after_piece, notices_of_piece}
use Rattle.ddcmp_proto.specs.Station.{StationView}
use Rattle.ddcmp_pair.specs.Place.{WholeFrame}
use Rattle.ddcmp_pair.specs.Run.{acknowledged_in, restarts_in, after_arrival_here}
use Rattle.ddcmp_pair.specs.declared.event.Reply.TheVariants as reply
use Rattle.ddcmp_pair.specs.Inside.Sides.{SideView, end_with}
use Rattle.ddcmp_pair.proofs.Errors.{on_err, if_err, ok_or_err}
use Rattle.ddcmp_frame.specs.Reader.{StandsFor}
use Rattle.ddcmp_frame.specs.Reading.{good_frames}
use Rattle.ddcmp_core.specs.Table.{is_halted}
use Rattle.ddcmp_proto.proofs.FeedLaws.{after_piece-limits}
use Rattle.ddcmp_pair.specs.Place.{place_of}
use Rattle.ddcmp_pair.proofs.Feeding.{told-after, kept-after}
use Rattle.ddcmp_pair.proofs.side.Side.arrive.Goals as goal

pub invariant_of-self-2 : goal.invariant_of-self-2
invariant_of-self-2 c =
    let i = c.self.invariant in
    let f = c.feed_all.ensures in
    let r = c.follow-self-inside.ensures in
    let old = c.self.inside.station.core in
    let limits = ap (λ k. k.limits) f.state ∙ after_piece-limits _ _ old in
    let longest = ap (λ l. l.longest) limits in
    let halted = is_halted old.station.state in
    let ack = c.self.inside.acknowledged in
    let given = length c.self.inside.given.all in
    let out = length old.station.out in
    let left = length c.feed_all.new.station.core.station.out in
    let more = c.feed_all.new.heard.acknowledged in
    let buffer = i.2 in (
      record {
        by_station =
            subst (λ t. StandsFor c.feed_all.new.station.line t) c.deref-2.ensures.value f.stands;
        by_reader =
            subst (λ t. StandsFor c.follow-self-inside.new.reader t) c.deref.ensures.value r.stands;
        max_is = r.max ∙ i.0.max_is ∙ sym longest;
      },
      record {
        told =
            told-after halted ack out given more left i.1.told i.1.kept f.leaves
            (λ z. (f.halted z).1);
        kept =
            kept-after halted (is_halted c.feed_all.new.station.core.station.state)
            ack out given more left i.1.kept f.leaves (λ z. (f.halted z).0);
        short = λ k below. (let before = i.1.short k below in omega (arith, before, longest));
      },
      (let syn = f.syn in omega (arith, buffer, syn, longest)),
      i.3,
    )

pub returns-clause-placed : goal.returns-clause-placed
returns-clause-placed c = λ n e.
    let f = c.feed_all.ensures in
    let p = c.follow-self-inside.ensures.placed n e in
    let limits = ap (λ k. k.limits) f.state ∙ after_piece-limits _ _ c.self.inside.station.core in
    let max = c.self.invariant.0.max_is ∙ sym (ap (λ l. l.longest) limits) in (
      ap (λ m. place_of (good_frames m c.extend_from_slice.new.self.items) c.args.sent.now.all)
          (sym max)
          ∙ ap (λ t. place_of (good_frames c.self.inside.reader.max t) c.args.sent.now.all)
          (sym c.deref.ensures.value) ∙ p.0,
      p.1,
    )

same_place : (m l : ℕ) (s t : List ℕ) (sent : List WholeFrame) → m ≡ l → s ≡ t
    → place_of (good_frames m s) sent ≡ place_of (good_frames l t) sent
same_place m l s t sent e f = λ i. place_of (good_frames (e i) (f i)) sent

arrived_kept : (o : StationView) (given taken : List (List ℕ)) (sent : List WholeFrame) (old new :
    List ℕ) (acknowledged starts : ℕ) (place : Option ℕ) → new ≡ old
    → ◌≡◌ {A = SideView} (record {
      state = end_with o given taken sent new acknowledged starts;
      place = place;
    }) (record {
      state = end_with o given taken sent old acknowledged starts;
      place = place;
    })
arrived_kept o given taken sent old new acknowledged starts place e = λ i. record {
  state = end_with
      o given taken sent (e i) acknowledged starts;
  place = place;
}

drop_front : (xs ys : List ℕ) → drop (length xs) (xs ++ ys) ≡ ys
drop_front [] ys = refl
drop_front (x ∷ xs) ys = drop_front xs ys

-- all that arrived, cut where it was new
module _ (from : ℕ) (old bytes all : List ℕ) (e : from ≡ length old) (q : all ≡ old ++ bytes) where
  front : take from all ≡ old
  front = ap (λ n. take n all) e ∙ ap (take (length old)) q ∙ take-append_seam old bytes

  back : drop from all ≡ bytes
  back = ap (λ n. drop n all) e ∙ ap (drop (length old)) q ∙ drop_front old bytes

  cut : {A : Type 0} (f : List ℕ → List ℕ → A) → f (take from all) (drop from all) ≡ f old bytes
  cut f = λ i. f (front i) (back i)

  arrives : (o n : StationView) (given taken : List (List ℕ)) (sent : List WholeFrame)
      (arrived : List ℕ) (acknowledged starts more began : ℕ)
      → n.core ≡ after_piece (take from all) (drop from all) o.core → n.syn ≡ o.syn → arrived ≡ old
      ++ bytes
      → more ≡ acknowledged + acknowledged_in (notices_of_piece (take from all) (drop from all)
      o.core)
      → began ≡ count_plus starts (restarts_in (notices_of_piece (take from all) (drop from all)
      o.core))
      → end_with n given taken sent arrived more began ≡ after_arrival_here bytes
      (end_with o given taken sent old acknowledged starts)
  arrives o n given taken sent arrived acknowledged starts more began core syn a m b = λ i. record
      (end_with o given taken sent old acknowledged starts) {
        core = (core ∙ cut (λ x y. after_piece x y o.core)) i;
        syn = syn i;
        arrived = a i;
        acknowledged = (m ∙ cut
            (λ x y. acknowledged + acknowledged_in (notices_of_piece x y o.core))) i;
        starts = (b ∙ cut (λ x y. count_plus starts (restarts_in (notices_of_piece x y o.core)))) i;
      }

pub returns-clause-state : goal.returns-clause-state
returns-clause-state c =
    let s = c.self.inside in
    let f = c.feed_all.ensures in
    let grown = c.in_ok-extend_from_slice.ensures.items in
    rw (← c.self.view_is) (λ ok. arrives c.len-from.result s.arrived.items c.args.bytes.now
    c.deref-2.result.now (c.len-from.ensures ∙ s.arrived.ok.0) (c.deref-2.ensures.value ∙ grown)
    s.station c.feed_all.new.station s.given.all s.taken.all s.sent.all
    c.extend_from_slice.new.self.items s.acknowledged s.starts
    c.feed_all.new.heard.acknowledged c.feed_all.new.heard.starts f.state f.syn grown
    f.acknowledged f.starts)

pub returns-clause-reply : goal.returns-clause-reply
returns-clause-reply c =
    let s = c.self.inside in
    let f = c.feed_all.ensures in
    let grown = c.in_ok-extend_from_slice.ensures.items in
    let all = c.deref-2.result.now in
    let more = notices_of_piece (take c.len-from.result all) (drop c.len-from.result all)
    s.station.core in
    let told = cut c.len-from.result s.arrived.items c.args.bytes.now c.deref-2.result.now
    (c.len-from.ensures ∙ s.arrived.ok.0) (c.deref-2.ensures.value ∙ grown)
    (λ x y. notices_of_piece x y s.station.core) in
    rw (← c.self.view_is) (ap reply.Notices (c.new.ensures ∙ f.notices ∙ ap (λ l. l ++ more)
    c.in_ok-notices.ensures.items ∙ told))

pub returns-clause-honest : goal.returns-clause-honest
returns-clause-honest c =
    let s = c.self.inside in
    let arrived = c.deref.ensures.value ∙ c.in_ok-extend_from_slice.ensures.items in
    let known = ap (λ o. is_some o && is_some s.place)
    (same_place _ _ _ _ c.args.sent.now.all c.self.invariant.0.max_is arrived) in
    rw (← c.self.view_is) (λ ok. c.follow-self-inside.ensures.known ∙ known)

pub returns-in_err-notices-clause-state : goal.returns-in_err-notices-clause-state
returns-in_err-notices-clause-state c = λ ok. absurd (ok_or_err _ c.from_residual.ensures.0 ok)

pub returns-in_err-notices-clause-reply : goal.returns-in_err-notices-clause-reply
returns-in_err-notices-clause-reply c = if_err _ _ c.from_residual.ensures.0

pub returns-in_err-notices-clause-placed : goal.returns-in_err-notices-clause-placed
returns-in_err-notices-clause-placed c = c.requires

pub returns-in_err-notices-clause-honest : goal.returns-in_err-notices-clause-honest
returns-in_err-notices-clause-honest c = λ ok. absurd (ok_or_err _ c.from_residual.ensures.0 ok)

pub returns-in_err-notices-clause-memory : goal.returns-in_err-notices-clause-memory
returns-in_err-notices-clause-memory c = on_err _ _ refl

pub returns-in_err-extend_from_slice-clause-state :
    goal.returns-in_err-extend_from_slice-clause-state
returns-in_err-extend_from_slice-clause-state c = λ ok. absurd
    (ok_or_err _ c.from_residual-in_err-extend_from_slice.ensures.0 ok)

pub returns-in_err-extend_from_slice-clause-reply :
    goal.returns-in_err-extend_from_slice-clause-reply
returns-in_err-extend_from_slice-clause-reply c = if_err _ _
    c.from_residual-in_err-extend_from_slice.ensures.0

pub returns-in_err-extend_from_slice-clause-honest :
    goal.returns-in_err-extend_from_slice-clause-honest
returns-in_err-extend_from_slice-clause-honest c = λ ok. absurd
    (ok_or_err _ c.from_residual-in_err-extend_from_slice.ensures.0 ok)

pub returns-in_err-extend_from_slice-clause-placed :
    goal.returns-in_err-extend_from_slice-clause-placed
returns-in_err-extend_from_slice-clause-placed c =
    let before = rw (← c.self.view_is) at c.requires in
    let kept = c.in_err-extend_from_slice.ensures.items in
    λ n e. (same_place _ _ _ _ c.args.sent.now.all refl kept ∙ (before n e).0, (before n e).1)

pub returns-in_err-extend_from_slice-clause-memory :
    goal.returns-in_err-extend_from_slice-clause-memory
returns-in_err-extend_from_slice-clause-memory c =
    let s = c.self.inside in
    on_err _ _ (arrived_kept s.station s.given.all s.taken.all s.sent.all s.arrived.items
    c.extend_from_slice.new.self.items s.acknowledged s.starts s.place
    c.in_err-extend_from_slice.ensures.items ∙ c.self.view_is)

pub follow-self-inside-requires-clause-stands : goal.follow-self-inside-requires-clause-stands
follow-self-inside-requires-clause-stands c =
    let s = c.self.inside in
    let begun = front c.len-from.result s.arrived.items c.args.bytes.now c.deref.result.now
    (c.len-from.ensures ∙ s.arrived.ok.0) (c.deref.ensures.value ∙
    c.in_ok-extend_from_slice.ensures.items) in
    subst (StandsFor s.reader) (sym begun) c.self.invariant.0.by_reader

pub follow-self-inside-requires-clause-placed : goal.follow-self-inside-requires-clause-placed
follow-self-inside-requires-clause-placed c =
    let s = c.self.inside in
    let begun = front c.len-from.result s.arrived.items c.args.bytes.now c.deref.result.now
    (c.len-from.ensures ∙ s.arrived.ok.0) (c.deref.ensures.value ∙
    c.in_ok-extend_from_slice.ensures.items) in
    let before = rw (← c.self.view_is) at c.requires in
    λ n e. (
      same_place _ _ _ _ c.args.sent.now.all c.self.invariant.0.max_is begun ∙ (before n e).0,
      (before n e).1,
    )

pub feed_all-requires-clause-stands : goal.feed_all-requires-clause-stands
feed_all-requires-clause-stands c =
    let s = c.self.inside in
    let begun = front c.len-from.result s.arrived.items c.args.bytes.now c.deref-2.result.now
    (c.len-from.ensures ∙ s.arrived.ok.0) (c.deref-2.ensures.value ∙
    c.in_ok-extend_from_slice.ensures.items) in
    subst (StandsFor s.station.line) (sym begun) c.self.invariant.0.by_station
