use Rattle.std.proofs.Common.{sym, subst, ap, ◌∙◌, ◌≡◌, take, arith, length-take-le, Err}
use Rattle.std.proofs.lemmas.Result.{err_from_is_err_and}
use Rattle.ddcmp_station.proofs.DriveLaws.{stepped, broke-sending, broke-hearing, took-hearing}
use Rattle.ddcmp_station.proofs.DriveLaws.{stepped-limits}
use Rattle.ddcmp_station.specs.UserCalls.{Calls, calls_of_offer}
use Rattle.ddcmp_station.specs.Driving.{core_at_deadline, deadline_at, core_after_take_arm}
use Rattle.ddcmp_station.proofs.driver.turn.Goals as goal

pub returns-in_err-written-clause-takes : goal.returns-in_err-written-clause-takes
returns-in_err-written-clause-takes g c =
    let told = err_from_is_err_and c.from_residual.result c.from_residual.ensures.1 in
    let offered = take c.offer_message-offered.result c.offer_message-offered.new.buffer in
    let h =
    stepped c.args.timer_ms c.now.result offered c.args.station.now c.keep_time.new.station
    c.offer_message-offered.new.station c.send_frame.new.station c.args.tally.now.deadline
    c.keep_time.new.deadline c.keep_time.ensures.deadline c.keep_time.ensures.station
    c.offer_message-offered.ensures.state c.in_err-written.ensures.station in
    rw (told.1, told.2) (
    broke-sending c.args.timer_ms c.now.result offered c.args.station.now
    c.offer_message-offered.new.station c.send_frame.new.station c.keep_time.new.deadline
    c.args.tally.now _ _ _ _ _ _
    (Calls g.U.User.becomes c.args.user.now c.offer_message-offered.new.user)
    _ c.in_err-written.field-0.0 h c.in_err-written.ensures.writes c.now.ensures
    (subst
    (λ k. Calls g.U.User.becomes c.args.user.now c.offer_message-offered.new.user
    (calls_of_offer k offered)) (ap (λ v. v.core) c.keep_time.ensures.station)
    c.offer_message-offered.ensures.seen)
    )

pub returns-in_err-read-clause-takes : goal.returns-in_err-read-clause-takes
returns-in_err-read-clause-takes g c =
    let told =
    err_from_is_err_and c.from_residual-in_err-read.result c.from_residual-in_err-read.ensures.1
    in
    let offered = take c.offer_message-offered.result c.offer_message-offered.new.buffer in
    let h =
    stepped c.args.timer_ms c.now.result offered c.args.station.now c.keep_time.new.station
    c.offer_message-offered.new.station c.send_frame.new.station c.args.tally.now.deadline
    c.keep_time.new.deadline c.keep_time.ensures.deadline c.keep_time.ensures.station
    c.offer_message-offered.ensures.state c.in_ok-written.ensures.station in
    let e = c.in_err-read.ensures in
    rw (told.1, told.2) (
    broke-hearing c.args.timer_ms c.now.result c.in_ok-written.written offered c.args.station.now
    c.offer_message-offered.new.station c.send_frame.new.station c.receive.new.station
    c.keep_time.new.deadline c.args.tally.now _ _ _ _ _ _ _ _
    (Calls g.U.User.becomes c.args.user.now c.receive.new.user)
    _ _ c.in_err-read.field-0.0 h c.in_ok-written.ensures.writes c.now.ensures e.answers
    (subst
    (λ u. Calls g.U.User.becomes c.args.user.now u
    (calls_of_offer
    (core_at_deadline c.now.result
    (deadline_at c.args.timer_ms c.now.result c.args.station.now.core.station.timer
    c.args.tally.now.deadline) (core_after_take_arm c.args.station.now.core)) offered))
    (sym e.unseen)
    (subst
    (λ k. Calls g.U.User.becomes c.args.user.now c.offer_message-offered.new.user
    (calls_of_offer k offered)) (ap (λ v. v.core) c.keep_time.ensures.station)
    c.offer_message-offered.ensures.seen)) e.refused e.nothing (λ x. e.write (ap Err x))
    (λ x. e.memory (ap Err x)) (λ x. (e.fine x).0)
    )

pub returns-clause-takes : goal.returns-clause-takes
returns-clause-takes g c =
    let offered = take c.offer_message-offered.result c.offer_message-offered.new.buffer in
    let h =
    stepped c.args.timer_ms c.now.result offered c.args.station.now c.keep_time.new.station
    c.offer_message-offered.new.station c.send_frame.new.station c.args.tally.now.deadline
    c.keep_time.new.deadline c.keep_time.ensures.deadline c.keep_time.ensures.station
    c.offer_message-offered.ensures.state c.in_ok-written.ensures.station in
    let e = c.in_ok-read.ensures in
    let came = take c.in_ok-read.read c.receive.new.piece in
    let n =
    length-take-le c.in_ok-read.read c.receive.new.piece
    (omega (arith, e.most, c.receive.auto.piece)) in
    took-hearing g.U.User.becomes c.args.user.now c.offer_message-offered.new.user
    c.receive.new.user c.args.timer_ms c.now.result c.in_ok-written.written offered came
    c.args.station.now c.offer_message-offered.new.station c.send_frame.new.station
    c.receive.new.station c.args.tally.now c.keep_time.new.deadline _ _ _ _ _ _ _ _ _ _ h
    (omega (arith, n, e.most)) (sym n)
    e.fine e.consumed c.in_ok-written.ensures.writes c.now.ensures e.answers
    (subst
    (λ k. Calls g.U.User.becomes c.args.user.now c.offer_message-offered.new.user
    (calls_of_offer k offered)) (ap (λ v. v.core) c.keep_time.ensures.station)
    c.offer_message-offered.ensures.seen) e.seen e.syn e.limits e.offset e.stands e.state

pub overflow_add-tally : goal.overflow_add-tally
overflow_add-tally g c =
    let offered = take c.offer_message-offered.result c.offer_message-offered.new.buffer in
    let h =
    stepped c.args.timer_ms c.now.result offered c.args.station.now c.keep_time.new.station
    c.offer_message-offered.new.station c.send_frame.new.station c.args.tally.now.deadline
    c.keep_time.new.deadline c.keep_time.ensures.deadline c.keep_time.ensures.station
    c.offer_message-offered.ensures.state c.in_ok-written.ensures.station in
    let limits : c.offer_message-offered.new.station.core.limits.longest
    ≡ c.args.station.now.core.limits.longest =
    ap (λ l. l.longest) (sym (ap (λ k. k.limits) h.kept_is) ∙ stepped-limits _ _ _ _ _ _ _ _ h) in
    omega (arith, h.two_syn, limits, c.in_ok-written.ensures.within, c.requires.written)

pub returns-clause-few : goal.returns-clause-few
returns-clause-few g c =
    let offered = take c.offer_message-offered.result c.offer_message-offered.new.buffer in
    let h =
    stepped c.args.timer_ms c.now.result offered c.args.station.now c.keep_time.new.station
    c.offer_message-offered.new.station c.send_frame.new.station c.args.tally.now.deadline
    c.keep_time.new.deadline c.keep_time.ensures.deadline c.keep_time.ensures.station
    c.offer_message-offered.ensures.state c.in_ok-written.ensures.station in
    let limits : c.offer_message-offered.new.station.core.limits.longest
    ≡ c.args.station.now.core.limits.longest =
    ap (λ l. l.longest) (sym (ap (λ k. k.limits) h.kept_is) ∙ stepped-limits _ _ _ _ _ _ _ _ h) in (
      omega (arith, c.in_ok-read.ensures.most),
      omega (arith, h.two_syn, limits, c.in_ok-written.ensures.within),
    )
