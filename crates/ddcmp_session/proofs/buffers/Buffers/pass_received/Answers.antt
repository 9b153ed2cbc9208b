use Rattle.std.proofs.Common.{ap, refl, sym, take}
use Rattle.ddcmp_session.proofs.GoingLaws.{stays, goes-then, in-turn, neither}
use Rattle.ddcmp_session.proofs.LineGoes.{received-held}
use Rattle.ddcmp_session.proofs.buffers.Buffers.pass_received.Goals as goal

pub loop-notice-init : goal.loop-notice-init
loop-notice-init c = record {
  on = λ known. stays refl refl;
  session = λ e. refl;
  held = λ e. refl;
}

pub loop-notice-preserved : goal.loop-notice-preserved
loop-notice-preserved c = record {
  on = λ known.
      goes-then (c.loop-notice.invariant.on known)
      (goes-then (c.deliver_all-moved.ensures.on _ known)
      (received-held c.deliver_all-moved.new.session.state c.received-used.new.self.state
      c.received-used.result c.rest.result.now c.used.new.self c.rest.ensures c.used.ensures
      (λ text s. record {
        core = c.received-used.ensures.state text s;
        syn = c.received-used.ensures.syn;
        link = c.received-used.ensures.link;
        wanted = λ e.
            ap (λ n. take n c.rest.result.now) (c.received-used.ensures.none e).0;
        wrote = c.received-used.ensures.wrote text s;
        course = c.received-used.ensures.course text s;
        stays = c.received-used.ensures.stays;
      })
      c.received-used.ensures.stands));
  session = λ e. cc;
  held = λ e. cc;
}

pub returns-then-eq-clause-on : goal.returns-then-eq-clause-on
returns-then-eq-clause-on c =
    rw (sym c.self.view_is) (λ known.
    goes-then (c.loop-notice.invariant.on known) (c.deliver_all-moved.ensures.on _ known))

pub returns-clause-on : goal.returns-clause-on
returns-clause-on c = rw (sym c.self.view_is) c.loop-notice.invariant.on

pub returns-then-is_empty-clause-on : goal.returns-then-is_empty-clause-on
returns-then-is_empty-clause-on c =
    rw (sym c.self.view_is) (λ known.
    goes-then (c.loop-notice.invariant.on known) (c.deliver_all-moved.ensures.on _ known))

pub returns-then-is_empty-clause-idle : goal.returns-then-is_empty-clause-idle
returns-then-is_empty-clause-idle c =
    rw (sym c.self.view_is) (λ e.
    let none = neither c.loop-notice.moved c.deliver_all-moved.result e in (
      in-turn c.args.session.now.state c.loop-notice.session.state
          c.deliver_all-moved.new.session.state
          (c.loop-notice.invariant.session none.0) (c.deliver_all-moved.ensures.idle none.1),
      c.loop-notice.invariant.held none.0,
    ))
