use Rattle.std.proofs.Common.{refl, sym, take}
use Rattle.ddcmp_session.proofs.GoingLaws.{stays, goes-then}
use Rattle.ddcmp_session.proofs.InputGoes.{types-held}
use Rattle.ddcmp_session.proofs.InputLaws.{has-input_read}
use Rattle.ddcmp_session.proofs.ReadyLaws.{read-ready}
use Rattle.ddcmp_session.proofs.buffers.Buffers.pass_parts.Goals as goal

pub loop-part-init : goal.loop-part-init
loop-part-init c = record {
  on = λ known. stays refl refl;
  session = λ e. refl;
  held = λ e. refl;
  ready = λ r. r;
}

pub loop-part-preserved : goal.loop-part-preserved
loop-part-preserved c = record {
  on = λ known.
      goes-then (c.loop-part.invariant.on known)
      (types-held c.loop-part.session.state c.input_read-used.new.self.state
      c.input_read-used.result
      c.rest.result.now
      c.used.new.self c.rest.ensures c.used.ensures
      (has-input_read c.input_read-used.result c.rest.result.now c.loop-part.session.state
      c.input_read-used.new.self.state
      c.input_read-used.ensures.used c.input_read-used.ensures.state c.input_read-used.ensures.first
      c.input_read-used.ensures.few (λ e. (c.input_read-used.ensures.none e).0)));
  session = λ e. cc;
  held = λ e. cc;
  ready = λ r.
      read-ready (take c.input_read-used.result c.rest.result.now) c.loop-part.session.state
      c.input_read-used.new.self.state c.input_read-used.ensures.state
      (c.loop-part.invariant.ready r);
}

pub returns-after-loop-part : goal.returns-after-loop-part
returns-after-loop-part c =
    rw (sym c.self.view_is)
    (record {
      on = c.loop-part.invariant.on;
      idle = λ e. (c.loop-part.invariant.session e, c.loop-part.invariant.held e);
      ready = c.loop-part.invariant.ready;
    })

pub returns-then-is_empty : goal.returns-then-is_empty
returns-then-is_empty c =
    rw (sym c.self.view_is)
    (record {
      on = c.loop-part.invariant.on;
      idle = λ e. (c.loop-part.invariant.session e, c.loop-part.invariant.held e);
      ready = c.loop-part.invariant.ready;
    })
