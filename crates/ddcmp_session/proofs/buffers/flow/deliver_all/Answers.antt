use Rattle.std.proofs.Common.{◌∙◌, refl}
use Rattle.ddcmp_session.proofs.DrainLaws.{only-none, only-then}
use Rattle.ddcmp_session.proofs.Finished.{drains-delivered, drains-none, drains-then}
use Rattle.ddcmp_session.proofs.GoingLaws.{stays, goes-then, delivered-goes, not-delivered}
use Rattle.ddcmp_session.proofs.TakenLaws.{only-delivered}
use Rattle.ddcmp_session.proofs.buffers.flow.deliver_all.Goals as goal

pub loop-message-init : goal.loop-message-init
loop-message-init c = record {
  on = λ held known. stays refl refl;
  drains = λ known. drains-none refl refl;
  only = only-none _;
  idle = λ e. refl;
  log = refl;
}

pub loop-message-preserved : goal.loop-message-preserved
loop-message-preserved c = record {
  on = λ held known.
      goes-then (c.loop-message.invariant.on held known)
      (delivered-goes c.deliver.result c.loop-message.session.state c.deliver.new.self.state
      c.deliver.ensures.wrote c.deliver.ensures.waits
      c.deliver.ensures.stays);
  drains = λ known.
      drains-then (c.loop-message.invariant.drains known)
      (drains-delivered c.deliver.result c.loop-message.session.state c.deliver.new.self.state
      c.deliver.ensures.wrote c.deliver.ensures.waits
      c.deliver.ensures.stays);
  only =
      only-then c.loop-message.invariant.only
      (only-delivered c.deliver.result c.loop-message.session.state c.deliver.new.self.state
      c.deliver.ensures.stays);
  idle = λ e. cc;
  log = c.deliver.ensures.log ∙ c.loop-message.invariant.log;
}

pub returns-then-not-deliver : goal.returns-then-not-deliver
returns-then-not-deliver c = record {
  on = λ held known.
      goes-then (c.loop-message.invariant.on held known)
      (delivered-goes c.deliver.result c.loop-message.session.state c.deliver.new.self.state
      c.deliver.ensures.wrote c.deliver.ensures.waits
      c.deliver.ensures.stays);
  drains = λ known.
      drains-then (c.loop-message.invariant.drains known)
      (drains-delivered c.deliver.result c.loop-message.session.state c.deliver.new.self.state
      c.deliver.ensures.wrote c.deliver.ensures.waits
      c.deliver.ensures.stays);
  only =
      only-then c.loop-message.invariant.only
      (only-delivered c.deliver.result c.loop-message.session.state c.deliver.new.self.state
      c.deliver.ensures.stays);
  idle = λ e.
      not-delivered c.args.session.now.state c.loop-message.session.state c.deliver.new.self.state
      c.if-not-deliver.ensures.stays (c.loop-message.invariant.idle e);
  log = c.deliver.ensures.log ∙ c.loop-message.invariant.log;
  left = λ e. c.if-not-deliver.ensures.left refl;
  emptied = λ e. c.if-not-deliver.ensures.emptied refl;
}
