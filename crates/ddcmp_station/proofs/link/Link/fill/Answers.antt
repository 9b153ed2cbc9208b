use Rattle.std.proofs.Common.{◌≡◌, ℕ, zero, suc, ap, ◌∙◌, refl}
use Rattle.ddcmp_station.specs.Linking.{LinkView, after_frame, after_frames}
use Rattle.ddcmp_station.proofs.link.Link.fill.Goals as goal

none : (d : LinkView) → d ≡ after_frames zero d
unfolding after_frames
none d = refl

more : (n : ℕ) (d mid new : LinkView) → mid ≡ after_frames n d → new ≡ after_frame mid
    → new ≡ after_frames (suc n) d
unfolding after_frames
more n d mid new was is = is ∙ ap after_frame was

pub loop-init : goal.loop-init
loop-init c = (zero, none c.args.self.now)

pub loop-preserved : goal.loop-preserved
loop-preserved c = (
  suc c.loop.invariant.0,
  more c.loop.invariant.0 c.args.self.now c.loop.self c.fill_one.new.self c.loop.invariant.1
      c.fill_one.ensures.state,
)

pub returns-clause-frames : goal.returns-clause-frames
returns-clause-frames c = (
  suc c.loop.invariant.0,
  more c.loop.invariant.0 c.args.self.now c.loop.self c.fill_one.new.self c.loop.invariant.1
      c.fill_one.ensures.state,
)
