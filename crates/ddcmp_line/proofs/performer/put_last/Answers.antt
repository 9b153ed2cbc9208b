use Rattle.std.proofs.Common.{◌≡◌, ℕ, List, refl, sym}
use Rattle.ddcmp_pair.specs.declared.event.Reply.{Reply}
use Rattle.ddcmp_pair.specs.declared.event.Reply.TheVariants as reply
use Rattle.ddcmp_line.specs.Script.{frames_after}
use Rattle.ddcmp_line.proofs.performer.put_last.Goals as goal

-- an answer that no frame was written leaves the frames
frames-stay : (r : Reply) → ((bytes : List ℕ) → r ≡ reply.Wrote bytes → ⊥)
    → (frames : List (List ℕ)) → frames_after r frames ≡ frames
frames-stay (reply.Wrote bytes) n frames = absurd (n bytes refl)
frames-stay (reply.Started dropped) n frames = refl
frames-stay (reply.StartRefused refusal) n frames = refl
frames-stay reply.Halted n frames = refl
frames-stay (reply.Accepted number) n frames = refl
frames-stay (reply.SendRefused refusal) n frames = refl
frames-stay reply.Idle n frames = refl
frames-stay (reply.Notices notices) n frames = refl
frames-stay (reply.Expired was_on) n frames = refl
frames-stay (reply.Took message) n frames = refl
frames-stay reply.Nothing n frames = refl
frames-stay reply.Cleared n frames = refl
frames-stay (reply.ClearRefused refusal) n frames = refl

pub returns : goal.returns
returns c = sym (frames-stay c.args.reply c.in_default.not-Wrote c.args.frames.now.items)
