use Rattle.std.proofs.Common.{ap, ◌∙◌, take, length, ◌+◌}
use Rattle.ddcmp_explain.proofs.HeadLaws.{appended, stayed, shifted, ended}
use Rattle.ddcmp_explain.proofs.head.Head.follow.Goals as goal
use Rattle.ddcmp_explain.proofs.head.Head.follow.Goals.{then-self-left_open+then-self-lt8}
use Rattle.ddcmp_explain.proofs.head.Head.follow.Goals.{then-self-left_open+else-self-lt8}
use Rattle.ddcmp_explain.proofs.head.Head.follow.Goals.{else-self-left_open+then-self-lt8-2}
use Rattle.ddcmp_explain.proofs.head.Head.follow.Goals.{else-self-left_open+else-self-lt8-2}

pub returns : goal.returns
returns c = λ rest more h f n. elim c.if-self-left_open.branch [
  | then-self-left_open+then-self-lt8 w
      ↦ appended c.args.self.now _ rest more c.args.byte h f n w.if-self-left_open.true
      w.if-self-lt8.true (ap (λ s. length s.bytes) w.self-is ∙ w.append.ensures.long)
      (ap (λ s. take (c.args.self.now.count + 1) s.bytes) w.self-is ∙ w.append.ensures.bytes)
  | then-self-left_open+else-self-lt8 w
      ↦ stayed c.args.self.now _ rest more c.args.byte h f n w.if-self-left_open.true
      w.if-self-lt8.false (ap (λ s. s.bytes) w.self-is)
  | else-self-left_open+then-self-lt8-2 w
      ↦ shifted c.args.self.now _ rest more c.args.byte h f n w.if-self-left_open.false
      w.if-self-lt8-2.true (ap (λ s. take c.args.left_open s.bytes) w.self-is ∙ w.shift.ensures)
  | else-self-left_open+else-self-lt8-2 w
      ↦ ended c.args.self.now _ rest more c.args.byte h f n w.if-self-left_open.false
      w.if-self-lt8-2.false
]
