use Rattle.std.proofs.Common.{◌≡◌, ◌∙◌, [], ap, arith, drop, length, length-drop, vec_len}
use Rattle.ddcmp_io.proofs.byte_queue.ByteQueue.room.Goals as goal

pub returns-clause-whole : goal.returns-clause-whole
returns-clause-whole c = λ empty.
    let held = c.self.inside.bytes in
    let none : drop c.self.inside.start held.items ≡ [] =
    ap (λ v. v.waiting) c.self.view_is ∙ empty in
    let all : c.self.inside.start ≡ vec_len held =
    omega (arith, length-drop c.self.inside.start held.items, ap length none, c.self.invariant.0) in
    omega
    (arith, c.len.ensures, all, c.self.invariant.3 all, ap (λ v. v.size) c.self.view_is)
