use Rattle.std.proofs.Common.{arith, ◌≡◌, ◌≤◌, ◌+◌, ◌++◌, ◌∙◌, ℕ, List, Some, None, ap, length}
use Rattle.std.proofs.Common.{append_assoc, drop, drop-drop, length-drop, length-take-le, subst}
use Rattle.std.proofs.Common.{sym}
use Rattle.std.proofs.Common.{take, take_at}
use Rattle.std.proofs.lemmas.List.{take-append-drop, take_rest}
use Rattle.ddcmp_io.specs.Written.{Known}
use Rattle.std.specs.Io.KnownBytes.{Consumes, IsAtEnd}
use Rattle.ddcmp_commands.specs.Early.{unread}
use Rattle.ddcmp_commands.proofs.early.Early.read.Goals as goal

-- the first of the early bytes are returned
returned : (taken n : ℕ) (early : List ℕ) (left : Known)
    → Consumes (unread taken early left) (unread (taken + n) early left) (take n (drop taken early))
returned taken n early None = tt
returned taken n early (Some rest) =
    let waiting = drop taken early in
    ap (λ l. l ++ rest) (sym (take-append-drop n waiting))
    ∙ append_assoc (take n waiting) (drop n waiting) rest
    ∙ ap (λ l. take n waiting ++ (l ++ rest)) (drop-drop n taken early)

pub returns : goal.returns
returns g c =
    let early = c.args.self.now.bytes.items in
    let taken = c.args.self.now.taken in
    let n = c.min-n.result in
    let buf = c.args.buf.now in
    let waiting = drop taken early in
    let fits : n ≤ length waiting = omega (arith, length-drop taken early) in
    let put : c.copy_from_slice.new.self ≡ take n waiting =
    c.copy_from_slice.ensures.after ∙ ap (take n) (take_rest c.deref.result.now taken)
    ∙ ap (λ l. take n (drop taken l)) c.deref.ensures.value in
    let front : take n (c.copy_from_slice.new.self ++ drop n buf) ≡ take n waiting =
    ap (λ l. take n (l ++ drop n buf)) put
    ∙ take_at (take n waiting) (drop n buf) n (length-take-le n waiting fits) in
    let left = g.R.Source.left c.args.self.now.source in (
      omega (arith),
      subst (λ bytes. Consumes (unread taken early left) (unread (taken + n) early left) bytes)
          (sym front) (returned taken n early left),
      λ zero some. absurd {A = IsAtEnd (unread (taken + n) early left)} (omega (arith, zero, some)),
    )
