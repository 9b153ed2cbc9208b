use Rattle.std.proofs.Common.{◌∙◌, ◌≤◌, ◌++◌, ◌+◌, ◌-◌, ap, arith, drop, length, take}
use Rattle.std.proofs.Common.{length-drop, length-take-le}
use Rattle.std.proofs.lemmas.List.{drop-append-le, with_items_is}
use borrow.Rule.Slice.PartMut.{put_mid, same_len_mid}
use Rattle.ddcmp_explain.proofs.DetectionLaws.{take-read}
use Rattle.ddcmp_session.proofs.chunk.Chunk.read_more.Goals as goal

pub read_input-got-requires : goal.read_input-got-requires
read_input-got-requires g c =
    let bytes = c.deref_mut.result.now in
    let end = c.self.inside.end in
    record {
      space = omega (
        arith,
        length-take-le (length bytes - end) (drop end bytes) (omega (arith, length-drop end bytes)),
        c.if-self-len.false,
        c.len.ensures,
        c.deref_mut.ensures.len,
      );
    }

pub returns : goal.returns
returns g c =
    let bytes = c.deref_mut.result.now in
    let start = c.self.inside.start in
    let end = c.self.inside.end in
    let n = c.count_read.result in
    let space = c.read_input-got.new.space in
    let room = length bytes - end in
    let within : end ≤ length bytes =
    omega (arith, c.if-self-len.false, c.len.ensures, c.deref_mut.ensures.len) in (
      space,
      ap (λ xs. drop start (take (end + n) xs))
          (with_items_is c.self.inside.bytes (put_mid end room bytes space)
          (same_len_mid end room bytes space c.read_input-got.auto.space ∙ c.deref_mut.ensures.len))
          ∙ ap (drop start)
          (take-read end room n bytes space within
          (omega (arith, c.count_read.ensures, c.read_input-got.ensures.fits)))
          ∙ drop-append-le start (take end bytes) (take n space)
          (omega (arith, length-take-le end bytes within, c.self.invariant.0))
          ∙ ap (λ xs. xs ++ take n space)
          (ap (λ xs. drop start (take end xs)) c.deref_mut.ensures.value ∙ c.self.view_is)
          ∙ ap (λ m. c.args.self.now ++ take m space) c.count_read.ensures,
      c.read_input-got.ensures.read,
    )
