-- What holds for the plain reader's fields.
use Rattle.std.specs.Prelude.{◌≡◌, ◌+◌, ◌<◌, ◌≤◌, false, vec_len, vec_capacity}
use Rattle.ddcmp_num.specs.declared.limits.TheConstants.{MAX_COUNT}
use Rattle.ddcmp_frame.specs.declared.plain.PlainReader.TheInside.{Inside}

-- The buffer was reserved for the longest frame that is accepted, and an unfinished one is shorter.
pub record HasPlainRoom (r : Inside) : Type 0 where
  pub some : 0 < r.max
  pub most : r.max ≤ MAX_COUNT
  pub reserved : r.max + 10 ≤ vec_capacity r.buffer
  pub held : vec_len r.buffer ≤ r.max + 10
  pub unfinished : r.finished ≡ false → vec_len r.buffer < r.max + 10
  pub before : r.finished ≡ false → vec_len r.buffer ≤ r.offset
  pub passing : r.skipped + r.left ≤ MAX_COUNT + 10
  pub lent : 0 < r.lent → 8 + r.lent ≤ vec_len r.buffer
  pub lent_within : r.lent ≤ r.max
