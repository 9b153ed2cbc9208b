use Rattle.std.proofs.Common.{◌≡◌, ◌+◌, ◌≤◌, sym, ap, arith, rules, refl, Some, None, length}
use Rattle.ddcmp_frame.specs.Reader.{candidate_length}
use Rattle.ddcmp_frame.specs.Reading.{count_of}
use Rattle.ddcmp_frame.proofs.WireLaws.{control-whole, counted-whole, frame_length-control}
use Rattle.ddcmp_frame.proofs.WireLaws.{frame_length-counted}
use Rattle.ddcmp_frame.proofs.plain.row_after_header.Goals as goal

pub returns-in_default-clause-found : goal.returns-in_default-clause-found
returns-in_default-clause-found c =
    let none : count_of c.args.header ≡ None = search rules in
    let l = frame_length-control c.args.header none in
    let full = c.requires.front in (
      omega arith,
      omega arith,
      sym (ap candidate_length c.requires.header),
      control-whole c.args.header c.args.bytes.now (λ i. omega (arith, c.type_inv.bytes i))
          full c.requires.header none,
      refl,
      omega arith,
    )

pub returns-then-data_right-clause-found : goal.returns-then-data_right-clause-found
returns-then-data_right-clause-found c =
    let some : count_of c.args.header ≡ Some c.in-Some.count = search rules in
    let l = frame_length-counted c.args.header c.in-Some.count some in
    let full : c.in-Some.count + 10 ≤ length c.args.bytes.now = omega arith in (
      omega arith,
      omega arith,
      sym (ap candidate_length c.requires.header),
      counted-whole c.args.header c.in-Some.count c.args.bytes.now
          (λ i. omega (arith, c.type_inv.bytes i)) full c.requires.header some (search rules),
      refl,
      omega arith,
    )
