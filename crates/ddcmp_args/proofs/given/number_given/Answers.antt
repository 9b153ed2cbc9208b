use Rattle.std.proofs.Common.{Some, None}
use Rattle.std.specs.Str.Parse.{ParsesUnsigned, ExplainsUnsignedError, HasUnsignedDigitsIfOk}
use Rattle.ddcmp_args.proofs.NumberLaws.{number_read, in_range, out_of_range, left_out}
use Rattle.ddcmp_args.proofs.given.number_given.Goals as goal

pub returns-then-is_within : goal.returns-then-is_within
returns-then-is_within c =
    in_range _ _ _ _ c.in-Some.number (c.is_within.ensures.0 c.if-is_within.true)
    c.requires.most c.in-Some.ensures.none
    (number_read
    (λ bs r. ParsesUnsigned 32 10 bs r × ExplainsUnsignedError 10 bs r
    × HasUnsignedDigitsIfOk bs r) (λ bs r g. g.0) _ (Some c.in-Some.number)
    c.in-Some.ensures.value)

pub returns-else-is_within : goal.returns-else-is_within
returns-else-is_within c =
    out_of_range _ _ _ _ c.in-Some.number c.requires.otherwise c.requires.most c.if-is_within.false
    c.is_within.ensures.1
    (number_read
    (λ bs r. ParsesUnsigned 32 10 bs r × ExplainsUnsignedError 10 bs r
    × HasUnsignedDigitsIfOk bs r) (λ bs r g. g.0) _ (Some c.in-Some.number)
    c.in-Some.ensures.value)

pub returns-in-None : goal.returns-in-None
returns-in-None c =
    left_out _ _ _ _ c.requires.otherwise c.requires.most
    (number_read
    (λ bs r. ParsesUnsigned 32 10 bs r × ExplainsUnsignedError 10 bs r
    × HasUnsignedDigitsIfOk bs r) (λ bs r g. g.0) _ None c.in-None.ensures.value)
