use Rattle.std.proofs.Common.{◌≡◌, ap, ◌∙◌, ◌-◌, arith, length, take, sym, length-take-le, take_all}
use Rattle.ddcmp_input.specs.Lengths.{after_bytes, entries_of_bytes}
use Rattle.ddcmp_input.specs.declared.lengths.LengthPlace.TheVariants.{Start, Inside}
use Rattle.ddcmp_input.proofs.LengthsLaws.{at, some_is_left, short_state, none_of_short}
use Rattle.ddcmp_input.proofs.LengthsLaws.{none_of_first, whole_state, message_of_whole}
use Rattle.ddcmp_input.proofs.lengths.Lengths.push_within.Goals as goal

pub returns-then-piece-left-clause-first : goal.returns-then-piece-left-clause-first
returns-then-piece-left-clause-first c = λ n less.
    none_of_first n c.args.piece.now c.args.left c.args.self.now c.requires.place
    (omega (arith, less, c.if-piece-left.true))

pub returns-then-piece-left-clause-state : goal.returns-then-piece-left-clause-state
returns-then-piece-left-clause-state c =
    let held = at c.self.inside.max c.self.inside.place c.self.inside.message.items in
    let view : held ≡ c.args.self.now = c.self.view_is in
    ap (at c.self.inside.max (Inside (c.args.left - length c.args.piece.now)))
    c.append.ensures.items
    ∙ short_state c.args.piece.now c.args.left held (ap (λ v. v.place) view ∙ c.requires.place)
    c.if-piece-left.true
    ∙ ap (after_bytes c.args.piece.now) view
    ∙ ap (λ xs. after_bytes xs c.args.self.now)
    (sym (take_all (length c.args.piece.now) c.args.piece.now (omega arith)))

pub returns-then-piece-left-clause-entries : goal.returns-then-piece-left-clause-entries
returns-then-piece-left-clause-entries c =
    ap (λ xs. entries_of_bytes xs c.args.self.now)
    (take_all (length c.args.piece.now) c.args.piece.now (omega arith))
    ∙ none_of_short c.args.piece.now c.args.left c.args.self.now c.requires.place
    c.if-piece-left.true

pub returns-clause-first : goal.returns-clause-first
returns-clause-first c =
    λ n less. none_of_first n c.args.piece.now c.args.left c.args.self.now c.requires.place less

pub returns-clause-state : goal.returns-clause-state
returns-clause-state c =
    let held = at c.self.inside.max c.self.inside.place c.self.inside.message.items in
    let view : held ≡ c.args.self.now = c.self.view_is in
    let place : held.place ≡ Inside c.args.left = ap (λ v. v.place) view ∙ c.requires.place in
    ap (at c.self.inside.max Start) c.append-2.ensures.items
    ∙ whole_state (take c.args.left c.args.piece.now) c.args.left held place
    (some_is_left c.self.inside.place c.args.left _ _ place c.self.invariant.1)
    (length-take-le c.args.left c.args.piece.now (omega (arith, c.if-piece-left.false)))
    ∙ ap (after_bytes (take c.args.left c.args.piece.now)) view

pub returns-clause-entries : goal.returns-clause-entries
returns-clause-entries c =
    let held = at c.self.inside.max c.self.inside.place c.self.inside.message.items in
    let view : held ≡ c.args.self.now = c.self.view_is in
    let place : held.place ≡ Inside c.args.left = ap (λ v. v.place) view ∙ c.requires.place in
    message_of_whole (take c.args.left c.args.piece.now) c.args.left c.args.self.now
    c.requires.place
    (some_is_left c.self.inside.place c.args.left _ _ place c.self.invariant.1)
    (length-take-le c.args.left c.args.piece.now (omega (arith, c.if-piece-left.false)))
