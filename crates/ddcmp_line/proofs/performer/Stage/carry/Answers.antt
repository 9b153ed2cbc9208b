use Rattle.std.proofs.Common.{◌≡◌, ◌≤◌, ℕ, List, Option, false, ◌++◌, ap, sym, refl, subst, ◌∙◌}
use Rattle.std.proofs.Common.{length, drop, take, arith}
use Rattle.std.proofs.Math.Seq.{take-append_seam}
use Rattle.std.proofs.lemmas.List.{length-take}
use Rattle.ddcmp_io.specs.Written.{output_of}
use Rattle.ddcmp_io.proofs.WrittenLaws.{sends-then}
use Rattle.ddcmp_pair.specs.declared.event.Event.TheVariants as event
use Rattle.ddcmp_pair.specs.Run.{after_event, asks_memory}
use Rattle.std.specs.Prelude.{codes}
use Rattle.ddcmp_io.specs.Carriages.{HasCarried}
use Rattle.ddcmp_line.specs.Script.{Between, part_of, frames_of, with_frames, taken_off}
use Rattle.ddcmp_line.specs.Script.{arrival_text}
use Rattle.ddcmp_line.proofs.Scenes.{carry-empty, carry-refused, carry-well, carry-lost, must-ask}
use Rattle.ddcmp_line.proofs.Scenes.{front-none, no-frames, outputs-same}
use Rattle.ddcmp_io.proofs.TextLaws.{sends-as, sends-nothing}
use Rattle.ddcmp_line.proofs.performer.Stage.carry.Goals as goal

-- what came is no longer than what was passed on
came-within : (n : ℕ) (out bytes front came : List ℕ) (most : Option ℕ) → came ≡ take n out
    → n ≤ length bytes → bytes ≡ part_of most front → length came ≤ length (part_of most front)
came-within n out bytes front came most is few part =
    subst (λ b. length came ≤ length b) part (omega (arith, ap length is ∙ length-take n out, few))

pub returns-in_default-clause-ends : goal.returns-in_default-clause-ends
returns-in_default-clause-ends g c =
    let p = c.args.pair.now in
    let lines = c.args.self.now.lines in
    let none =
    front-none c.front.result (frames_of c.args.part.from lines)
    c.front.ensures c.in_default.not-Some in
    carry-empty c.args.part.from c.args.part.most p p lines lines _ _ (g.C.Carrier.direct c.args.carrier.now)
    (g.C.Carrier.told c.args.carrier.now) none refl refl
    (sends-as (ap (λ w. w ++ codes "empty\n") c.end_name.ensures) c.write_plain.ensures)
    (no-frames c.args.part.from lines none)

pub returns-in_default-from_elem-clause-ends : goal.returns-in_default-from_elem-clause-ends
returns-in_default-from_elem-clause-ends g c =
    let p = c.args.pair.now in
    let lines = c.args.self.now.lines in
    carry-refused c.args.part.from c.args.part.most p p lines lines _ _
    (g.C.Carrier.direct c.args.carrier.now) (g.C.Carrier.told c.args.carrier.now) refl
    (sends-nothing _)

pub returns-in-Ok-arrive-clause-ends : goal.returns-in-Ok-arrive-clause-ends
returns-in-Ok-arrive-clause-ends g c =
    let p = c.args.pair.now in
    let lines = c.args.self.now.lines in
    let from = c.args.part.from in
    let front = c.in-Some.front.now in
    let n = c.in-Ok-carry.came in
    let came = c.new-came.result in
    let d = g.C.Carrier.direct c.args.carrier.now in
    let log = g.C.Carrier.told c.args.carrier.now in
    let now = g.C.Carrier.told c.carry.new.self in
    let whole : c.in-Ok.out.len ≡ length c.carry.new.out =
    omega (arith, c.in-Ok.ensures.len, c.carry.auto.out, c.deref_mut.ensures.len) in
    let came_is : came ≡ take n c.carry.new.out =
    c.new-came.ensures ∙ c.truncate.ensures.items
    ∙ ap (take n)
    (ap (λ k. take k (c.carry.new.out ++ drop (length c.carry.new.out) c.in-Ok.out.items)) whole
    ∙ take-append_seam c.carry.new.out (drop (length c.carry.new.out) c.in-Ok.out.items)) in
    let carried =
    subst (λ b. HasCarried d log now (record { from = from; bytes = b; came = came }))
    c.first_of-bytes.ensures
    (subst
    (λ x. HasCarried d log now
    (record { from = from; bytes = c.first_of-bytes.result.now; came = x })) (sym came_is)
    c.in-Ok-carry.ensures.carried) in
    let within =
    came-within n c.carry.new.out c.first_of-bytes.result.now front came c.args.part.most came_is
    c.in-Ok-carry.ensures.within c.first_of-bytes.ensures in
    let q = c.arrive.new.pair in
    let to_is = c.other.ensures in
    let taken =
    λ (l : Between). with_frames from
    (taken_off (length c.first_of-bytes.result.now) (frames_of from l)) l in
    let later =
    c.take_off.ensures ∙ ap taken c.in-Ok-arrive.ensures.lines
    ∙ ap (λ b. with_frames from (taken_off (length b) (frames_of from lines)) lines)
    c.first_of-bytes.ensures in
    let before =
    output_of g.W.Sink.broken g.W.Sink.contents c.args.writer.now c.args.self.now.page in
    let after =
    output_of g.W.Sink.broken g.W.Sink.contents c.arrive.new.writer c.arrive.new.self.page in
    carry-well from c.args.part.most p q lines c.take_off.new.self before after d log now front
    (drop 1 (frames_of from lines)) came c.in-Some.ensures carried within
    (c.in-Ok-arrive.ensures.pair refl ∙ ap (λ e. after_event (event.Arrive e came) p) to_is)
    later
    (sends-as (ap (λ e. arrival_text from (codes "passed ") e came p) to_is)
    (sends-then c.flush_before.ensures.sends (c.in-Ok-arrive.ensures.text refl)))

pub returns-in-Err-arrive-clause-ends : goal.returns-in-Err-arrive-clause-ends
returns-in-Err-arrive-clause-ends g c =
    let p = c.args.pair.now in
    let lines = c.args.self.now.lines in
    let from = c.args.part.from in
    let front = c.in-Some.front.now in
    let n = c.in-Ok-carry.came in
    let came = c.new-came.result in
    let d = g.C.Carrier.direct c.args.carrier.now in
    let log = g.C.Carrier.told c.args.carrier.now in
    let now = g.C.Carrier.told c.carry.new.self in
    let whole : c.in-Ok.out.len ≡ length c.carry.new.out =
    omega (arith, c.in-Ok.ensures.len, c.carry.auto.out, c.deref_mut.ensures.len) in
    let came_is : came ≡ take n c.carry.new.out =
    c.new-came.ensures ∙ c.truncate.ensures.items
    ∙ ap (take n)
    (ap (λ k. take k (c.carry.new.out ++ drop (length c.carry.new.out) c.in-Ok.out.items)) whole
    ∙ take-append_seam c.carry.new.out (drop (length c.carry.new.out) c.in-Ok.out.items)) in
    let carried =
    subst (λ b. HasCarried d log now (record { from = from; bytes = b; came = came }))
    c.first_of-bytes.ensures
    (subst
    (λ x. HasCarried d log now
    (record { from = from; bytes = c.first_of-bytes.result.now; came = x })) (sym came_is)
    c.in-Ok-carry.ensures.carried) in
    let within =
    came-within n c.carry.new.out c.first_of-bytes.result.now front came c.args.part.most came_is
    c.in-Ok-carry.ensures.within c.first_of-bytes.ensures in
    let refused = c.in-Err-arrive.ensures.memory in
    let asks =
    must-ask _
    (λ none. c.in-Err-arrive.ensures.asks
    (subst (λ e. asks_memory (event.Arrive e came) p ≡ false) (sym c.other.ensures) none)) in
    let before =
    output_of g.W.Sink.broken g.W.Sink.contents c.args.writer.now c.args.self.now.page in
    let after =
    output_of g.W.Sink.broken g.W.Sink.contents c.arrive.new.writer c.arrive.new.self.page in
    carry-lost from c.args.part.most p c.arrive.new.pair lines c.arrive.new.self.lines before after d log
    now front (drop 1 (frames_of from lines))
    came c.in-Some.ensures carried within refused.0 asks
    (sends-then c.flush_before.ensures.sends
    (outputs-same g.W.Sink.broken g.W.Sink.contents _ _ _ _ refused.1 refused.2))
