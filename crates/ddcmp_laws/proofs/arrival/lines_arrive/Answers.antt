use Rattle.ddcmp_session.specs.declared.link.LinkFault.TheVariants.{Refused}
use Rattle.ddcmp_laws.proofs.BytesArrive.{known-run, none-refused, not-refused}
use Rattle.ddcmp_laws.proofs.LinesArrive.{lines-arrive, lines-begin, lines-written}
use Rattle.ddcmp_laws.proofs.arrival.lines_arrive.Goals as goal

pub returns-clause-whole : goal.returns-clause-whole
returns-clause-whole g c = λ outcome other t u ok other_ok began other_began ended other_ended
    lines
    other_lines line.
    let one = c.run_link-first.ensures.served outcome ok in
    let two = c.run_link-second.ensures.served other other_ok in
    lines-arrive c.args.options c.args.other_options c.args.kind c.args.other_kind one.0 two.0 t u
    (none-refused _ _ (λ why. Refused why) outcome c.run_link-first.ensures.refused ok)
    (none-refused _ _ (λ why. Refused why) other c.run_link-second.ensures.refused other_ok)
    lines other_lines (known-run t began ended one.1) one.2
    (known-run u other_began other_ended two.1) line

pub returns-clause-begins : goal.returns-clause-begins
returns-clause-begins g c = λ t u ran other_ran began other_began ended other_ended lines
    other_lines line.
    let one = c.run_link-first.ensures.ran ran in
    let two = c.run_link-second.ensures.ran other_ran in
    lines-begin _ _ c.args.options c.args.other_options c.args.kind c.args.other_kind one.0 two.0
    t u
    (not-refused _ _ (λ why. Refused why) c.run_link-first.ensures.refused ran)
    (not-refused _ _ (λ why. Refused why) c.run_link-second.ensures.refused other_ran)
    lines other_lines (known-run t began ended one.1) (known-run u other_began other_ended two.1)
    line

pub returns-clause-written : goal.returns-clause-written
returns-clause-written g c = λ outcome t u ok other_ran began other_began ended other_ended lines
    other_lines early line.
    let one = c.run_link-first.ensures.served outcome ok in
    let two = c.run_link-second.ensures.ran other_ran in
    lines-written _ c.args.options c.args.other_options c.args.kind c.args.other_kind one.0 two.0
    t u
    (none-refused _ _ (λ why. Refused why) outcome c.run_link-first.ensures.refused ok)
    (not-refused _ _ (λ why. Refused why) c.run_link-second.ensures.refused other_ran)
    lines other_lines early (known-run t began ended one.1) one.2
    (known-run u other_began other_ended two.1) line
