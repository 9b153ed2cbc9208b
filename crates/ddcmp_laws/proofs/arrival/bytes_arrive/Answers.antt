use Rattle.ddcmp_session.specs.declared.link.LinkFault.TheVariants.{Refused}
use Rattle.ddcmp_laws.proofs.BytesArrive.{bytes-arrive, bytes-begin, bytes-written, known-run}
use Rattle.ddcmp_laws.proofs.BytesArrive.{none-refused, not-refused}
use Rattle.ddcmp_laws.proofs.arrival.bytes_arrive.Goals as goal

pub returns-clause-whole : goal.returns-clause-whole
returns-clause-whole g c = λ outcome other t u ok other_ok began other_began ended other_ended
    binary
    other_binary line.
    let one = c.run_link-first.ensures.served outcome ok in
    let two = c.run_link-second.ensures.served other other_ok in
    bytes-arrive c.args.options c.args.other_options c.args.kind c.args.other_kind one.0 two.0 t u
    (none-refused _ _ (λ why. Refused why) outcome c.run_link-first.ensures.refused ok)
    (none-refused _ _ (λ why. Refused why) other c.run_link-second.ensures.refused other_ok)
    binary other_binary (known-run t began ended one.1) one.2
    (known-run u other_began other_ended two.1) line

pub returns-clause-begins : goal.returns-clause-begins
returns-clause-begins g c = λ t u ran other_ran began other_began ended other_ended binary
    other_binary line.
    let one = c.run_link-first.ensures.ran ran in
    let two = c.run_link-second.ensures.ran other_ran in
    bytes-begin _ _ c.args.options c.args.other_options c.args.kind c.args.other_kind one.0 two.0
    t u
    (not-refused _ _ (λ why. Refused why) c.run_link-first.ensures.refused ran)
    (not-refused _ _ (λ why. Refused why) c.run_link-second.ensures.refused other_ran)
    binary other_binary (known-run t began ended one.1) (known-run u other_began other_ended two.1)
    line

pub returns-clause-written : goal.returns-clause-written
returns-clause-written g c = λ outcome t u ok other_ran began other_began ended other_ended binary
    other_binary early line.
    let one = c.run_link-first.ensures.served outcome ok in
    let two = c.run_link-second.ensures.ran other_ran in
    bytes-written _ c.args.options c.args.other_options c.args.kind c.args.other_kind one.0 two.0
    t u
    (none-refused _ _ (λ why. Refused why) outcome c.run_link-first.ensures.refused ok)
    (not-refused _ _ (λ why. Refused why) c.run_link-second.ensures.refused other_ran)
    binary other_binary early (known-run t began ended one.1) one.2
    (known-run u other_began other_ended two.1) line
