use Rattle.std.proofs.Common.{◌≡◌, Bool, true, false, refl, ◌∙◌, arith}
use Rattle.ddcmp_station.proofs.RunLaws.{none-so-far, one-more, broke, ends-so}
use borrow.Author.Rules.{rules}
use Rattle.ddcmp_station.proofs.driver.drive.Goals as goal

pub loop-done-init : goal.loop-done-init
loop-done-init g c = record {
  fine = c.requires.fine;
  whole = c.requires.whole;
  limits = refl;
  syn = refl;
  offset = omega arith;
  read = omega arith;
  written = omega arith;
  taken = none-so-far g.U.User.becomes c.args.user.now c.args.timer_ms c.args.station.now _ _ _ _ _;
}

is_false : (b : Bool) → (b ≡ true → ⊥) → b ≡ false
is_false false h = refl
is_false true h = absurd (h refl)

pub loop-done-preserved : goal.loop-done-preserved
loop-done-preserved g c =
    let i = c.loop-done.invariant in
    let t = c.in-Ok-turn.ensures.takes in
    record {
      fine = λ e. absurd (cc (c.in-Ok-turn.ensures.read.1 e));
      whole = is_false _ (λ e. absurd (cc (c.in-Ok-turn.ensures.write.1 e)));
      limits = t.limits ∙ i.limits;
      syn = t.syn ∙ i.syn;
      offset = omega (arith, t.offset, t.read, i.offset);
      read = omega (arith, c.in-Ok-turn.ensures.few.0, i.read);
      written = omega (arith, c.in-Ok-turn.ensures.few.1, i.written);
      taken =
          one-more g.U.User.becomes c.args.user.now c.loop-done.user c.turn.new.user c.args.timer_ms
          c.loop-done._done c.args.station.now c.loop-done.station c.turn.new.station
          c.loop-done.tally c.turn.new.tally _ _ _ _ _ _ _ _ _ _ _ _ _ _ i.taken t;
    }

pub returns-in-Err-clause-drives : goal.returns-in-Err-clause-drives
returns-in-Err-clause-drives g c =
    let i = c.loop-done.invariant in
    ends-so c.args.timer_ms c.args.turns _ c.halt.new.self _ _ c.in-Err.fault
    (broke g.U.User.becomes c.args.user.now c.loop-done.user c.turn.new.user c.args.timer_ms
    c.loop-done._done c.args.turns c.args.station.now c.loop-done.station c.turn.new.station
    c.halt.new.self c.loop-done.tally _ _ _ _ _ _ _ _ _ _ _ _ _ _ c.in-Err.fault i.taken
    c.loop-done-test.true c.in-Err.ensures.takes c.halt.ensures)

pub returns-in_default-clause-drives : goal.returns-in_default-clause-drives
returns-in_default-clause-drives g c = search rules

pub returns-in_default-clause-read : goal.returns-in_default-clause-read
returns-in_default-clause-read g c = search rules

pub returns-in_default-clause-write : goal.returns-in_default-clause-write
returns-in_default-clause-write g c = search rules

pub returns-in_default-clause-ended : goal.returns-in_default-clause-ended
returns-in_default-clause-ended g c = search rules

pub returns-in_default-clause-memory : goal.returns-in_default-clause-memory
returns-in_default-clause-memory g c = search rules

pub turn-requires-clause-fine : goal.turn-requires-clause-fine
turn-requires-clause-fine g c = search rules

pub turn-requires-clause-whole : goal.turn-requires-clause-whole
turn-requires-clause-whole g c = search rules

pub turn-requires-clause-room : goal.turn-requires-clause-room
turn-requires-clause-room g c = search rules

pub turn-requires-clause-offset : goal.turn-requires-clause-offset
turn-requires-clause-offset g c = search rules

pub turn-requires-clause-read : goal.turn-requires-clause-read
turn-requires-clause-read g c = search rules

pub turn-requires-clause-written : goal.turn-requires-clause-written
turn-requires-clause-written g c = search rules

pub returns-in-Err-clause-read : goal.returns-in-Err-clause-read
returns-in-Err-clause-read g c = search rules

pub returns-in-Err-clause-write : goal.returns-in-Err-clause-write
returns-in-Err-clause-write g c = search rules

pub returns-in-Err-clause-ended : goal.returns-in-Err-clause-ended
returns-in-Err-clause-ended g c = search rules

pub returns-in-Err-clause-memory : goal.returns-in-Err-clause-memory
returns-in-Err-clause-memory g c = search rules

pub returns-clause-drives : goal.returns-clause-drives
returns-clause-drives g c = search rules

pub returns-clause-read : goal.returns-clause-read
returns-clause-read g c = search rules

pub returns-clause-write : goal.returns-clause-write
returns-clause-write g c = search rules

pub returns-clause-ended : goal.returns-clause-ended
returns-clause-ended g c = search rules

pub returns-clause-memory : goal.returns-clause-memory
returns-clause-memory g c = search rules
