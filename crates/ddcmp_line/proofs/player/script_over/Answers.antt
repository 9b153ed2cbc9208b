use Rattle.std.proofs.Common.{◌≡◌, ◌≢◌, ◌⊎◌, List, ℕ, Some, Err, inl, inr, refl}
use Rattle.std.specs.Io.KnownBytes.{Appends}
use Rattle.ddcmp_io.specs.declared.device.Worst.TheVariants.{Fine}
use Rattle.ddcmp_io.specs.Input.{GaveMost}
use Rattle.ddcmp_io.specs.Written.{AppendsPart, output_of}
use Rattle.ddcmp_line.specs.declared.script_fault.ScriptFault.TheVariants.{Read}
use Rattle.ddcmp_line.specs.ScriptEnds.{around, Plays}
use Rattle.ddcmp_line.specs.Inside.ScriptProgress.{HasDone, course, fresh, played}
use Rattle.ddcmp_io.proofs.Inputs.{gave-most, read-all}
use Rattle.ddcmp_line.proofs.Endings.{begun-has, most-read, not-most, ok-exactly}
use Rattle.ddcmp_line.proofs.player.script_over.Goals as goal
use Rattle.ddcmp_line.proofs.player.script_over.Goals.{After-drop-player-3}

read-only : (g : _) (c : After-drop-player-3 g) → c.take_all-done.result ≡ Err Read
    → (g.R.Source.state c.take_all-done.new.reader ≢ Fine)
    ⊎ GaveMost (g.R.Source.left c.args.reader.now) (g.R.Source.left c.take_all-done.new.reader)
read-only g c e = elim (c.take_all-done.ensures.read_only e) [
  | inl worse ↦ inl worse
  | inr most ↦ inr
      (gave-most c.take_all-done.new.self.seen _ _ c.take_all-done.ensures.consumed most)
]

begun : (g : _) (c : After-drop-player-3 g) (input : List ℕ) → HasDone input input
    (played c.new-player.result.line.items c.new-player.result.number
    c.new-player.result.stage.lines)
    (course (fresh (g.W.Sink.contents c.args.writer.now))
    (output_of g.W.Sink.broken g.W.Sink.contents c.args.writer.now c.new-player.result.stage.page)
    (around c.args.pair.now c.args.pair.now (g.C.Carrier.direct c.args.carrier.now)
    (g.C.Carrier.told c.args.carrier.now) (g.C.Carrier.told c.args.carrier.now)))
begun g c input =
    let player = c.new-player.result in
    let made = c.new-player.ensures in
    begun-has input c.args.pair.now (g.C.Carrier.direct c.args.carrier.now)
    (g.C.Carrier.told c.args.carrier.now) (g.W.Sink.contents c.args.writer.now)
    (g.W.Sink.broken c.args.writer.now) player.line.items player.number player.stage.lines
    player.stage.page made.line made.number made.lines made.page c.requires.whole

told : (g : _) (c : After-drop-player-3 g) (input : List ℕ)
    → g.R.Source.left c.args.reader.now ≡ Some input
    → Plays c.args.counted input
    (around c.args.pair.now c.take_all-done.new.pair (g.C.Carrier.direct c.args.carrier.now)
    (g.C.Carrier.told c.args.carrier.now) (g.C.Carrier.told c.take_all-done.new.carrier))
    (Appends (g.W.Sink.contents c.args.writer.now) (g.W.Sink.contents c.take_all-done.new.writer))
    (AppendsPart (g.W.Sink.contents c.args.writer.now)
    (g.W.Sink.contents c.take_all-done.new.writer))
    c.take_all-done.result
told g c input left =
    c.take_all-done.ensures.plays input c.args.pair.now (g.C.Carrier.direct c.args.carrier.now)
    (g.C.Carrier.told c.args.carrier.now) (g.W.Sink.contents c.args.writer.now) refl
    (input, left, begun g c input)

pub returns-clause-played : goal.returns-clause-played
returns-clause-played g c =
    let made = c.take_all-done.new in
    let done = c.take_all-done.ensures in
    let seen = made.self.seen in
    let d = g.C.Carrier.direct c.args.carrier.now in
    let log = g.C.Carrier.told c.args.carrier.now in
    let sink = g.W.Sink.contents c.args.writer.now in
    let after = g.W.Sink.contents made.writer in
    let x = around c.args.pair.now made.pair d log (g.C.Carrier.told made.carrier) in
    record {
      told = told g c;
      paused = λ input rest left later more read.
          done.paused input rest c.args.pair.now d log sink refl (input, left, begun g c input) read
          (not-most seen _ _ done.consumed input rest left later more) later;
      ok = λ input left.
          ok-exactly c.args.counted input x (Appends sink after) (AppendsPart sink after) _ _ _ _
          c.take_all-done.result (told g c input left) (record {
            read = done.read;
            read_only = read-only g c;
            read_most = λ m. done.read_most (most-read seen _ _ input done.consumed left m);
            write = done.write;
            carried = done.carrier;
          });
      read = done.read;
      read_only = read-only g c;
      read_most = λ input rest e f most.
          done.read_most (read-all seen _ _ done.consumed input rest e f most);
      write = done.write;
      carried = done.carrier;
      order = c.is_run.ensures.order;
    }
