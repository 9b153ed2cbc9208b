-- Pieces of what both sides say, and their text.
use Rattle.std.proofs.Common.{◌≡◌, ℕ, ◌+◌, List, [], ◌∷◌, ◌++◌, length, take, sym, ◌∙◌, ap}
use Rattle.std.proofs.Common.{refl, subst, append_assoc, Bool, Option}
use Rattle.std.specs.Io.KnownBytes.{Appends}
use Rattle.std.proofs.KnownBytes.{Appends-trans}
use Rattle.std.proofs.Math.Seq.{take-append-add}
use Rattle.std.proofs.lemmas.List.{append-nil}
use Rattle.ddcmp_io.specs.Written.{AppendsPart, Known}
use Rattle.ddcmp_log.specs.declared.notation.LogNotation.{LogNotation}
use Rattle.ddcmp_log.specs.declared.side.Side.{Side}
use Rattle.ddcmp_log.specs.declared.side.Stamp.{Stamp}
use Rattle.ddcmp_log.specs.declared.side.Side.TheVariants.{Caller, Called}
use Rattle.ddcmp_log.specs.Items.{ItemLogView}
use Rattle.ddcmp_log.specs.Logged.{items_added, logged_last, logged_lines}
use Rattle.ddcmp_ports.specs.declared.port.Port.TheVariants.{Input, Output, Errors, First, Second}
use Rattle.ddcmp_ports.specs.Running.{Event, Gave, Left, Passed, Rested, Shut, Stopped, Told, Took}
use Rattle.ddcmp_tap.specs.Forwarding.{IsOf}
use Rattle.ddcmp_tap.specs.Logging.{Piece, pieces_text, said}
use Rattle.ddcmp_tap.specs.Tapping.{log_of, moment_of, pieces_of, piece_of}
use Rattle.ddcmp_tap.specs.declared.tap_log.TapLog.{TapLog}

-- a beginning of what comes after a text
pub part-behind : (a b c : Known) (text more : List ℕ) → Appends a b text → AppendsPart b c more
    → AppendsPart a c (text ++ more)
part-behind a b c text more one two = (
  length text + two.0,
  subst (λ x. Appends a c x) (sym (take-append-add text more two.0))
      (Appends-trans a b c text (take two.0 more) one two.1),
)

pub said-more : (side : Side) (stamp : Option Stamp) (more : List ℕ) (pieces : List Piece)
    → said side (record { side = side; stamp = stamp; bytes = more } ∷ pieces)
    ≡ said side pieces ++ more
unfolding said
said-more Caller stamp more pieces = refl
said-more Called stamp more pieces = refl

pub said-called : (stamp : Option Stamp) (more : List ℕ) (pieces : List Piece)
    → said Called (record { side = Caller; stamp = stamp; bytes = more } ∷ pieces)
    ≡ said Called pieces
unfolding said
said-called stamp more pieces = append-nil (said Called pieces)

pub said-caller : (stamp : Option Stamp) (more : List ℕ) (pieces : List Piece)
    → said Caller (record { side = Called; stamp = stamp; bytes = more } ∷ pieces)
    ≡ said Caller pieces
unfolding said
said-caller stamp more pieces = append-nil (said Caller pieces)

pub text-more : (notation : LogNotation) (max : ℕ) (p : Piece) (pieces : List Piece)
    → pieces_text notation max (p ∷ pieces)
    ≡ pieces_text notation max pieces
    ++ logged_lines notation p.stamp p.side (items_added max (said p.side pieces) p.bytes)
unfolding pieces_text
text-more notation max p pieces = refl

pub said-none : (side : Side) → said side [] ≡ []
unfolding said
said-none side = refl

pub text-none : (notation : LogNotation) (max : ℕ) → pieces_text notation max [] ≡ []
unfolding pieces_text
text-none notation max = refl

-- the lines of a log of this side
pub lines-as : (side : Side) (notation : LogNotation) (max : ℕ) (stamp : Option Stamp)
    (log : ItemLogView) (told more : List ℕ) → IsOf side notation max log
    → logged_lines log.notation stamp log.side (items_added log.frames.max told more)
    ≡ logged_lines notation stamp side (items_added max told more)
lines-as side notation max stamp log told more is =
    ap (λ x. logged_lines x stamp log.side (items_added log.frames.max told more)) is.1
    ∙ ap (λ x. logged_lines notation stamp x (items_added log.frames.max told more)) is.0
    ∙ ap (λ x. logged_lines notation stamp side (items_added x told more)) is.2

pub last-as : (side : Side) (notation : LogNotation) (max : ℕ) (stamp : Option Stamp)
    (log : ItemLogView) (told : List ℕ) → IsOf side notation max log
    → logged_last log.notation stamp log.side log.frames.max told
    ≡ logged_last notation stamp side max told
last-as side notation max stamp log told is =
    ap (λ x. logged_last x stamp log.side log.frames.max told) is.1
    ∙ ap (λ x. logged_last notation stamp x log.frames.max told) is.0
    ∙ ap (λ x. logged_last notation stamp side x told) is.2

-- a text that begins with another
abbrev pub Begins : List ℕ → List ℕ → Type 0
Begins before text = (rest : List ℕ) × (text ≡ before ++ rest)

piece-behind : (log : TapLog) (p : Piece) (h : List Event) (before : List ℕ)
    → Begins before (log_of log h)
    → Begins before (pieces_text log.notation log.max (p ∷ pieces_of log h))
piece-behind log p h before b =
    let lines =
    logged_lines log.notation p.stamp p.side
    (items_added log.max (said p.side (pieces_of log h)) p.bytes) in (
      b.0 ++ lines,
      text-more log.notation log.max p (pieces_of log h)
          ∙ ap (λ x. x ++ lines) b.1
          ∙ append_assoc before b.0 lines,
    )

-- The log only grows.
pub log-grows : (log : TapLog) (more h : List Event) → Begins (log_of log h) (log_of log (more ++ h))
log-grows log [] h = ([], sym (append-nil (log_of log h)))
log-grows log (Gave First bytes ∷ more) h =
    piece-behind log (piece_of Caller log (moment_of (more ++ h)) bytes) (more ++ h)
    (log_of log h) (log-grows log more h)
log-grows log (Gave Second bytes ∷ more) h =
    piece-behind log (piece_of Called log (moment_of (more ++ h)) bytes) (more ++ h)
    (log_of log h) (log-grows log more h)
log-grows log (Gave Input bytes ∷ more) h = log-grows log more h
log-grows log (Gave Output bytes ∷ more) h = log-grows log more h
log-grows log (Gave Errors bytes ∷ more) h = log-grows log more h
log-grows log (Took q bytes ∷ more) h = log-grows log more h
log-grows log (Told q what ∷ more) h = log-grows log more h
log-grows log (Shut q ∷ more) h = log-grows log more h
log-grows log (Left q ∷ more) h = log-grows log more h
log-grows log (Passed now ∷ more) h = log-grows log more h
log-grows log (Rested ∷ more) h = log-grows log more h
log-grows log (Stopped ∷ more) h = log-grows log more h
