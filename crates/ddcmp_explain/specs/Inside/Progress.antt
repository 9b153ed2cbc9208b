-- How far an input has been explained.
use Rattle.std.specs.Prelude.{◌≡◌, ℕ, ◌+◌, Bool, true, false, List, length, Result, Ok}
use Rattle.std.specs.Prelude.{Err}
use Rattle.std.specs.Io.KnownBytes.{Appends}
use Rattle.ddcmp_frame.specs.Reader.{StandsFor}
use Rattle.ddcmp_frame.specs.Reading.{ReadItem, ending, good_frames_in, items}
use Rattle.ddcmp_io.specs.Written.{Holds, Known}
use Rattle.ddcmp_io.specs.declared.device.WriteFailed.{WriteFailed}
use Rattle.ddcmp_explain.specs.declared.explain_fault.ExplainFault.TheVariants.{Write}
use Rattle.ddcmp_explain.specs.declared.form.InputForm.{InputForm}
use Rattle.ddcmp_explain.specs.declared.input_bytes.InputBytes.{InputBytes}
use Rattle.ddcmp_explain.specs.declared.lines.Lines.{Lines}
use Rattle.ddcmp_explain.specs.Detection.{form_in}
use Rattle.ddcmp_explain.specs.Digits.{bytes_of}
use Rattle.ddcmp_explain.specs.Discarded.{has_frame, lines_in, reached}
use Rattle.ddcmp_explain.specs.Explains.{Answer}
use Rattle.ddcmp_explain.specs.Inside.Heads.{Heads}
use Rattle.ddcmp_explain.specs.Reads.{Reads}
use Rattle.ddcmp_explain.specs.declared.head.Head.{Head}

-- if skipped bytes are reported: the offset at which the last item ends
abbrev pub ReachesTo : Bool → List ReadItem → ℕ → ℕ → Type 0
ReachesTo false given offset taken = Unit {0}
ReachesTo true given offset taken = reached 0 given ≡ offset + taken

-- if they are: the first bytes of the incomplete frame
abbrev pub BeginsWith : Bool → Head → List ℕ → Type 0
BeginsWith false head rest = Unit {0}
BeginsWith true head rest = Heads head rest

-- if they are: whether one of the items is a good frame
abbrev pub HasFound : Bool → List ReadItem → Bool → Type 0
HasFound false given is_found = Unit {0}
HasFound true given is_found = is_found ≡ has_frame (good_frames_in given)

-- The reader has read the text, and its items are counted. Since the sink held `start`, some of
-- their lines were written to it, and the others are buffered in the page.
pub record HasTold (max : ℕ) (start : Known) (text : List ℕ) (at : Lines) (broken : Bool)
    (sink : Known) : Type 0 where
  pub stands : StandsFor at.frames text
  pub max_is : at.frames.max ≡ max
  pub counted : at.items ≡ length (items max text)
  pub reaches : ReachesTo at.style.discarded (items max text) at.reached.offset at.reached.taken
  pub head : BeginsWith at.style.discarded at.head (ending max text).rest
  pub found : HasFound at.style.discarded (items max text) at.is_found
  pub holds : Holds start (lines_in at.style max text)
      (record { broken = broken; sink = sink; waiting = at.page })

-- All that was read of an input was decoded, and the lines of its complete bytes were written.
pub record Progress (written : InputForm) (max : ℕ) (start : Known) (input : List ℕ) (left : Known)
    (at : InputBytes) (lines : Lines) (broken : Bool) (sink : Known) : Type 0 where
  pub seen : List ℕ
  pub reads : Reads written input seen left at
  pub told : HasTold max start (bytes_of (form_in written input) seen) lines broken sink
  pub appends : Appends start sink
      (lines_in lines.style max (bytes_of (form_in written input) seen))

-- what is returned after the last write
abbrev pub answer_of : Result (Unit {0}) WriteFailed → Answer
answer_of (Ok u) = Ok u
answer_of (Err failed) = Err Write
