-- What a tap says below a head.
use Rattle.std.proofs.Common.{◌≡◌, ◌≢◌, ℕ, List, [], ◌++◌, length, refl, Bool, true, false, Option, Some}
use Rattle.std.proofs.Common.{None, Result, Ok, Err, is_err, is_some, inl, inr, ◌⊎◌, subst, sym}
use Rattle.std.specs.Io.KnownBytes.{Appends}
use Rattle.std.proofs.KnownBytes.{Appends-nil, Appends-trans, Keeps-refl}
use Rattle.std.proofs.lemmas.List.Elements.{All-nil}
use Rattle.ddcmp_io.specs.declared.device.WriteFailed.{WriteFailed}
use Rattle.std.proofs.Math.Seq.{take-length}
use Rattle.ddcmp_io.specs.Written.{AppendsPart, Known, Writes}
use Rattle.ddcmp_io.proofs.WrittenLaws.{part-append}
use Rattle.ddcmp_log.specs.declared.notation.LogNotation.{LogNotation}
use Rattle.ddcmp_log.specs.declared.side.Stamp.{Stamp}
use Rattle.ddcmp_tap.specs.Stamping.{IsStamp, stamp_in}
use Rattle.ddcmp_tap.specs.declared.tap_log.LogTimes.{LogTimes}
use Rattle.ddcmp_tap.specs.declared.tap_log.LogTimes.TheVariants.{Absent, Elapsed, OfDay}
use Rattle.ddcmp_tap.specs.declared.tap_fault.CarrierFault.{CarrierFault}
use Rattle.ddcmp_tap.specs.declared.tap_fault.TapFault.{TapFault}
use Rattle.ddcmp_tap.specs.declared.tap_fault.TapFault.TheVariants.{Carrier, Read, Write, Report}
use Rattle.ddcmp_tap.specs.declared.tap_fault.TapFault.TheVariants.{Memory}
use Rattle.ddcmp_tap.specs.Logging.{Says, WritesText, tap_text}
use Rattle.ddcmp_tap.proofs.PieceLaws.{part-behind}

-- some moment, where one is asked for
abbrev moment : LogTimes → Option Stamp
moment times = stamp_in times 0 0

asked : (times : LogTimes) → IsStamp times (moment times)
asked Absent = tt
asked Elapsed = tt
asked OfDay = tt

-- nothing was said of either side
unsaid
    : (head : List ℕ) (notation : LogNotation) (times : LogTimes) (max : ℕ) (old new : Known)
    (fault : TapFault)
    → WritesText old new (Err fault) (head ++ tap_text notation max (moment times) [])
    → Says head notation times max old new (Err fault)
unsaid head notation times max old new fault wrote =
    record {
      pieces = [];
      stamp = moment times;
      stamped = (All-nil (λ p. IsStamp times p.stamp), asked times);
      wrote = wrote;
    }

pub no-memory : (head : List ℕ) (notation : LogNotation) (times : LogTimes) (max : ℕ) (old : Known)
    → Says head notation times max old old (Err Memory)
no-memory head notation times max old =
    unsaid head notation times max old old Memory (0, Appends-nil old)

pub no-carrier : (head : List ℕ) (notation : LogNotation) (times : LogTimes) (max : ℕ) (old : Known)
    (why : CarrierFault) → Says head notation times max old old (Err (Carrier why))
no-carrier head notation times max old why =
    unsaid head notation times max old old (Carrier why) (Keeps-refl old)

-- nothing has begun, for one reason or the other
pub not-begun : (head : List ℕ) (notation : LogNotation) (times : LogTimes) (max : ℕ) (old : Known)
    (fault : TapFault) → (fault ≡ Memory) ⊎ ((why : CarrierFault) × (fault ≡ Carrier why))
    → Says head notation times max old old (Err fault)
not-begun head notation times max old fault (inl e) =
    subst (λ f. Says head notation times max old old (Err f)) (sym e)
    (no-memory head notation times max old)
not-begun head notation times max old fault (inr (why, e)) =
    subst (λ f. Says head notation times max old old (Err f)) (sym e)
    (no-carrier head notation times max old why)

-- the head wasn't written whole
pub no-head
    : (head : List ℕ) (notation : LogNotation) (times : LogTimes) (max : ℕ) (old new : Known)
    (result : Result (Unit {0}) WriteFailed) → is_err result ≡ true → Writes old new result head
    → Says head notation times max old new (Err Report)
no-head head notation times max old new (Ok u) e w = cc
no-head head notation times max old new (Err f) e w =
    unsaid head notation times max old new Report
    (part-append old new head (tap_text notation max (moment times) []) w)

pub behind : (old mid new : Known) (head text : List ℕ) (result : Result (Unit {0}) TapFault)
    → ((why : CarrierFault) → result ≢ Err (Carrier why)) → Appends old mid head
    → WritesText mid new result text
    → WritesText old new result (head ++ text)
behind old mid new head text (Ok u) met a w = Appends-trans old mid new head text a w
behind old mid new head text (Err Read) met a w = Appends-trans old mid new head text a w
behind old mid new head text (Err Write) met a w = Appends-trans old mid new head text a w
behind old mid new head text (Err (Carrier why)) met a w = absurd (met why refl)
behind old mid new head text (Err Report) met a w = part-behind old mid new head text a w
behind old mid new head text (Err Memory) met a w = part-behind old mid new head text a w

-- the head was written, and below it what was said
pub said-below
    : (head : List ℕ) (notation : LogNotation) (times : LogTimes) (max : ℕ) (old mid new : Known)
    (wrote : Result (Unit {0}) WriteFailed) (result : Result (Unit {0}) TapFault)
    → ((why : CarrierFault) → result ≢ Err (Carrier why)) → is_err wrote ≡ false
    → Writes old mid wrote head
    → Says [] notation times max mid new result → Says head notation times max old new result
said-below head notation times max old mid new (Ok u) result met e w s = record {
  pieces = s.pieces;
  stamp = s.stamp;
  stamped = s.stamped;
  wrote = behind old mid new head (tap_text notation max s.stamp s.pieces) result met w s.wrote;
}
said-below head notation times max old mid new (Err f) result met e w s = cc

-- of a longer text
pub cut : (old new : Known) (fault : TapFault) (text more : List ℕ)
    → (fault ≡ Report) ⊎ (fault ≡ Memory)
    → WritesText old new (Err fault) text → WritesText old new (Err fault) (text ++ more)
cut old new fault text more (inl e) w =
    subst (λ f. WritesText old new (Err f) (text ++ more)) (sym e)
    (part-append old new text more (subst (λ f. WritesText old new (Err f) text) e w))
cut old new fault text more (inr e) w =
    subst (λ f. WritesText old new (Err f) (text ++ more)) (sym e)
    (part-append old new text more (subst (λ f. WritesText old new (Err f) text) e w))

-- all of it is a beginning
pub part-whole : (old new : Known) (text : List ℕ) → Appends old new text
    → AppendsPart old new text
part-whole old new text a = (length text, subst (λ x. Appends old new x) (sym (take-length text)) a)

pub not-carrier : {A : Type 0} (why : CarrierFault)
    → (Carrier why ≡ Report) ⊎ (Carrier why ≡ Memory) → A
not-carrier why (inl e) = cc
not-carrier why (inr e) = cc
