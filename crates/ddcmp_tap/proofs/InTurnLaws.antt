-- What a tap wrote of callers in turn.
use Rattle.std.proofs.Common.{◌≡◌, ◌↔◌, ℕ, List, [], ◌∷◌, ◌++◌, Bool, true, false, refl, IsTrue}
use Rattle.std.proofs.Common.{Result, Ok, Err, is_some, subst}
use Rattle.std.specs.Prelude.{All}
use Rattle.std.specs.Io.KnownBytes.{Appends}
use Rattle.std.proofs.KnownBytes.{Appends-kept, Appends-nil, Appends-trans}
use Rattle.std.proofs.lemmas.List.Elements.{All-cons, All-nil}
use Rattle.ddcmp_io.specs.Written.{Known}
use Rattle.ddcmp_log.specs.declared.notation.LogNotation.{LogNotation}
use Rattle.ddcmp_tap.specs.Stamping.{IsStamp}
use Rattle.ddcmp_tap.specs.declared.tap_log.LogTimes.{LogTimes}
use Rattle.ddcmp_tap.specs.declared.tap_fault.CarrierFault.{CarrierFault}
use Rattle.ddcmp_tap.specs.declared.tap_fault.TapFault.{TapFault}
use Rattle.ddcmp_tap.specs.declared.tap_fault.TapFault.TheVariants.{Carrier, Read, Write, Report}
use Rattle.ddcmp_tap.specs.declared.tap_fault.TapFault.TheVariants.{Memory}
use Rattle.ddcmp_tap.specs.Logging.{AreStamped, Says, head_of, tap_text}
use Rattle.ddcmp_tap.specs.InTurn.{Carried, PassesOver, SaysInTurn, carried_text}
use Rattle.ddcmp_tap.proofs.HeadLaws.{no-carrier}

-- the moments of a connection are logged if they are asked for
abbrev pub IsStamped : LogTimes → Carried → Type 0
IsStamped times c = AreStamped times c.pieces × IsStamp times c.stamp

-- all that was written so far is whole logs
pub record Whole (notation : LogNotation) (times : LogTimes) (max : ℕ) (old new : Known) : Type 0 where
  pub carried : List Carried
  pub stamped : All (IsStamped times) carried
  pub wrote : Appends old new (carried_text notation max carried)

pub begins : (notation : LogNotation) (times : LogTimes) (max : ℕ) (old : Known)
    → Whole notation times max old old
unfolding carried_text
begins notation times max old = record {
  carried = [];
  stamped = All-nil (IsStamped times);
  wrote = Appends-nil old;
}

-- one log more
one_more : (notation : LogNotation) (times : LogTimes) (max : ℕ) (old mid new : Known) (c : Carried)
    → Whole notation times max old mid → IsStamped times c
    → Appends mid new (head_of notation ++ tap_text notation max c.stamp c.pieces)
    → Whole notation times max old new
unfolding carried_text
one_more notation times max old mid new c w s a = record {
  carried = c ∷ w.carried;
  stamped = All-cons (IsStamped times) c w.carried s w.stamped;
  wrote = Appends-trans old mid new (carried_text notation max w.carried)
      (head_of notation ++ tap_text notation max c.stamp c.pieces) w.wrote a;
}

-- of one that another caller follows all was written, or nothing
pub goes_on : (notation : LogNotation) (times : LogTimes) (max : ℕ) (old mid new : Known)
    (result : Result (Unit {0}) TapFault) → PassesOver result → Whole notation times max old mid
    → Says (head_of notation) notation times max mid new result → Whole notation times max old new
goes_on notation times max old mid new (Ok u) p w s =
    one_more notation times max old mid new (record { pieces = s.pieces; stamp = s.stamp }) w
    s.stamped s.wrote
goes_on notation times max old mid new (Err Read) p w s =
    one_more notation times max old mid new (record { pieces = s.pieces; stamp = s.stamp }) w
    s.stamped s.wrote
goes_on notation times max old mid new (Err Write) p w s =
    one_more notation times max old mid new (record { pieces = s.pieces; stamp = s.stamp }) w
    s.stamped s.wrote
goes_on notation times max old mid new (Err (Carrier why)) p w s = record {
  carried = w.carried;
  stamped = w.stamped;
  wrote = Appends-kept old mid new (carried_text notation max w.carried) w.wrote s.wrote;
}
goes_on notation times max old mid new (Err Report) p w s = absurd p
goes_on notation times max old mid new (Err Memory) p w s = absurd p

-- the last
pub ends : (notation : LogNotation) (times : LogTimes) (max : ℕ) (old mid new : Known)
    (fault : TapFault)
    → Whole notation times max old mid
    → Says (head_of notation) notation times max mid new (Err fault)
    → SaysInTurn notation times max old new fault
ends notation times max old mid new fault w s = record {
  carried = w.carried;
  stamped = w.stamped;
  middle = mid;
  wrote = w.wrote;
  last = s;
}

-- no connection could be made
pub carrier_fault : (notation : LogNotation) (times : LogTimes) (max : ℕ) (old mid : Known)
    (why : CarrierFault) → Whole notation times max old mid
    → SaysInTurn notation times max old mid (Carrier why)
carrier_fault notation times max old mid why w =
    ends notation times max old mid mid (Carrier why) w
    (no-carrier (head_of notation) notation times max mid why)

-- the output hasn't failed if another caller follows
pub unbroken : (result : Result (Unit {0}) TapFault) (broken : Bool) → PassesOver result
    → (result ≡ Err Report) ↔ IsTrue broken → broken ≡ false
unbroken result false p b = refl
unbroken result true p b =
    let failed = b.1 refl in
    absurd (subst PassesOver failed p)
