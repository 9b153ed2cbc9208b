-- What a carrier was passed, and what it returned.
use Rattle.std.specs.Prelude.{◌≡◌, ℕ, Bool, true, List, [], ◌∷◌, Option}
use Rattle.ddcmp_io.specs.Device.{Logs}
use Rattle.ddcmp_io.specs.declared.carrier.End.{End}

-- The bytes passed to a carrier at an end, and those that it returned at the other.
pub record Carriage : Type 0 where
  pub from : End
  pub bytes : List ℕ
  pub came : List ℕ

-- One more carriage: a carrier that logs them logs it, too, and a direct one returned the bytes
-- that it was passed.
pub record HasCarried (is_direct : Bool) (old new : Option (List Carriage)) (c : Carriage)
    : Type 0 where
  pub told : Logs old new (c ∷ [])
  pub direct : is_direct ≡ true → c.came ≡ c.bytes
