-- When the name of a saved file is looked up.
use Rattle.std.specs.Prelude.{ℕ, ◌+◌, ◌^◌, ◌-◌, Bool, ◌&&◌, if◌then◌else◌, min, nat_le}
use Rattle.ddcmp_device.specs.declared.save.Save.{Save}

-- A file that is appended to may have been moved away. Its name is looked up once a second at most.
abbrev pub is_lookup_due : ℕ → Save → Bool
is_lookup_due now s = s.appends && nat_le s.lookup_at now

abbrev pub after_lookup : ℕ → Save → Save
after_lookup now s =
    if is_lookup_due now s then record s { lookup_at = min (now + 1000) (2 ^ 64 - 1) } else s
