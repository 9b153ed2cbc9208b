-- The sizes that a station may have, and its initial state.
use Rattle.std.specs.Prelude.{ℕ, Bool, ◌&&◌, if◌then◌else◌, nat_le, Option, Some, None}
use Rattle.ddcmp_core.specs.Limits.{MAX_COUNT, MAX_WINDOW}
use Rattle.ddcmp_core.specs.Table.{Limits, new_station}
use Rattle.ddcmp_core.specs.Counting.{no_counts}
use Rattle.ddcmp_core.specs.Core.{CoreView}
use Rattle.ddcmp_proto.specs.declared.config.TheConstants.{MAX_SYN, MAX_INBOX}
use Rattle.ddcmp_proto.specs.declared.config.Config.{Config}
use Rattle.ddcmp_proto.specs.declared.config.ConfigRefusal.{ConfigRefusal}
use Rattle.ddcmp_proto.specs.declared.config.ConfigRefusal.TheVariants.{Window, Inbox, Max, Syn}

-- from 1 to the most
abbrev pub is_size : ℕ → ℕ → Bool
is_size most n = nat_le 1 n && nat_le n most

-- the first size that is out of range
abbrev pub first_refusal : Config → Option ConfigRefusal
first_refusal config =
    if is_size MAX_WINDOW config.window
    then (if is_size MAX_INBOX config.inbox
    then (if is_size MAX_COUNT config.max
    then (if nat_le config.syn MAX_SYN then None else Some Syn)
    else Some Max)
    else Some Inbox)
    else Some Window

-- the limits of a station of these sizes
abbrev pub limits_of : Config → Limits
limits_of config = record {
  window = config.window;
  room = config.inbox;
  longest = config.max;
  restart = config.restart;
}

-- the sizes of a station with these limits and this much SYN fill before a frame
abbrev pub config_of : Limits → ℕ → Config
config_of limits syn = record {
  window = limits.window;
  inbox = limits.room;
  max = limits.longest;
  syn = syn;
  restart = limits.restart;
}

-- the core of a new station
abbrev pub core_made : Config → CoreView
core_made config = record {
  limits = limits_of config;
  station = new_station;
  counters = no_counts;
}
