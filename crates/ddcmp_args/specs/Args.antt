-- The command line, as parsed by `clap`.
use Rattle.std.specs.Prelude.{◌∷◌, ℕ, pos, unwrap_or, if◌then◌else◌, ◌≡◌, ◌≢◌, ◌⊎◌, ◌≤◌, Bool, true}
use Rattle.std.specs.Prelude.{false, List, [], codes, decimal, Option, Some, None, Result, Ok, Err}
use Rattle.std.specs.Prelude.{⊤, ◌+◌, ◌*◌, ◌||◌, min}
use Rattle.std.specs.Option.{option_map, option_and_then}
use Rattle.std.specs.List.{starts_with}
use Rattle.std.specs.Str.{bytes_eq}
use lib.Dec.{eqb}
use Rattle.ddcmp_explain.specs.declared.form.Form.{Form}
use Rattle.ddcmp_explain.specs.declared.form.Form.TheVariants.{Hex, Raw}
use Rattle.ddcmp_explain.specs.declared.notation.Notation.{Notation}
use Rattle.ddcmp_explain.specs.declared.notation.Notation.TheVariants.{Plain, Json}
use Rattle.ddcmp_log.specs.declared.notation.LogNotation.{LogNotation}
use Rattle.ddcmp_log.specs.declared.notation.LogNotation.TheVariants as log
use Rattle.ddcmp_explain.specs.declared.style.Style.{Style}
use Rattle.ddcmp_args.specs.declared.command.Command.{Command}
use Rattle.ddcmp_args.specs.declared.command.Command.TheVariants.{Explain, Simulate, Pair, Station}
use Rattle.ddcmp_args.specs.declared.command.Command.TheVariants.{Tap, Link, Bridge}
use Rattle.ddcmp_args.specs.declared.explain_args.ExplainArgs.{ExplainArgs}
use Rattle.ddcmp_args.specs.declared.script_args.ScriptArgs.{ScriptArgs}
use Rattle.ddcmp_args.specs.declared.station_args.Role.{Role}
use Rattle.ddcmp_args.specs.declared.station_args.Role.TheVariants.{Connect, Listen}
use Rattle.ddcmp_args.specs.declared.station_args.StationArgs.{StationArgs}
use Rattle.ddcmp_args.specs.declared.tap_args.TapArgs.{TapArgs}
use Rattle.ddcmp_args.specs.declared.link_args.LinkArgs.{LinkArgs}
use Rattle.ddcmp_args.specs.declared.bridge_args.BridgeArgs.{BridgeArgs}
use Rattle.ddcmp_bridge.specs.declared.faults.Faults.{Faults}
use Rattle.ddcmp_streams.specs.declared.messages.MessageForm.{MessageForm}
use Rattle.ddcmp_streams.specs.declared.messages.MessageForm.TheVariants.{Digits, Binary, Events}
use Rattle.ddcmp_streams.specs.declared.messages.MessageForm.TheVariants.{EventLines}
use Rattle.ddcmp_streams.specs.declared.options.Options.{Options}
use Rattle.ddcmp_args.specs.declared.view.ScriptView.{ScriptView}
use Rattle.ddcmp_args.specs.declared.no_command.NoCommand.{NoCommand}
use Rattle.ddcmp_args.specs.declared.no_command.NoCommand.TheVariants.{Help, Version, Usage}
use Rattle.ddcmp_args.specs.declared.no_command.NoCommand.TheVariants.{Memory}
use Rattle.clap.specs.declared.error.kind.ErrorKind.{ErrorKind}
use Rattle.clap.specs.declared.error.kind.ErrorKind.TheVariants.{DisplayHelp, DisplayVersion}
use Rattle.clap.specs.declared.error.kind.ErrorKind.TheVariants.{OutOfMemory}
use Rattle.ddcmp_core.specs.Limits.{MAX_COUNT, MAX_WINDOW}
use Rattle.ddcmp_proto.specs.declared.config.Config.{Config}
use Rattle.ddcmp_proto.specs.declared.config.TheConstants.{MAX_INBOX, MAX_SYN}
use Rattle.clap.specs.Words.{IsAmong, fault_of, App, Rule, Text, first_of, new_app, new_rule}
use Rattle.clap.specs.Words.{one_of, subcommand_of, takes, with_rule, with_subcommand}
use Rattle.clap.specs.declared.builder.ArgAction.TheVariants.{SetTrue}
use Rattle.clap.specs.declared.builder.value_parser.ValueParser.TheVariants.{Signed}

-- a flag: an option without a value
abbrev pub flag_rule : Text → Rule
flag_rule name = record (new_rule name) { long = Some name; action = Some SetTrue }

-- an option whose value is a number in a range
abbrev pub number_rule : Text → ℕ → ℕ → Rule
number_rule name low high = record (new_rule name) {
  long = Some name;
  value_names = 1;
  parser = Some (Signed (pos low) (pos high));
}

-- an option whose value is a text
abbrev pub text_rule : Text → Rule
text_rule name = record (new_rule name) { long = Some name; value_names = 1 }

-- a positional argument
abbrev pub place_rule : Text → Rule
place_rule name = record (new_rule name) { value_names = 1 }

-- an option that is required
abbrev pub required : Rule → Rule
required rule = record rule { required = true }

-- `ddcmp explain`
abbrev pub explain_app : App
explain_app =
    with_rule (with_rule (with_rule (with_rule (with_rule (with_rule (with_rule (with_rule
    (new_app (codes "explain"))
    (place_rule (codes "file")))
    (place_rule (codes "second")))
    (flag_rule (codes "raw")))
    (text_rule (codes "from")))
    (flag_rule (codes "json")))
    (flag_rule (codes "discarded")))
    (flag_rule (codes "ladder")))
    (number_rule (codes "max") 1 MAX_COUNT)

-- the options of both stations: sizes, and whether they restart by themselves
abbrev pub with_sizes : App → App
with_sizes app =
    with_rule (with_rule (with_rule (with_rule (with_rule app
    (number_rule (codes "window") 1 MAX_WINDOW))
    (number_rule (codes "inbox") 1 MAX_INBOX))
    (number_rule (codes "max") 1 MAX_COUNT))
    (number_rule (codes "syn") 0 MAX_SYN))
    (flag_rule (codes "restart"))

-- the options for the output of a run
abbrev pub with_view : App → App
with_view app =
    with_rule (with_rule (with_rule app
    (flag_rule (codes "svg")))
    (flag_rule (codes "ladder")))
    (flag_rule (codes "counters"))

-- the file of a script, whether it begins with both stations started, and when they acknowledge
abbrev pub with_script : App → App
with_script app =
    with_rule (with_rule (with_rule app
    (place_rule (codes "file")))
    (flag_rule (codes "begun")))
    (flag_rule (codes "acknowledge-on-take"))

-- `ddcmp simulate` and `ddcmp pair`
abbrev pub script_app : Text → App
script_app name = with_view (with_sizes (with_script (new_app name)))

abbrev pub MOST : ℕ
MOST = 4294967295

-- `ddcmp station`
abbrev pub station_app : App
station_app =
    with_rule (with_rule (with_rule (with_rule (with_rule (with_rule (with_rule
    (new_app (codes "station"))
    (required (text_rule (codes "role"))))
    (required (text_rule (codes "addr"))))
    (required (number_rule (codes "turns") 0 MOST)))
    (required (number_rule (codes "timer-ms") 0 MOST)))
    (text_rule (codes "send")))
    (flag_rule (codes "restart")))
    (flag_rule (codes "counters"))

-- `ddcmp tap`
abbrev pub tap_app : App
tap_app =
    with_rule (with_rule (with_rule (with_rule (with_rule (with_rule (with_rule (with_rule
    (with_rule
    (new_app (codes "tap"))
    (required (text_rule (codes "listen"))))
    (required (text_rule (codes "connect"))))
    (flag_rule (codes "again")))
    (flag_rule (codes "json")))
    (flag_rule (codes "ladder")))
    (flag_rule (codes "time")))
    (flag_rule (codes "clock")))
    (number_rule (codes "report") 0 MOST))
    (number_rule (codes "max") 1 MAX_COUNT)

-- `ddcmp link`: its line, who may call, the sizes of its station, and how it runs
abbrev pub line_app : App
line_app =
    with_rule (with_rule (new_app (codes "link")) (required (text_rule (codes "line"))))
    (text_rule (codes "only"))

abbrev pub link_app : App
link_app =
    with_rule (with_rule (with_rule (with_rule (with_rule (with_rule (with_rule (with_rule (with_rule
    (with_rule (with_rule (with_rule (with_rule (with_rule (with_rule (with_rule (with_rule
    (with_sizes line_app)
    (number_rule (codes "timer-ms") 1 MOST))
    (number_rule (codes "attempts") 0 MOST))
    (number_rule (codes "linger-ms") 0 MOST))
    (number_rule (codes "baud") 0 MOST))
    (number_rule (codes "seconds") 1 MOST))
    (number_rule (codes "report") 0 MOST))
    (flag_rule (codes "binary")))
    (flag_rule (codes "events")))
    (flag_rule (codes "acknowledge-early")))
    (flag_rule (codes "maintenance")))
    (flag_rule (codes "stay")))
    (flag_rule (codes "again")))
    (flag_rule (codes "counters")))
    (flag_rule (codes "trace")))
    (flag_rule (codes "ladder")))
    (flag_rule (codes "clock")))
    (flag_rule (codes "json"))

-- `ddcmp bridge`
abbrev pub bridge_app : App
bridge_app =
    with_rule (with_rule (with_rule (with_rule (with_rule (with_rule (with_rule (with_rule
    (with_rule (with_rule (with_rule (with_rule (with_rule (with_rule (with_rule (with_rule
    (with_rule
    (new_app (codes "bridge"))
    (required (place_rule (codes "first"))))
    (required (place_rule (codes "second"))))
    (number_rule (codes "seconds") 1 MOST))
    (flag_rule (codes "again")))
    (number_rule (codes "lose") 0 100))
    (number_rule (codes "damage") 0 100))
    (number_rule (codes "delay") 0 MOST))
    (number_rule (codes "baud") 0 MOST))
    (number_rule (codes "seed") 0 MOST))
    (flag_rule (codes "trace")))
    (flag_rule (codes "ladder")))
    (flag_rule (codes "json")))
    (number_rule (codes "report") 0 MOST))
    (flag_rule (codes "clock")))
    (text_rule (codes "save-first")))
    (text_rule (codes "save-second")))
    (flag_rule (codes "append"))

-- `ddcmp`, which requires a command
abbrev pub bare_app : App
bare_app =
    let a = new_app (codes "ddcmp") in
    record { top = record a.top { has_version = true; subcommand_required = true }; subs = a.subs }

abbrev pub program : App
program =
    with_subcommand (with_subcommand (with_subcommand (with_subcommand (with_subcommand
    (with_subcommand (with_subcommand bare_app explain_app.top) (script_app (codes "simulate")).top)
    (script_app (codes "pair")).top)
    station_app.top) tap_app.top) link_app.top) bridge_app.top

-- the name of a command
abbrev pub name_of : Command → Text
name_of (Explain explained) = codes "explain"
name_of (Simulate scripted) = codes "simulate"
name_of (Pair scripted) = codes "pair"
name_of (Station served) = codes "station"
name_of (Tap tapped) = codes "tap"
name_of (Link linked) = codes "link"
name_of (Bridge bridged) = codes "bridge"

abbrev pub IsName : Text → Type 0
IsName name =
    (name ≡ codes "explain") ⊎ (name ≡ codes "simulate") ⊎ (name ≡ codes "pair")
    ⊎ (name ≡ codes "station") ⊎ (name ≡ codes "tap") ⊎ (name ≡ codes "link")
    ⊎ (name ≡ codes "bridge")

-- the command that the arguments name
unfoldable pub named_by : List Text → Option Text
named_by words = option_map (λ named. named.0) (subcommand_of program words)

-- The arguments are valid, and name this command.
pub record IsAsked (words : List Text) (name : Text) : Type 0 where
  pub in_order : takes program words ≡ true
  pub names : named_by words ≡ Some name

-- the text of an option, as given to the command or by default
unfoldable pub option_in : List Text → Text → Option Text
option_in words id = option_and_then (λ named. one_of id named.1) (subcommand_of program words)

-- the text of an option whose value is used as it was written
unfoldable pub text_in : List Text → Text → Option Text
text_in words id = option_and_then (λ named. first_of id named.1) (subcommand_of program words)

-- A flag of a command is off unless its word follows the name of the command.
abbrev pub IsSwitch : Text → Text → Text → Type 0
IsSwitch command word id =
    (option_in (codes "ddcmp" ∷ command ∷ []) id ≡ Some (codes "false"))
    × (option_in (codes "ddcmp" ∷ command ∷ word ∷ []) id ≡ Some (codes "true"))

-- raw bytes if `--raw` is given, else digits
pub record HasForm (raw : Option Text) (form : Form) : Type 0 where
  pub given : raw ≡ Some (codes "true") → form ≡ Raw
  pub left_out : raw ≡ Some (codes "false") → form ≡ Hex
  pub absent : raw ≡ None → form ≡ Hex

-- JSON if `--json` is given, else plain text
pub record HasNotation (json : Option Text) (notation : Notation) : Type 0 where
  pub given : json ≡ Some (codes "true") → notation ≡ Json
  pub left_out : json ≡ Some (codes "false") → notation ≡ Plain
  pub absent : json ≡ None → notation ≡ Plain

-- whether a flag is given
pub record HasFlag (text : Option Text) (is_given : Bool) : Type 0 where
  pub given : text ≡ Some (codes "true") → is_given ≡ true
  pub left_out : text ≡ Some (codes "false") → is_given ≡ false
  pub absent : text ≡ None → is_given ≡ false

-- the notation, and whether bytes that belong to no item have lines
pub record HasStyle (option : Text → Option Text) (style : Style) : Type 0 where
  pub notation : HasNotation (option (codes "json")) style.notation
  pub discarded : HasFlag (option (codes "discarded")) style.discarded

-- the name of the file to read; none for standard input, which is also named by `-`
abbrev pub file_of : Option Text → Option Text
file_of None = None
file_of (Some word) = if bytes_eq word (codes "-") then None else Some word

-- a number in its range: the given one, or else the default
pub record HasNumber (low high otherwise : ℕ) (text : Option Text) (n : ℕ) : Type 0 where
  pub in_range : (low ≤ n) × (n ≤ high)
  pub given : (m : ℕ) → text ≡ Some (decimal m) → (low ≤ m) × (m ≤ high) → n ≡ m
  pub absent : text ≡ None → n ≡ otherwise

-- The options of both stations. `default_syn` is the default for SYN bytes before each frame.
pub record HasSizes (default_syn : ℕ) (option : Text → Option Text) (config : Config) : Type 0 where
  pub window : HasNumber 1 MAX_WINDOW 7 (option (codes "window")) config.window
  pub inbox : HasNumber 1 MAX_INBOX 8 (option (codes "inbox")) config.inbox
  pub max : HasNumber 1 MAX_COUNT 1500 (option (codes "max")) config.max
  pub syn : HasNumber 0 MAX_SYN default_syn (option (codes "syn")) config.syn
  pub restart : HasFlag (option (codes "restart")) config.restart

-- The options of `explain`. The value of `--from` is used as it was written.
pub record HasExplain (option text : Text → Option Text) (explained : ExplainArgs) : Type 0 where
  pub form : HasForm (option (codes "raw")) explained.form
  pub from : option_map (λ word. word.now) explained.from ≡ text (codes "from")
  pub style : HasStyle option explained.style
  pub max : HasNumber 1 MAX_COUNT MAX_COUNT (option (codes "max")) explained.max
  pub file : option_map (λ name. name.now) explained.file ≡ file_of (text (codes "file"))
  pub second : option_map (λ name. name.now) explained.second ≡ file_of (text (codes "second"))
  pub ladder : HasFlag (option (codes "ladder")) explained.ladder

-- the options for the output of a run
pub record HasView (option : Text → Option Text) (view : ScriptView) : Type 0 where
  pub svg : HasFlag (option (codes "svg")) view.svg
  pub ladder : HasFlag (option (codes "ladder")) view.ladder
  pub counters : HasFlag (option (codes "counters")) view.counters

-- The options of a script.
pub record HasScript (option text : Text → Option Text) (scripted : ScriptArgs) : Type 0 where
  pub config : HasSizes 0 option scripted.from.config
  pub begun : HasFlag (option (codes "begun")) scripted.from.begun
  pub by_user : HasFlag (option (codes "acknowledge-on-take")) scripted.from.by_user
  pub view : HasView option scripted.view
  pub file : option_map (λ name. name.now) scripted.file ≡ file_of (text (codes "file"))

-- whether the station connects or listens, by its name
abbrev pub role_of : Text → Option Role
role_of word =
    if bytes_eq word (codes "connect") then Some Connect
    else if bytes_eq word (codes "listen") then Some Listen
    else None

-- The options of `station`. The required ones are always there.
pub record HasStation (option text : Text → Option Text) (served : StationArgs) : Type 0 where
  pub role : served.role ≡ role_of (unwrap_or (text (codes "role")) [])
  pub addr : served.addr.now ≡ unwrap_or (text (codes "addr")) []
  pub turns : HasNumber 0 MOST 0 (option (codes "turns")) served.turns
  pub timer_ms : HasNumber 0 MOST 0 (option (codes "timer-ms")) served.timer_ms
  pub send : served.send.now ≡ unwrap_or (text (codes "send")) []
  pub restart : HasFlag (option (codes "restart")) served.restart
  pub counters : HasFlag (option (codes "counters")) served.counters

-- The options of a tap. The two addresses are always there.
pub record HasTap (option text : Text → Option Text) (tapped : TapArgs) : Type 0 where
  pub listen : tapped.listen.now ≡ unwrap_or (text (codes "listen")) []
  pub connect : tapped.connect.now ≡ unwrap_or (text (codes "connect")) []
  pub again : HasFlag (option (codes "again")) tapped.again
  pub notation : HasNotation (option (codes "json")) tapped.notation
  pub ladder : HasFlag (option (codes "ladder")) tapped.ladder
  pub time : HasFlag (option (codes "time")) tapped.time
  pub clock : HasFlag (option (codes "clock")) tapped.clock
  pub report : HasNumber 0 MOST 0 (option (codes "report")) tapped.report
  pub max : HasNumber 1 MAX_COUNT MAX_COUNT (option (codes "max")) tapped.max

-- the default for SYN bytes before each frame, by the name of the line
abbrev pub default_syn_of : Text → ℕ
default_syn_of line = if starts_with eqb line (codes "device:") then 4 else 0

-- the default for the reply timer, by the name of the line
abbrev pub default_timer_of : Text → ℕ
default_timer_of line = if starts_with eqb line (codes "udp:") then 500 else 3000

-- How many times a peer that lost the last acknowledgement has time to ask for it. A connection
-- reports that the peer has gone.
abbrev pub timers_lingered : Text → ℕ
timers_lingered line =
    if starts_with eqb line (codes "udp:") then 10
    else if starts_with eqb line (codes "device:") then 2
    else 0

-- the default for the time in which a link that is done waits for its peer
abbrev pub default_linger_of : Text → ℕ → ℕ
default_linger_of line timer_ms = min (timer_ms * timers_lingered line + 500) MOST

-- messages in binary, with events among them if `--events` is given
pub record HasBinary (events : Option Text) (form : MessageForm) : Type 0 where
  pub given : events ≡ Some (codes "true") → form ≡ Events
  pub left_out : events ≡ Some (codes "false") → form ≡ Binary
  pub absent : events ≡ None → form ≡ Binary

-- messages as digits, with commands among them if `--events` is given
pub record HasLines (events : Option Text) (form : MessageForm) : Type 0 where
  pub given : events ≡ Some (codes "true") → form ≡ EventLines
  pub left_out : events ≡ Some (codes "false") → form ≡ Digits
  pub absent : events ≡ None → form ≡ Digits

-- messages in binary, each after its length, if `--binary` is given, else as digits
pub record HasMessages (binary events : Option Text) (form : MessageForm) : Type 0 where
  pub given : binary ≡ Some (codes "true") → HasBinary events form
  pub left_out : binary ≡ Some (codes "false") → HasLines events form
  pub absent : binary ≡ None → HasLines events form

-- how frames are logged: as a ladder, or as lines if a trace is asked for, which may be JSON
abbrev pub trace_by : (ladder trace json : Bool) → Option LogNotation
trace_by true trace json = Some log.Ladder
trace_by false true true = Some log.Json
trace_by false true false = Some log.Plain
trace_by false false json = None

pub record HasTrace (option : Text → Option Text) (notation : Option LogNotation) : Type 0 where
  pub ladder : Bool
  pub is_drawn : HasFlag (option (codes "ladder")) ladder
  pub trace : Bool
  pub is_traced : HasFlag (option (codes "trace")) trace
  pub json : Bool
  pub is_json : HasFlag (option (codes "json")) json
  pub is : notation ≡ trace_by ladder trace json

-- the options of a link over a line of this name
pub record HasLinkOptions (line : Text) (option : Text → Option Text) (options : Options)
    : Type 0 where
  pub sizes : HasSizes (default_syn_of line) option options.config
  pub timer_ms : HasNumber 1 MOST (default_timer_of line) (option (codes "timer-ms"))
      options.timer_ms
  pub attempts : HasNumber 0 MOST MOST (option (codes "attempts")) options.attempts
  pub linger_ms : HasNumber 0 MOST (default_linger_of line options.timer_ms)
      (option (codes "linger-ms")) options.linger_ms
  pub seconds : HasNumber 1 MOST MOST (option (codes "seconds")) options.seconds
  pub baud : HasNumber 0 MOST 0 (option (codes "baud")) options.baud
  pub report : HasNumber 0 MOST 0 (option (codes "report")) options.report
  pub form : HasMessages (option (codes "binary")) (option (codes "events")) options.form
  pub maintenance : HasFlag (option (codes "maintenance")) options.maintenance
  pub acknowledge_early : HasFlag (option (codes "acknowledge-early")) options.acknowledge_early
  pub stay : HasFlag (option (codes "stay")) options.stay
  pub awaits_end : options.awaits_end ≡ true
  pub again : HasFlag (option (codes "again")) options.again
  pub counters : HasFlag (option (codes "counters")) options.counters
  pub trace : HasTrace option options.trace
  pub clock : HasFlag (option (codes "clock")) options.clock
  pub json : HasFlag (option (codes "json")) options.json

-- The options of a link. Its line is always there.
pub record HasLink (option text : Text → Option Text) (linked : LinkArgs) : Type 0 where
  pub line : linked.line.now ≡ unwrap_or (text (codes "line")) []
  pub only : option_map (λ host. host.now) linked.only ≡ text (codes "only")
  pub options : HasLinkOptions linked.line.now option linked.options

-- the faults that a bridge is to make
pub record HasFaults (option : Text → Option Text) (faults : Faults) : Type 0 where
  pub lose : HasNumber 0 100 0 (option (codes "lose")) faults.lose
  pub damage : HasNumber 0 100 0 (option (codes "damage")) faults.damage
  pub seed : HasNumber 0 MOST 1 (option (codes "seed")) faults.seed

-- The arguments of a bridge. Its lines are always there.
pub record HasBridge (option text : Text → Option Text) (bridged : BridgeArgs) : Type 0 where
  pub first : bridged.first.now ≡ unwrap_or (text (codes "first")) []
  pub second : bridged.second.now ≡ unwrap_or (text (codes "second")) []
  pub seconds : HasNumber 1 MOST MOST (option (codes "seconds")) bridged.seconds
  pub again : HasFlag (option (codes "again")) bridged.again
  pub faults : HasFaults option bridged.faults
  pub delay : HasNumber 0 MOST 0 (option (codes "delay")) bridged.delay
  pub baud : HasNumber 0 MOST 0 (option (codes "baud")) bridged.baud
  pub trace : HasFlag (option (codes "trace")) bridged.trace
  pub ladder : HasFlag (option (codes "ladder")) bridged.ladder
  pub notation : HasNotation (option (codes "json")) bridged.notation
  pub report : HasNumber 0 MOST 0 (option (codes "report")) bridged.report
  pub clock : HasFlag (option (codes "clock")) bridged.clock
  pub save_first :
      option_map (λ name. name.now) bridged.save_first ≡ text (codes "save-first")
  pub save_second :
      option_map (λ name. name.now) bridged.save_second ≡ text (codes "save-second")
  pub append : HasFlag (option (codes "append")) bridged.append

-- a command with its options: `option` has their values as parsed, `text` as written
abbrev pub HasOptions : (option text : Text → Option Text) → Command → Type 0
HasOptions option text (Explain explained) = HasExplain option text explained
HasOptions option text (Simulate scripted) = HasScript option text scripted
HasOptions option text (Pair scripted) = HasScript option text scripted
HasOptions option text (Station served) = HasStation option text served
HasOptions option text (Tap tapped) = HasTap option text tapped
HasOptions option text (Link linked) = HasLink option text linked
HasOptions option text (Bridge bridged) = HasBridge option text bridged

-- The arguments ask for this command, and are valid for clap.
abbrev pub Asks : List Text → Text → Type 0
Asks words name = (fault_of program words ≡ []) × (named_by words ≡ Some name)

-- The arguments are invalid, and don't ask for help or the version.
pub record IsOutOfOrder (words : List Text) : Type 0 where
  pub some : fault_of program words ≢ []
  pub no_help : ¬ IsAmong DisplayHelp (fault_of program words)
  pub no_version : ¬ IsAmong DisplayVersion (fault_of program words)

-- why no command is run after an error of clap of this kind; an allocation may fail for any kind
abbrev pub Declines : ErrorKind → NoCommand → Type 0
Declines kind (Help text) = kind ≡ DisplayHelp
Declines kind (Version text) = kind ≡ DisplayVersion
Declines kind (Usage text) = (kind ≢ DisplayHelp) × (kind ≢ DisplayVersion) × (kind ≢ OutOfMemory)
Declines kind Memory = ⊤

-- a usage error, as reported by clap
abbrev pub IsMistaken : List Text → Type 0
IsMistaken words =
    (kind : ErrorKind) × IsAmong kind (fault_of program words)
    × (kind ≢ DisplayHelp) × (kind ≢ DisplayVersion)

-- What arguments ask for: if clap finds no error, the command that they name, with its options;
-- else help, the version or a usage error, by the kind of clap's error. If an allocation fails, no
-- command is run, whatever the arguments.
abbrev pub Reads : List Text → Result Command NoCommand → Type 0
Reads words (Ok command) =
    (fault_of program words ≡ []) × (named_by words ≡ Some (name_of command))
    × HasOptions (option_in words) (text_in words) command
Reads words (Err (Help text)) = IsAmong DisplayHelp (fault_of program words)
Reads words (Err (Version text)) = IsAmong DisplayVersion (fault_of program words)
Reads words (Err (Usage text)) =
    ((fault_of program words ≡ []) × ((name : Text) → IsName name → named_by words ≢ Some name))
    ⊎ IsMistaken words
Reads words (Err Memory) = ⊤
