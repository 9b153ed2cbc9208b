-- What the words ask for, once the command that they name was run.
use Rattle.ddcmp_cli.specs.Endings.{BridgesOrNoMemory, Performs, ExplainsOrNoMemory, file_named}
use Rattle.ddcmp_cli.specs.Endings.{LinksOrNoMemory}
use Rattle.ddcmp_cli.specs.Endings.{ReadsFiles, StationsOrNoMemory, TapsOrNoMemory}
use Rattle.ddcmp_commands.specs.Endings.{Streams}
use Rattle.ddcmp_commands.specs.Stations.{Stations}
use Rattle.ddcmp_commands.specs.TapEndings.{TapsAsked}
use Rattle.ddcmp_cli.specs.BridgeEndings.{Bridges}
use Rattle.ddcmp_cli.specs.Lines.{LinesKnown}
use Rattle.ddcmp_cli.specs.LinkEndings.{Links}
use Rattle.ddcmp_commands.specs.declared.ending.Ending.{Ending}
use Rattle.ddcmp_commands.specs.declared.ending.Ending.TheVariants.{Done, Fault as Faulted}
use Rattle.ddcmp_commands.specs.declared.fault.Fault.TheVariants.{Write}
use Rattle.std.specs.Str.{bytes_eq}
use Rattle.std.proofs.lemmas.Slice.Eq.{bytes_eq-Decides}
use Rattle.std.specs.Prelude.{IsOk, IsTrue}
use Rattle.ddcmp_args.specs.declared.no_command.NoCommand.{NoCommand}
use Rattle.ddcmp_args.specs.declared.no_command.NoCommand.TheVariants.{Memory}
use Rattle.std.proofs.Common.{Bool, ap, false, inl, inr, ◌⊎◌, Result, Ok, Err, ℕ, codes, ◌≡◌, ◌∙◌}
use Rattle.std.proofs.Common.{sym, refl, true, ◌≢◌, List, Option, Some, None}
use Rattle.clap.specs.Words.{Text}
use Rattle.ddcmp_args.specs.Args.{named_by, name_of, file_of, option_in, text_in, HasOptions}
use Rattle.ddcmp_args.specs.Args.{IsAsked}
use Rattle.ddcmp_args.specs.declared.command.Command.{Command}
use Rattle.ddcmp_args.specs.declared.command.Command.TheVariants.{Explain, Simulate, Pair, Station}
use Rattle.ddcmp_args.specs.declared.command.Command.TheVariants.{Tap, Link, Bridge}
use Rattle.ddcmp_args.specs.declared.station_args.StationArgs.{StationArgs}
use Rattle.ddcmp_commands.specs.Connections.{Peers}
use Rattle.ddcmp_args.specs.declared.tap_args.TapArgs.{TapArgs}
use Rattle.ddcmp_args.specs.declared.link_args.LinkArgs.{LinkArgs}
use Rattle.ddcmp_args.specs.declared.bridge_args.BridgeArgs.{BridgeArgs}

-- Names that differ as texts aren't one name. A new command costs one line of each law below.
other : (a b : Text) → bytes_eq a b ≡ false → ◌≡◌ {A = Option Text} (Some a) (Some b) → ⊥
other a b differ e =
    let same : a ≡ b = cc in
    let bad : ◌≡◌ {A = Bool} false true = sym differ ∙ (bytes_eq-Decides a b).1 same in cc

-- A command of another name isn't the one that was asked for.
no : {A : Type 0} {words : List Text} (name : Text) (command : Command) → IsAsked words name
    → named_by words ≡ Some (name_of command) → bytes_eq name (name_of command) ≡ false → A
no name command a n differ = absurd (other name (name_of command) differ (sym a.names ∙ n))

pub performed : (held : Text → Option (List ℕ)) (peers : Peers) (lines : LinesKnown)
    (words : List Text)
    (command : Command) (s : Streams) (ending : Ending) → IsAsked words (codes "explain")
    → named_by words ≡ Some (name_of command) → HasOptions (option_in words) (text_in words) command
    → Performs held peers lines command s ending → ExplainsOrNoMemory held words s ending
performed held peers lines words (Explain e) s ending a n h p = inr (e, h, p)
performed _ _ _ _ (Simulate x) _ _ a n _ _ = no (codes "explain") (Simulate x) a n refl
performed _ _ _ _ (Pair x) _ _ a n _ _ = no (codes "explain") (Pair x) a n refl
performed _ _ _ _ (Station x) _ _ a n _ _ = no (codes "explain") (Station x) a n refl
performed _ _ _ _ (Tap x) _ _ a n _ _ = no (codes "explain") (Tap x) a n refl
performed _ _ _ _ (Link x) _ _ a n _ _ = no (codes "explain") (Link x) a n refl
performed _ _ _ _ (Bridge x) _ _ a n _ _ = no (codes "explain") (Bridge x) a n refl

-- words that ask for a station are answered by it
pub stationed : {R : Type 0} (peers : Peers) (words : List Text) (command : Command)
    (reader reader_after : R) (old new : Option (List ℕ)) (ending : Ending)
    → IsAsked words (codes "station") → named_by words ≡ Some (name_of command)
    → HasOptions (option_in words) (text_in words) command
    → ((served : StationArgs) → command ≡ Station served
    → (reader_after ≡ reader) × Stations peers served old new ending)
    → (reader_after ≡ reader) × StationsOrNoMemory peers words old new ending
stationed _ _ (Explain x) _ _ _ _ _ a n _ _ = no (codes "station") (Explain x) a n refl
stationed _ _ (Simulate x) _ _ _ _ _ a n _ _ = no (codes "station") (Simulate x) a n refl
stationed _ _ (Pair x) _ _ _ _ _ a n _ _ = no (codes "station") (Pair x) a n refl
stationed peers words (Station served) reader after old new ending a n h p =
    let s = p served refl in
    (s.0, inr (served, h, s.1))
stationed _ _ (Tap x) _ _ _ _ _ a n _ _ = no (codes "station") (Tap x) a n refl
stationed _ _ (Link x) _ _ _ _ _ a n _ _ = no (codes "station") (Link x) a n refl
stationed _ _ (Bridge x) _ _ _ _ _ a n _ _ = no (codes "station") (Bridge x) a n refl

-- words that ask for a tap are answered by it
pub tapped : {R : Type 0} (Further : Type 0) (words : List Text) (command : Command)
    (reader reader_after : R) (old new : Option (List ℕ)) (ending : Ending)
    → IsAsked words (codes "tap") → named_by words ≡ Some (name_of command)
    → HasOptions (option_in words) (text_in words) command
    → ((tapped : TapArgs) → command ≡ Tap tapped
    → (reader_after ≡ reader) × TapsAsked tapped old new ending × Further)
    → (reader_after ≡ reader) × TapsOrNoMemory words old new ending × Further
tapped _ _ (Explain x) _ _ _ _ _ a n _ _ = no (codes "tap") (Explain x) a n refl
tapped _ _ (Simulate x) _ _ _ _ _ a n _ _ = no (codes "tap") (Simulate x) a n refl
tapped _ _ (Pair x) _ _ _ _ _ a n _ _ = no (codes "tap") (Pair x) a n refl
tapped _ _ (Station x) _ _ _ _ _ a n _ _ = no (codes "tap") (Station x) a n refl
tapped F words (Tap t) reader after old new ending a n h p =
    let s = p t refl in
    (s.0, inr (t, h, s.1), s.2)
tapped _ _ (Link x) _ _ _ _ _ a n _ _ = no (codes "tap") (Link x) a n refl
tapped _ _ (Bridge x) _ _ _ _ _ a n _ _ = no (codes "tap") (Bridge x) a n refl

-- words that ask for a link are answered by it
pub linked : (lines : LinesKnown) (words : List Text) (command : Command) (ending : Ending)
    → IsAsked words (codes "link") → named_by words ≡ Some (name_of command)
    → HasOptions (option_in words) (text_in words) command
    → ((linked : LinkArgs) → command ≡ Link linked → Links lines linked ending)
    → LinksOrNoMemory lines words ending
linked _ _ (Explain x) _ a n _ _ = no (codes "link") (Explain x) a n refl
linked _ _ (Simulate x) _ a n _ _ = no (codes "link") (Simulate x) a n refl
linked _ _ (Pair x) _ a n _ _ = no (codes "link") (Pair x) a n refl
linked _ _ (Station x) _ a n _ _ = no (codes "link") (Station x) a n refl
linked _ _ (Tap x) _ a n _ _ = no (codes "link") (Tap x) a n refl
linked lines words (Link l) ending a n h p = inr (l, h, p l refl)
linked _ _ (Bridge x) _ a n _ _ = no (codes "link") (Bridge x) a n refl

-- words that ask for a bridge are answered by it
pub bridged : {R : Type 0} (lines : LinesKnown) (words : List Text) (command : Command)
    (reader reader_after : R) (old new : Option (List ℕ)) (ending : Ending)
    → IsAsked words (codes "bridge") → named_by words ≡ Some (name_of command)
    → HasOptions (option_in words) (text_in words) command
    → ((bridged : BridgeArgs) → command ≡ Bridge bridged
    → (reader_after ≡ reader) × Bridges lines bridged old new ending)
    → (reader_after ≡ reader) × BridgesOrNoMemory lines words old new ending
bridged _ _ (Explain x) _ _ _ _ _ a n _ _ = no (codes "bridge") (Explain x) a n refl
bridged _ _ (Simulate x) _ _ _ _ _ a n _ _ = no (codes "bridge") (Simulate x) a n refl
bridged _ _ (Pair x) _ _ _ _ _ a n _ _ = no (codes "bridge") (Pair x) a n refl
bridged _ _ (Station x) _ _ _ _ _ a n _ _ = no (codes "bridge") (Station x) a n refl
bridged _ _ (Tap x) _ _ _ _ _ a n _ _ = no (codes "bridge") (Tap x) a n refl
bridged _ _ (Link x) _ _ _ _ _ a n _ _ = no (codes "bridge") (Link x) a n refl
bridged lines words (Bridge b) reader after old new ending a n h p =
    let s = p b refl in
    (s.0, inr (b, h, s.1))

-- where the words name no file, the command reads none
pub reads_no_file : (words : List Text) (command : Command)
    → HasOptions (option_in words) (text_in words) command
    → file_of (text_in words (codes "file")) ≡ None → file_named command ≡ None
reads_no_file words (Explain explained) h e = h.file ∙ e
reads_no_file words (Simulate scripted) h e = h.file ∙ e
reads_no_file words (Pair scripted) h e = h.file ∙ e
reads_no_file words (Station served) h e = refl
reads_no_file words (Tap tapped) h e = refl
reads_no_file words (Link linked) h e = refl
reads_no_file words (Bridge bridged) h e = refl

-- a command of another name is given no file
no_reader : {A : Type 0} (name other_name : Text) → ReadsFiles name
    → bytes_eq (codes "explain") other_name ≡ false → bytes_eq (codes "simulate") other_name ≡ false
    → bytes_eq (codes "pair") other_name ≡ false
    → ◌≡◌ {A = Option Text} (Some name) (Some other_name) → A
no_reader name n (inl is) e s p same =
    absurd (other (codes "explain") n e (ap Some (sym is) ∙ same))
no_reader name n (inr (inl is)) e s p same =
    absurd (other (codes "simulate") n s (ap Some (sym is) ∙ same))
no_reader name n (inr (inr is)) e s p same =
    absurd (other (codes "pair") n p (ap Some (sym is) ∙ same))

-- and where they name one, it reads one
pub reads_a_file : (A : Type 0) (words : List Text) (command : Command) (name : Text)
    → ReadsFiles name → IsAsked words name → named_by words ≡ Some (name_of command)
    → HasOptions (option_in words) (text_in words) command
    → file_of (text_in words (codes "file")) ≢ None → (file_named command ≢ None → A) → A
reads_a_file A words (Explain explained) name r a n h some then = then (λ e. some (sym h.file ∙ e))
reads_a_file A words (Simulate scripted) name r a n h some then = then (λ e. some (sym h.file ∙ e))
reads_a_file A words (Pair scripted) name r a n h some then = then (λ e. some (sym h.file ∙ e))
reads_a_file A words (Station served) name r a n h some then =
    no_reader name (codes "station") r refl refl refl (sym a.names ∙ n)
reads_a_file A words (Tap tapped) name r a n h some then =
    no_reader name (codes "tap") r refl refl refl (sym a.names ∙ n)
reads_a_file A words (Link linked) name r a n h some then =
    no_reader name (codes "link") r refl refl refl (sym a.names ∙ n)
reads_a_file A words (Bridge bridged) name r a n h some then =
    no_reader name (codes "bridge") r refl refl refl (sym a.names ∙ n)

-- words that ask for a command are declined for want of memory alone
pub not_declined : {C : Type 0} (r : Result C NoCommand) (d : NoCommand) → r ≡ Err d → d ≢ Memory
    → IsOk r ⊎ (r ≡ Err Memory) → ⊥
not_declined (Ok x) d e n h = let bad : Ok x ≡ Err d = e in cc
not_declined (Err f) d e n (inl ok) = let bad : ◌≡◌ {A = Bool} false true = ok in cc
not_declined (Err f) d e n (inr m) = let same : d ≡ Memory = cc in n same

-- if broken writes are reported, nothing that is done left the sink broken
pub unbroken : (ending : Ending) (broken : Bool) → (IsTrue broken → ending ≡ Faulted Write)
    → ending ≡ Done → broken ≡ false
unbroken ending true told done = let bad : Done ≡ Faulted Write = sym done ∙ told refl in cc
unbroken ending false told done = refl

-- which command it is
abbrev pub is_station : Command → Bool
is_station command = bytes_eq (codes "station") (name_of command)

abbrev pub is_tap : Command → Bool
is_tap command = bytes_eq (codes "tap") (name_of command)

-- the arguments of a link; of another command, others
abbrev pub linked_or : LinkArgs → Command → LinkArgs
linked_or other (Link linked) = linked
linked_or other _ = other

-- the same of a bridge
abbrev pub bridged_or : BridgeArgs → Command → BridgeArgs
bridged_or other (Bridge bridged) = bridged
bridged_or other _ = other

abbrev pub is_link : Command → Bool
is_link command = bytes_eq (codes "link") (name_of command)

abbrev pub is_bridge : Command → Bool
is_bridge command = bytes_eq (codes "bridge") (name_of command)

-- a command that is one isn't another
pub differ : {A : Type 0} {command one another : Command} (test : Command → Bool) → command ≡ one
    → test one ≡ false → command ≡ another → test another ≡ true → A
differ test is one are another =
    let bad : ◌≡◌ {A = Bool} false true = sym one ∙ ap test (sym is ∙ are) ∙ another in absurd cc
