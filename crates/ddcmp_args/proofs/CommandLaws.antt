-- What a parse says of the command that the words name.
use Rattle.clap.specs.Words.{IsAmong, fault_of, is_simple_and_free}
use Rattle.clap.specs.declared.error.kind.ErrorKind.{ErrorKind}
use Rattle.clap.specs.declared.error.kind.ErrorKind.TheVariants.{DisplayHelp, DisplayVersion}
use Rattle.clap.specs.declared.error.kind.ErrorKind.TheVariants.{OutOfMemory}
use Rattle.ddcmp_args.specs.declared.no_command.NoCommand.{NoCommand}
use Rattle.ddcmp_args.specs.declared.no_command.NoCommand.TheVariants.{Help, Version, Usage}
use Rattle.ddcmp_args.specs.declared.no_command.NoCommand.TheVariants.{Memory}
use Rattle.ddcmp_args.specs.Args.{Declines, Reads}
use Rattle.std.proofs.Common.{inl, inr, ◌≢◌, ◌⊎◌, Err, ◌≡◌, ◌∙◌, ap, sym}
use Rattle.std.proofs.Common.{subst, refl, true, List, Option, Some, None}
use Rattle.std.specs.Option.{option_map, option_and_then}
use Rattle.clap.specs.Words.{App, Text, HasMatchesOf, is_simple, subcommand_of, subcommand_name_of}
use Rattle.clap.specs.Words.{subcommand_rows_of, one_text, one_of, first_of, first_value, takes}
use Rattle.clap.specs.Words.{Row, found_of}
use Rattle.clap.specs.Walk.{rows_of}
use Rattle.clap.specs.declared.parser.matches.Found.{Found}
use Rattle.clap.proofs.WalkLemmas.{first_value-rows, one_text-rows}
use Rattle.clap.specs.declared.parser.matches.ArgMatches.{ArgMatches}
use Rattle.clap.specs.declared.parser.matches.ArgMatches.TheViews.{out-ArgMatches}
use Rattle.clap.proofs.OnLiterals.{clap_on_literals}
use Rattle.ddcmp_args.specs.Args.{program, named_by, option_in, text_in, HasOptions, IsAsked}
use Rattle.ddcmp_args.specs.declared.command.Command.{Command}

pub program-simple : is_simple program ≡ true
unfolding clap_on_literals
program-simple = refl

map-map : {A B C : Type 0} (g : B → C) (f : A → B) (o : Option A)
    → option_map g (option_map f o) ≡ option_map (λ x. g (f x)) o
map-map g f None = refl
map-map g f (Some x) = refl

-- the name that a parse met is the one that the words name
pub named : (app : App) (words : List Text) (m : ArgMatches) → app ≡ program
    → HasMatchesOf app words m → named_by words ≡ subcommand_name_of m
unfolding named_by
named app words m e h =
    let found = h (ap is_simple e ∙ program-simple) in
    ap (λ (a : App). option_map (λ p. p.0) (subcommand_of a words)) (sym e)
    ∙ ap (option_map (λ p. p.0)) (sym found.1)
    ∙ map-map (λ p. p.0) _ (out-ArgMatches m).subcommand

-- words that are in order are in order for the parser that was made
pub in_order : (app : App) (words : List Text) (name : Text) → app ≡ program → IsAsked words name
    → takes app words ≡ true
in_order app words name e asked = ap (λ (a : App). takes a words) e ∙ asked.in_order

and_then-map : {A B C : Type 0} (g : A → Option C) (f : A → B) (h : B → Option C) (o : Option A)
    (b : B) → ((x : A) → g x ≡ h (f x)) → option_map f o ≡ Some b → option_and_then g o ≡ h b
and_then-map g f h None b k e = let e' : ◌≡◌ None (Some b) = e in cc
and_then-map g f h (Some x) b k e = let i : f x ≡ b = cc in k x ∙ ap h i

-- an option of the command that a parse met
abbrev pub option_met : Option (Text × List Row) → Text → Option Text
option_met rows id = option_and_then (λ named. one_of id named.1) rows

met : (rows : Option (Text × List Row)) (f : Found)
    → option_map (λ p. p.1) rows ≡ Some (rows_of f)
    → (id : Text) → one_text f id ≡ option_met rows id
met rows f e id =
    one_text-rows f id
    ∙ sym
    (and_then-map (λ (p : Text × List Row). one_of id p.1) (λ p. p.1) (λ r. one_of id r) rows
    (rows_of f) (λ _. refl) e)

-- and one that is taken as it was written
abbrev pub text_met : Option (Text × List Row) → Text → Option Text
text_met rows id = option_and_then (λ named. first_of id named.1) rows

met_text : (rows : Option (Text × List Row)) (f : Found)
    → option_map (λ p. p.1) rows ≡ Some (rows_of f)
    → (id : Text) → first_value f id ≡ text_met rows id
met_text rows f e id =
    first_value-rows f id
    ∙ sym
    (and_then-map (λ (p : Text × List Row). first_of id p.1) (λ p. p.1) (λ r. first_of id r)
    rows (rows_of f) (λ _. refl) e)

-- a command has the options that such a parse gave
pub has_options_as : (rows : Option (Text × List Row)) (m : ArgMatches) (made : Command)
    → option_map (λ p. p.1) rows ≡ Some (rows_of (found_of m))
    → HasOptions (one_text (found_of m)) (first_value (found_of m)) made
    → HasOptions (option_met rows) (text_met rows) made
has_options_as rows m made e h =
    let f = found_of m in
    subst (λ option. HasOptions option (text_met rows) made) (λ i id. met rows f e id i)
    (subst (λ text. HasOptions (one_text f) text made) (λ i id. met_text rows f e id i) h)

-- a command has the options that the words give
pub has_options : (app : App) (words : List Text) (m : ArgMatches) (made : Command) → app ≡ program
    → HasMatchesOf app words m
    → HasOptions (option_met (subcommand_rows_of m)) (text_met (subcommand_rows_of m)) made
    → HasOptions (option_in words) (text_in words) made
unfolding option_in text_in
has_options app words m made e h o =
    let found = h (ap is_simple e ∙ program-simple) in
    let named_rows : subcommand_rows_of m ≡ subcommand_of program words =
    found.1 ∙ ap (λ (a : App). subcommand_of a words) e in
    subst (λ rows. HasOptions (option_met rows) (text_met rows) made) named_rows o

-- ---- words that clap finds a fault with

program-free : is_simple_and_free program ≡ true
unfolding clap_on_literals
program-free = refl

pub at-program : (F : App → Type 0) (app : App) → app ≡ program
    → (is_simple_and_free app ≡ true → F app) → F program
at-program F app e f = subst F e (f (ap is_simple_and_free e ∙ program-free))

pub declined-memory : (kind : ErrorKind) (d : NoCommand) → Declines kind d → kind ≡ OutOfMemory
    → d ≡ Memory
declined-memory kind (Help t) h e = let bad : DisplayHelp ≡ OutOfMemory = sym h ∙ e in cc
declined-memory kind (Version t) h e = let bad : DisplayVersion ≡ OutOfMemory = sym h ∙ e in cc
declined-memory kind (Usage t) h e = absurd (h.2 e)
declined-memory kind Memory h e = refl

among : (words : List Text) (kind known : ErrorKind) → kind ≡ known → known ≢ OutOfMemory
    → (kind ≡ OutOfMemory) ⊎ IsAmong kind (fault_of program words)
    → IsAmong known (fault_of program words)
among words kind known e n (inl oom) = absurd (n (sym e ∙ oom))
among words kind known e n (inr a) = subst (λ k. IsAmong k (fault_of program words)) e a

pub reads-fault : (words : List Text) (kind : ErrorKind) (d : NoCommand) → Declines kind d
    → (kind ≡ OutOfMemory) ⊎ IsAmong kind (fault_of program words) → Reads words (Err d)
reads-fault words kind (Help t) h a = among words kind DisplayHelp h (λ e. cc) a
reads-fault words kind (Version t) h a = among words kind DisplayVersion h (λ e. cc) a
reads-fault words kind (Usage t) h (inl oom) = absurd (h.2 oom)
reads-fault words kind (Usage t) h (inr a) = inr (kind, a, h.0, h.1)
reads-fault words kind Memory h a = tt
