use Rattle.std.proofs.Common.{◌≡◌, ◌∙◌, [], List, ℕ, Bor, map, sym, ap, inl, inr, Err, refl}
use Rattle.clap.specs.Words.{HasKind, fault_of}
use Rattle.ddcmp_args.proofs.CommandLaws.{named, has_options, in_order, at-program}
use Rattle.ddcmp_args.proofs.CommandLaws.{declined-memory, reads-fault}
use Rattle.ddcmp_args.proofs.command.parse_args.Goals as goal

abbrev words_of : List (Bor (List ℕ)) → List (List ℕ)
words_of words = map (λ word. word.now) words

pub returns-in-Some-clause-reads : goal.returns-in-Some-clause-reads
returns-in-Some-clause-reads c = (
  at-program (λ app. fault_of app (words_of c.args.words.now) ≡ []) _
      c.in-Ok.ensures.0
      c.in-Ok-try_get_matches_from.ensures.kinds,
  named _ _ c.in-Ok-try_get_matches_from.matches
      c.in-Ok.ensures.0
      c.in-Ok-try_get_matches_from.ensures.matches ∙ c.in-Some.ensures.named,
  has_options _ _ c.in-Ok-try_get_matches_from.matches c.in-Some.command
      c.in-Ok.ensures.0
      c.in-Ok-try_get_matches_from.ensures.matches c.in-Some.ensures.options,
)

pub returns-in-Ok-try_get_matches_from-clause-asked :
    goal.returns-in-Ok-try_get_matches_from-clause-asked
returns-in-Ok-try_get_matches_from-clause-asked c = λ name is asked.
    absurd
    (c.in-None.ensures.unnamed refl name is
    (sym
    (named _ _ c.in-Ok-try_get_matches_from.matches
    c.in-Ok.ensures.0
    c.in-Ok-try_get_matches_from.ensures.matches) ∙ asked.names))

pub returns-in-Ok-try_get_matches_from-clause-reads :
    goal.returns-in-Ok-try_get_matches_from-clause-reads
returns-in-Ok-try_get_matches_from-clause-reads c = inl (
  at-program (λ app. fault_of app (words_of c.args.words.now) ≡ []) _
      c.in-Ok.ensures.0
      c.in-Ok-try_get_matches_from.ensures.kinds,
  λ name is names. c.in-None.ensures.unnamed refl name is
      (sym
      (named _ _ c.in-Ok-try_get_matches_from.matches
      c.in-Ok.ensures.0
      c.in-Ok-try_get_matches_from.ensures.matches) ∙ names),
)

pub returns-clause-reads : goal.returns-clause-reads
returns-clause-reads c =
    reads-fault (words_of c.args.words.now) _ c.decline.result c.decline.ensures
    (at-program
    (λ app. HasKind (fault_of app (words_of c.args.words.now))
    c.in-Err.error) _
    c.in-Ok.ensures.0
    c.in-Err.ensures.kinds)

pub returns-clause-asked : goal.returns-clause-asked
returns-clause-asked c = λ name is asked.
    inr
    (ap Err
    (declined-memory _ c.decline.result c.decline.ensures
    (c.in-Err.ensures.passes
    (in_order _ _ _ c.in-Ok.ensures.0 asked))))
