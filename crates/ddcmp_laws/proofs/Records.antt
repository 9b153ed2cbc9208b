-- Of an output with events the records whose lengths have the top bit off are the messages.
use Rattle.std.proofs.Common.{◌≡◌, ◌∙◌, ap, refl, arith, ℕ, zero, suc, ◌+◌, ◌*◌}
use Rattle.std.proofs.Common.{◌/◌, ◌%◌, ◌<◌, ◌≤◌, Bool, true, false, cond, nat_lt, ◌==◌, subst, sym}
use Rattle.std.proofs.Common.{List, [], ◌∷◌, ◌++◌, length, take, drop, append_assoc, length-append}
use Rattle.std.proofs.lemmas.Bool.Decides.{nat_tests}
use Rattle.std.proofs.Math.Seq.{take-append_seam, drop-append_seam}
use Rattle.ddcmp_input.specs.InBinary.{behind_length}
use Rattle.ddcmp_streams.specs.declared.messages.MessageForm.TheVariants as form
use Rattle.ddcmp_session.specs.Calls.{Shown, Mail, Reports, Leaves, Loses}
use Rattle.ddcmp_session.specs.Text.{dropped_by, event_text, line_down_words, lost_text}
use Rattle.ddcmp_session.specs.Text.{lost_words, notice_words}
use Rattle.ddcmp_laws.specs.Sessions.{AreShort, mail_among, mail_in, texts_of}

-- a text of which these are the messages
abbrev ReadsAs : List (List ℕ) → List ℕ → Type 0
ReadsAs messages text = (n : ℕ) → length text ≤ n → mail_among n text ≡ messages

is-below : (a b : ℕ) → a < b → nat_lt a b ≡ true
is-below a b less = grind (arith, nat_tests)

is-above : (a b : ℕ) → b ≤ a → nat_lt a b ≡ false
is-above a b most = grind (arith, nat_tests)

-- what the first record adds
first : (n high low : ℕ) (text rest : List ℕ) (is_mail : Bool) → nat_lt high 128 ≡ is_mail
    → high % 128 * 256 + low ≡ length text
    → mail_among (suc n) (high ∷ low ∷ (text ++ rest))
    ≡ cond is_mail (text ∷ []) [] ++ mail_among n rest
unfolding mail_among
first n high low text rest is_mail is size =
    ap (λ b. cond b (take (high % 128 * 256 + low) (text ++ rest) ∷ []) []
    ++ mail_among n (drop (high % 128 * 256 + low) (text ++ rest))) is
    ∙ ap (λ k. cond is_mail (take k (text ++ rest) ∷ []) [] ++ mail_among n (drop k (text ++ rest)))
    size
    ∙ ap (λ xs. cond is_mail (xs ∷ []) [] ++ mail_among n (drop (length text) (text ++ rest)))
    (take-append_seam text rest)
    ∙ ap (λ xs. cond is_mail (text ∷ []) [] ++ mail_among n xs) (drop-append_seam text rest)

of-mail : (message rest : List ℕ) (messages : List (List ℕ)) → length message < 32768
    → ReadsAs messages rest → ReadsAs (message ∷ messages) (behind_length message ++ rest)
of-mail message rest messages short reads zero most = absurd (omega (arith, most))
of-mail message rest messages short reads (suc n) most =
    first n (length message / 256) (length message % 256) message rest true
    (is-below (length message / 256) 128 (omega (arith, short))) (omega (arith, short))
    ∙ ap (λ ms. message ∷ ms) (reads n (omega (arith, most, length-append message rest)))

of-event : (words rest : List ℕ) (messages : List (List ℕ)) → length words < 32768
    → ReadsAs messages rest → ReadsAs messages (event_text words ++ rest)
of-event words rest messages short reads zero most = absurd (omega (arith, most))
of-event words rest messages short reads (suc n) most =
    first n ((32768 + length words) / 256) ((32768 + length words) % 256) words rest false
    (is-above ((32768 + length words) / 256) 128 (omega arith)) (omega (arith, short))
    ∙ reads n (omega (arith, most, length-append words rest))

of-loss : (count : ℕ) (rest : List ℕ) (messages : List (List ℕ))
    → length (lost_words count) < 32768 → ReadsAs messages rest
    → ReadsAs messages (lost_text form.Events count ++ rest)
of-loss count rest messages short reads = by (count == 0)
  where
    by : (b : Bool) → ReadsAs messages (cond b [] (event_text (lost_words count)) ++ rest)
    by true = reads
    by false = of-event (lost_words count) rest messages short reads

none-in-nothing : (n : ℕ) → mail_among n [] ≡ []
unfolding mail_among
none-in-nothing zero = refl
none-in-nothing (suc n) = refl

pub only-mail-read : (shown : List Shown) → AreShort shown
    → ReadsAs (mail_in shown) (texts_of form.Events shown)
unfolding AreShort texts_of mail_in mail_among
only-mail-read [] short = λ n most. none-in-nothing n
only-mail-read (Mail message ∷ rest) short =
    of-mail message (texts_of form.Events rest) (mail_in rest) short.0 (only-mail-read rest short.1)
only-mail-read (Reports notice ∷ rest) short =
    subst (ReadsAs (mail_in rest))
    (sym
    (append_assoc (event_text (notice_words notice)) (lost_text form.Events (dropped_by notice))
    (texts_of form.Events rest)))
    (of-event (notice_words notice)
    (lost_text form.Events (dropped_by notice) ++ texts_of form.Events rest) (mail_in rest)
    short.0.0
    (of-loss (dropped_by notice) (texts_of form.Events rest) (mail_in rest) short.0.1
    (only-mail-read rest short.1)))
only-mail-read (Leaves how ∷ rest) short =
    of-event (line_down_words how) (texts_of form.Events rest) (mail_in rest) short.0
    (only-mail-read rest short.1)
only-mail-read (Loses count ∷ rest) short =
    of-loss count (texts_of form.Events rest) (mail_in rest) short.0 (only-mail-read rest short.1)
