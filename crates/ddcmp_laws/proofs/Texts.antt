-- The text of what a session delivered and reported.
use Rattle.std.proofs.Common.{◌≡◌, ℕ, Bool, true, false, arith, List, [], ◌∷◌, ◌++◌, map}
use Rattle.std.proofs.Common.{take, drop}
use Rattle.std.proofs.Common.{refl, sym, ◌∙◌, ap, append_assoc, append-nil, Option, Some}
use Rattle.std.proofs.Common.{option_to_list}
use Rattle.std.proofs.lemmas.List.{take-append-drop}
use Rattle.ddcmp_core.specs.declared.notice.Notice.{Notice}
use Rattle.ddcmp_input.specs.InBinary.{behind_length, in_binary}
use Rattle.ddcmp_streams.specs.declared.messages.MessageForm.{MessageForm}
use Rattle.ddcmp_streams.specs.declared.messages.MessageForm.TheVariants as form
use Rattle.ddcmp_io.specs.Queue.{QueueView}
use Rattle.ddcmp_session.specs.Session.{SessionView, lost_by_end}
use Rattle.ddcmp_session.specs.Text.{Wrote, notice_text, notices_text, mail_text, lost_text}
use Rattle.ddcmp_session.specs.Text.{line_end_text, reported_end, reported_lost}
use Rattle.ddcmp_session.specs.Calls.{Shown, Mail, Reports, Leaves, Loses, ends, losses}
use Rattle.ddcmp_session.specs.declared.line_end.LineEnd.{LineEnd}
use Rattle.ddcmp_laws.specs.Sessions.{mail_of, mail_in, text_of, texts_of}

pub mail_more : (xs ys : List Shown) → mail_in (xs ++ ys) ≡ mail_in xs ++ mail_in ys
unfolding mail_in
mail_more [] ys = refl
mail_more (x ∷ xs) ys =
    ap (λ ms. mail_of x ++ ms) (mail_more xs ys)
    ∙ sym (append_assoc (mail_of x) (mail_in xs) (mail_in ys))

pub no_mail : (notices : List Notice) → mail_in (map Reports notices) ≡ []
unfolding mail_in
no_mail [] = refl
no_mail (n ∷ rest) = no_mail rest

pub mail_is : (messages : List (List ℕ)) → mail_in (map Mail messages) ≡ messages
unfolding mail_in
mail_is [] = refl
mail_is (m ∷ rest) = ap (λ ms. m ∷ ms) (mail_is rest)

pub no_mail_ends : (how : LineEnd) (r : Bool) (s : SessionView) → mail_in (ends how r s) ≡ []
unfolding mail_in
no_mail_ends how true s = refl
no_mail_ends how false s = refl

pub nothing_lost : (r : Bool) (s : SessionView) → mail_in (losses r s) ≡ []
unfolding mail_in
nothing_lost true s = refl
nothing_lost false s = refl

texts_more : (f : MessageForm) (xs ys : List Shown)
    → texts_of f (xs ++ ys) ≡ texts_of f xs ++ texts_of f ys
unfolding texts_of
texts_more f [] ys = refl
texts_more f (x ∷ xs) ys =
    ap (λ ts. text_of f x ++ ts) (texts_more f xs ys)
    ∙ sym (append_assoc (text_of f x) (texts_of f xs) (texts_of f ys))

pub notices_are : (f : MessageForm) (notices : List Notice)
    → notices_text f notices ≡ texts_of f (map Reports notices)
unfolding notices_text texts_of
notices_are f [] = refl
notices_are f (n ∷ rest) = ap (λ t. notice_text f n ++ t) (notices_are f rest)

pub mail_text_is : (f : MessageForm) (first : Option (List ℕ)) (message : List ℕ)
    → first ≡ Some message
    → mail_text f message ≡ texts_of f (map Mail (option_to_list first))
unfolding texts_of
mail_text_is f first message is =
    sym (append-nil (mail_text f message))
    ∙ ap (λ o. texts_of f (map Mail (option_to_list o))) (sym is)

pub lost_text_is : (r : Bool) (f : MessageForm) (s : SessionView)
    → reported_lost r f (lost_by_end s) ≡ texts_of f (losses r s)
unfolding texts_of
lost_text_is true f s = sym (append-nil (lost_text f (lost_by_end s)))
lost_text_is false f s = refl

pub end_text_is : (how : LineEnd) (r : Bool) (f : MessageForm) (s : SessionView)
    → reported_end r f how (lost_by_end s) ≡ texts_of f (ends how r s)
unfolding texts_of
end_text_is how true f s =
    ap (λ t. line_end_text f how ++ t) (sym (append-nil (lost_text f (lost_by_end s))))
end_text_is how false f s = refl

pub no_text : (f : MessageForm) → [] ≡ texts_of f []
unfolding texts_of
no_text f = refl

-- what was written, and what waits, is the text of what was shown
abbrev pub IsText : MessageForm → List ℕ → QueueView → List Shown → Type 0
IsText f written q shown = written ++ q.waiting ≡ texts_of f shown

pub writes : (f : MessageForm) (written : List ℕ) (shown more : List Shown) (old new : QueueView)
    (text : List ℕ) → IsText f written old shown → Wrote text old new → text ≡ texts_of f more
    → IsText f (written ++ []) new (shown ++ more)
writes f written shown more old new text was wrote is =
    ap (λ ys. ys ++ new.waiting) (append-nil written)
    ∙ ap (λ ys. written ++ ys) wrote.waiting
    ∙ sym (append_assoc written old.waiting text)
    ∙ ap (λ ys. ys ++ text) was
    ∙ ap (λ ys. texts_of f shown ++ ys) is
    ∙ sym (texts_more f shown more)

pub keeps : (old new : QueueView) → new ≡ old → Wrote [] old new
keeps old new same = record {
  waiting = ap (λ (q : QueueView). q.waiting) same ∙ sym (append-nil old.waiting);
  room = omega (arith, ap (λ (q : QueueView). q.room) same);
  size = ap (λ (q : QueueView). q.size) same;
  is_cut = ap (λ (q : QueueView). q.is_cut) same;
}

pub took : (f : MessageForm) (written : List ℕ) (n : ℕ) (shown : List Shown) (old new : QueueView)
    → IsText f written old shown → new.waiting ≡ drop n old.waiting
    → IsText f (written ++ take n old.waiting) new (shown ++ [])
took f written n shown old new was left =
    ap (λ ys. (written ++ take n old.waiting) ++ ys) left
    ∙ append_assoc written (take n old.waiting) (drop n old.waiting)
    ∙ ap (λ ys. written ++ ys) (take-append-drop n old.waiting)
    ∙ was
    ∙ ap (texts_of f) (sym (append-nil shown))

-- in binary a text is its messages, each behind its length
pub only_mail : (shown : List Shown) → texts_of form.Binary shown ≡ in_binary (mail_in shown)
unfolding texts_of in_binary mail_in
only_mail [] = refl
only_mail (Mail message ∷ rest) = ap (λ t. mail_text form.Binary message ++ t) (only_mail rest)
only_mail (Reports notice ∷ rest) = only_mail rest
only_mail (Leaves how ∷ rest) = only_mail rest
only_mail (Loses count ∷ rest) = only_mail rest

pub binary_more : (xs ys : List (List ℕ)) → in_binary (xs ++ ys) ≡ in_binary xs ++ in_binary ys
unfolding in_binary
binary_more [] ys = refl
binary_more (x ∷ xs) ys =
    ap (λ t. behind_length x ++ t) (binary_more xs ys)
    ∙ sym (append_assoc (behind_length x) (in_binary xs) (in_binary ys))
