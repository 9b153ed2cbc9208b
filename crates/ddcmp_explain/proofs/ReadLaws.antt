-- What a chunk adds to what was read of an input.
use Rattle.std.proofs.Common.{◌≡◌, ℕ, ◌+◌, ◌<◌, ◌≤◌, Bool, true, false, List, [], ◌∷◌, ◌++◌, length}
use Rattle.std.proofs.Common.{take, refl, sym, ◌∙◌, ap, subst, arith, Option, None, Some, Result}
use Rattle.std.proofs.Common.{Ok, Err, inl, length-take-le}
use Rattle.std.specs.Prelude.{◌⊎◌, option_to_list}
use Rattle.std.specs.Option.{option_map}
use Rattle.std.specs.Io.KnownBytes.{Consumes, IsAtEnd}
use Rattle.std.proofs.KnownBytes.{Consumes-trans}
use Rattle.std.proofs.lemmas.List.{append-nil}
use Rattle.ddcmp_input.specs.declared.place.Place.{Place}
use Rattle.ddcmp_input.specs.declared.place.Place.TheVariants.{Start}
use Rattle.ddcmp_input.specs.Dump.{DumpView, dump_after, dump_begun, place_after, shown, shown_from}
use Rattle.ddcmp_input.proofs.DumpLaws.{shown-more, place-more, line-more}
use Rattle.ddcmp_explain.specs.declared.decoder.Decoded.{Decoded}
use Rattle.ddcmp_explain.specs.declared.explain_fault.ExplainFault.{ExplainFault}
use Rattle.ddcmp_explain.specs.declared.form.Form.{Form}
use Rattle.ddcmp_explain.specs.declared.form.Form.TheVariants.{Hex, Text, Raw, Dump}
use Rattle.ddcmp_explain.specs.declared.form.InputForm.{InputForm}
use Rattle.ddcmp_explain.specs.declared.input_bytes.InputBytes.{InputBytes}
use Rattle.ddcmp_io.specs.declared.device.Worst.{Worst}
use Rattle.ddcmp_io.specs.declared.device.Worst.TheVariants.{Fine}
use Rattle.ddcmp_explain.specs.declared.form.InputForm.TheVariants.{Detected}
use Rattle.ddcmp_explain.specs.Detection.{detected, detected_first, form_in}
use Rattle.ddcmp_explain.specs.Digits.{bytes_of, digits, first_unexpected, left_over, spelled}
use Rattle.ddcmp_explain.specs.Reads.{Ended, Gives, IsNext, IsRead}
use Rattle.ddcmp_explain.specs.Inside.Decoding.{Decodes, chunk_in}
use Rattle.ddcmp_explain.specs.Inside.Reading.{DecodesIn}
use Rattle.ddcmp_explain.proofs.DetectionLaws.{first-is, take-front}
use Rattle.ddcmp_explain.proofs.FormLaws.{nothing-spelled}

length-shown : (p : Place) (s : List ℕ) → length (shown_from p s) ≡ length s
unfolding shown_from
length-shown p [] = refl
length-shown p (b ∷ s) = let e = length-shown (place_after p b) s in omega (arith, e)

dump-append : (v : DumpView) (seen piece : List ℕ)
    → dump_after v (seen ++ piece) ≡ dump_after (dump_after v seen) piece
dump-append v seen piece = λ i. record {
  place = place-more v.place seen piece i;
  line = line-more v.place v.line seen piece i;
}

-- the digits of a dump
pub decodes-dump
    : (form : Form) (seen piece raw after shows bytes : List ℕ) (decoded : Decoded)
    (old at : InputBytes) (n : ℕ)
    → old.form ≡ Dump → IsRead form seen old → shows ≡ shown_from old.dump.place (take n piece)
    → n ≤ length piece
    → (first_unexpected (shown seen) ≡ None
    → left_over (digits (shown seen)) ≡ option_to_list old.decoder.high
    → Decodes Hex (shown seen) (take n (shows ++ after)) decoded bytes at.decoder.high)
    → at.decoder.spot ≡ old.decoder.spot → old.unexpected ≡ None
    → at.dump ≡ dump_after old.dump (take n piece)
    → DecodesIn form seen (take n (chunk_in form piece raw)) decoded (take decoded.count bytes) at
decodes-dump form seen piece raw after shows bytes decoded old at n as_dump read is fits decodes
    spot none dump =
    let form_is : form ≡ Dump = sym read.form_is ∙ as_dump in
    let r : IsRead Dump seen old = subst (λ f. IsRead f seen old) form_is read in
    let d = decodes (r.unexpected ∙ none) (r.decoded none).left in
    let long : length shows ≡ n =
    ap length is ∙ length-shown old.dump.place (take n piece) ∙ length-take-le n piece fits in
    let all : shown (seen ++ take n piece) ≡ shown seen ++ take n (shows ++ after) =
    shown-more Start seen (take n piece)
    ∙ ap (λ (v : DumpView). shown seen ++ shown_from v.place (take n piece)) r.dump
    ∙ ap (λ t. shown seen ++ t) (sym (take-front n shows after long ∙ is)) in
    subst
    (λ f. DecodesIn f seen (take n (chunk_in f piece raw)) decoded (take decoded.count bytes) at)
    (sym form_is)
    (record {
      whole = ap spelled all ∙ d.whole;
      unexpected = ap first_unexpected all ∙ d.unexpected
          ∙ ap (λ m. option_map (λ i. m + i) decoded.unexpected) (length-shown Start seen);
      dump = dump-append dump_begun seen (take n piece)
          ∙ ap (λ v. dump_after v (take n piece)) r.dump
          ∙ sym dump;
      decoded_is = λ e. record {
        left = ap (λ t. left_over (digits t)) all ∙ d.left e;
        spot = (r.decoded none).spot ∙ sym spot;
      };
    })

-- ---- the first bytes

-- where they are read to
pub chunk-first : (form : Form) (first piece bytes more rest : List ℕ) → piece ≡ first
    → bytes ≡ first → take (length first) (chunk_in form (piece ++ more) (bytes ++ rest)) ≡ first
chunk-first Hex first piece bytes more rest p b =
    take-front (length first) piece more (ap length p) ∙ p
chunk-first Text first piece bytes more rest p b =
    take-front (length first) piece more (ap length p) ∙ p
chunk-first Raw first piece bytes more rest p b =
    take-front (length first) bytes rest (ap length b) ∙ b
chunk-first Dump first piece bytes more rest p b =
    take-front (length first) piece more (ap length p) ∙ p

pub opens
    : (before left : Option (List ℕ)) (input first bytes : List ℕ) (at : InputBytes) (n : ℕ)
    → before ≡ Some input → Consumes before left first
    → (length first ≡ 64) ⊎ ((length first < 64) × IsAtEnd left)
    → at.seen ≡ length first → at.detects ≡ false → (at.ended ≡ true → IsAtEnd left)
    → IsRead (detected_first first) first at
    → bytes_of (detected_first first) first ≡ take n bytes
    → Gives Detected input [] left at bytes (Ok (Some n))
opens before left input first bytes at n e consumed long seen opened ended read whole =
    let is = first-is before left first input e consumed long in (
      first,
      record {
        consumed = subst (λ b. Consumes b left first) e consumed;
        long = sym seen;
        ended = ended;
        opened = λ _. subst (λ f. IsRead f first at) (sym is) read;
        unopened = λ t. let bad : ◌≡◌ {A = Bool} false true = sym opened ∙ t in cc;
      },
      ap (λ f. bytes_of f first) is ∙ whole
          ∙ ap (λ t. t ++ take n bytes) (sym (nothing-spelled (detected input))),
    )

-- ---- the end

pub gives-ended
    : (written : InputForm) (input seen : List ℕ) (left : Option (List ℕ)) (at : InputBytes)
    (bytes : List ℕ) (result : Result (Option ℕ) ExplainFault)
    → Consumes (Some input) left seen → Ended (form_in written input) seen left result
    → Gives written input seen left at bytes result
gives-ended written input seen left at bytes (Ok None) c e = (c, e)
gives-ended written input seen left at bytes (Ok (Some n)) c e = absurd e
gives-ended written input seen left at bytes (Err fault) c e = inl (c, e)

-- ---- reads

pub length-chunk : (form : Form) (piece bytes : List ℕ) (n : ℕ) → length piece ≡ n
    → length bytes ≡ n → length (chunk_in form piece bytes) ≡ n
length-chunk Hex piece bytes n p b = p
length-chunk Text piece bytes n p b = p
length-chunk Raw piece bytes n p b = b
length-chunk Dump piece bytes n p b = p

pub next-fine : (old new : InputBytes) (state : Worst) (result : Result (Option ℕ) ExplainFault)
    → state ≡ Fine → IsNext old new Fine result → IsNext old new state result
next-fine old new state result fine n = subst (λ s. IsNext old new s result) (sym fine) n

take-none : (n : ℕ) (xs : List ℕ) → n ≡ 0 → take n xs ≡ []
take-none n [] e = ap (λ k. take k []) e
take-none n (x ∷ xs) e = ap (λ k. take k (x ∷ xs)) e

-- a read that gave nothing
pub consumes-end : (before left later : Option (List ℕ)) (seen : List ℕ) (n : ℕ) (buf : List ℕ)
    → n ≡ 0 → Consumes before left seen → Consumes left later (take n buf)
    → Consumes before later seen
consumes-end before left later seen n buf e a b =
    subst (Consumes before later) (append-nil seen)
    (Consumes-trans before left later seen [] a (subst (Consumes left later) (take-none n buf e) b))
