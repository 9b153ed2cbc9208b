-- Parts of items that come after others, and their lines.
use Rattle.std.proofs.Common.{◌≡◌, ℕ, ◌<◌, arith, length, Bool, true, false, List}
use Rattle.std.proofs.Common.{[], ◌∷◌, ◌++◌, refl, sym, ◌∙◌, ap, append_assoc, Some, None}
use Rattle.std.specs.List.{flat_map}
use Rattle.std.proofs.lemmas.Grind.{flat_map-append}
use Rattle.ddcmp_frame.specs.Reading.{ReadItem, Place, good_frame_of, good_frames_in, items}
use Rattle.ddcmp_frame.specs.Step.{item_offset}
use Rattle.ddcmp_explain.specs.declared.notation.Notation.{Notation}
use Rattle.ddcmp_explain.specs.declared.skipped.Skipped.{Skipped}
use Rattle.ddcmp_explain.specs.Output.{lines, line_in}
use Rattle.ddcmp_explain.specs.Discarded.{Part, Told, behind, passed, parts_from, reached}
use Rattle.ddcmp_explain.specs.Discarded.{part_line, part_lines, lines_by, open_header, open_text}
use Rattle.ddcmp_explain.specs.Discarded.{has_frame, opened, passed_text, skipped_parts}
use Rattle.std.proofs.lemmas.List.{append-nil}
use Rattle.ddcmp_frame.proofs.Tests.{ltb-is, ltb-isnt}

pub parts-append : (at : ℕ) (xs ys : List ReadItem)
    → parts_from at (xs ++ ys) ≡ parts_from at xs ++ parts_from (reached at xs) ys
unfolding parts_from reached
parts-append at [] ys = refl
parts-append at (x ∷ xs) ys =
    ap (λ t. passed at (item_offset x.0) ++ Told x ∷ t) (parts-append (behind x.0) xs ys)
    ∙ sym (append_assoc (passed at (item_offset x.0)) (Told x ∷ parts_from (behind x.0) xs)
    (parts_from (reached (behind x.0) xs) ys))

pub reached-append : (at : ℕ) (xs ys : List ReadItem)
    → reached at (xs ++ ys) ≡ reached (reached at xs) ys
unfolding reached
reached-append at [] ys = refl
reached-append at (x ∷ xs) ys = reached-append (behind x.0) xs ys

pub lines-append : (notation : Notation) (xs ys : List Part)
    → part_lines notation (xs ++ ys) ≡ part_lines notation xs ++ part_lines notation ys
unfolding part_lines
lines-append notation xs ys = flat_map-append (part_line notation) xs ys

-- what items that come after others add to the lines
abbrev pub added : Bool → Notation → ℕ → List ReadItem → List ℕ
added false notation at given = flat_map (line_in notation) given
added true notation at given = part_lines notation (parts_from at given)

pub lines_by-given
    : (told : Bool) (notation : Notation) (max : ℕ) (text more : List ℕ) (given : List ReadItem)
    → items max (text ++ more) ≡ items max text ++ given
    → lines_by told notation max (text ++ more)
    ≡ lines_by told notation max text ++ added told notation (reached 0 (items max text)) given
unfolding lines
lines_by-given false notation max text more given e =
    ap (flat_map (line_in notation)) e ∙ flat_map-append (line_in notation) (items max text) given
lines_by-given true notation max text more given e =
    ap (λ t. part_lines notation (parts_from 0 t)) e
    ∙ ap (part_lines notation) (parts-append 0 (items max text) given)
    ∙ lines-append notation (parts_from 0 (items max text))
    (parts_from (reached 0 (items max text)) given)

pub lines_by-nothing : (told : Bool) (notation : Notation) (max : ℕ) (text : List ℕ)
    → items max text ≡ [] → lines_by told notation max text ≡ []
unfolding lines part_lines parts_from
lines_by-nothing false notation max text e = ap (flat_map (line_in notation)) e
lines_by-nothing true notation max text e = ap (λ t. part_lines notation (parts_from 0 t)) e

-- ---- good frames

pub good-one : (given : ReadItem) (xs : List ReadItem)
    → good_frames_in (xs ++ given ∷ []) ≡ good_frames_in xs ++ good_frame_of given
unfolding good_frames_in
good-one given [] = append-nil (good_frame_of given)
good-one given (x ∷ xs) =
    ap (λ t. good_frame_of x ++ t) (good-one given xs)
    ∙ sym (append_assoc (good_frame_of x) (good_frames_in xs) (good_frame_of given))

pub no-good : has_frame (good_frames_in []) ≡ false
unfolding good_frames_in
no-good = refl

-- ---- single parts

pub skipped-some : (notation : Notation) (it : Skipped)
    → part_lines notation (skipped_parts (Some it)) ≡ passed_text notation it.from it.count
unfolding part_lines
skipped-some notation it = append-nil (passed_text notation it.from it.count)

pub skipped-none : (notation : Notation) → part_lines notation (skipped_parts None) ≡ []
unfolding part_lines
skipped-none notation = refl

pub opened-some : (notation : Notation) (p : Place) → 0 < length p.rest
    → part_lines notation (opened p)
    ≡ open_text notation p.offset (open_header p.rest) (length p.rest)
unfolding part_lines
opened-some notation p l =
    rw (ltb-is 0 (length p.rest) l)
    (append-nil (open_text notation p.offset (open_header p.rest) (length p.rest)))

pub opened-none : (notation : Notation) (p : Place) → length p.rest ≡ 0
    → part_lines notation (opened p) ≡ []
unfolding part_lines
opened-none notation p l = rw (ltb-isnt 0 (length p.rest) (omega (arith, l))) refl
