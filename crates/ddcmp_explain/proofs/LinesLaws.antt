-- What a byte, the flush of the page and the last line add to what was reported.
use Rattle.std.proofs.Common.{◌≡◌, ℕ, ◌+◌, ◌-◌, Bool, true, false, List, [], ◌++◌, length, take}
use Rattle.std.proofs.Common.{take_all, drop, sym, ◌∙◌, ap, subst, arith, Option, Result, Ok, Err}
use Rattle.std.proofs.Common.{append_assoc, length-append, length-drop, ◌∷◌, refl}
use Rattle.std.proofs.Math.Seq.{take-add}
use Rattle.std.specs.Prelude.{is_err}
use Rattle.std.specs.List.{flat_map}
use Rattle.std.specs.Io.KnownBytes.{Appends}
use Rattle.std.proofs.KnownBytes.{Appends-nil}
use Rattle.std.proofs.lemmas.List.{append-nil}
use Rattle.ddcmp_frame.specs.Reader.{StandsFor}
use Rattle.ddcmp_frame.specs.Reading.{ReadItem, ending, good_frame_of, good_frames_in, items}
use Rattle.ddcmp_io.specs.Written.{HoldsBy, Holds, HandsOver, Writes}
use Rattle.ddcmp_io.specs.declared.device.WriteFailed.{WriteFailed}
use Rattle.ddcmp_frame.proofs.ReadingLaws.{ending-nothing, items-nothing}
use Rattle.ddcmp_explain.specs.declared.lines.Lines.{Lines}
use Rattle.ddcmp_explain.specs.declared.notation.Notation.{Notation}
use Rattle.ddcmp_io.proofs.TextLaws.{sends-as}
use Rattle.ddcmp_frame.specs.declared.item.Item.{Item}
use Rattle.ddcmp_frame.specs.Step.{item_offset}
use Rattle.ddcmp_explain.specs.declared.head.Head.{Head}
use Rattle.ddcmp_explain.specs.declared.notation.Notation.{Notation}
use Rattle.ddcmp_explain.specs.Output.{line_in}
use Rattle.ddcmp_explain.specs.declared.style.Style.{Style}
use Rattle.ddcmp_explain.specs.Discarded.{Told, behind, lines_in, parts_from, part_lines, passed}
use Rattle.ddcmp_explain.specs.Discarded.{has_frame, reached}
use Rattle.ddcmp_explain.specs.Inside.Heads.{Follows, Heads}
use Rattle.ddcmp_explain.proofs.PartLaws.{added, lines-append, lines_by-given, lines_by-nothing}
use Rattle.ddcmp_explain.proofs.PartLaws.{good-one, no-good, reached-append}
use Rattle.ddcmp_explain.proofs.RestLaws.{follows}
use Rattle.ddcmp_frame.specs.declared.header.Header.{Header}
use Rattle.ddcmp_explain.specs.Inside.Progress.{BeginsWith, HasFound, HasTold, ReachesTo}

pub lines-nothing : (style : Style) (max : ℕ) → lines_in style max [] ≡ []
lines-nothing style max = lines_by-nothing style.discarded style.notation max [] (items-nothing max)

reaches-nothing : (told : Bool) (given : List ReadItem) (offset taken : ℕ) → given ≡ [] → offset ≡ 0
    → taken ≡ 0 → ReachesTo told given offset taken
unfolding reached
reaches-nothing false given offset taken e o t = tt
reaches-nothing true given offset taken e o t = ap (reached 0) e ∙ omega (arith, o, t)

begins-nothing : (told : Bool) (head : Head) (rest : List ℕ) → rest ≡ [] → Heads head []
    → BeginsWith told head rest
begins-nothing false head rest e h = tt
begins-nothing true head rest e h = subst (Heads head) (sym e) h

finds-nothing : (told : Bool) (given : List ReadItem) (is_found : Bool) → given ≡ []
    → is_found ≡ false → HasFound told given is_found
finds-nothing false given is_found e f = tt
finds-nothing true given is_found e f =
    f ∙ sym no-good ∙ ap (λ g. has_frame (good_frames_in g)) (sym e)

pub begun : (max : ℕ) (at : Lines) → StandsFor at.frames [] → at.frames.max ≡ max → at.items ≡ 0
    → at.page ≡ [] → at.reached.offset ≡ 0 → at.reached.taken ≡ 0 → Heads at.head []
    → at.is_found ≡ false
    → (broken : Bool) (start : Option (List ℕ)) → HasTold max start [] at broken start
begun max at s m n e o t head found broken start = record {
  stands = s;
  max_is = m;
  counted = n ∙ sym (ap length (items-nothing max));
  reaches =
      reaches-nothing at.style.discarded (items max []) at.reached.offset at.reached.taken
      (items-nothing max) o t;
  head =
      begins-nothing at.style.discarded at.head (ending max []).rest
      (ap (λ p. p.rest) (ending-nothing max)) head;
  found = finds-nothing at.style.discarded (items max []) at.is_found (items-nothing max) found;
  holds = holds_none broken;
}
  where
    holds_none : (b : Bool) → HoldsBy b start start at.page (lines_in at.style max [])
    holds_none false = ([], Appends-nil start, lines-nothing at.style max ∙ sym e)
    holds_none true = (0, Appends-nil start)

-- what bytes that were pushed leave of a reader that stood for a text
record Pushes (max : ℕ) (text more : List ℕ) (given : List ReadItem) (was at : Lines) : Type 0 where
  max_is : at.frames.max ≡ was.frames.max
  style_is : at.style ≡ was.style
  stands : StandsFor at.frames (text ++ more)
  items_are : items was.frames.max (text ++ more) ≡ items was.frames.max text ++ given
  counted : at.items ≡ was.items + length given

-- bytes were pushed, and the lines of what they gave were handed over
told-more
    : (max : ℕ) (start sink new : Option (List ℕ)) (text more : List ℕ) (given : List ReadItem)
    (was at : Lines) (broken after : Bool)
    → HasTold max start text was broken sink
    → Pushes max text more given was at
    → ReachesTo at.style.discarded (items max (text ++ more)) at.reached.offset at.reached.taken
    → BeginsWith at.style.discarded at.head (ending max (text ++ more)).rest
    → HasFound at.style.discarded (items max (text ++ more)) at.is_found
    → HandsOver (record { broken = broken; sink = sink; waiting = was.page })
    (record { broken = after; sink = new; waiting = at.page })
    (added was.style.discarded was.style.notation (reached 0 (items max text)) given)
    → HasTold max start (text ++ more) at after new
told-more max start sink new text more given was at broken after h p reaches head found sent =
    let grown : items max (text ++ more) ≡ items max text ++ given =
    subst (λ n. items n (text ++ more) ≡ items n text ++ given) h.max_is p.items_are in
    record {
      stands = p.stands;
      max_is = p.max_is ∙ h.max_is;
      counted =
          p.counted ∙ ap (λ n. n + length given) h.counted
          ∙ sym (length-append (items max text) given) ∙ ap length (sym grown);
      reaches = reaches;
      head = head;
      found = found;
      holds =
          subst (λ t. Holds start t (record { broken = after; sink = new; waiting = at.page }))
          (sym (ap (λ n. lines_in n max (text ++ more)) p.style_is
          ∙ lines_by-given was.style.discarded was.style.notation max text more given
          grown))
          (sent.holds start (lines_in was.style max text) h.holds);
    }

-- of items alone
pub told-items
    : (max : ℕ) (start sink new : Option (List ℕ)) (text more : List ℕ) (given : List ReadItem)
    (was at : Lines) (broken after : Bool)
    → HasTold max start text was broken sink
    → was.style.discarded ≡ false
    → at.frames.max ≡ was.frames.max → at.style ≡ was.style → StandsFor at.frames (text ++ more)
    → items was.frames.max (text ++ more) ≡ items was.frames.max text ++ given
    → at.items ≡ was.items + length given
    → HandsOver (record { broken = broken; sink = sink; waiting = was.page })
    (record { broken = after; sink = new; waiting = at.page })
    (flat_map (line_in was.style.notation) given)
    → HasTold max start (text ++ more) at after new
told-items max start sink new text more given was at broken after h off m same stands gave count
    sent =
    let off_too : at.style.discarded ≡ false = ap (λ s. s.discarded) same ∙ off in
    told-more max start sink new text more given was at broken after h
    (record { max_is = m; style_is = same; stands = stands; items_are = gave; counted = count })
    (subst (λ b. ReachesTo b (items max (text ++ more)) at.reached.offset at.reached.taken)
    (sym off_too) tt)
    (subst (λ b. BeginsWith b at.head (ending max (text ++ more)).rest) (sym off_too) tt)
    (subst (λ b. HasFound b (items max (text ++ more)) at.is_found) (sym off_too) tt)
    (subst (λ b. HandsOver (record { broken = broken; sink = sink; waiting = was.page })
    (record { broken = after; sink = new; waiting = at.page })
    (added b was.style.notation (reached 0 (items max text)) given))
    (sym off) sent)

reached-one : (from : ℕ) (given : Item) (lent : List ℕ)
    → reached from ((given, lent) ∷ []) ≡ behind given
unfolding reached
reached-one from given lent = refl

parts-one : (from : ℕ) (given : Item) (lent : List ℕ)
    → parts_from from ((given, lent) ∷ [])
    ≡ passed from (item_offset given) ++ Told (given, lent) ∷ []
unfolding parts_from
parts-one from given lent = refl

part-alone : (notation : Notation) (given : ReadItem)
    → part_lines notation (Told given ∷ []) ≡ line_in notation given
unfolding part_lines
part-alone notation given = append-nil (line_in notation given)

part-nothing : (notation : Notation) (from : ℕ) → part_lines notation (parts_from from []) ≡ []
unfolding part_lines parts_from
part-nothing notation from = refl

module _ (max : ℕ) (start sink new : Option (List ℕ)) (text : List ℕ) (b : ℕ) (was at : Lines)
    (broken after : Bool) (h : HasTold max start text was broken sink)
    (on : was.style.discarded ≡ true) where
  -- how the frame begins that is open after a byte
  open_after
      : ((rest more : List ℕ) → Heads was.head rest → Follows rest b more
      → length (ending max (text ++ b ∷ [])).rest ≡ length more → Heads at.head more)
      → at.style ≡ was.style
      → BeginsWith at.style.discarded at.head (ending max (text ++ b ∷ [])).rest
  open_after follow same =
      let on_too : at.style.discarded ≡ true = ap (λ s. s.discarded) same ∙ on in
      let begins : Heads was.head (ending max text).rest =
      subst (λ t. BeginsWith t was.head (ending max text).rest) on h.head in
      subst (λ t. BeginsWith t at.head (ending max (text ++ b ∷ [])).rest) (sym on_too)
      (follow (ending max text).rest (ending max (text ++ b ∷ [])).rest begins
      (follows max text b) refl)

  here : reached 0 (items max text) ≡ was.reached.offset + was.reached.taken
  here = subst (λ t. ReachesTo t (items max text) was.reached.offset was.reached.taken) on h.reaches

  found_before : was.is_found ≡ has_frame (good_frames_in (items max text))
  found_before = subst (λ t. HasFound t (items max text) was.is_found) on h.found

  -- whether a frame was good
  found_after : (given : List ReadItem) → at.style ≡ was.style
      → items max (text ++ b ∷ []) ≡ given → at.is_found ≡ has_frame (good_frames_in given)
      → HasFound at.style.discarded (items max (text ++ b ∷ [])) at.is_found
  found_after given same grown found =
      subst (λ t. HasFound t (items max (text ++ b ∷ [])) at.is_found)
      (sym (ap (λ s. s.discarded) same ∙ on))
      (found ∙ ap (λ g. has_frame (good_frames_in g)) (sym grown))

  -- a byte gave no item
  pub told-none : at.frames.max ≡ was.frames.max → at.style ≡ was.style
      → StandsFor at.frames (text ++ b ∷ [])
      → items was.frames.max (text ++ b ∷ []) ≡ items was.frames.max text ++ []
      → at.items ≡ was.items
      → at.reached ≡ was.reached
      → at.is_found ≡ was.is_found
      → ((rest more : List ℕ) → Heads was.head rest → Follows rest b more
      → length (ending max (text ++ b ∷ [])).rest ≡ length more → Heads at.head more)
      → HandsOver (record { broken = broken; sink = sink; waiting = was.page })
      (record { broken = after; sink = new; waiting = at.page }) []
      → HasTold max start (text ++ b ∷ []) at after new
  told-none m same stands gave count far found follow sent =
      let on_too : at.style.discarded ≡ true = ap (λ s. s.discarded) same ∙ on in
      let grown : items max (text ++ b ∷ []) ≡ items max text ++ [] =
      subst (λ n. items n (text ++ b ∷ []) ≡ items n text ++ []) h.max_is gave in
      told-more max start sink new text (b ∷ []) [] was at broken after h
      (record {
        max_is =
            m;
        style_is =
            same;
        stands = stands;
        items_are = gave;
        counted = count ∙ omega arith;
      })
      (subst (λ t. ReachesTo t (items max (text ++ b ∷ [])) at.reached.offset at.reached.taken)
      (sym on_too)
      (ap (reached 0) (grown ∙ append-nil (items max text)) ∙ here
      ∙ ap (λ r. r.offset + r.taken) (sym far)))
      (open_after follow same)
      (found_after (items max text) same (grown ∙ append-nil (items max text))
      (found ∙ found_before))
      (subst (λ t. HandsOver (record { broken = broken; sink = sink; waiting = was.page })
      (record { broken = after; sink = new; waiting = at.page })
      (added t was.style.notation (reached 0 (items max text)) []))
      (sym on)
      (sends-as (sym (part-nothing was.style.notation (reached 0 (items max text)))) sent))

  -- a byte gave an item
  pub told-one : (given : Item) (lent : List ℕ) → at.frames.max ≡ was.frames.max
      → at.style ≡ was.style → StandsFor at.frames (text ++ b ∷ [])
      → items was.frames.max (text ++ b ∷ []) ≡ items was.frames.max text ++ (given, lent) ∷ []
      → at.items ≡ was.items + 1
      → at.reached.offset + at.reached.taken ≡ behind given
      → ((frames : List (Header × List ℕ)) → was.is_found ≡ has_frame frames
      → at.is_found ≡ has_frame (frames ++ good_frame_of (given, lent)))
      → ((rest more : List ℕ) → Heads was.head rest → Follows rest b more
      → length (ending max (text ++ b ∷ [])).rest ≡ length more → Heads at.head more)
      → HandsOver (record { broken = broken; sink = sink; waiting = was.page })
      (record { broken = after; sink = new; waiting = at.page })
      (part_lines was.style.notation
      (passed (was.reached.offset + was.reached.taken) (item_offset given))
      ++ line_in was.style.notation (given, lent))
      → HasTold max start (text ++ b ∷ []) at after new
  told-one given lent m same stands gave count far found follow sent =
      let on_too : at.style.discarded ≡ true = ap (λ s. s.discarded) same ∙ on in
      let grown : items max (text ++ b ∷ []) ≡ items max text ++ (given, lent) ∷ [] =
      subst (λ n. items n (text ++ b ∷ []) ≡ items n text ++ (given, lent) ∷ []) h.max_is
      gave in
      let from = reached 0 (items max text) in
      told-more max start sink new text (b ∷ []) ((given, lent) ∷ []) was at broken after h
      (record
      { max_is = m; style_is = same; stands = stands; items_are = gave; counted = count })
      (subst (λ t. ReachesTo t (items max (text ++ b ∷ [])) at.reached.offset at.reached.taken)
      (sym on_too)
      (ap (reached 0) grown ∙ reached-append 0 (items max text) ((given, lent) ∷ [])
      ∙ reached-one from given lent ∙ sym far))
      (open_after follow same)
      (found_after (items max text ++ (given, lent) ∷ []) same grown
      (found (good_frames_in (items max text)) found_before
      ∙ ap has_frame (sym (good-one (given, lent) (items max text)))))
      (subst (λ t. HandsOver (record { broken = broken; sink = sink; waiting = was.page })
      (record { broken = after; sink = new; waiting = at.page })
      (added t was.style.notation from ((given, lent) ∷ [])))
      (sym on)
      (sends-as (sym
      (ap (part_lines was.style.notation) (parts-one from given lent)
      ∙ lines-append was.style.notation (passed from (item_offset given))
      (Told (given, lent) ∷ [])
      ∙ ap (λ t. part_lines was.style.notation (passed from (item_offset given)) ++ t)
      (part-alone was.style.notation (given, lent))
      ∙ ap (λ n. part_lines was.style.notation (passed n (item_offset given))
      ++ line_in was.style.notation (given, lent))
      here))
      sent))

-- a part of a piece, and then more of it
pub taken-more : (text piece : List ℕ) (n k : ℕ)
    → (text ++ take n piece) ++ take k (take (length piece - n) (drop n piece))
    ≡ text ++ take (n + k) piece
taken-more text piece n k =
    let rest = take_all (length piece - n) (drop n piece) (omega (arith, length-drop n piece)) in
    append_assoc text (take n piece) (take k (take (length piece - n) (drop n piece)))
    ∙ ap (λ t. text ++ (take n piece ++ take k t)) rest
    ∙ ap (λ t. text ++ t) (sym (take-add n k piece))

-- where nothing waits all was written, or a beginning of it
pub written
    : (start sink : Option (List ℕ)) (text waiting : List ℕ) (broken : Bool)
    (result : Result (Unit {0}) WriteFailed)
    → HoldsBy broken start sink waiting text → waiting ≡ [] → broken ≡ is_err result
    → Writes start sink result text
written start sink text waiting broken (Ok u) h e b =
    let held = subst (λ x. HoldsBy x start sink waiting text) b h in
    subst (Appends start sink) (sym (held.2 ∙ ap (λ w. held.0 ++ w) e ∙ append-nil held.0)) held.1
written start sink text waiting broken (Err f) h e b =
    subst (λ x. HoldsBy x start sink waiting text) b h
