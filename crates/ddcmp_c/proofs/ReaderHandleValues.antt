-- The machine values of a reader's handle. Assumes `Logic`.
use Rattle.std.proofs.Common.{◌≡◌, List, [], ◌∷◌, ◌++◌, refl, subst}
use seplogic.Ra.Ura.{Ura}
use mir.Val.{Val, vstruct, of_list}
use types.Logic.{Logic}
use types.Kit.{Item, Goal, Seq, Step, step, ‵, ◌$◌, move, drop, fsplit, fjoin, fpick, fpack, feq_i}
use types.Kit.{feq_l}
use denote.RattleType.{RattleType, Valss}
use denote.Builtin.{RawPtr}
use denote.RawPtr.{Ptr, ptr_val}
use denote.Steps.{nothing}
use denote.Param.{layout}
use denote.Struct.Struct.{within}
use denote.Struct.Owning.{shape, to}
use Rattle.std.proofs.alloc.Calls.{handle_tells}
use Rattle.std.proofs.cell.Inside.{Good}
use Rattle.std.specs.Prelude.{Option}
use Rattle.ddcmp_frame.specs.Reader.{ReaderView}
use Rattle.ddcmp_frame.specs.contracts.reader.Reader as reader
use Rattle.ddcmp_c.specs.Owned.{reader_handle_owns}
use Rattle.ddcmp_c.specs.contracts.reader_handle.ReaderHandle as handle
use Rattle.ddcmp_c.proofs.LooseValues.{both}
use Rattle.ddcmp_c.proofs.OwnedValues.{Z, al}

abbrev pub R : RattleType
R = reader.the_row

abbrev pub H : RattleType
H = handle.the_row

module _ {M : Type 1} {𝓤 : Ura M} {𝓛 : Logic 𝓤} {K : Type 0} {Γ : List (Item 𝓤)} {G : Goal 𝓤 𝓛.H}
  where
    pub handle_out : K → (d : H.Denot) (vs : List Val)
        → ((h : Val) → vs ≡ both (ptr_val d.at) h ∷ [] → Good (layout Z) h
        → Seq K 𝓛
        (‵ (reader_handle_owns d.alloc d.at d.reader) ∷ ‵ (Z.own_val d.alloc (h ∷ [])) ∷ Γ) G)
        → Seq K 𝓛 (‵ (H.own_val d vs) ∷ Γ) G
    handle_out t d vs k =
        fsplit t
        $ fpick t
        (λ vss. fsplit t
        $ feq_l t
        (λ ev. fsplit t
        $ feq_l t
        (λ ep. fsplit t
        $ handle_tells al t d.alloc vss.1.0
        (λ h ea fits. move t (1 ∷ []) $ drop t $ move t (1 ∷ []) $
        k h
        (subst (λ (ws : List Val). vs ≡ vstruct (of_list (ptr_val d.at ∷ (ws ++ []))) ∷ []) ea
        (subst (λ (ps : List Val). vs ≡ vstruct (of_list (ps ++ (vss.1.0 ++ []))) ∷ []) ep ev))
        fits))))

    pub handle_in : K → (p : Ptr) (h : Val) (a : Z.Denot) (s : Option ReaderView)
        → Step K 𝓛
        (‵ (H.own_val (record { at = p; alloc = a; reader = s }) (both (ptr_val p) h ∷ [])) ∷ Γ) G
        (‵ (reader_handle_owns a p s) ∷ ‵ (Z.own_val a (h ∷ [])) ∷ Γ) G
    handle_in t p h a s = step (λ c. let v : Val = both (ptr_val p) h in
        nothing t $ move t (2 ∷ 0 ∷ []) $ fjoin t
        $ feq_i t (List Val) (ptr_val p ∷ []) (ptr_val p ∷ []) refl $ fjoin t
        $ feq_i t (List Val) (v ∷ []) (v ∷ []) refl $ fjoin t $
        fpack t (Valss (RawPtr ∷ Z ∷ []))
        (within (shape handle.the_type)
        (to handle.the_type (record { at = p; alloc = a; reader = s })) (v ∷ []))
        (ptr_val p ∷ [], (h ∷ [], tt)) $ fjoin t $ c)
