-- `closed` makes a handle with no reader.
use Rattle.std.proofs.Common.{◌≡◌, List, [], ◌∷◌, ◌++◌, refl, sym, subst}
use mir.Val.{Val}
use base.Logic.{SProp, ent, emp, id⊢}
use base.Fml.{ftrue}
use prog.Wp.{WpFn}
use types.Kit.{‵, raw, ◌⊛◌, ◌$◌, ◌∵◌, !, qed, by, move, keep, split, fsplit, fjoin, suffices, use0}
use types.Run.{lit, no_more, and_then, returns, enter}
use types.ByLocal.{alloc_all, pass_all, free_all, look_at, get, sets}
use types.Part.{agg}
use contract.Monad.{fact, fact_i}
use contract.Running.{tables}
use denote.Exit.{yes}
use denote.RattleType.{owns}
use denote.Signature.{types_at, plain}
use denote.RawPtr.{null_ptr, ptr_val}
use denote.Steps.{nothing}
use denote.Triple.Walked.{Stays, stay_dropped, walk_of, Goes-dropped}
use Rattle.std.proofs.alloc.Calls.{handle_tells}
use Rattle.std.proofs.raw_atomic.Walks.{proved_at, leaves}
use Rattle.std.specs.Prelude.{Option, None}
use Rattle.ddcmp_frame.specs.Reader.{ReaderView}
use Rattle.ddcmp_c.proofs.LooseValues.{both}
use Rattle.ddcmp_c.proofs.OwnedValues.{Z, al, handle_good}
use Rattle.ddcmp_c.proofs.ReaderHandleValues.{handle_in}
use Rattle.ddcmp_c.specs.contracts.reader_handle.ReaderHandle.closed.{ended, clauses}
use Rattle.ddcmp_c.specs.contracts.reader_handle.ReaderHandle.closed.Key.{name as #self}
use Rattle.ddcmp_c.proofs.reader_handle.ReaderHandle.closed.Statement.{statement}
use Rattle.ddcmp_c.proofs.reader_handle.ReaderHandle.closed.Code as code

abbrev Same : Option ReaderView → Option ReaderView → Type 0
Same s t = s ≡ t

pub closed_spec : {M : Type 1} → statement M
closed_spec 𝓤 𝓛 𝓜 𝓡 wired =
    let H' = 𝓛.H in let 𝓣 = tables 𝓤 H' 𝓜 𝓡 𝓡.env in let c = clauses 𝓛 𝓜.mem 𝓡.returns in
    let fn = code.function in
    let hs : Stays ended.signature.params ended.kept = (stay_dropped (plain (λ _. Z)) yes, tt) in
    proved_at 𝓛 ended hs c 𝓜 𝓡 (Goes-dropped 𝓛 0 (plain (λ _. Z)) yes (λ κs x f. refl), tt) #self fn
    (code.unfolded 𝓤 H' 𝓜 𝓡 wired) (λ z are.
    let a = z.0.3.0 in let Post : Val → SProp 𝓤 = (walk_of 𝓛 ended hs c).post z in
    let Run : List Val → SProp 𝓤 = λ ws. WpFn 𝓤 H' 𝓣.C 𝓣.Λ fn ws Post in
    qed 𝓛
    ((‵ ftrue ⊛ ‵ (owns (types_at ended.signature.params z.0.0) z.0.3 z.0.4))
    ∷ raw ((c z.0.0 z.0.3).requires z.1) ∷ []) ∵ split ! $ move ! (1 ∷ []) $ fsplit ! $
    handle_tells al ! a z.0.4.0
    (λ h ws fits. let w : Val = both (ptr_val null_ptr) h in
    let typed = handle_good null_ptr h fits in
    suffices ! (Run (h ∷ []))
    (subst (λ (us : List Val). ent 𝓤 (Run (h ∷ [])) (Run us)) (sym (λ i. ws i ++ []))
    (id⊢ 𝓤 (Run (h ∷ [])))) $
    enter ! 𝓣.C 𝓣.Λ fn (h ∷ []) Post $ alloc_all ! (λ l. pass_all ! refl (fits, tt) $
    sets ! (agg ! (and_then ! (lit ! tt) (and_then ! (get ! refl) (no_more !)))) refl typed $
    use0 𝓛 (‵ ftrue) (id⊢ 𝓤 _) $ handle_in ! null_ptr h a None
    $ use0 𝓛 (raw (fact 𝓤 (Same None None))) (fact_i 𝓤 (Same None None) (emp 𝓤) refl)
    $ nothing ! $ nothing ! $ fjoin ! $
    returns ! (look_at ! 0 refl) $ free_all ! refl $ keep ! (4 ∷ 0 ∷ 2 ∷ 1 ∷ [])
    $ by !
    (leaves 𝓛 ended hs c z w (record { at = null_ptr; alloc = a; reader = None }) (tt, tt)
    (tt, tt)))))
