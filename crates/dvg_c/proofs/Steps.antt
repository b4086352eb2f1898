-- Names that walks cite, and what two of them share.
pub use Rattle.std.proofs.Common.{◌≡◌, ℕ, List, [], ◌∷◌, refl, sym, ap, ◌∙◌, lit<, MutBor}
pub use Rattle.std.proofs.raw_atomic.Walks.{proved}
pub use base.Fraction.{full_share}
pub use base.Logic.{id⊢}
pub use base.Fml.{ftrue, flft}
pub use mir.Syntax.{named}
pub use mir.Val.{Val, vunit, vint}
pub use contract.Monad.{fact}
pub use contract.Running.{tables}
pub use types.Kit.{‵, raw, ◌⊛◌, some, later, prop, at_ret, Sq, ◌$◌, ◌∵◌, !, qed, done, move, keep, drop, use0, use1, use2, use3, split, join, fsplit, fsplit3, fjoin, feq_i, feq_l, pick, await, rewrite, regoal, suffices, frame, group}
pub use types.Run.{enter, of_opd, lit, unit_lit, addr, store, stop, fld, no_more, and_then, assigns, first, exec, returns}
pub use types.ByLocal.{alloc_all, pass_all, free_all, look_at, get, through, sets, lands_as, env}
pub use denote.Builtin.{unit}
pub use denote.Exit.{yes}
pub use denote.Laws.{shows}
pub use denote.Plain.{uint_Makes, uint_vals, uint_Tells}
pub use denote.RawPtr.{Ptr, RawPtr, block_ptr, in_a_block, rawptr_vals, rawptr_Tells}
pub use denote.Ref.{MutRef, mut_vals, mut_Tells}
pub use denote.Signature.{plain}
pub use denote.Steps.{nothing, owned, opens, closes, heard, peeks, only}
pub use denote.Triple.Call.{calls_at}
pub use denote.Triple.Clauses.{lasts, ensured}
pub use denote.Triple.Entry.{on_entry}
pub use denote.Triple.Spec.{triple_of}
pub use denote.Triple.Walked.{Stays, walk_of, says, stay_dropped, Goes-dropped, stay_ref, Goes-ref, ends_at}
pub use denote.Triple.Table.{framed}
use seplogic.Ra.Ura.{Ura}
use prog.Routine.{Env}
use prog.Wired.{Wired}
use prog.Model.{Model}
use contract.Running.{Running}
use mathlib.Core.List.{◌++◌}
use mir.Val.{vcons, vnil, of_list}
use types.Kit.{Goal, Item, Seq, Step, step, fpick, show}
use contract.BorrowLft.{◌⊑◌, ⊑_static}
use contract.Monad.{fact_i}
use types.Match.{live}
use mir.Raw.{raw as bare}
use mir.Syntax.{Dict, impl, method, no_args, tcons, tnil, dnil}
use base.Fml.{fsep}
use base.Logic.{ent, emp, emp∗, ex, sep, never, fst∗}
use types.Logic.{Logic, sem}
use denote.Exit.{no}
use denote.Memory.{lone}
use denote.Param.{arg, layout}
use denote.Param.Glue.{Bound, Met}
use denote.Param.NoDrop.{glues}
use denote.Param.Laws.{arg_laws}
use denote.RattleType.{RattleType}
use denote.RawPtr.{null_ptr}
use denote.Triple.Carry.{beside, spared}
use denote.Triple.Spec.{Spec}
use denote.Triple.Table.{run_framed, widened}
use Rattle.std.proofs.BoxSteps.Form.{Bx, B, D, word}
use Rattle.std.proofs.BoxSteps.Steps.{box_out, box_in}
use Rattle.std.proofs.alloc.Calls.{Fits}
use Rattle.std.specs.Prelude.{Option, Some, None, IfSome}
use Rattle.std.specs.contracts.option.Option as option
use Rattle.std.specs.contracts.alloc.Global as heap
use Rattle.std.proofs.alloc.Global.TheLaws as heap_laws
use Rattle.std.specs.contracts.impls.GlobalAllocator.TheImpl.{ghosts, dict}
use Rattle.dvg_c.specs.Owning.{frees, owned as has}
use Rattle.dvg_c.proofs.Destruct++none.drop.Symbol as none
use Rattle.dvg_c.proofs.Destruct++none.drop.Code as none_code
use Rattle.dvg_c.specs.contracts.dvg_device++device++Device+Destruct.drop as dropped
use Rattle.dvg_c.proofs.dvg_device++device++Device+Destruct.drop.Symbol as drop
use Rattle.dvg_c.proofs.dvg_device++device++Device+Destruct.drop.Met as drop_met
use Rattle.dvg_c.specs.Owning.{IsNew}
use Rattle.dvg_device.specs.Devices.{Held}
use Rattle.dvg_device.specs.contracts.device.Device.{the_row}
use Rattle.dvg_device.proofs.device.Device.TheLaws.{the_row_laws}

-- no device lies at null
pub nowhere : {M : Type 1} {𝓤 : Ura M} (𝓛 : Logic 𝓤) (device : Held) → ent 𝓤 (sem 𝓛 (has null_ptr device)) (never 𝓤)
nowhere {𝓤 = 𝓤} 𝓛 device = fst∗ 𝓤 (never 𝓤) (sem 𝓛 (frees (bare (lone the_row.mir)) null_ptr))

-- the device and the heap as a call passes them, and a box of the one from the other
abbrev passed : RattleType → RattleType
passed R = arg (bare (layout R)) no R

abbrev pub boxed : Bx
boxed = record {
  row = passed the_row;
  laws = arg_laws (bare (layout the_row)) no the_row the_row_laws refl;
  al = record {
    row = passed heap.the_row;
    laws = arg_laws (bare (layout heap.the_row)) no heap.the_row heap_laws.the_row_laws refl;
    g = ghosts;
    d = dict;
    drops = impl (none.symbol ∷ []) (tcons (bare (layout heap.the_row)) tnil) dnil;
  };
}

-- letting go of the heap's handle does nothing
pub heap_goes : (γ : Env) → Wired γ none.code → Bound γ boxed.al.row boxed.al.drops
unfolding none_code.code
heap_goes γ wired = glues none.symbol γ wired boxed.al.row boxed.al.laws

-- the device is let go by its own drop
abbrev pub gone : Dict
gone = impl (drop.symbol ∷ []) tnil dnil

module _ {M : Type 1} (𝓤 : Ura M) (𝓛 : Logic 𝓤) (𝓜 : Model 𝓤 𝓛.H) (𝓡 : Running 𝓤 𝓛.H 𝓜) where
  abbrev spent : Spec 𝓤 dropped.signature
  spent κs a = record { ghost = Unit {0}; requires = λ _. emp 𝓤; ensures = λ _ r. ex 𝓤 (λ (ws : Unit {0} × Unit {0}). sep 𝓤 (sem 𝓛 (fsep ftrue ftrue)) (emp 𝓤)) }

  pub device_goes : Wired 𝓡.env drop.code → Met 𝓛 𝓜 𝓡 𝓡.env boxed.row gone
  device_goes wired =
      let k = method gone 0 no_args in let run = 𝓡.run (𝓡.env k) in let framed = run_framed 𝓤 𝓛.H 𝓜 𝓡 (𝓡.env k) in let said = dropped.spec 𝓛 𝓜.mem 𝓡.returns in
      spared 𝓛 dropped.signature run framed 1 (the_row.lives, tt) spent
      (beside 𝓛 dropped.signature run framed said spent (λ κs a x. x) (λ κs a x. emp 𝓤) (λ κs a x. emp∗ 𝓤 (emp 𝓤))
      (λ κs a x r. qed 𝓛 (raw ((said κs a).ensures x r) ∷ raw (emp 𝓤) ∷ []) ∵ keep ! [] $ show ! (λ (ws : Unit {0} × Unit {0}). sep 𝓤 (sem 𝓛 (fsep ftrue ftrue)) (emp 𝓤)) (tt, tt) $ nothing ! $ nothing ! $ nothing ! $ join ! $ done !)
      (widened 𝓤 𝓛.H (triple_of 𝓛 dropped.signature said) 𝓜 𝓡 𝓡.env (𝓡.env drop.name) (𝓡.env k) (drop.as_method 𝓡.env wired k refl) (drop_met.met 𝓤 𝓛 𝓜 𝓡 wired)))

module _ {M : Type 1} {𝓤 : Ura M} {𝓛 : Logic 𝓤} {K : Type 0} {Γ : List (Item 𝓤)} {G : Goal 𝓤 𝓛.H} where
  -- what a call at two types asks of their lifetimes is had for nothing: they are `'static`
  pub statics : K → Step K 𝓛 ((‵ (flft [] full_share) ⊛ ‵ (flft [] full_share) ⊛ ‵ ftrue) ∷ Γ) G Γ G
  statics t = step (λ s. nothing t $ use0 𝓛 (‵ (flft [] full_share)) (𝓛.lfts.lft-nil full_share) $ join t $ use0 𝓛 (‵ (flft [] full_share)) (𝓛.lfts.lft-nil full_share) $ join t $ s)

  pub outlives : K → {i : Item 𝓤} → Step K 𝓛 ((raw (fact 𝓤 ([] ⊑ [])) ⊛ raw (fact 𝓤 ([] ⊑ [])) ⊛ i) ∷ Γ) G (i ∷ Γ) G
  outlives t = step (λ s. use0 𝓛 (raw (fact 𝓤 ([] ⊑ []))) (fact_i 𝓤 ([] ⊑ []) (emp 𝓤) (⊑_static [])) $ join t $ use0 𝓛 (raw (fact 𝓤 ([] ⊑ []))) (fact_i 𝓤 ([] ⊑ []) (emp 𝓤) (⊑_static [])) $ join t $ s)

  -- the two cases of what `made` answered: a box with a new device, or none
  pub boxed_or_none : K → (m : Option (D boxed)) (v : Val) → IfSome m (λ x. IsNew x.value)
      → ((x : D boxed) (b o : ℕ) (h : Val) → IsNew x.value → v ≡ live 1 (vcons (word boxed h b o) vnil) → Fits boxed.al h → Seq K 𝓛 (‵ ((B boxed).own_val x (word boxed h b o ∷ [])) ∷ Γ) G)
      → (v ≡ live 0 vnil → Seq K 𝓛 Γ G) → Seq K 𝓛 (‵ ((option.the_row (B boxed)).own_val m (v ∷ [])) ∷ Γ) G
  boxed_or_none t (Some x) v new given missing = fpick t (λ us. fsplit t $ feq_l t (λ e. fpick t (λ vss. fsplit t $ feq_l t (λ e'. fsplit t $ move t (1 ∷ []) $ drop t $
      box_out boxed t x vss.0 (λ b o h at is fits. box_in boxed t x b o x.value at refl $ given x b o h new (ap only (e ∙ ap (λ (ws : List Val). live 1 (of_list ws) ∷ []) (e' ∙ ap (λ (ws : List Val). ws ++ []) is))) fits)))))
  boxed_or_none t None v new given missing = fpick t (λ us. fsplit t $ feq_l t (λ e. fpick t (λ vss. fsplit t $ feq_l t (λ e'. drop t $ missing (ap only (e ∙ ap (λ (ws : List Val). live 0 (of_list ws) ∷ []) e'))))))
