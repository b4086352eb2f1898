-- `dvg_turn` lends what lies behind the pointer for the call, and gives it back.
use Rattle.dvg_c.proofs.Steps.{ℕ, [], ◌∷◌, refl, MutBor, proved, full_share, id⊢, ftrue, flft, named, fact, tables, ‵, raw, ◌⊛◌, some, later, prop, ◌$◌, ◌∵◌, !, qed, done, drop, move, keep, use1, use2, use3, split, join, fsplit, fjoin, pick, await, suffices, frame, group, regoal, enter, of_opd, addr, stop, no_more, and_then, returns, alloc_all, pass_all, free_all, look_at, get, through, sets, lands_as, yes, nowhere, shows, uint_Makes, uint_vals, uint_Tells, Ptr, RawPtr, block_ptr, in_a_block, rawptr_vals, rawptr_Tells, MutRef, plain, nothing, owned, heard, says, peeks, on_entry, calls_at, lasts, triple_of, Stays, walk_of, stay_dropped, Goes-dropped, ends_at, framed}
use mathlib.Core.List.{◌++◌}
use mir.Syntax.{w64}
use mir.Val.{vptr}
use prog.Wp.{WpFn}
use base.Fml.{flent}
use base.Logic.{sep}
use types.Logic.{sem}
use types.Kit.{show}
use types.SemTy.{Body}
use types.Tokens.{lft_new, lft_end}
use denote.Builtin.{u64}
use denote.Laws.{Is}
use denote.Lend.{lends_ref, ref_back}
use denote.Memory.{mem, part_at}
use denote.Plain.{uint_Lawful}
use Rattle.dvg_c.specs.Owning.{owned as has}
use Rattle.dvg_device.specs.Devices.{Held, Turned}
use Rattle.dvg_device.specs.contracts.device.Device.{the_row as R}
use Rattle.dvg_c.specs.contracts.dvg_turn as f
use Rattle.dvg_c.proofs.dvg_turn.Statement.{statement}
use Rattle.dvg_c.proofs.dvg_turn.Code as code
use Rattle.dvg_c.proofs.dvg_turn.Code.{calls-dvg_device::device::Device::turn as calls-turn}
use Rattle.dvg_device.specs.contracts.device.Device.turn as g
use Rattle.dvg_device.proofs.device.Device.turn.Met.{met}

abbrev stayed : Stays f.ended.signature.params f.ended.kept
stayed = (stay_dropped _ yes, (stay_dropped _ yes, tt))

pub dvg_turn_spec : {M : Type 1} → statement M
dvg_turn_spec 𝓤 𝓛 𝓜 𝓡 wired =
    let c = f.clauses 𝓛 𝓜.mem 𝓡.returns in let W = walk_of 𝓛 f.ended stayed c in let 𝓣 = tables 𝓤 𝓛.H 𝓜 𝓡 𝓡.env in
    proved 𝓛 f.ended stayed c 𝓜 𝓡 (Goes-dropped 𝓛 0 (plain (λ _. RawPtr)) yes (λ κs x w. refl), (Goes-dropped 𝓛 0 (plain (λ _. u64)) yes (λ κs x w. refl), tt))
    f.Key.name code.function (code.unfolded 𝓤 𝓛.H 𝓜 𝓡 wired)
    (λ κs. (rawptr_vals, (uint_vals w64, tt))) (λ κs. (rawptr_Tells, (uint_Tells w64, tt))) (λ κs qs bounds a n are.
    let by = a.1.0 in
    let y : Ptr → W.Ghost = λ p. ((κs, qs, bounds, (p, (by, tt)), (rawptr_vals p, (uint_vals w64 by, tt))), n) in
    qed 𝓛 (raw (on_entry 𝓛 f.signature κs qs a (y a.0).0.4) ∷ ‵ (has a.0 n) ∷ []) ∵ drop ! $
    in_a_block ! a.0 (λ p. has p n) (nowhere 𝓛 n) (λ b o e.
    regoal ! (λ p. prop (WpFn 𝓤 𝓛.H 𝓣.C 𝓣.Λ code.function (rawptr_vals p ++ (uint_vals w64 by ++ [])) (W.post (y p)))) e refl $ fsplit ! $
    -- [the device; the right to free its block]
    enter ! _ _ _ _ _ $ alloc_all ! (λ l. pass_all ! refl ((tt, tt), ((tt, record { fits = are.1.0.1 }), tt)) $
    sets ! (of_opd ! (get ! refl)) refl (tt, tt) $
    sets ! (addr ! (through ! refl (stop !))) refl (tt, tt) $
    lft_new ! tt (λ α. let κ = α ∷ [] in move ! (1 ∷ []) $
    use1 𝓛 (later (some (λ (γ : ℕ). ‵ ((MutRef (named 0) κ R).own_val (record { ref_ptr = (b, o); ghost_name = γ; now = n }) (vptr b o ∷ [])) ⊛ ‵ (flent κ (Body (mem R) b o γ)))))
    (lends_ref 𝓛 R (named 0) κ n b o) $ await ! tt $ pick ! (λ γ. split ! $
    -- [the loan; what the lender keeps; the token of α; the right to free]
    let r : MutBor R.Denot = record { ref_ptr = (b, o); ghost_name = γ; now = n } in
    let G = triple_of 𝓛 g.signature (g.spec 𝓛 𝓜.mem 𝓡.returns) in
    let z : G.Ghost = (((κ, tt), (full_share, tt), tt, (r, (by, tt)), (vptr b o ∷ [], (uint_vals w64 by, tt))), tt) in
    nothing ! $ owned ! u64 (Is u64) (uint_Makes 𝓛 w64) by _ (refl, are.1.0.1) $ fjoin ! $ move ! (1 ∷ 0 ∷ []) $ fjoin ! $
    nothing ! $ move ! (3 ∷ 0 ∷ []) $ join ! $ join ! $
    nothing ! $ move ! (1 ∷ 0 ∷ []) $ use2 𝓛 (raw (G.pre z)) (id⊢ 𝓤 _) $
    calls_at ! (framed 𝓤 𝓛.H 𝓜 𝓣) G (met 𝓤 𝓛 𝓜 𝓡 (calls-turn 𝓡.env wired)) z
    (and_then ! (get ! refl) (and_then ! (get ! refl) (no_more !))) (λ v.
    use1 𝓛 (later (some (λ (u : ℕ). ((‵ (flft κ full_share) ⊛ ‵ ftrue) ⊛ ‵ (u64.own_val u (v ∷ []))) ⊛
    some (λ (ws : Held × (Unit {0} × Unit {0})). ‵ (lasts g.ended z.0.0 z.0.3 ws) ⊛ raw (fact 𝓤 (Turned n by ws.0 u)))))) (id⊢ 𝓤 _) $
    await ! tt $ pick ! (λ u. split ! $ split ! $ split ! $ lft_end ! tt $ move ! (2 ∷ []) $
    peeks ! u64 (Is u64) (shows 𝓛 u64) u (v ∷ []) (λ is. lands_as ! refl refl ((uint_Lawful 𝓛 w64).typed u _ is).0 $
    move ! (3 ∷ []) $ pick ! (λ ws. split ! $ move ! (1 ∷ []) $ heard ! (Turned n by ws.0 u) (λ turned. fsplit ! $ fsplit ! $
    -- [the loan's last value; its borrow; the other; the result; α is over; nothing; what the lender keeps; the right to free]
    move ! (4 ∷ 6 ∷ 0 ∷ []) $ use3 𝓛 (later (‵ (part_at R full_share ws.0 b o))) (ref_back 𝓛 R κ γ ws.0 b o) $ await ! tt $
    returns ! (look_at ! 0 refl) $ free_all ! refl $ keep ! (0 ∷ 5 ∷ 3 ∷ []) $ fjoin ! $ move ! (1 ∷ 0 ∷ []) $
    suffices ! _ (ends_at 𝓛 f.ended stayed c (y (block_ptr b o)) v u (tt, (tt, tt)) (tt, (tt, tt))) $
    nothing ! $ nothing ! $ join ! $ nothing ! $ join ! $ nothing ! $ group ! 3 $ frame ! $
    show ! (λ (m : Held). sep 𝓤 (sem 𝓛 (has (block_ptr b o) m)) (fact 𝓤 (Turned n by m u))) ws.0 $ says ! turned $ done !))))))))))
