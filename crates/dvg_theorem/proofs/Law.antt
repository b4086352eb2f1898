-- A checked frame that nobody writes to: no run breaks, and the runs that end are the picture.
use Rattle.std.proofs.Common.{◌≡◌, ◌≢◌, ℕ, cond, suc, ◌+◌, ◌<◌, ◌≤◌, ◌⊎◌, inl, inr, ⊎_elim, List, [], ◌∷◌, ◌++◌, length, Option, Some, None, refl, sym, ap, ◌∙◌, subst, arith, append-nil}
use Rattle.std.specs.Prelude.{slice_get}
use Rattle.dvg_code.specs.declared.instr.Instr.{Instr}
use Rattle.dvg_code.specs.declared.instr.Instr.TheVariants.{Labs, Jmpl}
use Rattle.dvg_code.specs.Spelling.{IsFirst, word_count}
use Rattle.dvg_mem.specs.declared.half.Half.{Half}
use Rattle.dvg_mem.specs.declared.half.Half.TheVariants.{H0, H1}
use Rattle.dvg_frame.proofs.Sizes.{closed_fits}
use Rattle.std.proofs.lemmas.Bool.{lt-ltb, le-ltb}
use Rattle.dvg_mem.specs.Areas.{base}
use Rattle.dvg_mem.specs.Memory.{fetched}
use Rattle.dvg_gen.specs.declared.beam.Beam.{Beam}
use Rattle.dvg_gen.specs.declared.stroke.Stroke.{Stroke}
use Rattle.dvg_gen.specs.declared.taken.GenFault.{GenFault}
use Rattle.dvg_gen.specs.Drawing.{moved, drawn}
use Rattle.dvg_code.specs.Acts.{Act, Moves, Jumps, Calls, Returns, Halts, act_of}
use Rattle.dvg_gen.specs.Run.{Visit, on, next, wanted, Goes, Finished, Breaks, fate, strokes, Runs}
use Rattle.dvg_frame.specs.declared.op.OpKind.{OpKind}
use Rattle.dvg_frame.specs.declared.op.OpKind.TheVariants.{Draw}
use Rattle.dvg_frame.specs.declared.place.Place.{Place}
use Rattle.dvg_frame.specs.declared.place.Place.TheVariants.{InFrame}
use Rattle.dvg_frame.specs.Layout.{at}
use Rattle.dvg_frame.specs.declared.fault.FrameFault.TheVariants.{NoCaller}
use Rattle.dvg_frame.specs.Steps.{Stands, in_frame, op_act, GoesPast, bare, Reached, begin, step, Closed, BeginsWithLabs, labs}
use Rattle.dvg_frame.specs.Steps.{on as leads_on, jump as leads_jump, call as leads_call, back as leads_back}
use Rattle.dvg_frame.specs.Picture.{End, AtHalt, Draws as Drawing, halts, returns, moves, jumps, call_halts, calls, IsPicture}
use Rattle.dvg_code.specs.Words.{word_in}
use Rattle.dvg_mem.specs.Memory.{rom_word}
use Rattle.dvg_theorem.specs.Law.{Finishes, NeverBreaks, AnyMemory, Undisturbed, OnlyFirst}
use Rattle.dvg_gen.specs.Stacks.{stack_by, to_of, CanGo}
use Rattle.dvg_gen.proofs.Stack.{stack, next_is, Sound, sound_none, sound_more, goes_more, halts_finish}
use Rattle.dvg_theorem.proofs.Machine.{ReadsAt, reads1, reads2, Whole, none, more, Partly, whole, half, partly_run, run_whole, one_size}
use Rattle.dvg_theorem.proofs.Ends.{Ends, ends, steps, quiet, IsQuiet, moves_is, finish, ends_of}
use Rattle.dvg_theorem.proofs.Control.{at_addresses, Faithful, Result, halted, returned, follows, traces, depth}
use Rattle.dvg_mem.proofs.Roms.{behind_ram, rom_some}
use Rattle.dvg_theorem.proofs.DraftInMemory.{addr, faithful, start_reads, behind}

-- each address on the stack is that of a place which is reached at its depth
abbrev StackOk : List OpKind → List ℕ → (Place → ℕ) → List ℕ → Type 0
StackOk F R ad [] = Unit {0}
StackOk F R ad (r ∷ st) = (q : Place) × (r ≡ ad q) × Reached F R q (length st) × StackOk F R ad st

-- a run that stands at a place of the draft
record Placed (F : List OpKind) (R : List ℕ) (ad : Place → ℕ) (vs : List Visit) : Type 0 where
  place : Place
  next_at : next vs ≡ ad place
  reached : Reached F R place (length (stack vs))
  below : StackOk F R ad (stack vs)
  sound : Sound vs

-- where one instruction leads from a place
record Onward (F : List OpKind) (R : List ℕ) (ad : Place → ℕ) (act : Act ℕ) (a : ℕ) (st : List ℕ) : Type 0 where
  can : CanGo act st
  to : Place
  to_at : to_of act a st ≡ ad to
  reached : Reached F R to (length (stack_by act a st))
  below : StackOk F R ad (stack_by act a st)

module _ (F : List OpKind) (R : List ℕ) (mem : ℕ → Option ℕ) (ad : Place → ℕ) (closed : Closed F R) (faith : Faithful F R mem ad) (c0 : Instr) (reads0 : ReadsAt mem 0 c0) (act0 : act_of c0 ≡ Jumps (ad (InFrame 0))) (past : (p : Place) (d : ℕ) → Reached F R p d → (1 ≤ ad p) × (ad p < 4095)) where
  onward : (p : Place) (a k : ℕ) (act : Act Place) (st : List ℕ) (after : Place) → a ≡ ad p → Reached F R p (length st) → StackOk F R ad st → Stands F R p act after → (GoesPast act → ad after ≡ on a k) → ((c : Instr) → act ≡ Moves c → word_count c ≡ k) → ((to : Place) → act ≡ Calls to → k ≡ 1) → (at_addresses ad act ≡ Halts) ⊎ Onward F R ad (at_addresses ad act) a st
  onward p a k (Moves c) st after ea r b s goes w1 w2 =
      inr (record { can = tt; to = after; to_at = ap (λ n. on a n) (w1 c refl) ∙ sym (goes tt); reached = step r (closed.fine p (length st) r) (leads_on s); below = b })
  onward p a k (Jumps to) st after ea r b s goes w1 w2 =
      inr (record { can = tt; to = to; to_at = refl; reached = step r (closed.fine p (length st) r) (leads_jump s); below = b })
  onward p a k (Calls to) st after ea r b s goes w1 w2 =
      let f = closed.fine p (length st) r in
      let r2 = step r f (leads_call s) in
      let room = depth F R mem ad closed faith to (suc (length st)) r2 in
      let k1 = w2 to refl in
      let e : on a 1 ≡ ad after = ap (λ n. on a n) (sym k1) ∙ sym (goes tt) in
      inr (record { can = omega arith; to = to; to_at = refl; reached = r2; below = (after, e, step r f (leads_back s), b) })
  onward p a k Returns [] after ea r b s goes w1 w2 = absurd (closed.fine p 0 r (NoCaller p) (bare s refl))
  onward p a k Returns (x ∷ st) after ea r b s goes w1 w2 =
      inr (record { can = omega arith; to = b.0; to_at = b.1; reached = b.2; below = b.3 })
  onward p a k Halts st after ea r b s goes w1 w2 = inl refl

  placed_more : (vs : List Visit) (c : Instr) → Placed F R ad vs → ReadsAt mem (next vs) c → (fate (record { place = next vs; code = c } ∷ vs) ≡ Finished) ⊎ ((fate (record { place = next vs; code = c } ∷ vs) ≡ Goes) × Placed F R ad (record { place = next vs; code = c } ∷ vs))
  placed_more vs c h reads =
      let v : Visit = record { place = next vs; code = c } in
      let w = faith.there h.place (length (stack vs)) h.reached in
      let f = faith.found h.place (length (stack vs)) w.0 w.1 h.reached w.2 in
      let same = faith.unique (ad h.place) c f.code (subst (λ x. ReadsAt mem x c) h.next_at reads) f.reads in
      let acts : act_of c ≡ at_addresses ad w.0 = ap act_of same ∙ f.acts in
      let goes : GoesPast w.0 → ad w.1 ≡ on (next vs) (word_count c) = λ g. f.goes g ∙ ap (λ x. on x (word_count f.code)) (sym h.next_at) ∙ ap (λ x. on (next vs) (word_count x)) (sym same) in
      let w1 : (d : Instr) → w.0 ≡ Moves d → word_count d ≡ word_count c = λ d e. ap word_count (sym (moves_is c d (acts ∙ ap (at_addresses ad) e))) in
      let w2 : (to : Place) → w.0 ≡ Calls to → word_count c ≡ 1 = λ to e. let q = quiet c (subst IsQuiet (sym (acts ∙ ap (at_addresses ad) e)) tt) in q.words_is in
      ⊎_elim
      (λ e. inl (halts_finish v vs (acts ∙ e)))
      (λ o.
      let o2 = subst (λ x. Onward F R ad x (next vs) (stack vs)) (sym acts) o in
      inr (goes_more v vs h.sound o2.can, record { place = o2.to; next_at = next_is v vs ∙ o2.to_at; reached = o2.reached; below = o2.below; sound = sound_more v vs h.sound o2.can }))
      (onward h.place (next vs) (word_count c) w.0 (stack vs) w.1 h.next_at h.reached h.below w.2 goes w1 w2)

  -- how a run stands
  abbrev Standing : List Visit → Type 0
  Standing vs = (vs ≡ []) ⊎ ((fate vs ≡ Finished) ⊎ ((fate vs ≡ Goes) × Placed F R ad vs))

  -- the jump in word zero
  placed_first : (c : Instr) → ReadsAt mem 0 c → (fate (record { place = 0; code = c } ∷ []) ≡ Goes) × Placed F R ad (record { place = 0; code = c } ∷ [])
  placed_first c reads =
      let v : Visit = record { place = 0; code = c } in
      let same = faith.unique 0 c c0 reads reads0 in
      let acts : act_of c ≡ Jumps (ad (InFrame 0)) = ap act_of same ∙ act0 in
      let can : CanGo (act_of c) [] = subst (λ x. CanGo x []) (sym acts) tt in
      let st : stack (v ∷ []) ≡ [] = ap (λ x. stack_by x 0 []) acts in
      let sound = sound_more v [] sound_none can in (
        goes_more v [] sound_none can,
        record {
          place = InFrame 0;
          next_at = next_is v [] ∙ ap (λ x. to_of x 0 []) acts;
          reached = subst (λ x. Reached F R (InFrame 0) (length x)) (sym st) begin;
          below = subst (λ x. StackOk F R ad x) (sym st) tt;
          sound = sound;
        },
      )

  standing : {m : ℕ} {vs : List Visit} → Whole mem m vs → Standing vs
  standing none = inl refl
  standing (more {vs = []} {c = c} w g r e) = inr (inr (placed_first c r))
  standing (more {vs = v ∷ vs} {c = c} w g r e) =
      ⊎_elim
      (λ k. cc)
      (λ k. ⊎_elim
      (λ fin. let e2 : Finished ≡ Goes = sym fin ∙ g in cc)
      (λ q. inr (placed_more (v ∷ vs) c q.1 r))
      k)
      (standing w)

  -- a run that goes on reads an instruction next
  reads_next : {m : ℕ} {vs : List Visit} → Whole mem m vs → fate vs ≡ Goes → (c : Instr) × ReadsAt mem (next vs) c
  reads_next {vs = vs} w g =
      ⊎_elim
      (λ k. (c0, subst (λ x. ReadsAt mem (next x) c0) (sym k) reads0))
      (λ k. ⊎_elim
      (λ fin. let e2 : Finished ≡ Goes = sym fin ∙ g in cc)
      (λ q.
      let h = q.1 in
      let w = faith.there h.place (length (stack vs)) h.reached in
      let f = faith.found h.place (length (stack vs)) w.0 w.1 h.reached w.2 in
      (f.code, subst (λ x. ReadsAt mem x f.code) (sym h.next_at) f.reads))
      k)
      (standing w)

  no_fault_whole : {m : ℕ} {vs : List Visit} → Whole mem m vs → (f : GenFault) → fate vs ≢ Breaks f
  no_fault_whole {vs = vs} w f e =
      ⊎_elim
      (λ k. let e2 : Goes ≡ Breaks f = ap fate (sym k) ∙ e in cc)
      (λ k. ⊎_elim
      (λ fin. let e2 : Finished ≡ Breaks f = sym fin ∙ e in cc)
      (λ q. let e2 : Goes ≡ Breaks f = sym q.0 ∙ e in cc)
      k)
      (standing w)

  no_fault : {m : ℕ} {vs : List Visit} {held : Option ℕ} → Partly mem m vs held → (f : GenFault) → fate vs ≢ Breaks f
  no_fault (whole w) f e = no_fault_whole w f e
  no_fault (half w g k i) f e = no_fault_whole w f e

  first_there : (a : ℕ) (c : Instr) → ReadsAt mem a c → mem a ≢ None
  first_there a c (reads1 e s) n = cc
  first_there a c (reads2 e e2 f s) n = cc

  second_there : (a v : ℕ) (c : Instr) → mem a ≡ Some v → IsFirst v → ReadsAt mem a c → mem (on a 1) ≢ None
  second_there a v c m i (reads1 {w = w} e s) n = let z = one_size s in let k : v ≡ w = cc in absurd (omega arith)
  second_there a v c m i (reads2 e e2 f s) n = cc

  no_hole : {m : ℕ} {vs : List Visit} {held : Option ℕ} → Partly mem m vs held → fate vs ≡ Goes → mem (wanted vs held) ≢ None
  no_hole (whole {vs = vs} w) g n = let r = reads_next w g in first_there (next vs) r.0 r.1 n
  no_hole (half {v = v} {vs = vs} w g0 k i) g n = let r = reads_next w g0 in second_there (next vs) v r.0 k i r.1 n

  never_breaks : NeverBreaks mem
  never_breaks =
      record {
        fault = λ n vs held r. no_fault (partly_run r);
        hole = λ n vs held r. no_hole (partly_run r);
      }

  -- word zero is fetched at the beginning alone
  not_zero : (a : ℕ) → (1 ≤ a) × (a < 4095) → (a ≢ 0) × (on a 1 ≢ 0)
  not_zero a b = let l = b.0 in let u = b.1 in (λ e. omega arith, λ e. omega arith)

  past_zero : {m : ℕ} {vs : List Visit} → Whole mem m vs → fate vs ≡ Goes → (vs ≡ [] → ⊥) → (next vs ≢ 0) × (on (next vs) 1 ≢ 0)
  past_zero {vs = vs} w g n =
      ⊎_elim
      (λ k. absurd (n k))
      (λ k. ⊎_elim
      (λ fin. let e2 : Finished ≡ Goes = sym fin ∙ g in cc)
      (λ q. let h = q.1 in subst (λ x. (x ≢ 0) × (on x 1 ≢ 0)) (sym h.next_at) (not_zero (ad h.place) (past h.place (length (stack vs)) h.reached)))
      k)
      (standing w)

  some_visits : {m : ℕ} {vs : List Visit} → Whole mem m vs → 1 ≤ m → vs ≡ [] → ⊥
  some_visits none l e = omega arith
  some_visits (more w g r n) l e = cc

  later_zero : {m : ℕ} {vs : List Visit} {held : Option ℕ} → Partly mem m vs held → 1 ≤ m → fate vs ≡ Goes → wanted vs held ≢ 0
  later_zero (whole w) l g = (past_zero w g (some_visits w l)).0
  later_zero (half {vs = []} w g0 k i) l g = λ e. omega arith
  later_zero (half {vs = v ∷ vs} w g0 k i) l g = (past_zero w g0 (λ e. cc)).1

  pub only_first : {n : ℕ} {vs : List Visit} {held : Option ℕ} → Runs mem (suc n) vs held → fate vs ≡ Goes → wanted vs held ≢ 0
  only_first r g = later_zero (partly_run r) (omega arith) g

  -- a LABS makes every beam the same
  abbrev origin : Beam
  origin = record { x = 0; y = 0; scale = 0 }

  any_act : (b b2 b' : Beam) (act : Act Place) (p after : Place) (s : List Stroke) (e : End) (n x y scale : ℕ) → act ≡ Moves (Labs x y scale) → Stands F R p act after → Drawing F R p b s b' e n → ((act2 : Act Place) (after2 : Place) → Stands F R p act2 after2 → (act2 ≡ act)) → Drawing F R p b2 s b' e n
  any_act b b2 b' act p after s e n x y scale ea st (halts s2) u = let k : Halts ≡ Moves (Labs x y scale) = u Halts _ s2 ∙ ea in cc
  any_act b b2 b' act p after s e n x y scale ea st (returns s2) u = let k : Returns ≡ Moves (Labs x y scale) = u Returns _ s2 ∙ ea in cc
  any_act b b2 b' act p after s0 e n0 x y scale ea st (moves {after = q} {instr = c} {strokes = s} {n = n} s2 d) u =
      let k : Moves c ≡ Moves (Labs x y scale) = u (Moves c) _ s2 ∙ ea in
      let kc : c ≡ Labs x y scale = cc in
      let s3 = subst (λ z. Stands F R p (Moves z) q) kc s2 in
      let d2 = subst (λ z. Drawing F R q (moved b z) s b' e n) kc d in
      let t : Drawing F R p b2 s b' e (2 + n) = moves {beam = b2} {instr = Labs x y scale} s3 d2 in
      subst (λ z. Drawing F R p b2 (drawn b z ++ s) b' e (word_count z + n)) (sym kc) t
  any_act b b2 b' act p after s e n x y scale ea st (jumps {to = to} s2 d) u = let k : Jumps to ≡ Moves (Labs x y scale) = u (Jumps to) _ s2 ∙ ea in cc
  any_act b b2 b' act p after s e n x y scale ea st (call_halts {to = to} s2 d) u = let k : Calls to ≡ Moves (Labs x y scale) = u (Calls to) _ s2 ∙ ea in cc
  any_act b b2 b' act p after s e n x y scale ea st (calls {to = to} s2 d d2) u = let k : Calls to ≡ Moves (Labs x y scale) = u (Calls to) _ s2 ∙ ea in cc

  -- word zero, and what follows it
  first_step : {b : Beam} {s : List Stroke} {n : ℕ} → Ends mem 0 [] b s n → (k : ℕ) × (n ≡ suc k) × Ends mem (ad (InFrame 0)) [] b s k
  first_step (ends {c = c} r e) =
      let same = faith.unique 0 c c0 r reads0 in
      let k : Jumps (ad (InFrame 0)) ≡ Halts = sym act0 ∙ ap act_of (sym same) ∙ e in
      cc
  first_step {b = b} {s = s0} {n = n0} (steps {n = n} {s = s} {c = c} r can t es en) =
      let same = faith.unique 0 c c0 r reads0 in
      let acts : act_of c ≡ Jumps (ad (InFrame 0)) = ap act_of same ∙ act0 in
      let q = quiet c (subst IsQuiet (sym acts) tt) in
      let t2 = subst (λ x. Ends mem (to_of x 0 []) (stack_by x 0 []) (moved b c) s n) acts t in
      let t3 = subst (λ x. Ends mem (ad (InFrame 0)) [] x s n) (q.moved_is b) t2 in
      let e : s ≡ s0 = sym (es ∙ ap (λ x. x ++ s) (q.drawn_is b)) in
      (n, omega (arith, q.words_is), subst (λ x. Ends mem (ad (InFrame 0)) [] b x n) e t3)

  step_first : (b : Beam) (s : List Stroke) (n : ℕ) → Ends mem (ad (InFrame 0)) [] b s n → Ends mem 0 [] b s (suc n)
  step_first b s n t =
      let q = quiet c0 (subst IsQuiet (sym act0) tt) in
      let t2 = subst (λ x. Ends mem (ad (InFrame 0)) [] x s n) (sym (q.moved_is b)) t in
      let t3 = subst (λ x. Ends mem (to_of x 0 []) (stack_by x 0 []) (moved b c0) s n) (sym act0) t2 in
      steps reads0 (subst (λ x. CanGo x []) (sym act0) tt) t3 (ap (λ x. x ++ s) (sym (q.drawn_is b))) (omega (arith, q.words_is))

  labs_first : (G : List OpKind) → BeginsWithLabs G → (x : ℕ) × (y : ℕ) × (scale : ℕ) × (slice_get G 0 ≡ Some (Draw (Labs x y scale)))
  labs_first G (labs {x = x} {y = y} {scale = scale}) = (x, y, scale, refl)

  first_act : (c : Instr) (act : Act Place) (after : Place) → slice_get F 0 ≡ Some (Draw c) → Stands F R (InFrame 0) act after → act ≡ Moves c
  first_act c act after f (in_frame {op = op} e ea) = let k : op ≡ Draw c = cc in ea ∙ ap op_act k

  any_beam : (b b2 b' : Beam) (s : List Stroke) (e : End) (n : ℕ) → Drawing F R (InFrame 0) b s b' e n → Drawing F R (InFrame 0) b2 s b' e n
  any_beam b b2 b' s e n d =
      let l = labs_first F closed.begins.begins in
      let c : Instr = Labs l.0 l.1 l.2 in
      let w = faith.there (InFrame 0) 0 begin in
      let u = first_act c w.0 w.1 l.3 w.2 in
      any_act b b2 b' w.0 (InFrame 0) w.1 s e n l.0 l.1 l.2 u w.2 d (λ a q s2. first_act c a q l.3 s2 ∙ sym u)

  picture_of : (b : Beam) (s : List Stroke) (k : ℕ) → Result F R mem (InFrame 0) [] b s k → IsPicture F R s (suc k)
  picture_of b s k (halted {b' = b'} d) = record { last = b'; rest = k; draws = any_beam b origin b' s AtHalt k d; count = refl }
  picture_of b s k (returned {r = r} {st' = st} est es en le d t) = let e : [] ≡ r ∷ st = est in cc

  run_of : (b : Beam) (s : List Stroke) (n : ℕ) → Ends mem 0 [] b s n → IsPicture F R s n
  run_of b s n t =
      let f = first_step t in
      let le : f.0 ≤ f.0 = omega arith in
      let r = traces F R mem ad closed faith f.0 (InFrame 0) 0 (ad (InFrame 0)) f.0 [] b s le begin refl refl f.2 in
      subst (λ x. IsPicture F R s x) (sym f.1) (picture_of b s f.0 r)

  partly_whole : {m : ℕ} {vs : List Visit} → Partly mem m vs None → Whole mem m vs
  partly_whole (whole w) = w

  pub drawn_is : (b : Beam) (s : List Stroke) (n : ℕ) → Finishes mem b s n → IsPicture F R s n
  drawn_is b s n f =
      let w = partly_whole (partly_run f.runs) in
      subst (λ x. IsPicture F R x n) f.strokes (run_of b (strokes b f.visits) n (ends_of mem b w f.finished))

  pub is_drawn : (b : Beam) (s : List Stroke) (n : ℕ) → IsPicture F R s n → Finishes mem b s n
  is_drawn b s n p =
      let d = any_beam origin b p.last s AtHalt p.rest p.draws in
      let t = follows F R mem ad closed faith d 0 begin [] refl [] 0 (refl, refl) in
      let n2 : p.rest + 0 ≡ p.rest = omega arith in
      let t2 = subst (λ x. Ends mem (ad (InFrame 0)) [] b (s ++ []) x) n2 t in
      let t3 = subst (λ x. Ends mem (ad (InFrame 0)) [] b x p.rest) (append-nil s) t2 in
      let g = finish mem b (step_first b s p.rest t3) 0 [] none refl sound_none refl refl refl in
      let n3 : 0 + suc p.rest ≡ n = let c = p.count in omega arith in
      record { visits = g.0; runs = run_whole (subst (λ x. Whole mem x g.0) n3 g.1); finished = g.2; strokes = g.3 }

pub any_memory : AnyMemory
any_memory h F rom mem draft image closed holds =
    let ad = addr h F in
    let faith = faithful h F rom mem draft image closed holds in
    let reads0 = start_reads h F rom mem draft image closed holds in
    let past = behind h F rom mem draft image closed holds in
    let e : base h ≡ at h F 0 = omega arith in
    let act0 : act_of (Jmpl (base h)) ≡ Jumps (at h F 0) = ap Jumps e in
    record {
      safe = never_breaks F rom mem ad closed faith (Jmpl (base h)) reads0 act0 past;
      exact = λ b s n. (drawn_is F rom mem ad closed faith (Jmpl (base h)) reads0 act0 past b s n, is_drawn F rom mem ad closed faith (Jmpl (base h)) reads0 act0 past b s n);
    }

-- word zero is fetched at the beginning alone
pub only_once : OnlyFirst
only_once h F rom mem draft image closed holds n vs held r g =
    let ad = addr h F in
    let faith = faithful h F rom mem draft image closed holds in
    let reads0 = start_reads h F rom mem draft image closed holds in
    let past = behind h F rom mem draft image closed holds in
    let e : base h ≡ at h F 0 = omega arith in
    let act0 : act_of (Jmpl (base h)) ≡ Jumps (at h F 0) = ap Jumps e in
    only_first F rom mem ad closed faith (Jmpl (base h)) reads0 act0 past r g

ram_low : (h : Half) → base h + 511 ≤ 0x400
ram_low H0 = omega arith
ram_low H1 = omega arith

fetched_ram : (ram rom : List ℕ) (a : ℕ) → a < 1024 → fetched ram rom a ≡ Some (word_in ram a)
fetched_ram ram rom a h = ap (λ b. cond b (Some (word_in ram a)) (rom_word rom a)) (lt-ltb a 1024 h)

fetched_rom : (ram rom : List ℕ) (a w : ℕ) → rom_word rom a ≡ Some w → fetched ram rom a ≡ Some w
fetched_rom ram rom a w e = let b = rom_some rom a w e in let l = b.0 in let past = behind_ram rom in ap (λ b. cond b (Some (word_in ram a)) (rom_word rom a)) (le-ltb a 1024 (omega arith)) ∙ e

-- a RAM that holds the frame
pub undisturbed : Undisturbed
undisturbed h F ram rom draft image closed holds =
    let f = closed_fits h F rom closed in
    let r = ram_low h in
    any_memory h F rom (fetched ram rom) draft image closed (record {
      zero = fetched_ram ram rom 0 (omega arith) ∙ ap Some holds.zero;
      laid = λ k lt. fetched_ram ram rom (base h + k) (omega arith) ∙ ap Some (holds.laid k lt);
      shapes = fetched_rom ram rom;
    })
