-- Runs that end, told from their beginning.
use Rattle.std.proofs.Common.{◌≡◌, ℕ, ◌+◌, List, [], ◌∷◌, ◌++◌, Option, refl, sym, ap, ◌∙◌, subst, arith, append_assoc, zero-add, ⊎_elim, cond, eqb}
use Rattle.std.proofs.lemmas.Bool.{cases_Bool}
use Rattle.dvg_code.specs.declared.instr.Instr.{Instr}
use Rattle.dvg_code.specs.declared.instr.Instr.TheVariants.{Vctr, Labs, Halt, Jsrl, Rtsl, Jmpl, Svec}
use Rattle.dvg_code.specs.Spelling.{word_count}
use Rattle.dvg_gen.specs.declared.beam.Beam.{Beam}
use Rattle.dvg_gen.specs.declared.stroke.Stroke.{Stroke}
use Rattle.dvg_gen.specs.Drawing.{moved, drawn}
use Rattle.dvg_code.specs.Acts.{Act, Moves, Jumps, Calls, Returns, Halts, act_of}
use Rattle.dvg_gen.specs.declared.taken.GenFault.TheVariants.{StackOver, StackUnder}
use Rattle.dvg_gen.specs.Run.{Visit, next, calls, returns, Goes, Finished, Breaks, fate_by, fate, beam_after, strokes}
use Rattle.dvg_gen.specs.Stacks.{stack_by, to_of, CanGo}
use Rattle.dvg_gen.proofs.Stack.{stack, next_is, Sound, sound_none, sound_more, goes_more, can_more, halts_finish}
use Rattle.dvg_theorem.proofs.Machine.{ReadsAt, Whole, none, more}

-- only a HALT finishes a run
finished_by : (act : Act ℕ) (older : List Visit) → fate_by act older ≡ Finished → act ≡ Halts
finished_by (Moves code) older end = let goes : Goes ≡ Finished = end in cc
finished_by (Jumps to) older end = let goes : Goes ≡ Finished = end in cc
finished_by (Calls to) older end =
    ⊎_elim
    (λ full. let breaks = subst (λ b. cond b (Breaks StackOver) Goes ≡ Finished) full end in cc)
    (λ not_full. let goes = subst (λ b. cond b (Breaks StackOver) Goes ≡ Finished) not_full end in cc)
    (cases_Bool (eqb (calls older) (returns older + 4)))
finished_by Returns older end =
    ⊎_elim
    (λ empty. let breaks = subst (λ b. cond b (Breaks StackUnder) Goes ≡ Finished) empty end in cc)
    (λ not_empty. let goes = subst (λ b. cond b (Breaks StackUnder) Goes ≡ Finished) not_empty end in cc)
    (cases_Bool (eqb (calls older) (returns older)))
finished_by Halts older end = refl

-- the same of the newest instruction of a run
finished_is : (visit : Visit) (older : List Visit) → fate (visit ∷ older) ≡ Finished → act_of visit.code ≡ Halts
finished_is visit older end = finished_by (act_of visit.code) older end

-- from this address, stack and beam the machine comes to HALT in n fetches with these strokes
pub data Ends (mem : ℕ → Option ℕ) : ℕ → List ℕ → Beam → List Stroke → ℕ → Type 0 where
  ends : {a : ℕ} {st : List ℕ} {b : Beam} {c : Instr} → ReadsAt mem a c → act_of c ≡ Halts → Ends mem a st b [] 1
  steps : {a n n0 : ℕ} {st : List ℕ} {b : Beam} {s s0 : List Stroke} {c : Instr} → ReadsAt mem a c → CanGo (act_of c) st → Ends mem (to_of (act_of c) a st) (stack_by (act_of c) a st) (moved b c) s n → s0 ≡ drawn b c ++ s → n0 ≡ word_count c + n → Ends mem a st b s0 n0

-- instructions that draw nothing
pub record Quiet (c : Instr) : Type 0 where
  pub words_is : word_count c ≡ 1
  pub moved_is : (b : Beam) → moved b c ≡ b
  pub drawn_is : (b : Beam) → drawn b c ≡ []

abbrev pub IsQuiet : Act ℕ → Type 0
IsQuiet (Moves c) = ⊥
IsQuiet (Jumps to) = Unit {0}
IsQuiet (Calls to) = Unit {0}
IsQuiet Returns = Unit {0}
IsQuiet Halts = Unit {0}

pub quiet : (c : Instr) → IsQuiet (act_of c) → Quiet c
quiet (Vctr scale dx dy z) q = absurd q
quiet (Labs x y scale) q = absurd q
quiet Halt q = record { words_is = refl; moved_is = λ b. refl; drawn_is = λ b. refl }
quiet (Jsrl to) q = record { words_is = refl; moved_is = λ b. refl; drawn_is = λ b. refl }
quiet Rtsl q = record { words_is = refl; moved_is = λ b. refl; drawn_is = λ b. refl }
quiet (Jmpl to) q = record { words_is = refl; moved_is = λ b. refl; drawn_is = λ b. refl }
quiet (Svec scale dx dy z) q = absurd q

pub moves_is : (c d : Instr) → act_of c ≡ Moves d → c ≡ d
moves_is (Vctr scale dx dy z) d e = cc
moves_is (Labs x y scale) d e = cc
moves_is Halt d e = let e2 : Halts ≡ Moves d = e in cc
moves_is (Jsrl to) d e = let e2 : Calls to ≡ Moves d = e in cc
moves_is Rtsl d e = let e2 : Returns ≡ Moves d = e in cc
moves_is (Jmpl to) d e = let e2 : Jumps to ≡ Moves d = e in cc
moves_is (Svec scale dx dy z) d e = cc

module _ (mem : ℕ → Option ℕ) (first : Beam) where
  -- a run that goes on to such an end
  pub finish : {a n : ℕ} {st : List ℕ} {b : Beam} {s : List Stroke} → Ends mem a st b s n → (m : ℕ) (vs : List Visit) → Whole mem m vs → fate vs ≡ Goes → Sound vs → next vs ≡ a → stack vs ≡ st → beam_after first vs ≡ b → (ws : List Visit) × Whole mem (m + n) ws × (fate ws ≡ Finished) × (strokes first ws ≡ strokes first vs ++ s)
  finish (ends {c = c} r e) m vs w g h ea es eb =
      let q = quiet c (subst IsQuiet (sym e) tt) in
      let r2 = subst (λ x. ReadsAt mem x c) (sym ea) r in
      let v : Visit = record { place = next vs; code = c } in
      (v ∷ vs, more w g r2 (ap (λ k. m + k) (sym q.words_is)), halts_finish v vs e, ap (λ x. strokes first vs ++ x) (q.drawn_is _))
  finish (steps {a} {n} {n0} {st} {b} {s} {s0} {c} r can rest es0 en0) m vs w g h ea es eb =
      let r2 = subst (λ x. ReadsAt mem x c) (sym ea) r in
      let v : Visit = record { place = next vs; code = c } in
      let can2 = subst (λ x. CanGo (act_of c) x) (sym es) can in
      let ea2 : next (v ∷ vs) ≡ to_of (act_of c) a st = next_is v vs ∙ ap (λ x. to_of (act_of c) x (stack vs)) ea ∙ ap (λ x. to_of (act_of c) a x) es in
      let es2 : stack (v ∷ vs) ≡ stack_by (act_of c) a st = ap (λ x. stack_by (act_of c) x (stack vs)) ea ∙ ap (λ x. stack_by (act_of c) a x) es in
      let eb2 : beam_after first (v ∷ vs) ≡ moved b c = ap (λ x. moved x c) eb in
      let t = finish rest (m + word_count c) (v ∷ vs) (more w g r2 refl) (goes_more v vs h can2) (sound_more v vs h can2) ea2 es2 eb2 in
      let n2 : m + word_count c + n ≡ m + n0 = omega arith in
      let s2 : strokes first (v ∷ vs) ++ s ≡ strokes first vs ++ s0 =
      append_assoc (strokes first vs) _ s ∙ ap (λ x. strokes first vs ++ (drawn x c ++ s)) eb ∙ ap (λ x. strokes first vs ++ x) (sym es0) in
      (t.0, subst (λ k. Whole mem k t.0) n2 t.1, t.2, t.3 ∙ s2)

  -- what a whole run is sound about
  pub sound_of : {m : ℕ} {vs : List Visit} → Whole mem m vs → fate vs ≡ Goes → Sound vs
  sound_of none g = sound_none
  sound_of (more {vs = vs} {c = c} w g0 r e) g =
      let h = sound_of w g0 in
      let v : Visit = record { place = next vs; code = c } in
      sound_more v vs h (can_more v vs h g)

  -- an end that a run comes to is an end from its beginning
  pub from_start : {m n : ℕ} {vs : List Visit} {s : List Stroke} → Whole mem m vs → fate vs ≡ Goes → Ends mem (next vs) (stack vs) (beam_after first vs) s n → Ends mem 0 [] first (strokes first vs ++ s) (m + n)
  from_start {n = n} {s = s} none g t = subst (λ k. Ends mem 0 [] first s k) (sym (zero-add n)) t
  from_start {m} {n} {s = s} (more {m = k} {vs = vs} {c = c} w g0 r e) g t =
      let h = sound_of w g0 in
      let v : Visit = record { place = next vs; code = c } in
      let can = can_more v vs h g in
      let t2 = subst (λ x. Ends mem x (stack (v ∷ vs)) (beam_after first (v ∷ vs)) s n) (next_is v vs) t in
      let u = from_start w g0 (steps r can t2 refl refl) in
      let n2 : k + (word_count c + n) ≡ m + n = omega arith in
      let s2 = sym (append_assoc (strokes first vs) (drawn (beam_after first vs) c) s) in
      let u2 = subst (λ x. Ends mem 0 [] first (strokes first vs ++ (drawn (beam_after first vs) c ++ s)) x) n2 u in
      subst (λ x. Ends mem 0 [] first x (m + n)) s2 u2

  -- a finished run, from its beginning
  pub ends_of : {m : ℕ} {vs : List Visit} → Whole mem m vs → fate vs ≡ Finished → Ends mem 0 [] first (strokes first vs) m
  ends_of none g = let g2 : Goes ≡ Finished = g in cc
  ends_of {m} (more {m = k} {vs = vs} {c = c} w g0 r e) g =
      let a = finished_is (record { place = next vs; code = c }) vs g in
      let q = quiet c (subst IsQuiet (sym a) tt) in
      let t : Ends mem (next vs) (stack vs) (beam_after first vs) [] 1 = ends r a in
      let u = from_start w g0 t in
      let n2 : k + 1 ≡ m = omega (arith, q.words_is) in
      let s2 = ap (λ x. strokes first vs ++ x) (sym (q.drawn_is (beam_after first vs))) in
      let u2 = subst (λ x. Ends mem 0 [] first (strokes first vs ++ []) x) n2 u in
      subst (λ x. Ends mem 0 [] first x m) s2 u2
