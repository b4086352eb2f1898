-- What is written in legal logs is bytes, so each of them is played.
use Rattle.std.proofs.Common.{◌≡◌, ℕ, suc, ◌*◌, ◌<◌, ◌≤◌, List, [], ◌∷◌, ◌++◌, subst, Some, Bool, true, false, arith}
use Rattle.std.specs.Prelude.{ℤ, pos, negsuc, flat_map}
use Rattle.std.specs.List.{AllByRecursion}
use Rattle.std.proofs.lemmas.List.Elements.{recursion_from_All}
use Rattle.std.proofs.lemmas.Option.{none-some, same_Some}
use Rattle.dvg_code.specs.declared.instr.Instr.{Instr}
use Rattle.dvg_code.specs.declared.instr.Instr.TheVariants.{Vctr, Labs, Halt, Jsrl, Rtsl, Jmpl, Svec}
use Rattle.dvg_code.specs.Ranges.{InRange}
use Rattle.dvg_code.specs.Spelling.{canon, sign_bit}
use Rattle.dvg_code.specs.Words.{IsWord}
use Rattle.dvg_mem.specs.declared.half.Half.{Half}
use Rattle.dvg_mem.specs.declared.half.Half.TheVariants.{H0, H1}
use Rattle.dvg_mem.specs.Areas.{base, high}
use Rattle.dvg_frame.specs.declared.op.OpKind.{OpKind}
use Rattle.dvg_frame.specs.declared.op.OpKind.TheVariants.{Draw, CallRom, JumpRom, Call, Jump, Return, Halt as Stop}
use Rattle.dvg_frame.specs.Bytes.{addressed, bytes}
use Rattle.dvg_frame.specs.Layout.{size, op_code, laid}
use Rattle.dvg_frame.specs.Ops.{IsOp, IsDraft}
use Rattle.dvg_frame.specs.Steps.{Closed}
use Rattle.dvg_driver.specs.declared.action.Action.TheVariants.{Peek, Wrote, Read, Sent, Idle}
use Rattle.dvg_driver.specs.Script
use Rattle.dvg_driver.specs.Script.{Item, Did, IsLife, word_zero, frame_writes}
use Rattle.dvg_driver.specs.Place.{Place, Start, Booting, Resting, Writing, Waiting, Sending, with_left, after_write, next_place, place_of_life}
use Rattle.dvg_driver.proofs.Places.{life_place, place_before}
use Rattle.dvg_log.specs.Events.{Happening}
use Rattle.dvg_log.specs.declared.event.Event.TheVariants.{Offer, Redraw, Tick, Strobe, Fetch, ResetGen, ResetCpu, ResetAll}
use Rattle.dvg_log.specs.Entries.{Shown}
use Rattle.dvg_log.specs.declared.entry.Entry.TheVariants.{Offered, Refused, Busy, Asked, NothingPublished, Acted, Started, NoStrobe, Cleared}
use Rattle.dvg_log.specs.Log.{◌⟼◌, Log, life, free_half}
use Rattle.dvg_log.specs.Legal.{Always, IsLegal}
use Rattle.dvg_theorem.proofs.DraftInMemory.{at_size}
use Rattle.dvg_theorem.proofs.Writes.{written}
use Rattle.dvg_moment.specs.Played.{FetchesMemory}

-- the words of a draft

code_range : (half : Half) (F : List OpKind) (op : OpKind) → size F ≤ 511 → IsOp op → InRange (op_code half F op)
code_range half F (Draw instr) s o = o.0
code_range half F (CallRom a) s o = o
code_range half F (JumpRom a) s o = o
code_range half F (Call j) s o = let k = at_size half F j s in omega arith
code_range half F (Jump j) s o = let k = at_size half F j s in omega arith
code_range half F Return s o = tt
code_range half F Stop s o = tt

one_bit : (n : ℤ) → sign_bit n ≤ 1
one_bit (pos n) = omega arith
one_bit (negsuc n) = omega arith

canon_words : (instr : Instr) → InRange instr → AllByRecursion IsWord (canon instr)
canon_words (Vctr scale dx dy z) r = let a = r.0 in let b = r.1 in let c = r.2 in let d = r.3 in let s = one_bit dx in let t = one_bit dy in (omega arith, (omega arith, tt))
canon_words (Labs x y scale) r = let a = r.0 in let b = r.1 in let c = r.2 in (omega arith, (omega arith, tt))
canon_words Halt r = (omega arith, tt)
canon_words (Jsrl address) r = (omega arith, tt)
canon_words Rtsl r = (omega arith, tt)
canon_words (Jmpl address) r = (omega arith, tt)
canon_words (Svec scale dx dy z) r = let a = r.0 in let b = r.1 in let c = r.2 in let d = r.3 in let e = r.4 in let s = one_bit dx in let t = one_bit dy in (omega arith, tt)

joined : (P : ℕ → Type 0) (one two : List ℕ) → AllByRecursion P one → AllByRecursion P two → AllByRecursion P (one ++ two)
joined P [] two f g = g
joined P (x ∷ one) two f g = (f.0, joined P one two f.1 g)

ops_words : (half : Half) (F ops : List OpKind) → size F ≤ 511 → AllByRecursion IsOp ops → AllByRecursion IsWord (flat_map (λ op. canon (op_code half F op)) ops)
ops_words half F [] s o = tt
ops_words half F (op ∷ ops) s o =
    joined IsWord (canon (op_code half F op)) (flat_map (λ op. canon (op_code half F op)) ops) (canon_words (op_code half F op) (code_range half F op s o.0)) (ops_words half F ops s o.1)

-- the bytes that a frame part writes

abbrev AreSmall : List (ℕ × ℕ) → Type 0
AreSmall writes = AllByRecursion (λ write. write.1 < 256) writes

high_small : (half : Half) → high half < 256
high_small H0 = omega arith
high_small H1 = omega arith

zero_small : (half : Half) (first : Bool) → AreSmall (word_zero half first)
zero_small half true = (omega arith, (high_small half, tt))
zero_small half false = (high_small half, tt)

laid_small : (a : ℕ) (words : List ℕ) (rest : List (ℕ × ℕ)) → AllByRecursion IsWord words → AreSmall rest → AreSmall (addressed a (bytes words) ++ rest)
laid_small a [] rest w r = r
laid_small a (word ∷ words) rest w r = let f = w.0 in (omega arith, (omega arith, laid_small (suc (suc a)) words rest w.1 r))

frame_small : (half : Half) (F : List OpKind) (R : List ℕ) (first : Bool) → IsDraft F → Closed F R → AreSmall (frame_writes half F first)
frame_small half F R first d c =
    laid_small (2 * base half) (laid half F) (word_zero half first) (ops_words half F F c.begins.fits (recursion_from_All IsOp F d.ops)) (zero_small half first)

-- the places of a life

abbrev IsSmall : Place → Type 0
IsSmall (Writing writes) = AreSmall writes
IsSmall place = Unit {0}

left_small : (writes : List (ℕ × ℕ)) → AreSmall writes → IsSmall (with_left writes)
left_small [] s = tt
left_small (write ∷ writes) s = s

after_small : (writes : List (ℕ × ℕ)) (a b : ℕ) (q : Place) → after_write writes a b ≡ Some q → AreSmall writes → IsSmall q × (b < 256)
after_small [] a b q e s = absurd (none-some q e)
after_small (write ∷ writes) a b q e s =
    let w = written write.0 a write.1 b writes q e in
    (subst IsSmall w.2 (left_small writes s.1), subst (λ v. v < 256) w.1 s.0)

abbrev BringsSmall : Item → Type 0
BringsSmall (Script.Offered half F) = (first : Bool) → AreSmall (frame_writes half F first)
BringsSmall item = Unit {0}

next_small : (p q : Place) (item : Item) → next_place p item ≡ Some q → IsSmall p → BringsSmall item → IsSmall q
next_small Start q (Did Peek) e s b = subst IsSmall (same_Some _ _ e) tt
next_small Booting q (Did (Read true)) e s b = subst IsSmall (same_Some _ _ e) tt
next_small Booting q (Did (Read false)) e s b = subst IsSmall (same_Some _ _ e) tt
next_small (Resting first) q (Script.Offered half F) e s b = subst IsSmall (same_Some _ _ e) (b first)
next_small (Resting first) q Script.Asked e s b = subst IsSmall (same_Some _ _ e) tt
next_small (Resting first) q (Did Idle) e s b = subst IsSmall (same_Some _ _ e) tt
next_small (Writing writes) q (Did (Wrote a byte)) e s b = (after_small writes a byte q e s).0
next_small (Waiting first) q (Did (Read true)) e s b = subst IsSmall (same_Some _ _ e) tt
next_small (Waiting first) q (Did (Read false)) e s b = subst IsSmall (same_Some _ _ e) tt
next_small (Sending first) q (Did Sent) e s b = subst IsSmall (same_Some _ _ e) tt
next_small _ q _ e s b = absurd (none-some q e)

byte_small : (p q : Place) (a b : ℕ) → next_place p (Did (Wrote a b)) ≡ Some q → IsSmall p → b < 256
byte_small (Writing writes) q a b e s = (after_small writes a b q e s).1
byte_small _ q a b e s = absurd (none-some q e)

module _ (R image : List ℕ) where
  item_small : (log : Log) (item : Item) → BringsSmall item → ((p : Place) → place_of_life (life image log) ≡ Some p → IsSmall p)
      → (q : Place) → place_of_life (item ∷ life image log) ≡ Some q → IsSmall q
  item_small log item b before q e = let p = place_before item (life image log) q e in next_small p.0 q item p.2 (before p.0 p.1) b

  place_small : (log : Log) → IsLegal R image log → (p : Place) → place_of_life (life image log) ≡ Some p → IsSmall p
  place_small [] l p e = subst IsSmall (same_Some _ _ e) tt
  place_small ((ResetCpu ⟼ entry) ∷ log) l p e = subst IsSmall (same_Some _ _ e) tt
  place_small ((ResetAll bytes ⟼ entry) ∷ log) l p e = subst IsSmall (same_Some _ _ e) tt
  place_small ((Offer F ⟼ Offered) ∷ log) l p e =
      item_small log (Script.Offered (free_half image log) F) (λ first. frame_small (free_half image log) F R first l.1 l.0.0.closed) (place_small log l.2) p e
  place_small ((Redraw ⟼ Asked) ∷ log) l p e = item_small log Script.Asked tt (place_small log l.2) p e
  place_small ((Tick ⟼ Acted action) ∷ log) l p e = item_small log (Did action) tt (place_small log l.2) p e
  place_small ((event ⟼ Asked) ∷ log) l p e = absurd l.0
  place_small ((event ⟼ Acted action) ∷ log) l p e = absurd l.0
  place_small ((event ⟼ entry) ∷ log) l p e = place_small log l.2 p e

  written_small : (log : Log) (a b : ℕ) → IsLegal R image log → IsLife (Did (Wrote a b) ∷ life image log) → b < 256
  written_small log a b l f =
      let q = life_place (Did (Wrote a b) ∷ life image log) f in
      let p = place_before (Did (Wrote a b)) (life image log) q.0 q.1 in
      byte_small p.0 q.0 a b p.2 (place_small log l p.0 p.1)

  line_is_played : (log : Log) (event : Happening) (entry : Shown) → IsLegal R image ((event ⟼ entry) ∷ log) → FetchesMemory R image log event entry
  line_is_played log Fetch entry l = l.0
  line_is_played log Tick (Acted (Wrote a b)) l = written_small log a b l.2 l.0.0
  line_is_played log Tick (Acted action) l = tt
  line_is_played log Strobe Started l = tt
  line_is_played log Strobe NoStrobe l = tt
  line_is_played log (Offer F) Offered l = tt
  line_is_played log (Offer F) (Refused fault) l = tt
  line_is_played log (Offer F) Busy l = tt
  line_is_played log Redraw NothingPublished l = tt
  line_is_played log Redraw Busy l = tt
  line_is_played log Redraw Asked l = tt
  line_is_played log ResetGen Cleared l = tt
  line_is_played log ResetCpu Cleared l = tt
  line_is_played log (ResetAll bytes) Cleared l = l.1
  line_is_played log event entry l = absurd l.0

pub legal_is_played : Always FetchesMemory
legal_is_played R image [] l = tt
legal_is_played R image ((event ⟼ entry) ∷ log) l = (line_is_played R image log event entry l, legal_is_played R image log l.2)
