-- A draft over a ROM that has grown: what was reached, and what stands there, is as before.
use Rattle.std.proofs.Common.{◌≡◌, ◌∙◌, ℕ, suc, ◌+◌, ◌≤◌, inl, inr, ⊎_elim, List, Some, None, sym, arith}
use Rattle.std.specs.Prelude.{◌↔◌}
use Rattle.dvg_code.specs.declared.instr.Instr.{Instr}
use Rattle.dvg_code.specs.Acts.{Act}
use Rattle.dvg_gen.specs.declared.beam.Beam.{Beam}
use Rattle.dvg_gen.specs.declared.stroke.Stroke.{Stroke}
use Rattle.dvg_mem.specs.Memory.{IsGrown, first_word, rom_word}
use Rattle.dvg_mem.proofs.Roms.{large_first, none_there, rom_none, rom_some}
use Rattle.dvg_frame.specs.declared.op.OpKind.{OpKind}
use Rattle.dvg_frame.specs.declared.place.Place.{Place}
use Rattle.dvg_frame.specs.declared.place.Place.TheVariants.{InFrame, InRom}
use Rattle.dvg_frame.specs.declared.fault.FrameFault.{FrameFault}
use Rattle.dvg_frame.specs.own.Pairs.{pair_of}
use Rattle.dvg_frame.specs.Steps.{SpelledAt, one, two, Stands, in_frame, in_rom, Bad, last, target, second, past, deep, bare, Leads, on, jump, call, back, Reached, begin, step, Closed}
use Rattle.dvg_frame.specs.Picture.{End, Draws, halts, returns, moves, jumps, call_halts, calls, IsPicture}
use Rattle.dvg_frame.specs.own.Ways.{IsPlaceOf}
use Rattle.dvg_frame.proofs.Swept.{few_ops, pair_in}

module _ (F : List OpKind) (R S : List ℕ) (grown : IsGrown R S) (small : first_word R ≡ 0x800) where
  word_stays : (a word : ℕ) → rom_word R a ≡ Some word → rom_word S a ≡ Some word
  word_stays a word is = let inside = rom_some R a word is in let low = inside.0 in grown.words a (omega arith) ∙ is

  spelled_stays : {a : ℕ} {instr : Instr} → SpelledAt (rom_word R) a instr → SpelledAt (rom_word S) a instr
  spelled_stays (one is spells) = one (word_stays _ _ is) spells
  spelled_stays (two is next spells) = two (word_stays _ _ is) (word_stays _ _ next) spells

  stands_stays : {p after : Place} {act : Act Place} → Stands F R p act after → Stands F S p act after
  stands_stays (in_frame is act) = in_frame is act
  stands_stays (in_rom spelled act) = in_rom (spelled_stays spelled) act

  -- a place that there was before
  abbrev IsOld : Place → Type 0
  IsOld (InFrame i) = Unit {0}
  IsOld (InRom a) = 0x800 ≤ a

  spelled_before : (a : ℕ) {instr : Instr} → 0x800 ≤ a → SpelledAt (rom_word S) a instr → SpelledAt (rom_word R) a instr
  spelled_before a old (one is spells) = one (sym (grown.words a old) ∙ is) spells
  spelled_before a old (two is next spells) = two (sym (grown.words a old) ∙ is) (sym (grown.words (a + 1) (omega arith)) ∙ next) spells

  stands_before : (p : Place) {after : Place} {act : Act Place} → IsOld p → Stands F S p act after → Stands F R p act after
  stands_before (InFrame i) old (in_frame is act) = in_frame is act
  stands_before (InRom a) old (in_rom spelled act) = in_rom (spelled_before a old spelled) act

  outside_before : (a : ℕ) → rom_word S a ≡ None → rom_word R a ≡ None
  outside_before a none =
      let large = large_first S grown.count in
      none_there R a (⊎_elim (λ below. inl (omega arith)) (λ past. inr past) (rom_none S a none))

  bad_before : (p : Place) (d : ℕ) (fault : FrameFault) → IsOld p → Bad F S p d fault → Bad F R p d fault
  bad_before p d fault old (last stands goes is) = last (stands_before p old stands) goes is
  bad_before p d fault old (target a stands named outside) = target a (stands_before p old stands) named (outside_before a outside)
  bad_before p d fault old (second {a = a} is first outside) = second (sym (grown.words a old) ∙ is) first (outside_before (a + 1) outside)
  bad_before p d fault old (past {b = b} stands goes outside) = past (stands_before p old stands) goes (outside_before b outside)
  bad_before p d fault old (deep stands is) = deep (stands_before p old stands) is
  bad_before p d fault old (bare stands is) = bare (stands_before p old stands) is

  leads_before : (p : Place) {q : Place} {d e : ℕ} → IsOld p → Leads F S p d q e → Leads F R p d q e
  leads_before p old (on stands) = on (stands_before p old stands)
  leads_before p old (jump stands) = jump (stands_before p old stands)
  leads_before p old (call stands) = call (stands_before p old stands)
  leads_before p old (back stands) = back (stands_before p old stands)

  module _ (closed : Closed F R) where
    old_by : (p : Place) → IsPlaceOf F R p → IsOld p
    old_by (InFrame i) inside = tt
    old_by (InRom a) inside = let low = inside.0 in omega arith

    is_old : (p : Place) (d : ℕ) → Reached F R p d → IsOld p
    is_old p d reached = old_by p (pair_in F R (few_ops F closed.begins) closed.begins (pair_of p d) reached)

    reached_before : {p : Place} {d : ℕ} → Reached F S p d → Reached F R p d
    reached_before begin = begin
    reached_before (step {p = p} {d = d} reached fine leads) =
        let before = reached_before reached in step before (closed.fine p d before) (leads_before p (is_old p d before) leads)

    pub stays_closed : Closed F S
    stays_closed = record {
      begins = closed.begins;
      fine = λ p d reached fault bad. let before = reached_before reached in closed.fine p d before fault (bad_before p d fault (is_old p d before) bad);
    }

    draws_stays : {p : Place} {beam last : Beam} {strokes : List Stroke} {end : End} {n : ℕ} → Draws F R p beam strokes last end n → Draws F S p beam strokes last end n
    draws_stays (halts stands) = halts (stands_stays stands)
    draws_stays (returns stands) = returns (stands_stays stands)
    draws_stays (moves stands draws) = moves (stands_stays stands) (draws_stays draws)
    draws_stays (jumps stands draws) = jumps (stands_stays stands) (draws_stays draws)
    draws_stays (call_halts stands draws) = call_halts (stands_stays stands) (draws_stays draws)
    draws_stays (calls stands inside draws) = calls (stands_stays stands) (draws_stays inside) (draws_stays draws)

    draws_before : (p : Place) (d : ℕ) {beam last : Beam} {strokes : List Stroke} {end : End} {n : ℕ} → Reached F R p d → Draws F S p beam strokes last end n → Draws F R p beam strokes last end n
    draws_before p d reached (halts stands) = halts (stands_before p (is_old p d reached) stands)
    draws_before p d reached (returns stands) = returns (stands_before p (is_old p d reached) stands)
    draws_before p d reached (moves {after = after} stands draws) =
        let there = stands_before p (is_old p d reached) stands in
        moves there (draws_before after d (step reached (closed.fine p d reached) (on there)) draws)
    draws_before p d reached (jumps {to = to} stands draws) =
        let there = stands_before p (is_old p d reached) stands in
        jumps there (draws_before to d (step reached (closed.fine p d reached) (jump there)) draws)
    draws_before p d reached (call_halts {to = to} stands draws) =
        let there = stands_before p (is_old p d reached) stands in
        call_halts there (draws_before to (suc d) (step reached (closed.fine p d reached) (call there)) draws)
    draws_before p d reached (calls {to = to} {after = after} stands inside draws) =
        let there = stands_before p (is_old p d reached) stands in
        calls there (draws_before to (suc d) (step reached (closed.fine p d reached) (call there)) inside) (draws_before after d (step reached (closed.fine p d reached) (back there)) draws)

    pub same_pictures : (strokes : List Stroke) (n : ℕ) → IsPicture F S strokes n ↔ IsPicture F R strokes n
    same_pictures strokes n = (
      λ it. record { last = it.last; rest = it.rest; draws = draws_before (InFrame 0) 0 begin it.draws; count = it.count },
      λ it. record { last = it.last; rest = it.rest; draws = draws_stays it.draws; count = it.count },
    )
