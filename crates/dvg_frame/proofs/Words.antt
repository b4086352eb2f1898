-- The words of the ROM, and what stands there by their opcodes.
use Rattle.std.proofs.Common.{◌≡◌, ℕ, ◌+◌, ◌-◌, ◌%◌, ◌<◌, ◌≤◌, List, [], ◌∷◌, Some, refl, sym, ap, ◌∙◌, arith}
use Rattle.dvg_code.specs.declared.instr.Instr.{Instr}
use Rattle.dvg_code.specs.Spelling.{Spells, IsFirst, word_count, vctr, labs, halt, jsrl, rtsl, jmpl, svec}
use Rattle.dvg_code.specs.Words.{IsWord, word_in}
use Rattle.dvg_code.proofs.Beginnings.{one_word, two_words}
use Rattle.dvg_mem.specs.Memory.{IsRom, first_word, rom_word}
use Rattle.dvg_mem.proofs.Roms.{rom_there, word_fits}
use Rattle.dvg_frame.specs.declared.op.OpKind.{OpKind}
use Rattle.dvg_code.specs.Acts.{act_by}
use Rattle.dvg_frame.specs.declared.place.Place.{Place}
use Rattle.dvg_frame.specs.declared.place.Place.TheVariants.{InRom}
use Rattle.dvg_frame.specs.declared.checking.way.Way.TheVariants.{Move, Jump, Call, Return, Halt}
use Rattle.dvg_frame.specs.Steps.{one, two, in_rom}
use Rattle.dvg_frame.specs.own.Ways.{way, StandsSo}

-- an instruction of two words, or one of opcode F, leads to the place after it
long_moves : {first second : ℕ} {instr : Instr} (after : Place) → Spells instr (first ∷ second ∷ []) → (way (act_by InRom instr) after ≡ Move after 2) × (word_count instr ≡ 2)
long_moves after (vctr range first second) = (refl, refl)
long_moves after (labs range first second) = (refl, refl)

short_moves : {word : ℕ} {instr : Instr} (after : Place) → 61440 ≤ word → Spells instr (word ∷ []) → (way (act_by InRom instr) after ≡ Move after 1) × (word_count instr ≡ 1)
short_moves after f (halt low high) = absurd (omega arith)
short_moves after f (jsrl range sum) = absurd (omega arith)
short_moves after f (rtsl low high) = absurd (omega arith)
short_moves after f (jmpl range sum) = absurd (omega arith)
short_moves after f (svec range parts) = (refl, refl)

module _ (F : List OpKind) (R : List ℕ) (a word : ℕ) (there : rom_word R a ≡ Some word) where
  pub stands_halt : 45056 ≤ word → word < 49152 → StandsSo F R (InRom a) Halt
  stands_halt low high = record { act = _; after = _; stands = in_rom (one there (halt low high)) refl; is = refl }

  pub stands_call : 49152 ≤ word → word < 53248 → StandsSo F R (InRom a) (Call (InRom (word % 4096)) (InRom (a + 1)))
  stands_call low high =
      let size : word % 4096 ≤ 4095 = omega arith in
      record { act = _; after = _; stands = in_rom (one there (jsrl size (omega arith))) refl; is = refl }

  pub stands_return : 53248 ≤ word → word < 57344 → StandsSo F R (InRom a) Return
  stands_return low high = record { act = _; after = _; stands = in_rom (one there (rtsl low high)) refl; is = refl }

  pub stands_jump : 57344 ≤ word → word < 61440 → StandsSo F R (InRom a) (Jump (InRom (word % 4096)))
  stands_jump low high =
      let size : word % 4096 ≤ 4095 = omega arith in
      record { act = _; after = _; stands = in_rom (one there (jmpl size (omega arith))) refl; is = refl }

  pub stands_short : 61440 ≤ word → IsWord word → StandsSo F R (InRom a) (Move (InRom (a + 1)) 1)
  stands_short low fits =
      let spelled = one_word word (omega arith) fits in
      let instr = spelled.0 in
      let kind = short_moves (InRom (a + word_count instr)) low spelled.1 in
      record { act = _; after = _; stands = in_rom (one there spelled.1) refl; is = ap (λ n. Move (InRom (a + n)) 1) (sym kind.1) ∙ sym kind.0 }

  pub stands_long : IsRom R → first_word R ≤ a → a + 1 < 0xC00 → IsFirst word → StandsSo F R (InRom a) (Move (InRom (a + 2)) 2)
  stands_long image low high first =
      let next_there = rom_there R (a + 1) (omega arith) high in
      let spelled = two_words word (word_in R (a + 1 - first_word R)) first (word_fits R (a + 1) image (omega arith) high) in
      let kind = long_moves (InRom (a + word_count spelled.0)) spelled.1 in
      record { act = _; after = _; stands = in_rom (two there next_there spelled.1) refl; is = ap (λ n. Move (InRom (a + n)) 2) (sym kind.1) ∙ sym kind.0 }
