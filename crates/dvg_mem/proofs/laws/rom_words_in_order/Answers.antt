use Rattle.std.proofs.Common.{◌≡◌, ◌∙◌, ◌+◌, ◌-◌, ap, sym, true, nat_le, nat_lt, Some, arith}
use Rattle.std.proofs.lemmas.Bool.{le-leb, lt-ltb}
use Rattle.dvg_code.specs.Words.{word_in}
use Rattle.dvg_code.proofs.BytesOfWords.{word_k}
use Rattle.dvg_mem.specs.Memory.{first_word}
use Rattle.dvg_mem.proofs.Roms.{words_from_first}
use Rattle.dvg_mem.proofs.laws.rom_words_in_order.Goals as goal

pub returns : goal.returns
returns c = λ rom k is_rom small.
    let words = words_from_first rom is_rom in
    let first : nat_le (first_word rom) (first_word rom + k) ≡ true = le-leb _ _ (omega arith) in
    let last : nat_lt (first_word rom + k) 0xC00 ≡ true = lt-ltb _ _ (omega arith) in
    let place : first_word rom + k - first_word rom ≡ k = omega arith in
    rw (first, last) (ap Some (ap (word_in rom) place ∙ sym (word_k rom k (omega (arith, small)))))
