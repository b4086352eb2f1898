use Rattle.std.proofs.Common.{◌≡◌, ◌+◌, rules, subst, sym, take}
use Rattle.std.proofs.lemmas.List.{take_all}
use Rattle.dvg_read.specs.LineParts.{bytes_of}
use Rattle.dvg_read.specs.RomReading.{SpellsWords}
use Rattle.dvg_read.proofs.GivenWords.{no_word, same_words, too_many, word_read}
use Rattle.dvg_read.proofs.rom_line.hex_words.Goals as goal

pub returns-then-is_full-clause-only : goal.returns-then-is_full-clause-only
returns-then-is_full-clause-only c words few all = too_many c.loop-part.words.items words c.args.parts.now c.loop-part.part-index c.loop-part.invariant.read (search rules) (search rules) few all

pub returns-in_err-hex-clause-only : goal.returns-in_err-hex-clause-only
returns-in_err-hex-clause-only c words few all =
    absurd (no_word words c.args.parts.now c.loop-part.part-index _ (search rules) (λ word h. let is = c.hex.ensures.only word h in let none = c.in_err-hex.was in absurd cc) all)

pub loop-part-preserved : goal.loop-part-preserved
loop-part-preserved c = record {
  few = search rules;
  read = subst (λ l. SpellsWords l (bytes_of (take (c.loop-part.part-index + 1) c.args.parts.now))) (sym c.push.ensures.items)
      (word_read c.loop-part.words.items c.args.parts.now c.loop-part.part-index c.in_ok-hex.field-0 _ c.loop-part.invariant.read (search rules) c.in_ok-hex.ensures.found);
}

pub returns-clause-only : goal.returns-clause-only
returns-clause-only c words few all =
    let whole : take c.loop-part.part-index c.args.parts.now ≡ c.args.parts.now = take_all c.loop-part.part-index c.args.parts.now (search rules) in
    same_words c.loop-part.words.items words (bytes_of c.args.parts.now) (subst (λ l. SpellsWords c.loop-part.words.items (bytes_of l)) whole c.loop-part.invariant.read) all
