use Rattle.std.proofs.Common.{◌≡◌, ◌+◌, ◌*◌, ap, sym, ◌∙◌, arith, subst, length}
use Rattle.dvg_mem.specs.declared.half.Half.TheVariants.{H0}
use Rattle.dvg_frame.specs.Layout.{laid}
use Rattle.dvg_frame.proofs.Bytes.{bytes-length}
use Rattle.dvg_game_words.specs.Tables.{table_of}
use Rattle.dvg_game_check.specs.Offered.{AreThere, IsAccepted}
use Rattle.dvg_game_check.proofs.offered.is_laid.Goals as goal

pub returns-else-len_words-count : goal.returns-else-len_words-count
unfolding IsAccepted
returns-else-len_words-count g c so =
    let words = c.len_words.ensures.laid H0 in
    let n = c.names_rom.ensures c.if-not-names_rom.false in
    record {
      accepted = c.in-Ok.ensures.0;
      draft = n.1;
      names = n.0;
      long = ap (λ F. length (table_of F)) (sym c.in-Ok.ensures.1) ∙ (bytes-length (laid H0 c.in-Ok.frame.operations)
          ∙ (let e : 2 * length (laid H0 c.in-Ok.frame.operations) ≡ 2 * c.args.count = omega (arith, words, c.if-len_words-count.false) in e));
      there = subst (λ F. AreThere F c.args.rom.now (c.args.t + 2)) c.in-Ok.ensures.1 (c.bytes_there.ensures so);
    }
