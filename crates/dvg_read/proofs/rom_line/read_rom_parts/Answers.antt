use Rattle.std.proofs.Common.{◌≡◌, ℕ, List, [], codes, get_or, rules, sym}
use Rattle.std.specs.Borrow.{Bor}
use Rattle.dvg_read.proofs.GivenWords.{rom_read}
use Rattle.dvg_read.proofs.rom_line.read_rom_parts.Goals as goal

pub returns-clause-found : goal.returns-clause-found
returns-clause-found c line is =
    let blank : Bor (List ℕ) = record { ref_ptr = (0, 0); now = [] } in
    let name : (get_or c.args.cut.now 0 blank).now ≡ codes "rom" = search rules in
    rom_read c.args.first line c.args.cut.now blank c.in_ok-address.address c.in_ok-words.words.items (sym is) c.in-len2-up.len_at_least name c.in_ok-address.ensures.found
    c.in_ok-words.ensures.found (search rules) (search rules) (search rules) (search rules)
