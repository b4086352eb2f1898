-- What leaves the board alone, of the definition and of the cells.
use Rattle.std.proofs.Common.{◌≡◌, ℕ, ◌+◌, false, List, [], ◌++◌, sym, ap, ◌∙◌, subst, append-nil, arith}
use Rattle.std.specs.Prelude.{nat_eq}
use Rattle.std.proofs.lemmas.Bool.{ne_eqb}
use Rattle.dvg_calls_6502.specs.Processor.{Access, interrupted, stack_place}
use Rattle.dvg_calls_6502.specs.Board.{is_ram}
use Rattle.dvg_cells_cpu.specs.Refines.{fetched}
use Rattle.dvg_calls_cells.specs.Cycles.{IsQuiet, AreQuiet}
use Rattle.dvg_calls_cells.specs.Own.{OwnIsQuiet, NmiIsQuiet}
use Rattle.dvg_calls_cells.proofs.BoardLeftAlone.{write_append}
use Rattle.dvg_calls_cells.proofs.SeenAccesses.{no_ram, fetched_quiet}

-- the accesses that a step adds to an empty log
news_are : (news before log : List Access) → before ≡ [] → log ≡ news ++ before → log ≡ news
news_are news before log none e = e ∙ ap (λ l. news ++ l) none ∙ append-nil news

pub own : OwnIsQuiet
own instr cpu cells list g none quiet =
    subst AreQuiet (sym g.bus) (write_append IsQuiet g.news (fetched instr cpu)
    (subst AreQuiet (news_are g.news cpu.log _ none g.log) quiet) (fetched_quiet IsQuiet instr cpu))

-- a place of the stack is neither of the vector RAM nor the strobe's
not_ram : (s : ℕ) → is_ram (stack_place s) ≡ false
not_ram s = no_ram (stack_place s) (omega arith)

not_strobe : (s : ℕ) → nat_eq (stack_place s) 0x3000 ≡ false
not_strobe s = ne_eqb (stack_place s) 0x3000 (omega arith)

pub nmi : NmiIsQuiet
nmi cpu cells list g none =
    let before : AreQuiet cpu.log = subst AreQuiet (sym none) tt in
    let pushed : AreQuiet (interrupted cpu).log = (
      (not_ram (cpu.s + 254), not_strobe (cpu.s + 254)),
      ((not_ram (cpu.s + 255), not_strobe (cpu.s + 255)), ((not_ram cpu.s, not_strobe cpu.s), before)),
    ) in
    subst AreQuiet (sym g.bus)
    (subst AreQuiet (news_are g.news cpu.log _ none g.log) pushed)
