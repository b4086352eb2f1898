use Rattle.std.proofs.Common.{ap, ◌∙◌, Err}
use Rattle.std.proofs.lemmas.Result.{err_from_is_err_and}
use Rattle.dvg_io.proofs.Served.{served, unserved}
use Rattle.dvg_tool.proofs.PrefixDecides.{rom_stops, rom_written}
use Rattle.dvg_mem.specs.declared.TheConstants.{LARGE_ROM_BYTES}
use Rattle.dvg_tool.proofs.roms.rom_text.Goals as goal

pub returns-in_err-serve : goal.returns-in_err-serve
returns-in_err-serve g c =
    let is = err_from_is_err_and c.from_residual.result c.from_residual.ensures.1 in
    let fault = c.in_err-serve.field-0.0 in
    unserved g.R.Read.remaining g.W.Write.contents LARGE_ROM_BYTES _ _ _ _ c.args.reader.now c.serve.new.reader c.args.writer.now c.serve.new.writer
    c.from_residual.result fault (is.1 ∙ ap Err is.2) (λ early. early) (rom_stops _ (Unit {0}) fault _ _) c.in_err-serve.ensures

pub returns : goal.returns
returns g c =
    let words = c.in_ok-serve.field-0 in
    served g.R.Read.remaining g.W.Write.contents LARGE_ROM_BYTES _ _ _ _ c.args.reader.now c.serve.new.reader c.args.writer.now c.serve.new.writer
    words (tt {0}) (rom_written words (tt {0}) _ _) c.in_ok-serve.ensures
