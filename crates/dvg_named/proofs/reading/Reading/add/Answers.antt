use Rattle.dvg_named.specs.LineNumbers.{AddsEntry, KeepsEntries, adds, keeps}
use Rattle.dvg_named.specs.SourcedRows.{AreSourced}
use Rattle.dvg_rows.specs.RowValues.{row_of}
use Rattle.dvg_named.proofs.OneSketch.{head_is_no_row}
use Rattle.dvg_named.proofs.ReadRows.{on_ok}
use Rattle.dvg_named.proofs.SourcedMore.{sourced_passed}
use Rattle.std.proofs.Common.{◌≡◌, Bool, true, false, refl, subst, sym, ◌∙◌}
use Rattle.dvg_read.specs.LineParts.{bytes_of}
use Rattle.dvg_read.specs.RomReading.{TellsRom}
use Rattle.dvg_read.specs.RomTexts.{RomText}
use Rattle.dvg_rows.specs.Rows.{HeadParts, IsHeadLine, RowParts}
use Rattle.dvg_named.specs.SketchReading.{IsBare, closed_in, section_in}
use Rattle.dvg_named.specs.SketchSteps.{line_of}
use Rattle.dvg_named.proofs.ReadCuts.{nothing_goes}
use Rattle.dvg_named.proofs.reading.Reading.add.Goals as goal
use Rattle.dvg_named.proofs.reading.Reading.add.Goals.{else-is_bare-via-then-is_bare+else-tell, else-is_bare-via-else-is_bare}

not_both : (b : Bool) → b ≡ true → b ≡ false → ⊥
not_both true e f = cc
not_both false e f = cc

pub returns-in_default-read_row-clause-fault : goal.returns-in_default-read_row-clause-fault
returns-in_default-read_row-clause-fault g c stated reads now =
    let line = line_of (bytes_of c.args.tokens.now) in
    let no_rom : IsBare c.args.self.now → (rom : RomText) → TellsRom stated line rom → ⊥ =
    elim c.else-is_bare.branch [
      | else-is_bare-via-then-is_bare+else-tell w ↦ λ bare rom. w.tell.ensures.refused w.if-tell.false stated rom reads
      | else-is_bare-via-else-is_bare w ↦ λ bare rom says.
          not_both c.is_bare.result (c.is_bare.ensures.1 bare) w.if-is_bare.false
    ] in
    nothing_goes stated (closed_in c.args.self.now) (section_in c.args.self.now.last) line now reads.keeps.starts
    (λ none empty rom says. no_rom (none, empty) rom says)
    (λ head is. c.in_default.ensures.only head (subst (HeadParts head) c.requires is))
    (λ row is. absurd (c.in_default-read_row.ensures.only row (subst (RowParts row) c.requires is)))

pub returns-in-Some-clause-numbers : goal.returns-in-Some-clause-numbers
returns-in-Some-clause-numbers g c =
    let old : c.else-is_bare.self ≡ c.args.self.now =
    elim c.else-is_bare.branch [
      | else-is_bare-via-then-is_bare+else-tell w ↦ w.self-is ∙ w.tell.ensures.kept w.if-tell.false
      | else-is_bare-via-else-is_bare w ↦ w.self-is
    ] in
    on_ok c.begin_section.result c.begin_section.ensures.entries (λ same stated small next reads sourced.
    keeps (subst (λ old. KeepsEntries old c.begin_section.new.self) old same)
    (λ row is. head_is_no_row c.in-Some.ensures.found (subst (RowParts row) c.requires is)))

pub returns-clause-numbers : goal.returns-clause-numbers
returns-clause-numbers g c =
    let row = row_of c.in-Some-read_row.row in
    let old : c.else-is_bare.self ≡ c.args.self.now =
    elim c.else-is_bare.branch [
      | else-is_bare-via-then-is_bare+else-tell w ↦ w.self-is ∙ w.tell.ensures.kept w.if-tell.false
      | else-is_bare-via-else-is_bare w ↦ w.self-is
    ] in
    on_ok c.add_row.result c.add_row.ensures.entries (λ more stated small next reads sourced.
    adds row (subst (RowParts row) (sym c.requires) c.in-Some-read_row.ensures.found)
    (subst (λ old. AddsEntry old row c.args.source.number c.add_row.new.self) old
    (more small next (subst (AreSourced small next) (sym old) sourced))))

pub returns-then-tell-clause-sources : goal.returns-then-tell-clause-sources
returns-then-tell-clause-sources g c small sourced at is stated reads =
    sourced_passed small _ c.args.source at
    (λ head begins. c.if-tell.ensures.no_head refl stated reads head (subst (IsHeadLine head) is begins))
    (c.if-tell.ensures.sources refl small c.args.source.number sourced)
