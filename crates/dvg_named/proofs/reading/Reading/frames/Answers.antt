use Rattle.std.proofs.Common.{◌∙◌, All, ap, map, subst, sym}
use Rattle.dvg_named.specs.FrameValues.{IsBegunAt}
use Rattle.dvg_named.specs.LineNumbers.{first_head}
use Rattle.dvg_named.specs.ReadParts.{sketch_of}
use Rattle.dvg_named.specs.Sections.{frames}
use Rattle.dvg_named.specs.SketchReading.{section_in}
use Rattle.dvg_named.specs.SourcedRows.{AreInOrder, IsPartAt, StandsBefore}
use Rattle.dvg_named.proofs.RomFew.{if_ok}
use Rattle.dvg_named.proofs.reading.Reading.frames.Goals as goal

pub returns-clause-frames : goal.returns-clause-frames
returns-clause-frames g c =
    if_ok c.frame_rows.result c.frame_rows.ensures.frames (λ found are stated.
    are stated ∙ ap (λ l. frames (sketch_of stated (map section_in l) (section_in c.args.self.now.last))) c.as_slice.ensures.value)

pub returns-clause-sources : goal.returns-clause-sources
returns-clause-sources g c =
    if_ok c.frame_rows.result c.frame_rows.ensures.sources (λ found at small next sourced.
    at small (subst (All (IsPartAt small)) (sym c.as_slice.ensures.value) sourced.closed) sourced.last)

pub returns-clause-begins : goal.returns-clause-begins
returns-clause-begins g c =
    if_ok c.frame_rows.result c.frame_rows.ensures.begins (λ found begun stated small next sourced none.
    subst (λ l. All (IsBegunAt small (sketch_of stated (map section_in l) (section_in c.args.self.now.last))) found.items)
    c.as_slice.ensures.value
    (begun stated small (subst (All (IsPartAt small)) (sym c.as_slice.ensures.value) sourced.closed) sourced.last
    (ap (λ l. first_head l c.args.self.now.last) c.as_slice.ensures.value ∙ none)))

pub returns-clause-rise : goal.returns-clause-rise
returns-clause-rise g c =
    if_ok c.frame_rows.result c.frame_rows.ensures.rise (λ found rise small next sourced.
    rise small (subst (All (IsPartAt small)) (sym c.as_slice.ensures.value) sourced.closed)
    (subst AreInOrder (sym c.as_slice.ensures.value) sourced.order)
    (subst (All (StandsBefore c.args.self.now.last.begin.number)) (sym c.as_slice.ensures.value) sourced.ahead))
