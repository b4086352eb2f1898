use Rattle.std.proofs.Common.{[], ◌∷◌, ◌++◌, ap, map, sym, ◌∙◌, subst}
use Rattle.std.proofs.lemmas.List.{map-append}
use Rattle.dvg_world.specs.Keeping.{pictures_of}
use Rattle.dvg_world.specs.Kept.{picture_seen}
use Rattle.dvg_world.specs.Standing.{shown_in}
use Rattle.dvg_world.specs.own.Stepping.{IsDrawnBy}
use Rattle.dvg_world.proofs.PicturesKept.{pictures_more, pictures_none}
use Rattle.dvg_world.proofs.pictures.PicturesKeptAllocKeeper.keep.Goals as goal

pub returns-in_default-clause-kept : goal.returns-in_default-clause-kept
returns-in_default-clause-kept g c event log kept count =
    let shown = shown_in c.args.world.now c.args.entry in
    let drawn = subst (IsDrawnBy shown) c.in_default.is c.take_drawn.ensures.drawn in
    kept ∙ sym (pictures_none event log shown drawn)

pub returns-clause-kept : goal.returns-clause-kept
returns-clause-kept g c event log kept count =
    let shown = shown_in c.args.world.now c.args.entry in
    let drawn = subst (IsDrawnBy shown) c.in-Some.is c.take_drawn.ensures.drawn in
    let strokes = c.in-Some.strokes.items in
    ap (map picture_seen) c.push_reserved.ensures.items
    ∙ map-append picture_seen c.args.self.now.pictures.items _
    ∙ ap (λ front. front ++ (c.args.number, strokes) ∷ []) kept
    ∙ ap (λ n. pictures_of log ++ (n, strokes) ∷ []) (sym count)
    ∙ sym (pictures_more event log shown strokes drawn)
