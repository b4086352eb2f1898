use Rattle.std.proofs.Common.{◌≡◌, ◌∙◌, sym, ap, subst, append-nil, ◌++◌}
use Rattle.std.specs.Iterator.Runs.{YieldsRun}
use Rattle.dvg_code.specs.Cutting.{Cuts}
use Rattle.dvg_code.specs.Listing.{place_of, words_left}
use Rattle.dvg_code.proofs.Listings.{gave}
use Rattle.dvg_code.proofs.listing.Listing.new.Goals as goal

pub returns-clause-runs : goal.returns-clause-runs
unfolding YieldsRun
returns-clause-runs c = λ run seen from cutting.
    let place : place_of run.from ≡ 0 = ap place_of from in
    let words : words_left run.from ≡ c.args.words.now = ap words_left from in
    let cuts : Cuts (place_of run.from) (words_left run.from) cutting.items cutting.end cutting.rest =
    subst (λ k. Cuts k (words_left run.from) cutting.items cutting.end cutting.rest) (sym place)
    (subst (λ l. Cuts 0 l cutting.items cutting.end cutting.rest) (sym words) cutting.cuts) in
    let drained = run.gave.0 in
    let g = gave run.from drained.0 run.items cutting.items cutting.end cutting.rest drained.1 cuts in
    ((g.more, g.is), λ whole. let last = drained.2 whole in let none = g.whole last.0 last.1 in sym (append-nil run.items) ∙ ap (λ l. run.items ++ l) (sym none) ∙ sym g.is)
