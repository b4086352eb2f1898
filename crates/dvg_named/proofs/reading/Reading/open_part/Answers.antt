use Rattle.std.proofs.Common.{◌∙◌, ap, sym, ◌++◌, ◌∷◌, []}
use Rattle.dvg_named.proofs.EntriesMore.{fitted_keeps, items_ok, opened_keeps}
use Rattle.dvg_named.proofs.SourcedMore.{fitted_sourced, part_opened}
use Rattle.dvg_named.proofs.reading.Reading.open_part.Goals as goal

pub returns-clause-entries : goal.returns-clause-entries
returns-clause-entries g c =
    let closed = c.args.self.now.closed.items in
    fitted_keeps c.args.self.now _ c.fit.new.self c.fit.ensures.head c.fit.ensures.rows c.fit.ensures.sources
    (opened_keeps (record c.args.self.now { last = c.fit.new.self }) _
    (items_ok c.push.result c.push.new.self.items (closed ++ c.replace-closed.result ∷ []) closed
    (sym c.is_err.ensures.value ∙ c.if-is_err.false) c.push.ensures.items
    ∙ ap (λ p. closed ++ p ∷ []) c.replace-closed.ensures.value)
    (ap (λ p. p.rows.items) c.replace-closed.ensures.after ∙ c.new-part.ensures.rows))

pub returns-clause-sources : goal.returns-clause-sources
returns-clause-sources g c small sourced at =
    let closed = c.args.self.now.closed.items in
    part_opened small (record c.args.self.now { last = c.fit.new.self }) _ c.args.head c.args.source
    (items_ok c.push.result c.push.new.self.items (closed ++ c.replace-closed.result ∷ []) closed
    (sym c.is_err.ensures.value ∙ c.if-is_err.false) c.push.ensures.items
    ∙ ap (λ p. closed ++ p ∷ []) c.replace-closed.ensures.value)
    (ap (λ p. p.head) c.replace-closed.ensures.after ∙ c.new-part.ensures.head)
    (ap (λ p. p.begin) c.replace-closed.ensures.after ∙ c.new-part.ensures.begin)
    (ap (λ p. p.rows.items) c.replace-closed.ensures.after ∙ c.new-part.ensures.rows)
    (ap (λ p. p.sources.items) c.replace-closed.ensures.after ∙ c.new-part.ensures.sources)
    (fitted_sourced small c.args.source.number c.args.self.now c.fit.new.self c.fit.ensures.head c.fit.ensures.begin c.fit.ensures.rows
    c.fit.ensures.sources sourced) at
