use Rattle.std.proofs.Common.{◌≡◌, ◌∙◌, ap, sym, subst, Bool, true, false, ℕ, Some, None, rules}
use Rattle.std.specs.Prelude.{IsSome, if◌then◌else◌}
use Rattle.dvg_gen.specs.Machine.{Machine, WaitsInRun}
use Rattle.dvg_gen.proofs.generator.Generator.state.Goals as goal

-- a low byte that is there waits in an open run
waiting : (has_low : Bool) (low : ℕ) (is_open : Bool) → WaitsInRun has_low is_open
    → IsSome (if has_low then Some low else None) → is_open ≡ true
waiting true low is_open waits some = waits
waiting false low is_open waits some = absurd (cc)

pub returns-clause-valid : goal.returns-clause-valid
returns-clause-valid g c =
    let is = c.self-inside.view_is in
    record {
      kept = search rules;
      waits = λ some. let is_open = waiting c.self.inside.has_low c.self.inside.low c.self.inside.is_open c.self.invariant.1
          (subst (λ low. IsSome low) (c.low_byte.ensures ∙ ap (λ (m : Machine). m.low) (sym c.self.view_is)) some) in
          ap (λ inside. inside.is_open) is ∙ is_open;
      beam = search rules;
    }
