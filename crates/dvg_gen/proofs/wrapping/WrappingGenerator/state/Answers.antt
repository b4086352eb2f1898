use Rattle.std.proofs.Common.{ap, sym, ◌∙◌, subst, length, reverse, ℕ, List, arith}
use Rattle.std.proofs.lemmas.List.{length-reverse}
use Rattle.std.proofs.lemmas.Grind.{elements}
use Rattle.std.specs.Prelude.{All, ◌<◌}
use Rattle.dvg_gen.proofs.wrapping.WrappingGenerator.state.Goals as goal

in_range : (registers : List ℕ) → All (λ address. address < 4096) registers
    → All (λ address. address < 4096) (reverse registers)
in_range registers addresses = grind (arith, elements)

pub returns-clause-valid : goal.returns-clause-valid
returns-clause-valid g c =
    let inner = c.state-state.ensures.valid in
    let kept = c.self.invariant.1 in
    let registers = sym c.oldest_first-state.ensures in
    record {
      plain = record {
        kept = record {
          at_is_address = inner.kept.at_is_address;
          held_is_first = inner.kept.held_is_first;
          stack_is_addresses = subst (All (λ address. address < 4096)) registers (in_range c.self.inside.registers kept.addresses);
        };
        waits = inner.waits;
        beam = inner.beam;
      };
      four = ap length (sym registers) ∙ length-reverse c.self.inside.registers ∙ kept.four;
    }
