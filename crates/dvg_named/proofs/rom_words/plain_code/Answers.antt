use Rattle.std.proofs.Common.{◌≡◌, ℕ, ap, ◌⊎◌, inl, inr}
use Rattle.dvg_frame.specs.declared.op.OpKind.{OpKind}
use Rattle.dvg_frame.specs.declared.op.OpKind.TheVariants.{Call, Jump}
use Rattle.dvg_rows.specs.Rows.{plainly}
use Rattle.dvg_named.proofs.rom_words.plain_code.Goals as goal

no_number : (kind : OpKind)
    → ((n : ℕ) → (plainly kind ≡ plainly (Call n) → ⊥) × (plainly kind ≡ plainly (Jump n) → ⊥))
    → ((n : ℕ) × (kind ≡ Call n)) ⊎ ((n : ℕ) × (kind ≡ Jump n)) → ⊥
no_number kind may (inl h) = (may h.0).0 (ap plainly h.1)
no_number kind may (inr h) = (may h.0).1 (ap plainly h.1)

pub unreachable-requires : goal.unreachable-requires
unreachable-requires c = no_number c.args.kind c.requires.may c.in-Call.is
