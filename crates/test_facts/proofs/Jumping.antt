-- The frame with a jump, laid out.
use Rattle.std.proofs.Common.{◌≡◌, List, refl, ap, ◌∙◌}
use Rattle.dvg_mem.specs.declared.half.Half.{Half}
use Rattle.dvg_mem.specs.declared.half.Half.TheVariants.{H0, H1}
use Rattle.dvg_frame.specs.declared.op.OpKind.{OpKind}
use Rattle.dvg_frame.specs.Bytes.{bytes}
use Rattle.dvg_frame.specs.Layout.{laid}
use Rattle.test_facts.specs.Facts.{jump_bytes, jump_frame}

laid_jump : (half : Half) → bytes (laid half jump_frame) ≡ jump_bytes half
laid_jump H0 = refl
laid_jump H1 = refl

-- the bytes of the operations of that frame
pub bytes_are : (half : Half) (F : List OpKind) → F ≡ jump_frame → bytes (laid half F) ≡ jump_bytes half
bytes_are half F is = ap (λ F. bytes (laid half F)) is ∙ laid_jump half
