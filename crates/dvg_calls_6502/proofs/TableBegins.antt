-- A table that begins leads to the script's writes.
use Rattle.std.proofs.Common.{◌≡◌, ℕ, ◌+◌, ◌-◌, ◌*◌, ◌%◌, ◌<◌, ◌≤◌, Bool, false, not, List, ◌++◌, length, sym, ap}
use Rattle.std.proofs.Common.{◌∙◌, subst, arith, inl}
use Rattle.std.specs.Prelude.{nat_eq, slice_index}
use Rattle.dvg_mem.specs.declared.half.Half.{Half}
use Rattle.dvg_mem.specs.declared.half.Half.TheVariants.{H0, H1}
use Rattle.dvg_mem.specs.Areas.{high, other, base}
use Rattle.dvg_frame.specs.declared.op.OpKind.{OpKind}
use Rattle.dvg_frame.specs.Bytes.{addressed}
use Rattle.dvg_driver.specs.Script.{frame_writes, word_zero}
use Rattle.dvg_driver.specs.Place.{Writing}
use Rattle.dvg_calls_6502.specs.Board.{is_hardware, source_in, goal_in}
use Rattle.dvg_calls_6502.specs.Feed.{fed}
use Rattle.dvg_calls_6502.specs.Holds.{IsFeeding, Holds, publish_byte}
use Rattle.dvg_calls_6502.specs.Tables.{AreExpressible, table_of, TableMisses}
use Rattle.dvg_calls_6502.proofs.TableFed.{table_law}

-- the driver's bytes begin a table, which stands in memory
pub record BeginsTable (mem : ℕ → ℕ) (t : ℕ) (half : Half) (F : List OpKind) : Type 0 where
  pub fit : AreExpressible F F
  pub phase : mem 0x10 ≡ 0x80
  pub free : mem 0x11 ≡ high (other half)
  pub place : mem 0x13 ≡ 2
  pub to_low : mem 0x14 ≡ 0
  pub to_high : 256 * mem 0x15 + 2 ≡ 0x4000 + 2 * base (other half)
  pub from : mem 0x19 + 256 * mem 0x1A + 2 ≡ t
  pub mark : mem 0x18 ≡ 0
  pub some : 1 ≤ length (table_of F)
  pub fits : length (table_of F) ≤ 1022
  pub counted : 256 * mem 0x16 + mem 0x17 ≡ 2 + length (table_of F)
  pub even : mem 0x17 % 2 ≡ 0
  pub table : (k : ℕ) → k < length (table_of F) → mem (t + k) ≡ slice_index (table_of F) k
  pub far : (k : ℕ) → k < length (table_of F) → is_hardware (t + k) ≡ false
  pub low : 0x202 ≤ t
  pub ends : t + length (table_of F) ≤ 65536

pub base_low : (half : Half) → (1 ≤ base half) × (base half ≤ 0x201)
base_low H0 = (omega arith, omega arith)
base_low H1 = (omega arith, omega arith)

feeds : (mem : ℕ → ℕ) (t : ℕ) (half : Half) (flipped : Bool) (F : List OpKind) → BeginsTable mem t half F
    → IsFeeding mem t (t + length (table_of F)) half flipped (frame_writes (other half) F (not flipped))
feeds mem t half flipped F b = record {
  phase = b.phase;
  rest = table_of F;
  odd = false;
  second = false;
  parity = ap (λ p. nat_eq (p % 2) 1) b.place;
  mark = b.mark;
  some = b.some;
  left = omega (arith, b.place, b.counted);
  even = b.even;
  reads = λ k h. ap mem (from k) ∙ b.table k h;
  far = λ k h. (omega (arith, from k, b.low), subst (λ q. is_hardware q ≡ false) (sym (from k)) (b.far k h));
  after = omega (arith, b.place, b.from);
  ends = omega (arith, b.place, b.from);
  top = b.ends;
  low = omega (arith, b.place, b.to_low, b.to_high, (base_low (other half)).0);
  high = omega (arith, b.place, b.to_low, b.to_high, (base_low (other half)).1, b.fits);
  are = ap (λ l. addressed (2 * base (other half)) l ++ word_zero (other half) (not flipped))
      (sym (table_law (other half) F b.fit) ∙ ap (λ f. fed f false false (table_of F)) (sym b.free))
      ∙ ap (λ p. addressed p (fed (mem 0x11) false false (table_of F)) ++ word_zero (other half) (not flipped)) there;
}
  where
    from : (k : ℕ) → source_in mem + k ≡ t + k
    from k = omega (arith, b.place, b.from)

    there : 2 * base (other half) ≡ goal_in mem - 0x4000
    there = omega (arith, b.place, b.to_low, b.to_high)

pub table_begins : (mem : ℕ → ℕ) (t : ℕ) (half : Half) (flipped : Bool) (F : List OpKind)
    → mem 0x12 ≡ publish_byte flipped → BeginsTable mem t half F
    → Holds mem t (t + length (table_of F)) (record {
      place = Writing (frame_writes (other half) F (not flipped));
      half = half;
      flipped = flipped;
    })
table_begins mem t half flipped F is b = record { flipped = is; place = (b.free, inl (feeds mem t half flipped F b)) }

pub table_misses : TableMisses
table_misses is = let e : ◌≡◌ {A = ℕ} 0xC2 0xC0 = ap (λ l. slice_index l 7) is in absurd (omega arith)
