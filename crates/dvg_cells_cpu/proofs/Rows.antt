-- Each row of the table of opcodes. Written by crates/dvg_cells_cpu/tables.
use Rattle.std.proofs.Common.{true, false, refl}
use Rattle.dvg_calls_6502.specs.Processor.{opcodes, A, X, Y, Load, Store, Transfer, And, Or, Xor, Add, Subtract}
use Rattle.dvg_calls_6502.specs.Processor.{Compare, TestBits, Change, Step, ShiftAt, ShiftA, Set, Branch, Jump}
use Rattle.dvg_calls_6502.specs.Processor.{JumpAt, Call, Return, PushA, PushFlags, PullA, PullFlags, FromStack}
use Rattle.dvg_calls_6502.specs.Processor.{ToStack, Resume, Pass, Left, Right, RotateLeft, RotateRight, Negative}
use Rattle.dvg_calls_6502.specs.Processor.{Zero, Carry, Overflow, Decimal, Interrupt, Immediate, ZeroPage, ZeroPageX}
use Rattle.dvg_calls_6502.specs.Processor.{ZeroPageY, Absolute, AbsoluteX, AbsoluteY, IndexedIndirect}
use Rattle.dvg_calls_6502.specs.Processor.{IndirectIndexed}
use Rattle.dvg_cells_cpu.proofs.Obeying.{AllObey, in_one, in_two, in_three, in_four, in_five}
use Rattle.dvg_cells_cpu.proofs.OpsTake.{obeys_A9, obeys_A5, obeys_B5, obeys_AD, obeys_BD, obeys_B9, obeys_A1}
use Rattle.dvg_cells_cpu.proofs.OpsTake.{obeys_B1, obeys_A2, obeys_A6, obeys_B6, obeys_AE, obeys_BE, obeys_A0}
use Rattle.dvg_cells_cpu.proofs.OpsTake.{obeys_A4, obeys_B4, obeys_AC, obeys_BC, obeys_29, obeys_25, obeys_35}
use Rattle.dvg_cells_cpu.proofs.OpsTake.{obeys_2D, obeys_3D, obeys_39, obeys_21, obeys_31, obeys_09, obeys_05}
use Rattle.dvg_cells_cpu.proofs.OpsTake.{obeys_15, obeys_0D, obeys_1D, obeys_19, obeys_01, obeys_11, obeys_49}
use Rattle.dvg_cells_cpu.proofs.OpsTake.{obeys_45, obeys_55, obeys_4D, obeys_5D, obeys_59, obeys_41, obeys_51}
use Rattle.dvg_cells_cpu.proofs.OpsTake.{obeys_C9, obeys_C5, obeys_D5, obeys_CD, obeys_DD, obeys_D9, obeys_C1}
use Rattle.dvg_cells_cpu.proofs.OpsTake.{obeys_D1, obeys_E0, obeys_E4, obeys_EC, obeys_C0, obeys_C4, obeys_CC}
use Rattle.dvg_cells_cpu.proofs.OpsTake.{obeys_24, obeys_2C}
use Rattle.dvg_cells_cpu.proofs.OpsAdd.{obeys_69, obeys_65, obeys_75, obeys_6D, obeys_7D, obeys_79, obeys_61}
use Rattle.dvg_cells_cpu.proofs.OpsAdd.{obeys_71, obeys_E9, obeys_E5, obeys_F5, obeys_ED, obeys_FD, obeys_F9}
use Rattle.dvg_cells_cpu.proofs.OpsAdd.{obeys_E1, obeys_F1}
use Rattle.dvg_cells_cpu.proofs.OpsWrite.{obeys_85, obeys_95, obeys_8D, obeys_9D, obeys_99, obeys_81, obeys_91}
use Rattle.dvg_cells_cpu.proofs.OpsWrite.{obeys_86, obeys_96, obeys_8E, obeys_84, obeys_94, obeys_8C, obeys_E6}
use Rattle.dvg_cells_cpu.proofs.OpsWrite.{obeys_F6, obeys_EE, obeys_FE, obeys_C6, obeys_D6, obeys_CE, obeys_DE}
use Rattle.dvg_cells_cpu.proofs.OpsWrite.{obeys_06, obeys_16, obeys_0E, obeys_1E, obeys_46, obeys_56, obeys_4E}
use Rattle.dvg_cells_cpu.proofs.OpsWrite.{obeys_5E, obeys_26, obeys_36, obeys_2E, obeys_3E, obeys_66, obeys_76}
use Rattle.dvg_cells_cpu.proofs.OpsWrite.{obeys_6E, obeys_7E}
use Rattle.dvg_cells_cpu.proofs.OpsAlone.{obeys_AA, obeys_A8, obeys_8A, obeys_98, obeys_E8, obeys_C8, obeys_CA}
use Rattle.dvg_cells_cpu.proofs.OpsAlone.{obeys_88, obeys_0A, obeys_4A, obeys_2A, obeys_6A, obeys_18, obeys_38}
use Rattle.dvg_cells_cpu.proofs.OpsAlone.{obeys_58, obeys_78, obeys_B8, obeys_D8, obeys_F8, obeys_10, obeys_30}
use Rattle.dvg_cells_cpu.proofs.OpsAlone.{obeys_D0, obeys_F0, obeys_90, obeys_B0, obeys_50, obeys_70, obeys_4C}
use Rattle.dvg_cells_cpu.proofs.OpsAlone.{obeys_6C, obeys_20, obeys_60, obeys_48, obeys_08, obeys_68, obeys_28}
use Rattle.dvg_cells_cpu.proofs.OpsAlone.{obeys_BA, obeys_9A, obeys_40, obeys_EA}

pub all_obey : AllObey opcodes
all_obey = (in_two 0xA9 (Load A Immediate) obeys_A9 refl, (in_three 0xA5 (Load A ZeroPage) obeys_A5 refl, (in_three 0xB5 (Load A ZeroPageX) obeys_B5 refl, (in_four 0xAD (Load A Absolute) obeys_AD refl, (in_four 0xBD (Load A AbsoluteX) obeys_BD refl, (in_four 0xB9 (Load A AbsoluteY) obeys_B9 refl, (in_five 0xA1 (Load A IndexedIndirect) obeys_A1 refl, (in_five 0xB1 (Load A IndirectIndexed) obeys_B1 refl, (in_two 0xA2 (Load X Immediate) obeys_A2 refl, (in_three 0xA6 (Load X ZeroPage) obeys_A6 refl, (in_three 0xB6 (Load X ZeroPageY) obeys_B6 refl, (in_four 0xAE (Load X Absolute) obeys_AE refl, (in_four 0xBE (Load X AbsoluteY) obeys_BE refl, (in_two 0xA0 (Load Y Immediate) obeys_A0 refl, (in_three 0xA4 (Load Y ZeroPage) obeys_A4 refl, (in_three 0xB4 (Load Y ZeroPageX) obeys_B4 refl, (in_four 0xAC (Load Y Absolute) obeys_AC refl, (in_four 0xBC (Load Y AbsoluteX) obeys_BC refl, (in_three 0x85 (Store A ZeroPage) obeys_85 refl, (in_three 0x95 (Store A ZeroPageX) obeys_95 refl, (in_four 0x8D (Store A Absolute) obeys_8D refl, (in_four 0x9D (Store A AbsoluteX) obeys_9D refl, (in_four 0x99 (Store A AbsoluteY) obeys_99 refl, (in_five 0x81 (Store A IndexedIndirect) obeys_81 refl, (in_five 0x91 (Store A IndirectIndexed) obeys_91 refl, (in_three 0x86 (Store X ZeroPage) obeys_86 refl, (in_three 0x96 (Store X ZeroPageY) obeys_96 refl, (in_four 0x8E (Store X Absolute) obeys_8E refl, (in_three 0x84 (Store Y ZeroPage) obeys_84 refl, (in_three 0x94 (Store Y ZeroPageX) obeys_94 refl, (in_four 0x8C (Store Y Absolute) obeys_8C refl, (in_one 0xAA (Transfer A X) obeys_AA refl, (in_one 0xA8 (Transfer A Y) obeys_A8 refl, (in_one 0x8A (Transfer X A) obeys_8A refl, (in_one 0x98 (Transfer Y A) obeys_98 refl, (in_two 0x29 (And Immediate) obeys_29 refl, (in_three 0x25 (And ZeroPage) obeys_25 refl, (in_three 0x35 (And ZeroPageX) obeys_35 refl, (in_four 0x2D (And Absolute) obeys_2D refl, (in_four 0x3D (And AbsoluteX) obeys_3D refl, (in_four 0x39 (And AbsoluteY) obeys_39 refl, (in_five 0x21 (And IndexedIndirect) obeys_21 refl, (in_five 0x31 (And IndirectIndexed) obeys_31 refl, (in_two 0x09 (Or Immediate) obeys_09 refl, (in_three 0x05 (Or ZeroPage) obeys_05 refl, (in_three 0x15 (Or ZeroPageX) obeys_15 refl, (in_four 0x0D (Or Absolute) obeys_0D refl, (in_four 0x1D (Or AbsoluteX) obeys_1D refl, (in_four 0x19 (Or AbsoluteY) obeys_19 refl, (in_five 0x01 (Or IndexedIndirect) obeys_01 refl, (in_five 0x11 (Or IndirectIndexed) obeys_11 refl, (in_two 0x49 (Xor Immediate) obeys_49 refl, (in_three 0x45 (Xor ZeroPage) obeys_45 refl, (in_three 0x55 (Xor ZeroPageX) obeys_55 refl, (in_four 0x4D (Xor Absolute) obeys_4D refl, (in_four 0x5D (Xor AbsoluteX) obeys_5D refl, (in_four 0x59 (Xor AbsoluteY) obeys_59 refl, (in_five 0x41 (Xor IndexedIndirect) obeys_41 refl, (in_five 0x51 (Xor IndirectIndexed) obeys_51 refl, (in_two 0x69 (Add Immediate) obeys_69 refl, (in_three 0x65 (Add ZeroPage) obeys_65 refl, (in_three 0x75 (Add ZeroPageX) obeys_75 refl, (in_four 0x6D (Add Absolute) obeys_6D refl, (in_four 0x7D (Add AbsoluteX) obeys_7D refl, (in_four 0x79 (Add AbsoluteY) obeys_79 refl, (in_five 0x61 (Add IndexedIndirect) obeys_61 refl, (in_five 0x71 (Add IndirectIndexed) obeys_71 refl, (in_two 0xE9 (Subtract Immediate) obeys_E9 refl, (in_three 0xE5 (Subtract ZeroPage) obeys_E5 refl, (in_three 0xF5 (Subtract ZeroPageX) obeys_F5 refl, (in_four 0xED (Subtract Absolute) obeys_ED refl, (in_four 0xFD (Subtract AbsoluteX) obeys_FD refl, (in_four 0xF9 (Subtract AbsoluteY) obeys_F9 refl, (in_five 0xE1 (Subtract IndexedIndirect) obeys_E1 refl, (in_five 0xF1 (Subtract IndirectIndexed) obeys_F1 refl, (in_two 0xC9 (Compare A Immediate) obeys_C9 refl, (in_three 0xC5 (Compare A ZeroPage) obeys_C5 refl, (in_three 0xD5 (Compare A ZeroPageX) obeys_D5 refl, (in_four 0xCD (Compare A Absolute) obeys_CD refl, (in_four 0xDD (Compare A AbsoluteX) obeys_DD refl, (in_four 0xD9 (Compare A AbsoluteY) obeys_D9 refl, (in_five 0xC1 (Compare A IndexedIndirect) obeys_C1 refl, (in_five 0xD1 (Compare A IndirectIndexed) obeys_D1 refl, (in_two 0xE0 (Compare X Immediate) obeys_E0 refl, (in_three 0xE4 (Compare X ZeroPage) obeys_E4 refl, (in_four 0xEC (Compare X Absolute) obeys_EC refl, (in_two 0xC0 (Compare Y Immediate) obeys_C0 refl, (in_three 0xC4 (Compare Y ZeroPage) obeys_C4 refl, (in_four 0xCC (Compare Y Absolute) obeys_CC refl, (in_three 0x24 (TestBits ZeroPage) obeys_24 refl, (in_four 0x2C (TestBits Absolute) obeys_2C refl, (in_four 0xE6 (Change ZeroPage 1) obeys_E6 refl, (in_four 0xF6 (Change ZeroPageX 1) obeys_F6 refl, (in_five 0xEE (Change Absolute 1) obeys_EE refl, (in_five 0xFE (Change AbsoluteX 1) obeys_FE refl, (in_four 0xC6 (Change ZeroPage 255) obeys_C6 refl, (in_four 0xD6 (Change ZeroPageX 255) obeys_D6 refl, (in_five 0xCE (Change Absolute 255) obeys_CE refl, (in_five 0xDE (Change AbsoluteX 255) obeys_DE refl, (in_one 0xE8 (Step X 1) obeys_E8 refl, (in_one 0xC8 (Step Y 1) obeys_C8 refl, (in_one 0xCA (Step X 255) obeys_CA refl, (in_one 0x88 (Step Y 255) obeys_88 refl, (in_one 0x0A (ShiftA Left) obeys_0A refl, (in_four 0x06 (ShiftAt Left ZeroPage) obeys_06 refl, (in_four 0x16 (ShiftAt Left ZeroPageX) obeys_16 refl, (in_five 0x0E (ShiftAt Left Absolute) obeys_0E refl, (in_five 0x1E (ShiftAt Left AbsoluteX) obeys_1E refl, (in_one 0x4A (ShiftA Right) obeys_4A refl, (in_four 0x46 (ShiftAt Right ZeroPage) obeys_46 refl, (in_four 0x56 (ShiftAt Right ZeroPageX) obeys_56 refl, (in_five 0x4E (ShiftAt Right Absolute) obeys_4E refl, (in_five 0x5E (ShiftAt Right AbsoluteX) obeys_5E refl, (in_one 0x2A (ShiftA RotateLeft) obeys_2A refl, (in_four 0x26 (ShiftAt RotateLeft ZeroPage) obeys_26 refl, (in_four 0x36 (ShiftAt RotateLeft ZeroPageX) obeys_36 refl, (in_five 0x2E (ShiftAt RotateLeft Absolute) obeys_2E refl, (in_five 0x3E (ShiftAt RotateLeft AbsoluteX) obeys_3E refl, (in_one 0x6A (ShiftA RotateRight) obeys_6A refl, (in_four 0x66 (ShiftAt RotateRight ZeroPage) obeys_66 refl, (in_four 0x76 (ShiftAt RotateRight ZeroPageX) obeys_76 refl, (in_five 0x6E (ShiftAt RotateRight Absolute) obeys_6E refl, (in_five 0x7E (ShiftAt RotateRight AbsoluteX) obeys_7E refl, (in_one 0x18 (Set Carry false) obeys_18 refl, (in_one 0x38 (Set Carry true) obeys_38 refl, (in_one 0x58 (Set Interrupt false) obeys_58 refl, (in_one 0x78 (Set Interrupt true) obeys_78 refl, (in_one 0xB8 (Set Overflow false) obeys_B8 refl, (in_one 0xD8 (Set Decimal false) obeys_D8 refl, (in_one 0xF8 (Set Decimal true) obeys_F8 refl, (in_two 0x10 (Branch Negative false) obeys_10 refl, (in_two 0x30 (Branch Negative true) obeys_30 refl, (in_two 0xD0 (Branch Zero false) obeys_D0 refl, (in_two 0xF0 (Branch Zero true) obeys_F0 refl, (in_two 0x90 (Branch Carry false) obeys_90 refl, (in_two 0xB0 (Branch Carry true) obeys_B0 refl, (in_two 0x50 (Branch Overflow false) obeys_50 refl, (in_two 0x70 (Branch Overflow true) obeys_70 refl, (in_three 0x4C Jump obeys_4C refl, (in_five 0x6C JumpAt obeys_6C refl, (in_five 0x20 Call obeys_20 refl, (in_three 0x60 Return obeys_60 refl, (in_two 0x48 PushA obeys_48 refl, (in_two 0x08 PushFlags obeys_08 refl, (in_two 0x68 PullA obeys_68 refl, (in_two 0x28 PullFlags obeys_28 refl, (in_one 0xBA FromStack obeys_BA refl, (in_one 0x9A ToStack obeys_9A refl, (in_four 0x40 Resume obeys_40 refl, (in_one 0xEA Pass obeys_EA refl, tt))))))))))))))))))))))))))))))))))))))))))))))))))))))))))))))))))))))))))))))))))))))))))))))))))))))))))))))))))))))))))))))))))))))))))))))))))))))
