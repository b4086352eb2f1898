-- Each wire that a register or a pin rests on fits its width. Written by crates/dvg_cells_cpu/tables.
use Rattle.std.proofs.Common.{ℕ, ◌<◌, lit<, lit≤}
use Rattle.std.specs.Prelude.{nat_eq, nat_le, bit_and, bit_or, bit_xor}
use Rattle.dvg_cells_core.specs.Cells.{add, sub, both, either, eq, lt, mux, none, part, joined}
use Rattle.dvg_cells_cpu.specs.Cells.{ge}
use Rattle.dvg_cells_cpu.specs.Cpu.{Cpu as Cells, Pins, clock, at, write, dout}
use Rattle.dvg_cells_cpu.specs.Widths.{Fits}
use Rattle.dvg_cells_cpu.proofs.Bounds.{mod_in, wider, mux_in, bit_in, none_in, both_in, either_in, and_in, or_in}
use Rattle.dvg_cells_cpu.proofs.Bounds.{xor_in, joined_in}

pub all_in : (cells : Cells) (pins : Pins) → Fits cells → pins.nmi < 2 → pins.din < 256
    → Fits (clock cells pins) × (at cells < 65536) × (write cells < 2) × (dout cells < 256)
all_in cells pins fits nmi_in din_in =
    let w_n83 : ℕ = eq cells.ir 8 in
    let w_is_reset_low : ℕ = none cells.state in
    let w_is_reset_high : ℕ = eq cells.state 1 in
    let w_is_first : ℕ = eq cells.state 3 in
    let w_is_second : ℕ = eq cells.state 4 in
    let w_is_point_low : ℕ = eq cells.state 5 in
    let w_is_point_high : ℕ = eq cells.state 6 in
    let w_is_data : ℕ = eq cells.state 7 in
    let w_is_back : ℕ = eq cells.state 8 in
    let w_is_call_high : ℕ = eq cells.state 9 in
    let w_is_call_low : ℕ = eq cells.state 10 in
    let w_is_pull_low : ℕ = eq cells.state 11 in
    let w_is_pull_high : ℕ = eq cells.state 12 in
    let w_is_nmi_low : ℕ = eq cells.state 13 in
    let w_is_nmi_flags : ℕ = eq cells.state 14 in
    let w_is_nmi_to_low : ℕ = eq cells.state 15 in
    let w_is_nmi_to_high : ℕ = eq cells.state 16 in
    let w_is_jump_low : ℕ = eq cells.state 17 in
    let w_is_jump_high : ℕ = eq cells.state 18 in
    let w_is_push : ℕ = eq cells.state 19 in
    let w_is_pull : ℕ = eq cells.state 20 in
    let w_is_nmi_high : ℕ = both (eq cells.state 2) cells.due in
    let w_sync : ℕ = both (eq cells.state 2) (none cells.due) in
    let w_store_y : ℕ = either (either (eq cells.ir 132) (eq cells.ir 148)) (eq cells.ir 140) in
    let w_store_x : ℕ = either (either (eq cells.ir 134) (eq cells.ir 150)) (eq cells.ir 142) in
    let w_store : ℕ = either (either w_store_y w_store_x) (both (both (eq (part 0 2 cells.ir) 1) (eq (part 5 3 cells.ir)
    4)) (none (eq (part 2 3 cells.ir) 2))) in
    let w_pushes : ℕ = either (either (either (either (either w_is_call_high w_is_call_low) w_is_nmi_high) w_is_nmi_low)
    w_is_nmi_flags) w_is_push in
    let w_pulls : ℕ = either (either w_is_pull_low w_is_pull_high) w_is_pull in
    let w_op : ℕ = mux w_sync pins.din cells.ir in
    let w_rti : ℕ = eq w_op 64 in
    let w_pla : ℕ = eq w_op 104 in
    let w_tax : ℕ = eq w_op 170 in
    let w_tay : ℕ = eq w_op 168 in
    let w_txa : ℕ = eq w_op 138 in
    let w_tya : ℕ = eq w_op 152 in
    let w_tsx : ℕ = eq w_op 186 in
    let w_txs : ℕ = eq w_op 154 in
    let w_inx : ℕ = eq w_op 232 in
    let w_iny : ℕ = eq w_op 200 in
    let w_dex : ℕ = eq w_op 202 in
    let w_dey : ℕ = eq w_op 136 in
    let w_clc : ℕ = eq w_op 24 in
    let w_sec : ℕ = eq w_op 56 in
    let w_cli : ℕ = eq w_op 88 in
    let w_sei : ℕ = eq w_op 120 in
    let w_clv : ℕ = eq w_op 184 in
    let w_cld : ℕ = eq w_op 216 in
    let w_sed : ℕ = eq w_op 248 in
    let w_group0 : ℕ = none (part 0 2 w_op) in
    let w_group1 : ℕ = eq (part 0 2 w_op) 1 in
    let w_group2 : ℕ = eq (part 0 2 w_op) 2 in
    let w_jmp : ℕ = eq w_op 76 in
    let w_jump_at : ℕ = eq w_op 108 in
    let w_jsr : ℕ = eq w_op 32 in
    let w_branch : ℕ = both w_group0 (eq (part 2 3 w_op) 4) in
    let w_load_a : ℕ = both w_group1 (eq (part 5 3 w_op) 5) in
    let w_or_a : ℕ = both w_group1 (none (part 5 3 w_op)) in
    let w_and_a : ℕ = both w_group1 (eq (part 5 3 w_op) 1) in
    let w_xor_a : ℕ = both w_group1 (eq (part 5 3 w_op) 2) in
    let w_adc : ℕ = both w_group1 (eq (part 5 3 w_op) 3) in
    let w_sbc : ℕ = both w_group1 (eq (part 5 3 w_op) 7) in
    let w_pulls_flags : ℕ = both w_is_pull (none w_pla) in
    let w_odd_mode : ℕ = either (either (eq (part 2 3 w_op) 2) (eq (part 2 3 w_op) 4)) (eq (part 2 3 w_op) 6) in
    let w_load_y : ℕ = both (both w_group0 (eq (part 5 3 w_op) 5)) (none w_odd_mode) in
    let w_load_x : ℕ = both (both w_group2 (eq (part 5 3 w_op) 5)) (none w_odd_mode) in
    let w_compare_y : ℕ = either (either (eq w_op 192) (eq w_op 196)) (eq w_op 204) in
    let w_compare_x : ℕ = either (either (eq w_op 224) (eq w_op 228)) (eq w_op 236) in
    let w_compare : ℕ = either (either w_compare_y w_compare_x) (both w_group1 (eq (part 5 3 w_op) 6)) in
    let w_test : ℕ = either (eq w_op 36) (eq w_op 44) in
    let w_sums : ℕ = either w_adc w_sbc in
    let w_takes : ℕ = either (either (either (either (either (either (either (either w_load_a w_load_x) w_load_y)
    w_compare) w_test) w_or_a) w_and_a) w_xor_a) w_sums in
    let w_changes : ℕ = both (both w_group2 (either (either (either (eq (part 2 3 w_op) 1) (eq (part 2 3 w_op) 3)) (eq
    (part 2 3 w_op) 5)) (eq (part 2 3 w_op) 7))) (none (either (eq (part 5 3 w_op) 4) (eq (part 5 3 w_op) 5))) in
    let w_named : ℕ = either (either w_takes (either (either (either (either (either (either (eq w_op 132) (eq w_op
    148)) (eq w_op 140)) (eq w_op 134)) (eq w_op 150)) (eq w_op 142)) (both (both w_group1 (eq (part 5 3 w_op) 4)) (none
    (eq (part 2 3 w_op) 2))))) w_changes in
    let w_zero_page : ℕ = both w_named (eq (part 2 3 w_op) 1) in
    let w_absolute : ℕ = both w_named (eq (part 2 3 w_op) 3) in
    let w_indirect_x : ℕ = both (both w_named w_group1) (none (part 2 3 w_op)) in
    let w_indirect_y : ℕ = both (both w_named w_group1) (eq (part 2 3 w_op) 4) in
    let w_zero_page_i : ℕ = both w_named (eq (part 2 3 w_op) 5) in
    let w_absolute_i : ℕ = both w_named (either (eq (part 2 3 w_op) 7) (both w_group1 (eq (part 2 3 w_op) 6))) in
    let w_n212 : ℕ = either w_tax w_tay in
    let w_n213 : ℕ = either w_txa w_txs in
    let w_to_x : ℕ = either (either (either (either w_load_x w_tax) w_tsx) w_inx) w_dex in
    let w_to_y : ℕ = either (either (either w_load_y w_tay) w_iny) w_dey in
    let w_shift_a : ℕ = both (both w_group2 (eq (part 2 3 w_op) 2)) (lt (part 5 3 w_op) 4) in
    let w_alters : ℕ = either w_shift_a w_changes in
    let w_asl : ℕ = both w_alters (none (part 5 3 w_op)) in
    let w_rol : ℕ = both w_alters (eq (part 5 3 w_op) 1) in
    let w_lsr : ℕ = both w_alters (eq (part 5 3 w_op) 2) in
    let w_ror : ℕ = both w_alters (eq (part 5 3 w_op) 3) in
    let w_dec : ℕ = both w_alters (eq (part 5 3 w_op) 6) in
    let w_inc : ℕ = both w_alters (eq (part 5 3 w_op) 7) in
    let w_one_byte : ℕ = either (either (either (either (either (either (either (either (either (either (either (either
    (either (either (either w_tax w_tay) w_txa) w_tya) w_tsx) w_txs) (either (either (either w_inx w_iny) w_dex) w_dey))
    w_shift_a) w_clc) w_sec) w_cli) w_sei) w_clv) w_cld) w_sed) (eq w_op 234) in
    let w_to_a : ℕ = either (either (either (either (either (either (either (either w_load_a w_and_a) w_or_a) w_xor_a)
    w_sums) w_txa) w_tya) w_shift_a) w_pla in
    let w_to_nz : ℕ = either (either (either (either (either w_to_a w_to_x) w_to_y) w_compare) w_test) w_changes in
    let w_immediate : ℕ = both w_takes (mux w_group1 (eq (part 2 3 w_op) 2) (none (part 2 3 w_op))) in
    let w_acts : ℕ = either (either (either (both w_sync w_one_byte) (both w_is_first w_immediate)) (both w_is_data
    (none w_store))) (both w_is_pull w_pla) in
    let w_addend : ℕ = mux w_sbc (sub 8 255 pins.din) pins.din in
    let w_sum : ℕ = add 9 (add 9 cells.a w_addend) cells.c in
    let w_lower : ℕ = add 5 (add 5 (part 0 4 cells.a) (part 0 4 w_addend)) cells.c in
    let w_digits : ℕ = add 9 (joined 4 0 (add 5 (part 4 4 cells.a) (part 4 4 w_addend))) (mux w_sbc (mux (ge w_lower 16)
    w_lower (add 4 (part 0 4 w_lower) 10)) (mux (ge w_lower 10) (joined 4 (add 4 (part 0 4 w_lower) 6) 1) w_lower)) in
    let w_over : ℕ = ge w_digits 160 in
    let w_compared : ℕ = mux w_compare_y cells.y (mux w_compare_x cells.x cells.a) in
    let w_old : ℕ = mux w_shift_a cells.a pins.din in
    let w_doubled : ℕ = add 8 w_old w_old in
    let w_told : ℕ = mux (both w_adc cells.d) w_digits w_sum in
    let w_result : ℕ = mux w_and_a (bit_and cells.a pins.din) (mux w_or_a (bit_or cells.a pins.din) (mux w_xor_a
    (bit_xor cells.a pins.din) (mux w_sums (mux cells.d (mux w_adc (mux w_over (add 8 (part 0 8 w_digits) 96) (part 0 8
    w_digits)) (mux (part 8 1 w_sum) (part 0 8 w_digits) (add 8 (part 0 8 w_digits) 160))) (part 0 8 w_sum)) (mux
    w_compare (sub 8 w_compared pins.din) (mux w_asl w_doubled (mux w_rol (add 8 w_doubled cells.c) (mux w_lsr (part 1 7
    w_old) (mux w_ror (joined 7 (part 1 7 w_old) cells.c) (mux w_inc (add 8 pins.din 1) (mux w_dec (add 8 pins.din 255)
    (mux w_n212 cells.a (mux w_n213 cells.x (mux w_tya cells.y (mux w_tsx cells.s (mux w_inx (add 8 cells.x 1) (mux
    w_iny (add 8 cells.y 1) (mux w_dex (add 8 cells.x 255) (mux w_dey (add 8 cells.y 255) pins.din)))))))))))))))))) in
    let old_in = mux_in w_shift_a _ _ 256 fits.a din_in in
    let after_in = mux_in (either w_absolute w_absolute_i) _ _ 65536 (mod_in _ 65536 (lit< tt)) (mod_in _ 65536 (lit<
    tt)) in
    let result_in = mux_in w_and_a _ _ 256 (and_in _ _ _ fits.a) (mux_in w_or_a _ _ 256 (or_in _ _ fits.a din_in)
    (mux_in w_xor_a _ _ 256 (xor_in _ _ fits.a din_in) (mux_in w_sums _ _ 256 (mux_in cells.d _ _ 256 (mux_in w_adc _ _
    256 (mux_in w_over _ _ 256 (mod_in _ 256 (lit< tt)) (mod_in _ 256 (lit< tt))) (mux_in (part 8 1 w_sum) _ _ 256
    (mod_in _ 256 (lit< tt)) (mod_in _ 256 (lit< tt)))) (mod_in _ 256 (lit< tt))) (mux_in w_compare _ _ 256 (mod_in _
    256 (lit< tt)) (mux_in w_asl _ _ 256 (mod_in _ 256 (lit< tt)) (mux_in w_rol _ _ 256 (mod_in _ 256 (lit< tt)) (mux_in
    w_lsr _ _ 256 (wider _ 128 256 (mod_in _ 128 (lit< tt)) (lit≤ tt)) (mux_in w_ror _ _ 256 (joined_in 7 1 _ _ (mod_in
    _ 128 (lit< tt)) fits.c) (mux_in w_inc _ _ 256 (mod_in _ 256 (lit< tt)) (mux_in w_dec _ _ 256 (mod_in _ 256 (lit<
    tt)) (mux_in w_n212 _ _ 256 fits.a (mux_in w_n213 _ _ 256 fits.x (mux_in w_tya _ _ 256 fits.y (mux_in w_tsx _ _ 256
    fits.s (mux_in w_inx _ _ 256 (mod_in _ 256 (lit< tt)) (mux_in w_iny _ _ 256 (mod_in _ 256 (lit< tt)) (mux_in w_dex _
    _ 256 (mod_in _ 256 (lit< tt)) (mux_in w_dey _ _ 256 (mod_in _ 256 (lit< tt)) din_in)))))))))))))))))) in (
      record {
        a = mux_in pins.reset _ _ 256 fits.a (mux_in pins.step _ _ 256 (mux_in (both w_acts w_to_a) _ _ 256 result_in
            fits.a) fits.a);
        x = mux_in pins.reset _ _ 256 fits.x (mux_in pins.step _ _ 256 (mux_in (both w_acts w_to_x) _ _ 256 result_in
            fits.x) fits.x);
        y = mux_in pins.reset _ _ 256 fits.y (mux_in pins.step _ _ 256 (mux_in (both w_acts w_to_y) _ _ 256 result_in
            fits.y) fits.y);
        s = mux_in pins.reset _ _ 256 fits.s (mux_in pins.step _ _ 256 (mux_in w_pushes _ _ 256 (mod_in _ 256 (lit< tt))
            (mux_in w_pulls _ _ 256 (mod_in _ 256 (lit< tt)) (mux_in (both w_acts w_txs) _ _ 256 result_in (mux_in
            w_is_reset_high 253 _ 256 (lit< tt) fits.s)))) fits.s);
        pc = mux_in pins.reset _ _ 65536 fits.pc (mux_in pins.step _ _ 65536 (mux_in (both w_sync w_one_byte) _ _ 65536
            (mod_in _ 65536 (lit< tt)) (mux_in (both w_is_first w_immediate) _ _ 65536 (mod_in _ 65536 (lit< tt))
            (mux_in (both w_is_first w_branch) _ _ 65536 (mux_in (eq (mux (none (part 6 2 w_op)) cells.n (mux (eq (part
            6 2 w_op) 1) cells.v (mux (eq (part 6 2 w_op) 2) cells.c cells.z))) (part 5 1 w_op)) _ _ 65536 (mod_in _
            65536 (lit< tt)) (mod_in _ 65536 (lit< tt))) (mux_in (both w_is_second w_jmp) _ _ 65536 (joined_in 8 8 _ _
            fits.low din_in) (mux_in (both w_is_data (none w_changes)) _ _ 65536 after_in (mux_in w_is_back _ _ 65536
            after_in (mux_in w_is_call_low _ _ 65536 (joined_in 8 8 _ _ fits.low fits.high) (mux_in (both w_is_pull_high
            w_rti) _ _ 65536 (joined_in 8 8 _ _ fits.low din_in) (mux_in w_is_pull_high _ _ 65536 (mod_in _ 65536 (lit<
            tt)) (mux_in w_is_jump_high _ _ 65536 (joined_in 8 8 _ _ fits.back din_in) (mux_in w_is_push _ _ 65536
            (mod_in _ 65536 (lit< tt)) (mux_in (both w_is_pull (none w_rti)) _ _ 65536 (mod_in _ 65536 (lit< tt))
            (mux_in (either w_is_nmi_to_high w_is_reset_high) _ _ 65536 (joined_in 8 8 _ _ fits.low din_in)
            fits.pc))))))))))))) fits.pc);
        n = mux_in pins.reset _ _ 2 fits.n (mux_in pins.step _ _ 2 (mux_in w_pulls_flags _ _ 2 (mod_in _ 2 (lit< tt))
            (mux_in (both w_acts w_to_nz) _ _ 2 (bit_in (nat_le 128 (mux w_test pins.din (mux w_sums (part 0 8 w_told)
            w_result)))) fits.n)) fits.n);
        v = mux_in pins.reset _ _ 2 fits.v (mux_in pins.step _ _ 2 (mux_in w_pulls_flags _ _ 2 (mod_in _ 2 (lit< tt))
            (mux_in (both w_acts (either (either w_test w_sums) w_clv)) _ _ 2 (mux_in w_test _ _ 2 (bit_in (nat_le 64
            (part 0 7 pins.din))) (mux_in w_clv 0 _ 2 (lit< tt) (both_in (eq (part 7 1 cells.a) (part 7 1 w_addend))
            (none (eq (part 7 1 cells.a) (part 7 1 w_told)))))) fits.v)) fits.v);
        d = mux_in pins.reset _ _ 2 fits.d (mux_in pins.step _ _ 2 (mux_in w_pulls_flags _ _ 2 (mod_in _ 2 (lit< tt))
            (mux_in (both w_acts (either w_cld w_sed)) _ _ 2 (bit_in (nat_eq w_op 248)) fits.d)) fits.d);
        i = mux_in pins.reset _ _ 2 fits.i (mux_in pins.step _ _ 2 (mux_in w_pulls_flags _ _ 2 (mod_in _ 2 (lit< tt))
            (mux_in (both w_acts (either w_cli w_sei)) _ _ 2 (bit_in (nat_eq w_op 120)) (mux_in (either w_is_nmi_flags
            w_is_reset_high) 1 _ 2 (lit< tt) fits.i))) fits.i);
        z = mux_in pins.reset _ _ 2 fits.z (mux_in pins.step _ _ 2 (mux_in w_pulls_flags _ _ 2 (mod_in _ 2 (lit< tt))
            (mux_in (both w_acts w_to_nz) _ _ 2 (none_in (mux w_test (bit_and cells.a pins.din) (mux w_sums (part 0 8
            w_sum) w_result))) fits.z)) fits.z);
        c = mux_in pins.reset _ _ 2 fits.c (mux_in pins.step _ _ 2 (mux_in w_pulls_flags _ _ 2 (mod_in _ 2 (lit< tt))
            (mux_in (both w_acts (either (either (either (either w_compare (both w_alters (none (either w_inc w_dec))))
            w_sums) w_clc) w_sec)) _ _ 2 (mux_in w_compare _ _ 2 (bit_in (nat_le pins.din w_compared)) (mux_in w_sums _
            _ 2 (mux_in (both w_adc cells.d) _ _ 2 (bit_in (nat_le 160 w_digits)) (mod_in _ 2 (lit< tt))) (mux_in
            (either w_clc w_sec) _ _ 2 (bit_in (nat_eq w_op 56)) (mux_in (either w_lsr w_ror) _ _ 2 (mod_in _ 2 (lit<
            tt)) (bit_in (nat_le 128 w_old)))))) fits.c)) fits.c);
        state = mux_in pins.reset 0 _ 21 (lit< tt) (mux_in pins.step _ _ 21 (mux_in w_is_nmi_high 13 _ 21 (lit< tt)
            (mux_in (both w_sync (either (either (either (either (either (either (either (either (either (either
            w_immediate w_zero_page) w_absolute) w_indirect_x) w_indirect_y) w_zero_page_i) w_absolute_i) w_branch)
            w_jmp) w_jump_at) w_jsr)) 3 _ 21 (lit< tt) (mux_in (both w_sync (eq w_op 96)) 11 _ 21 (lit< tt) (mux_in
            (both w_sync (either (eq w_op 72) (eq w_op 8))) 19 _ 21 (lit< tt) (mux_in (both w_sync (either (either w_pla
            (eq w_op 40)) w_rti)) 20 _ 21 (lit< tt) (mux_in (both w_is_first (either (either (either (either w_absolute
            w_absolute_i) w_jmp) w_jump_at) w_jsr)) 4 _ 21 (lit< tt) (mux_in (both w_is_first (either w_indirect_x
            w_indirect_y)) 5 _ 21 (lit< tt) (mux_in (both w_is_first (either w_zero_page w_zero_page_i)) 7 _ 21 (lit<
            tt) (mux_in (both w_is_second (either w_absolute w_absolute_i)) 7 _ 21 (lit< tt) (mux_in (both w_is_second
            w_jsr) 9 _ 21 (lit< tt) (mux_in (both w_is_second w_jump_at) 17 _ 21 (lit< tt) (mux_in w_is_jump_low 18 _ 21
            (lit< tt) (mux_in w_is_point_low 6 _ 21 (lit< tt) (mux_in w_is_point_high 7 _ 21 (lit< tt) (mux_in (both
            w_is_data w_changes) 8 _ 21 (lit< tt) (mux_in w_is_call_high 10 _ 21 (lit< tt) (mux_in w_is_pull_low 12 _ 21
            (lit< tt) (mux_in (both w_is_pull w_rti) 11 _ 21 (lit< tt) (mux_in w_is_nmi_low 14 _ 21 (lit< tt) (mux_in
            w_is_nmi_flags 15 _ 21 (lit< tt) (mux_in w_is_nmi_to_low 16 _ 21 (lit< tt) (mux_in w_is_reset_low 1 2 21
            (lit< tt) (lit< tt))))))))))))))))))))))) fits.state);
        ir = mux_in pins.reset _ _ 256 fits.ir (mux_in pins.step _ _ 256 (mux_in w_sync _ _ 256 din_in fits.ir)
            fits.ir);
        low = mux_in pins.reset _ _ 256 fits.low (mux_in pins.step _ _ 256 (mux_in w_is_first _ _ 256 (mux_in (either
            w_zero_page_i w_indirect_x) _ _ 256 (mod_in _ 256 (lit< tt)) din_in) (mux_in (both w_is_second w_absolute_i)
            _ _ 256 (mod_in _ 256 (lit< tt)) (mux_in w_is_point_high _ _ 256 (mux_in w_indirect_y _ _ 256 (mod_in _ 256
            (lit< tt)) fits.high) (mux_in (either (either w_is_pull_low w_is_reset_low) w_is_nmi_to_low) _ _ 256 din_in
            fits.low)))) fits.low);
        high = mux_in pins.reset _ _ 256 fits.high (mux_in pins.step _ _ 256 (mux_in w_is_first 0 _ 256 (lit< tt)
            (mux_in (both w_is_second w_absolute_i) _ _ 256 (mod_in _ 256 (lit< tt)) (mux_in (either w_is_second
            w_is_point_low) _ _ 256 din_in (mux_in w_is_point_high _ _ 256 (mux_in w_indirect_y _ _ 256 (mod_in _ 256
            (lit< tt)) din_in) fits.high)))) fits.high);
        back = mux_in pins.reset _ _ 256 fits.back (mux_in pins.step _ _ 256 (mux_in w_is_data _ _ 256 result_in (mux_in
            w_is_jump_low _ _ 256 din_in fits.back)) fits.back);
        was = mux_in pins.reset _ _ 2 nmi_in (mux_in pins.step _ _ 2 nmi_in fits.was);
        due = mux_in pins.reset 0 _ 2 (lit< tt) (mux_in pins.step _ _ 2 (either_in (both pins.nmi (none cells.was))
            (both cells.due (none w_is_nmi_high))) fits.due);
      },
      mux_in w_sync _ _ 65536 fits.pc (mux_in w_is_first _ _ 65536 (mod_in _ 65536 (lit< tt)) (mux_in w_is_second _ _
          65536 (mod_in _ 65536 (lit< tt)) (mux_in w_is_point_low _ _ 65536 (wider _ 256 65536 fits.low (lit≤ tt))
          (mux_in w_is_point_high _ _ 65536 (wider _ 256 65536 (mod_in _ 256 (lit< tt)) (lit≤ tt)) (mux_in (either
          w_is_data w_is_back) _ _ 65536 (joined_in 8 8 _ _ fits.low fits.high) (mux_in w_pushes _ _ 65536 (joined_in 8
          8 _ 1 fits.s (lit< tt)) (mux_in w_pulls _ _ 65536 (joined_in 8 8 _ 1 (mod_in _ 256 (lit< tt)) (lit< tt))
          (mux_in w_is_jump_low _ _ 65536 (joined_in 8 8 _ _ fits.low fits.high) (mux_in w_is_jump_high _ _ 65536
          (joined_in 8 8 _ _ (mod_in _ 256 (lit< tt)) fits.high) (mux_in w_is_nmi_to_low 65530 _ 65536 (lit< tt) (mux_in
          w_is_nmi_to_high 65531 _ 65536 (lit< tt) (mux_in w_is_reset_low 65532 65533 65536 (lit< tt) (lit<
          tt))))))))))))),
      either_in (either w_pushes w_is_back) (both w_is_data w_store),
      mux_in w_is_data _ _ 256 (mux_in w_store_x _ _ 256 fits.x (mux_in w_store_y _ _ 256 fits.y fits.a)) (mux_in
          w_is_back _ _ 256 fits.back (mux_in w_is_call_high _ _ 256 (mod_in _ 256 (lit< tt)) (mux_in w_is_call_low _ _
          256 (mod_in _ 256 (lit< tt)) (mux_in w_is_nmi_high _ _ 256 (mod_in _ 256 (lit< tt)) (mux_in w_is_nmi_low _ _
          256 (mod_in _ 256 (lit< tt)) (mux_in (both w_is_push (none (both w_is_push w_n83))) _ _ 256 fits.a (joined_in
          1 7 _ _ fits.c (joined_in 1 6 _ _ fits.z (joined_in 1 5 _ _ fits.i (joined_in 1 4 _ _ fits.d (joined_in 1 3 _
          _ (both_in w_is_push w_n83) (joined_in 1 2 1 _ (lit< tt) (joined_in 1 1 _ _ fits.v fits.n))))))))))))),
    )
