-- Calls that are refused: they return with C set, and leave the driver as it is.
use Rattle.std.proofs.Common.{◌≡◌, ◌≢◌, ℕ, suc, ◌+◌, ◌-◌, ◌*◌, ◌/◌, ◌%◌, ◌<◌, ◌≤◌, Bool, true, false, not, List, [], ◌∷◌, refl, sym, ap, ◌∙◌}
use Rattle.std.proofs.Common.{subst, arith, leb-true, set}
use Rattle.std.specs.Prelude.{nat_eq, nat_le, nat_lt, ◌||◌, bit_and, bit_or, bit_xor}
use Rattle.std.proofs.lemmas.Bool.{eqb-false, or_parts as neither}
use Rattle.dvg_calls_6502.specs.Processor.{Cpu, Access, Reads, Writes, put, run}
use Rattle.dvg_calls_6502.specs.Code.{dvg_offer, dvg_redraw, dvg_open, dvg_put, dvg_labs, dvg_pair, dvg_close}
use Rattle.dvg_calls_6502.specs.Board.{IsLoaded, seen, is_own}
use Rattle.dvg_calls_6502.specs.Amid.{is_kept, are_steady}
use Rattle.dvg_calls_6502.specs.Routines.{Enters, Pair, Labs, put_by}
use Rattle.dvg_calls_6502.specs.Build.{IsRefused, is_changed}
use Rattle.dvg_calls_6502.specs.Decided.{is_labs, LabsIsPair}
use Rattle.dvg_calls_6502.proofs.AmidOthers.{alike_if}
use Rattle.dvg_calls_6502.proofs.AmidRun.{came_out}
use Rattle.dvg_calls_6502.proofs.ProcessorRuns.{Comes, by, at, returned, comes}
use Rattle.dvg_calls_6502.proofs.Memory.{laid, page_of, both_true}
use Rattle.dvg_calls_6502.proofs.FedByte.{compared}
use Rattle.dvg_calls_6502.proofs.Masks.{opened, mixed}
use Rattle.dvg_calls_6502.proofs.Steady.{steady_all, code_kept}
use Rattle.dvg_calls_6502.proofs.Follow.{Sym, Way, Goes, Owes, full, over, follow}
use Rattle.dvg_calls_6502.proofs.Sound.{runs, is_steadily}
use Rattle.dvg_calls_6502.proofs.Arrive.{arrives, start, start_is, page_from, over_is, kept_set, loaded_over}

-- the call is refused
pub record Refuses (cpu : Cpu) : Type 0 where
  pub memory : ℕ → ℕ
  pub comes : Comes cpu.s cpu cpu.s true memory [] []
  pub loaded : IsLoaded memory
  pub own : (b : ℕ) → is_own b ≡ true → memory b ≡ cpu.mem b
  pub far : (b : ℕ) → 0x200 ≤ b → memory b ≡ cpu.mem b
  pub kept : (b : ℕ) → is_changed cpu.pc b ≡ false → memory b ≡ cpu.mem b

-- what its record says
pub refused_so : (cpu : Cpu) → Refuses cpu → IsRefused cpu
refused_so cpu did =
    let comes = did.comes in
    let back = returned cpu.s (run cpu.s comes.steps cpu) comes.returns comes.stack in
    record {
      steps = comes.steps;
      returns = back;
      carry = comes.carry;
      shows = comes.accesses;
      kept = λ b out. ap (λ (m : ℕ → ℕ). m b) comes.memory ∙ did.kept b out;
      alike = alike_if cpu comes.steps back (λ tables. comes.steady tables refl) comes.there;
    }

pub refused_steady : (tables : ℕ → Bool) (cpu : Cpu) (k : ℕ) → Refuses cpu → are_steady (is_kept tables) cpu.s k cpu ≡ true
refused_steady tables cpu k did = steady_all (is_kept tables) cpu.s did.comes.steps k cpu (did.comes.steady tables refl)
    (returned cpu.s (run cpu.s did.comes.steps cpu) did.comes.returns did.comes.stack)
    (code_kept tables (run cpu.s did.comes.steps cpu).pc did.comes.there)

module _ (q a x y s : ℕ) (n z c v d i : Bool) (phase free publish next t0 t1 pages end second f0 f1 : ℕ) (mem flags : ℕ
    → ℕ) (log : List Access) (small : phase < 256) where
  abbrev page : List ℕ
  page = page_of phase free publish next t0 t1 pages end second f0 f1

  abbrev told : (pc wanted : ℕ) → Bool → Cpu
  told pc wanted t = at pc a x phase s (nat_le 128 ((phase + 256 - wanted) % 256)) t (nat_le wanted phase) v d i
      (laid page mem) flags (Reads 0x10 phase ∷ log)

  pub pair_refuses : nat_eq phase 7 ≡ false
      → Comes q (at dvg_pair a x y s n z c v d i (laid page mem) flags log) s true (laid page mem) (seen log) []
  pair_refuses other =
      by q 2 _ (told 0x698D 7 false) s true _ _ (ap (told 0x698D 7) (compared phase 7 small (omega arith) ∙ other))
      (λ tables is. refl)
      (comes 2 refl refl refl refl refl (λ tables is. refl) refl)

-- two words have no room
pub pair_full : (q a x y s : ℕ) (n z c v d i : Bool) (free publish next t0 t1 pages end second f0 f1 : ℕ) (mem flags : ℕ → ℕ)
    (log : List Access) → nat_le 3 pages ≡ true → nat_le 0xFC next ≡ true
    → let page = page_of 7 free publish next t0 t1 pages end second f0 f1 in
    Comes q (at dvg_pair a x y s n z c v d i (laid page mem) flags log) s true (laid page mem) (seen log) []
pair_full q a x y s n z c v d i free publish next t0 t1 pages end second f0 f1 mem flags log last late =
    by q 6 _ (told_page true) s true _ _ (ap told_page last) (λ tables is. refl)
    (by q 2 _ (told_place true) s true _ _ (ap told_place late) (λ tables is. refl)
    (comes 1 refl refl refl refl refl (λ tables is. refl) refl))
  where
    page : List ℕ
    page = page_of 7 free publish next t0 t1 pages end second f0 f1

    log3 : List Access
    log3 = Reads 0x13 next ∷ Reads 0x16 pages ∷ Reads 0x10 7 ∷ log

    told_page : Bool → Cpu
    told_page last = at 0x6995 a x next s (nat_le 128 next) (nat_eq next 0) last v d i (laid page mem) flags log3

    told_place : Bool → Cpu
    told_place late = at 0x6999 a x next s (nat_le 128 ((next + 256 - 0xFC) % 256))
        (nat_eq ((next + 256 - 0xFC) % 256) 0) late v d i (laid page mem) flags log3

-- at a routine's entry
module _ (cpu : Cpu) (entry : ℕ) (enters : Enters cpu entry) where
  -- a call that leaves all memory as it is
  unchanged : Comes cpu.s (full (start entry cpu)) cpu.s true (over (page_from cpu.mem) cpu.mem) [] [] → Refuses cpu
  unchanged comes = record {
    memory = cpu.mem;
    comes = subst (λ (m : ℕ → ℕ). Comes cpu.s cpu cpu.s true m [] []) (over_is cpu.mem enters.loaded)
        (subst (λ (k : Cpu). Comes cpu.s k cpu.s true (over (page_from cpu.mem) cpu.mem) [] [])
        (start_is entry cpu enters.entry enters.log enters.loaded) comes);
    loaded = enters.loaded;
    own = λ b is. refl;
    far = λ b is. refl;
    kept = λ b is. refl;
  }

  -- what a look at the phase says
  other : (wanted : ℕ) → wanted < 256 → nat_eq (cpu.mem 0x10) wanted ≡ false
      → not (nat_eq ((cpu.mem 0x10 + 256 - wanted) % 256) 0) ≡ true
  other wanted small is = ap not (compared (cpu.mem 0x10) wanted (enters.loaded.bytes 0x10) small ∙ is)

  builds : cpu.mem 0x10 ≡ 7 → not (nat_eq ((cpu.mem 0x10 + 256 - 7) % 256) 0) ≡ false
  builds is = ap (λ p. not (nat_eq ((p + 256 - 7) % 256) 0)) is

-- the look refuses
pub offer_refused : (cpu : Cpu) → Enters cpu dvg_offer → nat_eq (cpu.mem 0x10) 2 ≡ false → Refuses cpu
offer_refused cpu enters is = unchanged cpu dvg_offer enters (arrives cpu.s 4 (Goes true ∷ []) (start dvg_offer cpu)
    (other cpu dvg_offer enters 2 (omega arith) is, tt) refl refl refl (λ tables also. refl))

pub redraw_refused : (cpu : Cpu) → Enters cpu dvg_redraw → nat_eq (cpu.mem 0x10) 2 ≡ false → Refuses cpu
redraw_refused cpu enters is = unchanged cpu dvg_redraw enters (arrives cpu.s 4 (Goes true ∷ []) (start dvg_redraw cpu)
    (other cpu dvg_redraw enters 2 (omega arith) is, tt) refl refl refl (λ tables also. refl))

pub open_refused : (cpu : Cpu) → Enters cpu dvg_open → nat_eq (cpu.mem 0x10) 2 ≡ false → Refuses cpu
open_refused cpu enters is = unchanged cpu dvg_open enters (arrives cpu.s 4 (Goes true ∷ []) (start dvg_open cpu)
    (other cpu dvg_open enters 2 (omega arith) is, tt) refl refl refl (λ tables also. refl))

pub close_refused : (cpu : Cpu) → Enters cpu dvg_close → nat_eq (cpu.mem 0x10) 7 ≡ false → Refuses cpu
close_refused cpu enters is = unchanged cpu dvg_close enters (arrives cpu.s 4 (Goes true ∷ []) (start dvg_close cpu)
    (other cpu dvg_close enters 7 (omega arith) is, tt) refl refl refl (λ tables also. refl))

pub put_refused : (cpu : Cpu) → Enters cpu dvg_put → nat_eq (cpu.mem 0x10) 7 ≡ false → Refuses cpu
put_refused cpu enters is = unchanged cpu dvg_put enters (arrives cpu.s 4 (Goes true ∷ []) (start dvg_put cpu)
    (other cpu dvg_put enters 7 (omega arith) is, tt) refl refl refl (λ tables also. refl))

pub pair_refused : (cpu : Cpu) → Enters cpu dvg_pair → nat_eq (cpu.mem 0x10) 7 ≡ false → Refuses cpu
pair_refused cpu enters is = unchanged cpu dvg_pair enters (arrives cpu.s 4 (Goes true ∷ []) (start dvg_pair cpu)
    (other cpu dvg_pair enters 7 (omega arith) is, tt) refl refl refl (λ tables also. refl))

-- there is no room
pub full_put : (cpu : Cpu) → Enters cpu dvg_put → cpu.mem 0x10 ≡ 7 → nat_le 3 (cpu.mem 0x16) ≡ true
    → nat_le 0xFE (cpu.mem 0x13) ≡ true → Refuses cpu
full_put cpu enters is last late = unchanged cpu dvg_put enters (arrives cpu.s 9 (Goes false ∷ Goes false ∷ Goes true ∷ [])
    (start dvg_put cpu) (builds cpu dvg_put enters is, (ap not last, (late, tt))) refl refl refl (λ tables also. refl))

pub full_pair : (cpu : Cpu) → Enters cpu dvg_pair → cpu.mem 0x10 ≡ 7 → nat_le 3 (cpu.mem 0x16) ≡ true
    → nat_le 0xFC (cpu.mem 0x13) ≡ true → Refuses cpu
full_pair cpu enters is last late = unchanged cpu dvg_pair enters (arrives cpu.s 9 (Goes false ∷ Goes false ∷ Goes true ∷ [])
    (start dvg_pair cpu) (builds cpu dvg_pair enters is, (ap not last, (late, tt))) refl refl refl (λ tables also. refl))

-- dvg_labs has made its two words by then
module _ (cpu : Cpu) (enters : Enters cpu dvg_labs) where
  abbrev from : Sym
  from = start dvg_labs cpu

  from_is : full from ≡ cpu
  from_is = start_is dvg_labs cpu enters.entry enters.log enters.loaded

  abbrev h : ℕ
  h = bit_or (bit_and (cpu.mem 0x1C) 0x0F) 0xA0

  abbrev l : ℕ
  l = bit_xor (bit_and (bit_xor cpu.a (cpu.mem 0x1E)) 0xF0) (cpu.mem 0x1E)

  abbrev made : ℕ → ℕ
  made = over (set (set (page_from cpu.mem) 14 l) 12 h) cpu.mem

  made_kept : (b : ℕ) → b ≢ 0x1C → b ≢ 0x1E → made b ≡ cpu.mem b
  made_kept b not_y not_x = kept_set 12 h (set (page_from cpu.mem) 14 l) cpu.mem b not_y
      ∙ kept_set 14 l (page_from cpu.mem) cpu.mem b not_x ∙ ap (λ (m : ℕ → ℕ). m b) (over_is cpu.mem enters.loaded)

  h_is : h ≡ 0xA0 + cpu.mem 0x1C % 16
  h_is = opened (cpu.mem 0x1C) (enters.loaded.bytes 0x1C)

  l_is : l ≡ 16 * (cpu.a / 16) + cpu.mem 0x1E % 16
  l_is = mixed cpu.a (cpu.mem 0x1E) enters.a (enters.loaded.bytes 0x1E)

  labs_as_pair : Comes cpu.s (full from) cpu.s true made [] [] → Refuses cpu
  labs_as_pair comes = record {
    memory = made;
    comes = subst (λ (k : Cpu). Comes cpu.s k cpu.s true made [] []) from_is comes;
    loaded = let bytes = enters.loaded.bytes in loaded_over (set (set (page_from cpu.mem) 14 l) 12 h) cpu.mem (
      bytes 0x10,
      (
        bytes 0x11,
        (
          bytes 0x12,
          (
            bytes 0x13,
            (
              bytes 0x14,
              (
                bytes 0x15,
                (
                  bytes 0x16,
                  (
                    bytes 0x17,
                    (
                      bytes 0x18,
                      (
                        bytes 0x19,
                        (
                          bytes 0x1A,
                          (
                            bytes 0x1B,
                            (
                              omega (arith, h_is),
                              (
                                bytes 0x1D,
                                ((let a = enters.a in omega (arith, l_is, a)), (bytes 0x1F, (bytes 0x20, tt))),
                              ),
                            ),
                          ),
                        ),
                      ),
                    ),
                  ),
                ),
              ),
            ),
          ),
        ),
      ),
    ) bytes;
    own = λ b is. let high = leb-true (suc b) 0x1B (both_true (nat_le 0x10 b) (nat_lt b 0x1B) is).1 in
        made_kept b (λ e. absurd (omega arith)) (λ e. absurd (omega arith));
    far = λ b is. made_kept b (λ e. absurd (omega arith)) (λ e. absurd (omega arith));
    kept = λ b is.
        let at_labs : ((nat_eq b 0x1C || nat_eq b 0x1E) || false) ≡ false =
        subst (λ entry. is_changed entry b ≡ false) enters.entry is in
        let high = neither (nat_eq b 0x1C) (nat_eq b 0x1E) (neither (nat_eq b 0x1C || nat_eq b 0x1E) false at_labs).0 in
        made_kept b (eqb-false b 0x1C high.0) (eqb-false b 0x1E high.1);
  }

  pub labs_refused : nat_eq (cpu.mem 0x10) 7 ≡ false → Refuses cpu
  labs_refused is = labs_as_pair (arrives cpu.s 12 (Goes true ∷ []) from (other cpu dvg_labs enters 7 (omega arith) is, tt)
      refl refl refl (λ tables also. refl))

  pub full_labs : cpu.mem 0x10 ≡ 7 → nat_le 3 (cpu.mem 0x16) ≡ true → nat_le 0xFC (cpu.mem 0x13) ≡ true → Refuses cpu
  full_labs is last late = labs_as_pair (arrives cpu.s 17 (Goes false ∷ Goes false ∷ Goes true ∷ []) from
      (builds cpu dvg_labs enters is, (ap not last, (late, tt))) refl refl refl (λ tables also. refl))

-- dvg_labs, up to where it is dvg_pair
pub labs_is_pair : LabsIsPair
labs_is_pair cpu enters =
    let it = start dvg_labs cpu in
    let at_start = from_is cpu enters in
    let at_pair = sym (ap (run cpu.s 8) at_start) ∙ runs cpu.s 8 [] it tt in
    record {
      place = ap (λ (k : Cpu). k.pc) at_pair;
      stack = ap (λ (k : Cpu). k.s) at_pair;
      shows = ap (λ (k : Cpu). seen k.log) at_pair;
      words = ap (put_by Pair) at_pair ∙ ap (λ h. cpu.mem 0x1B ∷ h ∷ cpu.mem 0x1D ∷ l cpu enters ∷ []) (h_is cpu enters)
          ∙ ap (λ l. cpu.mem 0x1B ∷ (0xA0 + cpu.mem 0x1C % 16) ∷ cpu.mem 0x1D ∷ l ∷ []) (l_is cpu enters);
      kept = λ b not_y not_x. ap (λ (k : Cpu). k.mem b) at_pair ∙ made_kept cpu enters b not_y not_x;
      alike = λ others harmless. came_out is_labs cpu.s 8 cpu cpu.mem others (λ b is. refl)
          (subst (λ (k : Cpu). are_steady is_labs cpu.s 8 k ≡ true) at_start (is_steadily is_labs cpu.s 8 [] it tt refl)) harmless;
    }
