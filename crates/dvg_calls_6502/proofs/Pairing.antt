-- What dvg_pair and dvg_labs do, by the frame that is being built.
use Rattle.std.proofs.Common.{◌≡◌, ℕ, suc, ◌+◌, ◌*◌, ◌%◌, ◌<◌, ◌≤◌, Bool, true, false, List, [], ◌∷◌, ◌++◌}
use Rattle.std.proofs.Common.{length, refl, sym, ap, ◌∙◌, subst, arith, leb-true}
use Rattle.std.proofs.lemmas.Bool.{ne_eqb}
use Rattle.std.specs.Prelude.{nat_eq, nat_le, ◌||◌, if◌then◌else◌, bit_and, bit_or, bit_xor, ◌/◌}
use Rattle.dvg_mem.specs.declared.half.Half.{Half}
use Rattle.dvg_mem.specs.Areas.{base, other, high}
use Rattle.dvg_calls_6502.specs.Processor.{Cpu, Access, Reads, Writes, put, run, at_return}
use Rattle.dvg_calls_6502.specs.Code.{dvg_pair, dvg_labs}
use Rattle.dvg_calls_6502.specs.Board.{IsLoaded, seen, goal_in, is_own, is_ram}
use Rattle.dvg_calls_6502.specs.Routines.{Enters}
use Rattle.dvg_calls_6502.specs.Build.{IsBuilding, PairTakes, LabsTakes}
use Rattle.dvg_calls_6502.proofs.ProcessorRuns.{Comes, by, at, returned}
use Rattle.dvg_calls_6502.proofs.Memory.{AreSmall, page_in, laid, page_of, loaded, put_small, state_is, small_page}
use Rattle.dvg_calls_6502.proofs.StoredByte.{carried}
use Rattle.dvg_calls_6502.proofs.TableTick.{in_ram, carried_small}
use Rattle.dvg_calls_6502.proofs.BuildRun.{is_full}
use Rattle.dvg_calls_6502.proofs.AmidOthers.{alike_if}
use Rattle.dvg_calls_6502.proofs.Masks.{opened, mixed}
use Rattle.dvg_calls_6502.proofs.PairRun.{Place, pair_room, labs_run}
use Rattle.dvg_calls_6502.proofs.Building.{BuildsSo, builds_so, goal_low, goal_high, place_low, on_word, put_far, laid_out, laid_at}

-- an address of the vector RAM is one where a byte is stored
pub place_of : (p q : ℕ) → q ≡ p → 0x4002 ≤ p → p < 0x4800 → Place q
place_of p q is low high = subst Place (sym is) (record {
  page = (in_ram p low high).0;
  code = (in_ram p low high).1;
  high = (in_ram p low high).2;
  near = λ b less. ne_eqb b p (λ same. absurd (omega (arith, less, same, low)));
})

-- it has come back
pub comes_back : {q s : ℕ} {from : Cpu} {c : Bool} {mem : ℕ → ℕ} {events : List Access} {reads : List ℕ}
    → (did : Comes q from s c mem events reads) → at_return s (run q did.steps from) ≡ true
comes_back {q = q} {s = s} {from = from} did = returned s (run q did.steps from) did.returns did.stack

-- any state of an entry, with another phase
pub entered : (cpu : Cpu) (entry phase : ℕ) → Enters cpu entry → cpu.mem 0x10 ≡ phase
    → at entry cpu.a cpu.x cpu.y cpu.s cpu.n cpu.z cpu.c cpu.v cpu.d cpu.i
    (laid (page_of phase (cpu.mem 0x11) (cpu.mem 0x12) (cpu.mem 0x13) (cpu.mem 0x14) (cpu.mem 0x15) (cpu.mem 0x16)
    (cpu.mem 0x17) (cpu.mem 0x18) (cpu.mem 0x19) (cpu.mem 0x1A)) cpu.mem) cpu.flags [] ≡ cpu
entered cpu entry phase enters is =
    ap (λ p. at entry cpu.a cpu.x cpu.y cpu.s cpu.n cpu.z cpu.c cpu.v cpu.d cpu.i
    (laid (page_of p (cpu.mem 0x11) (cpu.mem 0x12) (cpu.mem 0x13) (cpu.mem 0x14) (cpu.mem 0x15) (cpu.mem 0x16)
    (cpu.mem 0x17) (cpu.mem 0x18) (cpu.mem 0x19) (cpu.mem 0x1A)) cpu.mem) cpu.flags []) (sym is)
    ∙ ap (λ l. at entry cpu.a cpu.x cpu.y cpu.s cpu.n cpu.z cpu.c cpu.v cpu.d cpu.i (laid (page_in cpu.mem) cpu.mem) cpu.flags l)
    (sym enters.log) ∙ state_is cpu entry cpu.s enters.entry refl enters.loaded

-- two words
module _ (a x y s : ℕ) (n z c v d i : Bool) (mem flags : ℕ → ℕ) (log : List Access) (load : IsLoaded mem)
    (half : Half) (flipped : Bool) (b0 b1 b2 b3 : ℕ) (rest : List ℕ)
    (is0 : mem 0x1B ≡ b0) (is1 : mem 0x1C ≡ b1) (is2 : mem 0x1D ≡ b2) (is3 : mem 0x1E ≡ b3)
    (building : IsBuilding mem half flipped (b0 ∷ b1 ∷ b2 ∷ b3 ∷ rest)) (more : 2 ≤ length rest) where
  abbrev place : ℕ
  place = mem 0x13

  abbrev mid : ℕ
  mid = ((place + 1) % 256 + 1) % 256

  abbrev done : ℕ
  done = ((mid + 1) % 256 + 1) % 256

  abbrev wrap : Bool
  wrap = nat_eq mid 0

  abbrev over : Bool
  over = nat_eq done 0

  abbrev t1' : ℕ
  t1' = carried wrap 1 (mem 0x15)

  abbrev p1' : ℕ
  p1' = carried wrap 1 (mem 0x16)

  abbrev goal : ℕ
  goal = goal_in mem

  abbrev page : List ℕ
  page = page_of 7 (mem 0x11) (mem 0x12) done (mem 0x14) (carried over 1 t1') (carried over 1 p1') (mem 0x17)
      (mem 0x18) (mem 0x19) (mem 0x1A)

  abbrev from : Cpu
  from = at 0x6989 a x y s n z c v d i
      (laid (page_of 7 (mem 0x11) (mem 0x12) place (mem 0x14) (mem 0x15) (mem 0x16) (mem 0x17) (mem 0x18) (mem 0x19)
      (mem 0x1A)) mem) flags log

  low : 0x4002 ≤ goal
  low = goal_low mem half flipped (b0 ∷ b1 ∷ b2 ∷ b3 ∷ rest) load building

  top : goal + suc (suc (suc (suc (length rest)))) ≤ 0x4800
  top = goal_high mem half flipped (b0 ∷ b1 ∷ b2 ∷ b3 ∷ rest) load building

  small : place < 255
  small = place_low mem half flipped (b0 ∷ b1 ∷ b2 ∷ b3 ∷ rest) load building

  fits : 256 * mem 0x16 + place + suc (suc (suc (suc (length rest)))) ≤ 1024
  fits = building.fits

  one : (256 * t1' + 2 ≡ 0x4000 + 2 * base (other half) + 256 * p1')
      × (256 * p1' + mid ≡ 256 * mem 0x16 + place + 2) × (mid % 2 ≡ 0) × (256 * t1' + mid ≡ 256 * mem 0x15 + place + 2)
  one = on_word half place (mem 0x16) (mem 0x15) (2 + length rest) wrap small building.even building.page
      (omega (arith, fits)) refl

  mid_small : mid < 255
  mid_small = omega (arith, one.2)

  two : (256 * carried over 1 t1' + 2 ≡ 0x4000 + 2 * base (other half) + 256 * carried over 1 p1')
      × (256 * carried over 1 p1' + done ≡ 256 * p1' + mid + 2) × (done % 2 ≡ 0)
      × (256 * carried over 1 t1' + done ≡ 256 * t1' + mid + 2)
  two = on_word half mid p1' t1' (length rest) over mid_small one.2 one.0 (omega (arith, fits, one.1)) refl

  g0 : (mem 0x14 + 256 * mem 0x15 + place) % 65536 ≡ goal
  g0 = omega (arith, top)

  g1 : (mem 0x14 + 256 * mem 0x15 + (place + 1) % 256) % 65536 ≡ suc goal
  g1 = omega (arith, top, small)

  g2 : (mem 0x14 + 256 * t1' + mid) % 65536 ≡ suc (suc goal)
  g2 = omega (arith, top, one.3)

  g3 : (mem 0x14 + 256 * t1' + (mid + 1) % 256) % 65536 ≡ suc (suc (suc goal))
  g3 = omega (arith, top, one.3, mid_small)

  abbrev new : ℕ → ℕ
  new = put (suc (suc (suc goal))) b3 (put (suc (suc goal)) b2 (put (suc goal) b1 (put goal b0 mem)))

  abbrev events : List Access
  events = Writes (suc (suc (suc goal))) b3 ∷ Writes (suc (suc goal)) b2 ∷ Writes (suc goal) b1 ∷ Writes goal b0 ∷ seen log

  room : (last late : Bool) → nat_le 3 (mem 0x16) ≡ last → nat_le 0xFC place ≡ late → is_full last late ≡ false
  room true true is also = let p = leb-true 3 (mem 0x16) is in let q = leb-true 0xFC place also in
      absurd (omega (arith, p, q, fits, more))
  room true false is also = refl
  room false late is also = refl

  pub comes : Comes s from s false (laid page new) events []
  comes =
      subst (λ p. Comes s from s false (laid page (put (suc (suc (suc goal))) b3 (put (suc (suc goal)) b2 (put (suc goal) b1
      (put p b0 mem))))) (Writes (suc (suc (suc goal))) b3 ∷ Writes (suc (suc goal)) b2 ∷ Writes (suc goal) b1 ∷ Writes p b0
      ∷ seen log) []) g0
      (subst (λ p. Comes s from s false (laid page (put (suc (suc (suc goal))) b3 (put (suc (suc goal)) b2 (put p b1
      (put to0 b0 mem))))) (Writes (suc (suc (suc goal))) b3 ∷ Writes (suc (suc goal)) b2 ∷ Writes p b1 ∷ Writes to0 b0
      ∷ seen log) []) g1
      (subst (λ p. Comes s from s false (laid page (put (suc (suc (suc goal))) b3 (put p b2 (put to1 b1
      (put to0 b0 mem))))) (Writes (suc (suc (suc goal))) b3 ∷ Writes p b2 ∷ Writes to1 b1 ∷ Writes to0 b0
      ∷ seen log) []) g2
      (subst (λ p. Comes s from s false (laid page (put p b3 (put to2 b2 (put to1 b1
      (put to0 b0 mem))))) (Writes p b3 ∷ Writes to2 b2 ∷ Writes to1 b1 ∷ Writes to0 b0
      ∷ seen log) []) g3
      (pair_room s x s v d i (mem 0x11) (mem 0x12) place (mem 0x14) (mem 0x15) (mem 0x16) (mem 0x17) (mem 0x18) (mem 0x19)
      (mem 0x1A) mem flags b0 b1 b2 b3 is0 is1 is2 is3 wrap over refl refl
      (place_of goal to0 g0 low (omega (arith, top)))
      (place_of (suc goal) to1 g1 (omega (arith, low)) (omega (arith, top)))
      (place_of (suc (suc goal)) to2 g2 (omega (arith, low)) (omega (arith, top)))
      (place_of (suc (suc (suc goal))) _ g3 (omega (arith, low)) (omega (arith, top, more)))
      a y n z c log (nat_le 3 (mem 0x16)) (nat_le 0xFC place) refl refl
      (room (nat_le 3 (mem 0x16)) (nat_le 0xFC place) refl refl)))))
    where
      to0 : ℕ
      to0 = (mem 0x14 + 256 * mem 0x15 + mem 0x13) % 65536

      to1 : ℕ
      to1 = (mem 0x14 + 256 * mem 0x15 + (mem 0x13 + 1) % 256) % 65536

      to2 : ℕ
      to2 = (mem 0x14 + 256 * carried (nat_eq (((mem 0x13 + 1) % 256 + 1) % 256) 0) 1 (mem 0x15)
          + ((mem 0x13 + 1) % 256 + 1) % 256) % 65536

  page_small : AreSmall page
  page_small = small_page (omega arith) (load.bytes 0x11) (load.bytes 0x12) (omega arith) (load.bytes 0x14)
      (carried_small over 1 t1' (carried_small wrap 1 (mem 0x15) (load.bytes 0x15)))
      (carried_small over 1 p1' (carried_small wrap 1 (mem 0x16) (load.bytes 0x16))) (load.bytes 0x17)
      (load.bytes 0x18) (load.bytes 0x19) (load.bytes 0x1A)

  byte : (b k : ℕ) → mem b ≡ k → k < 256
  byte b k is = subst (λ j. j < 256) is (load.bytes b)

  pub built : IsBuilding (laid page new) half flipped rest
  built = record {
    phase = refl;
    free = building.free;
    publish = building.publish;
    low = building.low;
    page = two.0;
    even = two.2;
    begun = let b = building.begun in omega (arith, two.1, one.1, b);
    some = more;
    fits = omega (arith, two.1, one.1, fits);
  }

  pub new_loaded : IsLoaded (laid page new)
  new_loaded = loaded page new page_small (put_small (suc (suc (suc goal))) b3 _ (byte 0x1E b3 is3)
      (put_small (suc (suc goal)) b2 _ (byte 0x1D b2 is2) (put_small (suc goal) b1 _ (byte 0x1C b1 is1)
      (put_small goal b0 mem (byte 0x1B b0 is0) load.bytes))))

  pub moved_on : goal_in (laid page new) ≡ goal + 4
  moved_on = omega (arith, two.3, one.3)

  pub byte1 : laid page new 0x4001 ≡ mem 0x4001
  byte1 = kept (suc (suc (suc goal))) b3 (put (suc (suc goal)) b2 (put (suc goal) b1 (put goal b0 mem))) (omega (arith, low))
      ∙ kept (suc (suc goal)) b2 (put (suc goal) b1 (put goal b0 mem)) (omega (arith, low))
      ∙ kept (suc goal) b1 (put goal b0 mem) (omega (arith, low)) ∙ kept goal b0 mem low
    where
      kept : (p b : ℕ) (m : ℕ → ℕ) → 0x4002 ≤ p → put p b m 0x4001 ≡ m 0x4001
      kept p b m far = ap (λ (t : Bool). if t then b else m 0x4001)
          (ne_eqb 0x4001 p (λ same. absurd (omega (arith, same, far))))

  pub kept : (b : ℕ) → is_own b ≡ false → is_ram b ≡ false → laid page new b ≡ mem b
  kept b own ram = laid_out page new mem load b own
      (put_far (suc (suc (suc goal))) b3 (put (suc (suc goal)) b2 (put (suc goal) b1 (put goal b0 mem))) b ram
      (omega (arith, low)) (omega (arith, top, more))
      ∙ put_far (suc (suc goal)) b2 (put (suc goal) b1 (put goal b0 mem)) b ram (omega (arith, low)) (omega (arith, top))
      ∙ put_far (suc goal) b1 (put goal b0 mem) b ram (omega (arith, low)) (omega (arith, top))
      ∙ put_far goal b0 mem b ram low (omega (arith, top)))

pub pair_steadily : (cpu : Cpu) (half : Half) (flipped : Bool) (rest : List ℕ) → Enters cpu dvg_pair
    → let now = cpu.mem 0x1B ∷ cpu.mem 0x1C ∷ cpu.mem 0x1D ∷ cpu.mem 0x1E ∷ [] in
    IsBuilding cpu.mem half flipped (now ++ rest) → 2 ≤ length rest → BuildsSo cpu half flipped now rest
pair_steadily cpu half flipped rest enters building more =
    let b0 = cpu.mem 0x1B in
    let b1 = cpu.mem 0x1C in
    let b2 = cpu.mem 0x1D in
    let b3 = cpu.mem 0x1E in
    let did = comes cpu.a cpu.x cpu.y cpu.s cpu.n cpu.z cpu.c cpu.v cpu.d cpu.i cpu.mem cpu.flags [] enters.loaded half flipped b0 b1
    b2 b3 rest refl refl refl refl building more in
    subst (λ (k : Cpu). BuildsSo k half flipped (b0 ∷ b1 ∷ b2 ∷ b3 ∷ []) rest) (entered cpu 0x6989 7 enters building.phase)
    (builds_so (at 0x6989 cpu.a cpu.x cpu.y cpu.s cpu.n cpu.z cpu.c cpu.v cpu.d cpu.i
    (laid (page_of 7 (cpu.mem 0x11) (cpu.mem 0x12) (cpu.mem 0x13) (cpu.mem 0x14) (cpu.mem 0x15) (cpu.mem 0x16)
    (cpu.mem 0x17) (cpu.mem 0x18) (cpu.mem 0x19) (cpu.mem 0x1A)) cpu.mem) cpu.flags []) half flipped
    (b0 ∷ b1 ∷ b2 ∷ b3 ∷ []) rest
    (record {
      steps = did.steps;
      returns = comes_back did;
      carry = did.carry;
      shows = did.accesses;
      alike = alike_if _ did.steps (comes_back did) (λ tables. did.steady tables refl) did.there;
      goes_on = ap goal_in did.memory ∙ moved_on cpu.a cpu.x cpu.y cpu.s cpu.n cpu.z cpu.c cpu.v cpu.d cpu.i cpu.mem cpu.flags []
          enters.loaded half flipped b0 b1 b2 b3 rest refl refl refl refl building more;
      building = subst (λ (m : ℕ → ℕ). IsBuilding m half flipped rest) (sym did.memory)
          (built cpu.a cpu.x cpu.y cpu.s cpu.n cpu.z cpu.c cpu.v cpu.d cpu.i cpu.mem cpu.flags []
          enters.loaded half flipped b0 b1 b2 b3 rest refl refl refl refl building more);
      loaded = subst IsLoaded (sym did.memory)
          (new_loaded cpu.a cpu.x cpu.y cpu.s cpu.n cpu.z cpu.c cpu.v cpu.d cpu.i cpu.mem cpu.flags []
          enters.loaded half flipped b0 b1 b2 b3 rest refl refl refl refl building more);
      kept = λ b own out ram. ap (λ (m : ℕ → ℕ). m b) did.memory
          ∙ kept cpu.a cpu.x cpu.y cpu.s cpu.n cpu.z cpu.c cpu.v cpu.d cpu.i cpu.mem cpu.flags [] enters.loaded half flipped b0 b1 b2
          b3 rest refl refl refl refl building more b own ram ∙ laid_at 7 cpu.mem enters.loaded b own;
    })
    (record {
      byte1 = ap (λ (m : ℕ → ℕ). m 0x4001) did.memory
          ∙ byte1 cpu.a cpu.x cpu.y cpu.s cpu.n cpu.z cpu.c cpu.v cpu.d cpu.i cpu.mem cpu.flags [] enters.loaded half flipped b0 b1
          b2 b3 rest refl refl refl refl building more;
      steady = λ tables. did.steady tables refl;
      there = did.there;
    }))

pub pair_takes : PairTakes
pair_takes cpu half flipped rest enters building more = (pair_steadily cpu half flipped rest enters building more).0

-- dvg_labs
module _ (a x y s : ℕ) (n z c v d i : Bool) (mem flags : ℕ → ℕ) (load : IsLoaded mem) (a_small : a < 256)
    (half : Half) (flipped : Bool) (rest : List ℕ)
    (building : IsBuilding mem half flipped
    (mem 0x1B ∷ bit_or (bit_and (mem 0x1C) 0x0F) 0xA0 ∷ mem 0x1D ∷
    bit_xor (bit_and (bit_xor a (mem 0x1E)) 0xF0) (mem 0x1E) ∷ rest)) (more : 2 ≤ length rest) where
  abbrev h : ℕ
  h = bit_or (bit_and (mem 0x1C) 0x0F) 0xA0

  abbrev l : ℕ
  l = bit_xor (bit_and (bit_xor a (mem 0x1E)) 0xF0) (mem 0x1E)

  h_small : h < 256
  h_small = let e = opened (mem 0x1C) (load.bytes 0x1C) in omega (arith, e)

  l_small : l < 256
  l_small = let e = mixed a (mem 0x1E) a_small (load.bytes 0x1E) in omega (arith, e, a_small)

  abbrev set : ℕ → ℕ
  set = put 0x1C h (put 0x1E l mem)

  abbrev log4 : List Access
  log4 = Writes 0x1C h ∷ Reads 0x1C (mem 0x1C) ∷ Writes 0x1E l ∷ Reads 0x1E (mem 0x1E) ∷ Reads 0x1E (mem 0x1E) ∷ []

  abbrev start : Cpu
  start = at 0x6979 a x y s n z c v d i
      (laid (page_of 7 (mem 0x11) (mem 0x12) (mem 0x13) (mem 0x14) (mem 0x15) (mem 0x16) (mem 0x17) (mem 0x18) (mem 0x19)
      (mem 0x1A)) mem) flags []

  set_code : (i : ℕ) → set (0x6800 + i) ≡ mem (0x6800 + i)
  set_code i = ap (λ (t : Bool). if t then h else put 0x1E l mem (0x6800 + i))
      (ne_eqb (0x6800 + i) 0x1C (λ same. absurd (omega (arith, same))))
      ∙ ap (λ (t : Bool). if t then l else mem (0x6800 + i))
      (ne_eqb (0x6800 + i) 0x1E (λ same. absurd (omega (arith, same))))

  set_load : IsLoaded set
  set_load = record {
    code = λ i less. set_code i ∙ load.code i less;
    bytes = put_small 0x1C h (put 0x1E l mem) h_small (put_small 0x1E l mem l_small load.bytes);
  }

  set_out : (b : ℕ) → ((nat_eq b 0x1C || nat_eq b 0x1E) || false) ≡ false → set b ≡ mem b
  set_out b = by (nat_eq b 0x1C) (nat_eq b 0x1E)
    where
      by : (t u : Bool) → ((t || u) || false) ≡ false → (if t then h else if u then l else mem b) ≡ mem b
      by true u is = absurd (cc)
      by false true is = absurd (cc)
      by false false is = refl

  set_building : IsBuilding set half flipped (mem 0x1B ∷ h ∷ mem 0x1D ∷ l ∷ rest)
  set_building = record {
    phase = building.phase;
    free = building.free;
    publish = building.publish;
    low = building.low;
    page = building.page;
    even = building.even;
    begun = building.begun;
    some = building.some;
    fits = building.fits;
  }

  labs_builds : BuildsSo start half flipped (mem 0x1B ∷ h ∷ mem 0x1D ∷ l ∷ []) rest
  labs_builds =
      let did = by s 8 start _ s false _ _
      (labs_run s a x y s n z c v d i (page_of 7 (mem 0x11) (mem 0x12) (mem 0x13) (mem 0x14) (mem 0x15) (mem 0x16) (mem 0x17)
      (mem 0x18) (mem 0x19) (mem 0x1A)) mem flags []) (λ tables is. refl)
      (comes h x y s (nat_le 128 h) (nat_eq h 0) c v d i set flags log4 set_load half flipped (mem 0x1B) h (mem 0x1D) l rest
      refl refl refl refl set_building more) in (
        record {
          steps = did.steps;
          returns = comes_back did;
          carry = did.carry;
          shows = did.accesses;
          alike = alike_if start did.steps (comes_back did) (λ tables. did.steady tables refl) did.there;
          goes_on = ap goal_in did.memory ∙ moved_on h x y s (nat_le 128 h) (nat_eq h 0) c v d i set flags log4 set_load half
              flipped (mem 0x1B) h (mem 0x1D) l rest refl refl refl refl set_building more;
          building = subst (λ (m : ℕ → ℕ). IsBuilding m half flipped rest) (sym did.memory)
              (built h x y s (nat_le 128 h) (nat_eq h 0) c v d i set flags log4 set_load half flipped (mem 0x1B) h (mem 0x1D) l
              rest refl refl refl refl set_building more);
          loaded = subst IsLoaded (sym did.memory)
              (new_loaded h x y s (nat_le 128 h) (nat_eq h 0) c v d i set flags log4 set_load half flipped (mem 0x1B) h
              (mem 0x1D) l rest refl refl refl refl set_building more);
          kept = λ b own out ram. ap (λ (m : ℕ → ℕ). m b) did.memory
              ∙ kept h x y s (nat_le 128 h) (nat_eq h 0) c v d i set flags log4 set_load half flipped (mem 0x1B) h
              (mem 0x1D) l rest refl refl refl refl set_building more b own ram
              ∙ set_out b out ∙ laid_at 7 mem load b own;
        },
        record {
          byte1 = ap (λ (m : ℕ → ℕ). m 0x4001) did.memory
              ∙ byte1 h x y s (nat_le 128 h) (nat_eq h 0) c v d i set flags log4 set_load half flipped (mem 0x1B) h (mem 0x1D)
              l rest refl refl refl refl set_building more;
          steady = λ tables. did.steady tables refl;
          there = did.there;
        },
      )

pub labs_steadily : (cpu : Cpu) (half : Half) (flipped : Bool) (rest : List ℕ) → Enters cpu dvg_labs
    → let now = cpu.mem 0x1B ∷ (0xA0 + cpu.mem 0x1C % 16) ∷ cpu.mem 0x1D ∷ (16 * (cpu.a / 16) + cpu.mem 0x1E % 16) ∷ [] in
    IsBuilding cpu.mem half flipped (now ++ rest) → 2 ≤ length rest → BuildsSo cpu half flipped now rest
labs_steadily cpu half flipped rest enters building more =
    let h = opened (cpu.mem 0x1C) (enters.loaded.bytes 0x1C) in
    let l = mixed cpu.a (cpu.mem 0x1E) enters.a (enters.loaded.bytes 0x1E) in
    subst (λ h'. BuildsSo cpu half flipped (cpu.mem 0x1B ∷ h' ∷ cpu.mem 0x1D ∷ (16 * (cpu.a / 16) + cpu.mem 0x1E % 16) ∷ [])
    rest) h
    (subst (λ l'. BuildsSo cpu half flipped
    (cpu.mem 0x1B ∷ bit_or (bit_and (cpu.mem 0x1C) 0x0F) 0xA0 ∷ cpu.mem 0x1D ∷ l' ∷ []) rest) l
    (subst (λ (k : Cpu). BuildsSo k half flipped
    (cpu.mem 0x1B ∷ bit_or (bit_and (cpu.mem 0x1C) 0x0F) 0xA0 ∷ cpu.mem 0x1D ∷
    bit_xor (bit_and (bit_xor cpu.a (cpu.mem 0x1E)) 0xF0) (cpu.mem 0x1E) ∷ []) rest)
    (entered cpu 0x6979 7 enters building.phase)
    (labs_builds cpu.a cpu.x cpu.y cpu.s cpu.n cpu.z cpu.c cpu.v cpu.d cpu.i cpu.mem cpu.flags enters.loaded enters.a half flipped
    rest (subst (λ l'. IsBuilding cpu.mem half flipped
    (cpu.mem 0x1B ∷ bit_or (bit_and (cpu.mem 0x1C) 0x0F) 0xA0 ∷ cpu.mem 0x1D ∷ l' ∷ rest)) (sym l)
    (subst (λ h'. IsBuilding cpu.mem half flipped
    (cpu.mem 0x1B ∷ h' ∷ cpu.mem 0x1D ∷ (16 * (cpu.a / 16) + cpu.mem 0x1E % 16) ∷ rest)) (sym h) building)) more)))

pub labs_takes : LabsTakes
labs_takes cpu half flipped rest enters building more = (labs_steadily cpu half flipped rest enters building more).0
