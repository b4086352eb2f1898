-- What dvg_put does, by the frame that is being built.
use Rattle.std.proofs.Common.{◌≡◌, ℕ, suc, ◌+◌, ◌*◌, ◌%◌, ◌<◌, ◌≤◌, Bool, true, false, List, [], ◌∷◌, length}
use Rattle.std.proofs.Common.{refl, sym, ap, ◌∙◌, subst, arith, leb-true, le-leb, eqb-true}
use Rattle.std.proofs.lemmas.Bool.{eqb-false, ne_eqb}
use Rattle.std.specs.Prelude.{nat_eq, nat_le, nat_lt, if◌then◌else◌, slice_index, ◌-◌}
use Rattle.dvg_mem.specs.declared.half.Half.{Half}
use Rattle.dvg_mem.specs.Areas.{base, other}
use Rattle.dvg_calls_6502.specs.Processor.{Cpu, Access, Writes, put, run}
use Rattle.dvg_calls_6502.specs.Code.{code, dvg_put}
use Rattle.dvg_calls_6502.specs.Board.{IsLoaded, seen, goal_in, is_own, is_ram}
use Rattle.dvg_calls_6502.specs.Routines.{Enters}
use Rattle.dvg_calls_6502.specs.Build.{IsBuilding, Builds, PutTakes}
use Rattle.dvg_calls_6502.proofs.ProcessorRuns.{Comes, at, returned}
use Rattle.dvg_calls_6502.proofs.Memory.{AreSmall, page_in, laid, page_of, loaded, put_small, in_page, in_code, state_is, known, same_out, small_page}
use Rattle.dvg_calls_6502.proofs.StoredByte.{carried}
use Rattle.dvg_calls_6502.proofs.TableTick.{in_ram, carried_small}
use Rattle.dvg_calls_6502.proofs.AmidOthers.{alike_if, Keeping}
use Rattle.dvg_calls_6502.proofs.BuildRun.{put_room, is_full}
pub use Rattle.dvg_calls_6502.proofs.TableBegins.{base_low}

-- a part is put, by a call that keeps byte 001 and takes guarded bytes alone
abbrev pub BuildsSo : (cpu : Cpu) (half : Half) (flipped : Bool) (now rest : List ℕ) → Type 0
BuildsSo cpu half flipped now rest = (did : Builds cpu half flipped now rest) × Keeping cpu did.steps

pub builds_so : (cpu : Cpu) (half : Half) (flipped : Bool) (now rest : List ℕ) → (did : Builds cpu half flipped now rest)
    → Keeping cpu did.steps → BuildsSo cpu half flipped now rest
builds_so cpu half flipped now rest did keeping = (did, keeping)

-- a write of the vector RAM changes no other byte
pub put_far : (p v : ℕ) (m : ℕ → ℕ) (b : ℕ) → is_ram b ≡ false → 0x4002 ≤ p → p < 0x4800 → put p v m b ≡ m b
put_far p v m b ram low high = ap (λ (t : Bool). if t then v else m b)
    (ne_eqb b p (λ same. absurd (let in_it : is_ram b ≡ true = subst (λ k. is_ram k ≡ true) (sym same) there in cc)))
  where
    there : is_ram p ≡ true
    there =
        let first : nat_le 0x4000 p ≡ true = le-leb 0x4000 p (omega (arith, low)) in
        let last : nat_lt p 0x4800 ≡ true = le-leb (suc p) 0x4800 (omega (arith, high)) in
        rw (first, last) refl

-- but for the driver's bytes, what is laid over a memory is that memory
pub laid_out : (page : List ℕ) (new mem : ℕ → ℕ) → IsLoaded mem → (b : ℕ) → is_own b ≡ false → new b ≡ mem b
    → laid page new b ≡ mem b
laid_out page new mem load b own same =
    ap (λ k. if in_page b then slice_index page (b - 0x10) else if in_code b then slice_index code (b - 0x6800) else k) same
    ∙ same_out page (page_in mem) mem b own ∙ sym (ap (λ (m : ℕ → ℕ). m b) (known mem load))

-- the driver's bytes, but with this phase
abbrev pub page_at : ℕ → (ℕ → ℕ) → List ℕ
page_at phase mem = page_of phase (mem 0x11) (mem 0x12) (mem 0x13) (mem 0x14) (mem 0x15) (mem 0x16) (mem 0x17) (mem 0x18)
    (mem 0x19) (mem 0x1A)

pub laid_at : (phase : ℕ) (mem : ℕ → ℕ) → IsLoaded mem → (b : ℕ) → is_own b ≡ false
    → mem b ≡ laid (page_at phase mem) mem b
laid_at phase mem load b own = sym (laid_out (page_at phase mem) mem mem load b own refl)

-- where the frame goes on
module _ (mem : ℕ → ℕ) (half : Half) (flipped : Bool) (rest : List ℕ) (load : IsLoaded mem)
    (building : IsBuilding mem half flipped rest) where
  pub goal_is : goal_in mem + 2 ≡ 0x4000 + 2 * base (other half) + (256 * mem 0x16 + mem 0x13)
  goal_is = let l = building.low in let p = building.page in omega (arith, l, p)

  pub goal_low : 0x4002 ≤ goal_in mem
  goal_low = let b = (base_low (other half)).0 in let s = building.begun in omega (arith, goal_is, b, s)

  pub goal_high : goal_in mem + length rest ≤ 0x4800
  goal_high = let b = (base_low (other half)).1 in let f = building.fits in omega (arith, goal_is, b, f)

  pub place_low : mem 0x13 < 255
  place_low = let e = building.even in let s = load.bytes 0x13 in omega (arith, e, s)

-- a frame goes on by a word
pub on_word : (half : Half) (place pages t1 len : ℕ) (wrap : Bool) → place < 255 → place % 2 ≡ 0
    → 256 * t1 + 2 ≡ 0x4000 + 2 * base (other half) + 256 * pages → 256 * pages + place + 2 + len ≤ 1024
    → nat_eq (((place + 1) % 256 + 1) % 256) 0 ≡ wrap
    → let up = ((place + 1) % 256 + 1) % 256 in
    (256 * carried wrap 1 t1 + 2 ≡ 0x4000 + 2 * base (other half) + 256 * carried wrap 1 pages)
    × (256 * carried wrap 1 pages + up ≡ 256 * pages + place + 2) × (up % 2 ≡ 0)
    × (256 * carried wrap 1 t1 + up ≡ 256 * t1 + place + 2)
on_word half place pages t1 len true small even page fits wraps =
    let full : ((place + 1) % 256 + 1) % 256 ≡ 0 = eqb-true (((place + 1) % 256 + 1) % 256) 0 wraps in
    let at_end : place ≡ 254 = omega (arith, full, small) in
    let b = base_low (other half) in
    let few : pages < 4 = omega (arith, fits) in
    let t_few : t1 < 255 = omega (arith, page, few, b.1) in
    (omega (arith, page, few, t_few), omega (arith, at_end, few), omega (arith, full), omega (arith, at_end, t_few))
on_word half place pages t1 len false small even page fits wraps =
    let open_yet = eqb-false (((place + 1) % 256 + 1) % 256) 0 wraps in
    let less : place < 254 = below place small even open_yet in
    (page, omega (arith, less), omega (arith, less, even), omega (arith, less))
  where
    below : (place : ℕ) → place < 255 → place % 2 ≡ 0 → (((place + 1) % 256 + 1) % 256 ≡ 0 → ⊥) → place < 254
    below place small even open_yet = by (nat_eq place 254) refl
      where
        by : (t : Bool) → nat_eq place 254 ≡ t → place < 254
        by true is = let e = eqb-true place 254 is in absurd (open_yet (omega (arith, e)))
        by false is = let e = eqb-false place 254 is in omega (arith, e, small, even)

module _ (a x y s : ℕ) (n z c v d i : Bool) (mem flags : ℕ → ℕ) (log : List Access) (load : IsLoaded mem) (a_small : a < 256)
    (x_small : x < 256) (half : Half) (flipped : Bool) (rest : List ℕ)
    (building : IsBuilding mem half flipped (a ∷ x ∷ rest)) (more : 2 ≤ length rest) where
  abbrev place : ℕ
  place = mem 0x13

  abbrev up : ℕ
  up = ((place + 1) % 256 + 1) % 256

  abbrev wrap : Bool
  wrap = nat_eq up 0

  abbrev goal : ℕ
  goal = goal_in mem

  abbrev page : List ℕ
  page = page_of 7 (mem 0x11) (mem 0x12) up (mem 0x14) (carried wrap 1 (mem 0x15)) (carried wrap 1 (mem 0x16)) (mem 0x17)
      (mem 0x18) (mem 0x19) (mem 0x1A)

  abbrev from : ℕ → Cpu
  from phase = at 0x6957 a x y s n z c v d i
      (laid (page_of phase (mem 0x11) (mem 0x12) place (mem 0x14) (mem 0x15) (mem 0x16) (mem 0x17) (mem 0x18) (mem 0x19)
      (mem 0x1A)) mem) flags log

  low : 0x4002 ≤ goal
  low = goal_low mem half flipped (a ∷ x ∷ rest) load building

  high : goal + suc (suc (length rest)) ≤ 0x4800
  high = goal_high mem half flipped (a ∷ x ∷ rest) load building

  small : place < 255
  small = place_low mem half flipped (a ∷ x ∷ rest) load building

  to0_is : (mem 0x14 + 256 * mem 0x15 + place) % 65536 ≡ goal
  to0_is = omega (arith, high)

  to1_is : (mem 0x14 + 256 * mem 0x15 + (place + 1) % 256) % 65536 ≡ suc goal
  to1_is = omega (arith, high, small)

  ram0 : (in_page goal ≡ false) × (in_code goal ≡ false) × (nat_le 0x200 goal ≡ true)
  ram0 = let r = in_ram goal low (omega (arith, high)) in (r.0, r.1, r.2)

  ram1 : (in_page (suc goal) ≡ false) × (in_code (suc goal) ≡ false) × (nat_le 0x200 (suc goal) ≡ true)
  ram1 = let r = in_ram (suc goal) (omega (arith, low)) (omega (arith, high, more)) in (r.0, r.1, r.2)

  room : (last late : Bool) → nat_le 3 (mem 0x16) ≡ last → nat_le 0xFE place ≡ late → is_full last late ≡ false
  room true true is also = let p = leb-true 3 (mem 0x16) is in let q = leb-true 0xFE place also in
      let f = building.fits in absurd (omega (arith, p, q, f, more))
  room true false is also = refl
  room false late is also = refl

  pub comes : Comes s (from 7) s false (laid page (put (suc goal) x (put goal a mem)))
      (Writes (suc goal) x ∷ Writes goal a ∷ seen log) []
  comes = subst (λ p. Comes s (from 7) s false (laid page (put (suc goal) x (put p a mem)))
      (Writes (suc goal) x ∷ Writes p a ∷ seen log) []) to0_is
      (subst (λ p. Comes s (from 7) s false (laid page (put p x (put to0 a mem))) (Writes p x ∷ Writes to0 a ∷ seen log) [])
      to1_is
      (put_room s a x y s n z c v d i (mem 0x11) (mem 0x12) place (mem 0x14) (mem 0x15) (mem 0x16) (mem 0x17) (mem 0x18)
      (mem 0x19) (mem 0x1A) mem flags log
      (ap in_page to0_is ∙ ram0.0) (ap in_code to0_is ∙ ram0.1) (ap (nat_le 0x200) to0_is ∙ ram0.2)
      (ap in_page to1_is ∙ ram1.0) (ap in_code to1_is ∙ ram1.1) (ap (nat_le 0x200) to1_is ∙ ram1.2)
      wrap refl (nat_le 3 (mem 0x16)) (nat_le 0xFE place) refl refl
      (room (nat_le 3 (mem 0x16)) (nat_le 0xFE place) refl refl)))
    where
      to0 : ℕ
      to0 = (mem 0x14 + 256 * mem 0x15 + mem 0x13) % 65536

  moved : (256 * carried wrap 1 (mem 0x15) + 2 ≡ 0x4000 + 2 * base (other half) + 256 * carried wrap 1 (mem 0x16))
      × (256 * carried wrap 1 (mem 0x16) + up ≡ 256 * mem 0x16 + place + 2) × (up % 2 ≡ 0)
      × (256 * carried wrap 1 (mem 0x15) + up ≡ 256 * mem 0x15 + place + 2)
  moved = on_word half place (mem 0x16) (mem 0x15) (length rest) wrap small building.even building.page
      (let f = building.fits in omega (arith, f)) refl

  page_small : AreSmall page
  page_small = small_page (omega arith) (load.bytes 0x11) (load.bytes 0x12) (omega arith) (load.bytes 0x14)
      (carried_small wrap 1 (mem 0x15) (load.bytes 0x15)) (carried_small wrap 1 (mem 0x16) (load.bytes 0x16))
      (load.bytes 0x17) (load.bytes 0x18) (load.bytes 0x19) (load.bytes 0x1A)

  abbrev final : ℕ → ℕ
  final = laid page (put (suc goal) x (put goal a mem))

  pub built : IsBuilding final half flipped rest
  built = record {
    phase = refl;
    free = building.free;
    publish = building.publish;
    low = building.low;
    page = moved.0;
    even = moved.2;
    begun = let b = building.begun in omega (arith, moved.1, b);
    some = more;
    fits = let f = building.fits in omega (arith, moved.1, f);
  }

  pub byte1 : final 0x4001 ≡ mem 0x4001
  byte1 = ap (λ (t : Bool). if t then x else put goal a mem 0x4001)
      (ne_eqb 0x4001 (suc goal) (λ same. absurd (omega (arith, same, low))))
      ∙ ap (λ (t : Bool). if t then a else mem 0x4001) (ne_eqb 0x4001 goal (λ same. absurd (omega (arith, same, low))))

  pub new_loaded : IsLoaded final
  new_loaded = loaded page (put (suc goal) x (put goal a mem)) page_small
      (put_small (suc goal) x (put goal a mem) x_small (put_small goal a mem a_small load.bytes))

  pub moved_on : goal_in final ≡ goal + 2
  moved_on = omega (arith, moved.3)

  pub kept : (b : ℕ) → is_own b ≡ false → is_ram b ≡ false → final b ≡ mem b
  kept b own ram = laid_out page (put (suc goal) x (put goal a mem)) mem load b own
      (put_far (suc goal) x (put goal a mem) b ram (omega (arith, low)) (omega (arith, high, more))
      ∙ put_far goal a mem b ram low (omega (arith, high)))

  builds : seen log ≡ [] → BuildsSo (from 7) half flipped (a ∷ x ∷ []) rest
  builds quiet = (
    record {
      steps = comes.steps;
      returns = returned s (run s comes.steps (from 7)) comes.returns comes.stack;
      carry = comes.carry;
      shows = comes.accesses ∙ ap (λ l. Writes (suc goal) x ∷ Writes goal a ∷ l) quiet;
      goes_on = ap goal_in comes.memory ∙ moved_on;
      building = subst (λ (m : ℕ → ℕ). IsBuilding m half flipped rest) (sym comes.memory) built;
      alike = alike_if (from 7) comes.steps (returned s (run s comes.steps (from 7)) comes.returns comes.stack)
          (λ tables. comes.steady tables refl) comes.there;
      loaded = subst IsLoaded (sym comes.memory) new_loaded;
      kept = λ b own out ram. ap (λ (m : ℕ → ℕ). m b) comes.memory ∙ kept b own ram ∙ laid_at 7 mem load b own;
    },
    record {
      byte1 = ap (λ (m : ℕ → ℕ). m 0x4001) comes.memory ∙ byte1;
      steady = λ tables. comes.steady tables refl;
      there = comes.there;
    },
  )

pub put_steadily : (cpu : Cpu) (half : Half) (flipped : Bool) (rest : List ℕ) → Enters cpu dvg_put
    → IsBuilding cpu.mem half flipped (cpu.a ∷ cpu.x ∷ rest) → 2 ≤ length rest
    → BuildsSo cpu half flipped (cpu.a ∷ cpu.x ∷ []) rest
put_steadily cpu half flipped rest enters building more =
    subst (λ (k : Cpu). BuildsSo k half flipped (cpu.a ∷ cpu.x ∷ []) rest)
    (ap (λ p. at 0x6957 cpu.a cpu.x cpu.y cpu.s cpu.n cpu.z cpu.c cpu.v cpu.d cpu.i
    (laid (page_of p (cpu.mem 0x11) (cpu.mem 0x12) (cpu.mem 0x13) (cpu.mem 0x14) (cpu.mem 0x15) (cpu.mem 0x16)
    (cpu.mem 0x17) (cpu.mem 0x18) (cpu.mem 0x19) (cpu.mem 0x1A)) cpu.mem) cpu.flags []) (sym building.phase)
    ∙ ap (λ l. at 0x6957 cpu.a cpu.x cpu.y cpu.s cpu.n cpu.z cpu.c cpu.v cpu.d cpu.i (laid (page_in cpu.mem) cpu.mem) cpu.flags l)
    (sym enters.log) ∙ state_is cpu 0x6957 cpu.s enters.entry refl enters.loaded)
    (builds cpu.a cpu.x cpu.y cpu.s cpu.n cpu.z cpu.c cpu.v cpu.d cpu.i cpu.mem cpu.flags [] enters.loaded enters.a enters.x half flipped
    rest building more refl)

pub put_takes : PutTakes
put_takes cpu half flipped rest enters building more = (put_steadily cpu half flipped rest enters building more).0
