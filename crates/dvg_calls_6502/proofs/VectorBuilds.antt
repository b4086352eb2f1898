-- What dvg_vector does, by the frame that is being built.
use Rattle.std.proofs.Common.{◌≡◌, ℕ, zero, suc, inl, inr, ◌+◌, ◌-◌, ◌*◌, ◌%◌, ◌<◌, ◌≤◌, Bool, true, false, List, []}
use Rattle.std.proofs.Common.{◌∷◌, ◌++◌, length, refl, sym, ap, ◌∙◌, subst, arith, le-leb, leb-true}
use Rattle.std.proofs.Math.Path.{fun_ext}
use Rattle.std.specs.Prelude.{nat_eq, nat_le, nat_lt, ◌⊎◌, if◌then◌else◌, slice_index}
use Rattle.dvg_mem.specs.declared.half.Half.{Half}
use Rattle.dvg_calls_6502.specs.Processor.{Cpu, Access, Writes}
use Rattle.dvg_calls_6502.specs.Code.{code, dvg_vector}
use Rattle.dvg_calls_6502.specs.Board.{IsLoaded, seen, goal_in, is_own}
use Rattle.dvg_calls_6502.specs.Amid.{is_work}
use Rattle.dvg_calls_6502.specs.Routines.{Enters, Vector, put_by}
use Rattle.dvg_calls_6502.specs.Build.{IsBuilding, VectorTakes, VectorRefuses, is_changed}
use Rattle.dvg_calls_6502.proofs.ProcessorRuns.{Comes, by, at, comes}
use Rattle.dvg_calls_6502.proofs.Memory.{laid, page_of, page_in, known, loaded, in_page, in_code, AreSmall, are_small, both_true}
use Rattle.dvg_calls_6502.proofs.Memory.{le_not}
use Rattle.dvg_calls_6502.proofs.AmidOthers.{alike_if}
use Rattle.dvg_calls_6502.proofs.TicksRun.{page_small}
use Rattle.dvg_calls_6502.proofs.BuildRun.{put_refuses, put_full}
use Rattle.dvg_calls_6502.proofs.Building as building
use Rattle.dvg_calls_6502.proofs.Building.{BuildsSo, builds_so}
use Rattle.dvg_calls_6502.proofs.Pairing as pairing
use Rattle.dvg_calls_6502.proofs.Pairing.{entered, comes_back}
use Rattle.dvg_calls_6502.proofs.Refusing.{Refuses, refused_so, pair_refuses, pair_full}
use Rattle.dvg_calls_6502.proofs.VectorRun.{worked, Led}
use Rattle.dvg_calls_6502.proofs.VectorCall.{Comes as Coming, no_word, one_word, two_words, vector_comes}

abbrev work_in : (ℕ → ℕ) → List ℕ
work_in mem = mem 0x1B ∷ mem 0x1C ∷ mem 0x1D ∷ mem 0x1E ∷ mem 0x1F ∷ mem 0x20 ∷ []

in_list : (mem : ℕ → ℕ) (i : ℕ) → i < 6 → slice_index (work_in mem) i ≡ mem (0x1B + i)
in_list mem (suc (suc (suc (suc (suc (suc i)))))) h = absurd (omega arith)
in_list mem _ h = refl

known_work : (mem : ℕ → ℕ) → worked (work_in mem) mem ≡ mem
known_work mem = fun_ext (λ b. at_byte b (is_work b) refl)
  where
    at_byte : (b : ℕ) (t : Bool) → is_work b ≡ t → (if t then slice_index (work_in mem) (b - 0x1B) else mem b) ≡ mem b
    at_byte b false is = refl
    at_byte b true is =
        let two = both_true (nat_le 0x1B b) (nat_lt b 0x21) is in
        let low = leb-true 0x1B b two.0 in
        let high = leb-true (suc b) 0x21 two.1 in
        let back : 0x1B + (b - 0x1B) ≡ b = omega (arith, low) in
        in_list mem (b - 0x1B) (omega (arith, low, high)) ∙ ap mem back

worked_out : (work : List ℕ) (mem : ℕ → ℕ) (b : ℕ) → is_work b ≡ false → worked work mem b ≡ mem b
worked_out work mem b is = ap (λ (t : Bool). if t then slice_index work (b - 0x1B) else mem b) is

-- where no such byte is
past_work : (b : ℕ) → 0x21 ≤ b → is_work b ≡ false
past_work b far =
    let low : nat_le 0x1B b ≡ true = le-leb 0x1B b (omega (arith, far)) in
    let high : nat_lt b 0x21 ≡ false = le_not (suc b) 0x21 (omega (arith, far)) in
    rw (low, high) refl

before_work : (b : ℕ) → b < 0x1B → is_work b ≡ false
before_work b near = let low : nat_le 0x1B b ≡ false = le_not 0x1B b near in rw low refl

pub own_not_work : (b : ℕ) → is_own b ≡ true → is_work b ≡ false
own_not_work b is = before_work b (leb-true (suc b) 0x1B (both_true (nat_le 0x10 b) (nat_lt b 0x1B) is).1)

-- a memory with such bytes
module _ (work : List ℕ) (mem : ℕ → ℕ) (small : AreSmall work) where
  worked_bytes : ((b : ℕ) → mem b < 256) → (b : ℕ) → worked work mem b < 256
  worked_bytes bytes b = at_byte (is_work b)
    where
      at_byte : (t : Bool) → (if t then slice_index work (b - 0x1B) else mem b) < 256
      at_byte true = are_small work small (b - 0x1B)
      at_byte false = bytes b

  worked_loaded : IsLoaded mem → IsLoaded (worked work mem)
  worked_loaded load = record {
    code = λ i less. worked_out work mem (0x6800 + i) (past_work (0x6800 + i) (omega arith)) ∙ load.code i less;
    bytes = worked_bytes load.bytes;
  }

worked_building : (work : List ℕ) (mem : ℕ → ℕ) (half : Half) (flipped : Bool) (rest : List ℕ)
    → IsBuilding mem half flipped rest → IsBuilding (worked work mem) half flipped rest
worked_building work mem half flipped rest building = record {
  phase = building.phase;
  free = building.free;
  publish = building.publish;
  low = building.low;
  page = building.page;
  even = building.even;
  begun = building.begun;
  some = building.some;
  fits = building.fits;
}

-- a stretch, and then a run to the end
led_comes : (q : ℕ) (from : Cpu) (to : List Access → Cpu) (s : ℕ) (c : Bool) (mem : ℕ → ℕ) (events : List Access)
    → Led q from to → ((log : List Access) → seen log ≡ [] → Comes q (to log) s c mem events [])
    → Comes q from s c mem events []
led_comes q from to s c mem events led rest =
    by q led.steps from (to led.log) s c mem events led.is led.steady (rest led.log led.quiet)

-- what a stretch logs isn't seen
after_quiet : {q s : ℕ} {from : Cpu} {c : Bool} {mem : ℕ → ℕ} (log : List Access) (writes : List Access → List Access)
    → seen log ≡ [] → Comes q from s c mem (writes (seen log)) [] → Comes q from s c mem (writes []) []
after_quiet {q = q} {s = s} {from = from} {c = c} {mem = mem} log writes quiet did =
    subst (λ l. Comes q from s c mem (writes l) []) quiet did

module _ (cpu : Cpu) (enters : Enters cpu dvg_vector) where
  abbrev page : ℕ → List ℕ
  page phase = page_of phase (cpu.mem 0x11) (cpu.mem 0x12) (cpu.mem 0x13) (cpu.mem 0x14) (cpu.mem 0x15) (cpu.mem 0x16)
      (cpu.mem 0x17) (cpu.mem 0x18) (cpu.mem 0x19) (cpu.mem 0x1A)

  abbrev start : ℕ → Cpu
  start phase = at 0x6A17 cpu.a cpu.x cpu.y cpu.s cpu.n cpu.z cpu.c cpu.v cpu.d cpu.i
      (laid (page phase) (worked (work_in cpu.mem) cpu.mem)) cpu.flags []

  start_is : (phase : ℕ) → cpu.mem 0x10 ≡ phase → start phase ≡ cpu
  start_is phase is =
      ap (λ m. at 0x6A17 cpu.a cpu.x cpu.y cpu.s cpu.n cpu.z cpu.c cpu.v cpu.d cpu.i (laid (page phase) m) cpu.flags [])
      (known_work cpu.mem) ∙ entered cpu 0x6A17 phase enters is

  coming : (phase : ℕ) → Coming cpu.s cpu.y cpu.s (cpu.mem 0x1F) cpu.a cpu.v cpu.d cpu.i (page phase) cpu.mem cpu.flags (start phase)
      (put_by Vector cpu)
  coming phase = vector_comes cpu.s cpu.a cpu.x cpu.y cpu.s (cpu.mem 0x1B) (cpu.mem 0x1C) (cpu.mem 0x1D) (cpu.mem 0x1E)
      (cpu.mem 0x1F) (cpu.mem 0x20) cpu.n cpu.z cpu.c cpu.v cpu.d cpu.i (page phase) cpu.mem cpu.flags enters.a
      (enters.loaded.bytes 0x1B) (enters.loaded.bytes 0x1C) (enters.loaded.bytes 0x1D) (enters.loaded.bytes 0x1E)
      (enters.loaded.bytes 0x1F) (enters.loaded.bytes 0x20)

  start_kept : (b : ℕ) → is_own b ≡ false → is_work b ≡ false → (start 7).mem b ≡ cpu.mem b
  start_kept b own out = building.laid_out (page 7) (worked (work_in cpu.mem) cpu.mem) cpu.mem enters.loaded b own
      (worked_out (work_in cpu.mem) cpu.mem b out)

  -- where a frame is being built
  module _ (half : Half) (flipped : Bool) (rest : List ℕ) (more : 2 ≤ length rest) where
    one_builds : (b0 b1 : ℕ) (work : List ℕ) → b0 < 256 → b1 < 256 → (small : AreSmall work)
        → (n z c v d i : Bool) → Led cpu.s (start 7) (at 0x6957 b0 b1 cpu.y cpu.s n z c v d i (laid (page 7) (worked work cpu.mem)) cpu.flags)
        → IsBuilding cpu.mem half flipped (b0 ∷ b1 ∷ rest) → BuildsSo (start 7) half flipped (b0 ∷ b1 ∷ []) rest
    one_builds b0 b1 work b0_small b1_small small n z c v d i led built =
        let m = worked work cpu.mem in
        let load = worked_loaded work cpu.mem small enters.loaded in
        let building' = worked_building work cpu.mem half flipped (b0 ∷ b1 ∷ rest) built in
        let did = led_comes cpu.s (start 7) _ cpu.s false _ (written2 b0 b1) led
        (λ log quiet. after_quiet log (λ l. Writes (suc (goal_in cpu.mem)) b1 ∷ Writes (goal_in cpu.mem) b0 ∷ l) quiet
        (building.comes b0 b1 cpu.y cpu.s n z c v d i m cpu.flags log load b0_small b1_small half flipped rest building' more)) in
        builds_so (start 7) half flipped (b0 ∷ b1 ∷ []) rest
        (record {
          steps = did.steps;
          returns = comes_back did;
          carry = did.carry;
          shows = did.accesses;
          alike = alike_if (start 7) did.steps (comes_back did) (λ tables. did.steady tables refl) did.there;
          goes_on = ap goal_in did.memory ∙ building.moved_on b0 b1 cpu.y cpu.s n z c v d i m cpu.flags [] load b0_small b1_small
              half flipped rest building' more;
          building = subst (λ (m : ℕ → ℕ). IsBuilding m half flipped rest) (sym did.memory)
              (building.built b0 b1 cpu.y cpu.s n z c v d i m cpu.flags [] load b0_small b1_small half flipped rest building' more);
          loaded = subst IsLoaded (sym did.memory)
              (building.new_loaded b0 b1 cpu.y cpu.s n z c v d i m cpu.flags [] load b0_small b1_small half flipped rest building'
              more);
          kept = λ b own out ram. ap (λ (m : ℕ → ℕ). m b) did.memory
              ∙ building.kept b0 b1 cpu.y cpu.s n z c v d i m cpu.flags [] load b0_small b1_small half flipped rest building' more
              b own ram ∙ worked_out work cpu.mem b out ∙ sym (start_kept b own out);
        })
        (record {
          byte1 = ap (λ (m : ℕ → ℕ). m 0x4001) did.memory
              ∙ building.byte1 b0 b1 cpu.y cpu.s n z c v d i m cpu.flags [] load b0_small b1_small half flipped rest building' more;
          steady = λ tables. did.steady tables refl;
          there = did.there;
        })
      where
        written2 : (b0 b1 : ℕ) → List Access
        written2 b0 b1 = Writes (suc (goal_in cpu.mem)) b1 ∷ Writes (goal_in cpu.mem) b0 ∷ []

    two_build : (b0 b1 b2 b3 : ℕ) → (small : AreSmall (b0 ∷ b1 ∷ b2 ∷ b3 ∷ cpu.mem 0x1F ∷ cpu.a ∷ []))
        → (a x : ℕ) (n z c : Bool)
        → Led cpu.s (start 7) (at 0x6989 a x cpu.y cpu.s n z c cpu.v cpu.d cpu.i
        (laid (page 7) (worked (b0 ∷ b1 ∷ b2 ∷ b3 ∷ cpu.mem 0x1F ∷ cpu.a ∷ []) cpu.mem)) cpu.flags)
        → IsBuilding cpu.mem half flipped (b0 ∷ b1 ∷ b2 ∷ b3 ∷ rest)
        → BuildsSo (start 7) half flipped (b0 ∷ b1 ∷ b2 ∷ b3 ∷ []) rest
    two_build b0 b1 b2 b3 small a x n z c led built =
        let work = b0 ∷ b1 ∷ b2 ∷ b3 ∷ cpu.mem 0x1F ∷ cpu.a ∷ [] in
        let m = worked work cpu.mem in
        let load = worked_loaded work cpu.mem small enters.loaded in
        let building' = worked_building work cpu.mem half flipped (b0 ∷ b1 ∷ b2 ∷ b3 ∷ rest) built in
        let g = goal_in cpu.mem in
        let did = led_comes cpu.s (start 7) _ cpu.s false _
        (Writes (suc (suc (suc g))) b3 ∷ Writes (suc (suc g)) b2 ∷ Writes (suc g) b1 ∷ Writes g b0 ∷ []) led
        (λ log quiet. after_quiet log
        (λ l. Writes (suc (suc (suc g))) b3 ∷ Writes (suc (suc g)) b2 ∷ Writes (suc g) b1 ∷ Writes g b0 ∷ l) quiet
        (pairing.comes a x cpu.y cpu.s n z c cpu.v cpu.d cpu.i m cpu.flags log load half flipped b0 b1 b2 b3 rest refl refl refl refl
        building' more)) in
        builds_so (start 7) half flipped (b0 ∷ b1 ∷ b2 ∷ b3 ∷ []) rest
        (record {
          steps = did.steps;
          returns = comes_back did;
          carry = did.carry;
          shows = did.accesses;
          alike = alike_if (start 7) did.steps (comes_back did) (λ tables. did.steady tables refl) did.there;
          goes_on = ap goal_in did.memory ∙ pairing.moved_on a x cpu.y cpu.s n z c cpu.v cpu.d cpu.i m cpu.flags [] load half flipped b0
              b1 b2 b3 rest refl refl refl refl building' more;
          building = subst (λ (m : ℕ → ℕ). IsBuilding m half flipped rest) (sym did.memory)
              (pairing.built a x cpu.y cpu.s n z c cpu.v cpu.d cpu.i m cpu.flags [] load half flipped b0 b1 b2 b3 rest refl refl refl refl
              building' more);
          loaded = subst IsLoaded (sym did.memory)
              (pairing.new_loaded a x cpu.y cpu.s n z c cpu.v cpu.d cpu.i m cpu.flags [] load half flipped b0 b1 b2 b3 rest refl refl refl
              refl building' more);
          kept = λ b own out ram. ap (λ (m : ℕ → ℕ). m b) did.memory
              ∙ pairing.kept a x cpu.y cpu.s n z c cpu.v cpu.d cpu.i m cpu.flags [] load half flipped b0 b1 b2 b3 rest refl refl refl refl
              building' more b own ram ∙ worked_out work cpu.mem b out ∙ sym (start_kept b own out);
        })
        (record {
          byte1 = ap (λ (m : ℕ → ℕ). m 0x4001) did.memory
              ∙ pairing.byte1 a x cpu.y cpu.s n z c cpu.v cpu.d cpu.i m cpu.flags [] load half flipped b0 b1 b2 b3 rest refl refl refl refl
              building' more;
          steady = λ tables. did.steady tables refl;
          there = did.there;
        })

    pub vector_steadily : 1 ≤ length (put_by Vector cpu) → IsBuilding cpu.mem half flipped (put_by Vector cpu ++ rest)
        → BuildsSo cpu half flipped (put_by Vector cpu) rest
    vector_steadily some built =
        subst (λ (k : Cpu). BuildsSo k half flipped (put_by Vector cpu) rest) (start_is 7 built.phase) (which (coming 7))
      where
        which : Coming cpu.s cpu.y cpu.s (cpu.mem 0x1F) cpu.a cpu.v cpu.d cpu.i (page 7) cpu.mem cpu.flags (start 7) (put_by Vector cpu)
            → BuildsSo (start 7) half flipped (put_by Vector cpu) rest
        which (no_word is out) = absurd (let e = ap length is in omega (arith, e, some))
        which (one_word b0 b1 work is b0_small b1_small small to) =
            subst (λ l. BuildsSo (start 7) half flipped l rest) (sym is)
            (one_builds b0 b1 work b0_small b1_small small to.n to.z to.c to.v' cpu.d cpu.i to.led
            (subst (λ l. IsBuilding cpu.mem half flipped (l ++ rest)) is built))
        which (two_words b0 b1 b2 b3 is small to) =
            subst (λ l. BuildsSo (start 7) half flipped l rest) (sym is)
            (two_build b0 b1 b2 b3 small to.a to.x to.n to.z to.c to.led
            (subst (λ l. IsBuilding cpu.mem half flipped (l ++ rest)) is built))

  -- a refusal
  abbrev Refusal : Type 0
  Refusal = (work : List ℕ) × AreSmall work
      × Comes cpu.s cpu cpu.s true (laid (page_in cpu.mem) (worked work cpu.mem)) [] []

  abbrev first : Cpu
  first = start (cpu.mem 0x10)

  -- what dvg_put and dvg_pair then refuse
  abbrev Refusing : ℕ → Type 0
  Refusing entry = (a x : ℕ) (n z c v d i : Bool) (m : ℕ → ℕ) (log : List Access)
      → Comes cpu.s (at entry a x cpu.y cpu.s n z c v d i (laid (page_in cpu.mem) m) cpu.flags log) cpu.s true
      (laid (page_in cpu.mem) m) (seen log) []

  refusal : (length (put_by Vector cpu) ≡ 2 → Refusing 0x6957) → (length (put_by Vector cpu) ≡ 4 → Refusing 0x6989)
      → Refusal
  refusal puts pairs = which (coming (cpu.mem 0x10))
    where
      home : (work : List ℕ) → Comes cpu.s first cpu.s true (laid (page_in cpu.mem) (worked work cpu.mem)) [] []
          → Comes cpu.s cpu cpu.s true (laid (page_in cpu.mem) (worked work cpu.mem)) [] []
      home work did = subst (λ (k : Cpu). Comes cpu.s k cpu.s true (laid (page_in cpu.mem) (worked work cpu.mem)) [] [])
          (start_is (cpu.mem 0x10) refl) did

      which : Coming cpu.s cpu.y cpu.s (cpu.mem 0x1F) cpu.a cpu.v cpu.d cpu.i (page (cpu.mem 0x10)) cpu.mem cpu.flags first
          (put_by Vector cpu) → Refusal
      which (no_word is out) = (
        out.work,
        out.small,
        home out.work (led_comes cpu.s first _ cpu.s true _ [] out.led
            (λ log quiet. comes 1 refl refl refl quiet refl (λ tables is. refl) refl)),
      )
      which (one_word b0 b1 work is b0_small b1_small small to) = (
        work,
        small,
        home work (led_comes cpu.s first _ cpu.s true _ [] to.led
            (λ log quiet. after_quiet log (λ l. l) quiet
            (puts (ap length is) b0 b1 to.n to.z to.c to.v' cpu.d cpu.i (worked work cpu.mem) log))),
      )
      which (two_words b0 b1 b2 b3 is small to) =
          let work = b0 ∷ b1 ∷ b2 ∷ b3 ∷ cpu.mem 0x1F ∷ cpu.a ∷ [] in (
            work,
            small,
            home work (led_comes cpu.s first _ cpu.s true _ [] to.led
                (λ log quiet. after_quiet log (λ l. l) quiet
                (pairs (ap length is) to.a to.x to.n to.z to.c cpu.v cpu.d cpu.i (worked work cpu.mem) log))),
          )

  -- outside of these bytes memory is as it was
  kept_out : (work : List ℕ) (b : ℕ) → is_work b ≡ false → laid (page_in cpu.mem) (worked work cpu.mem) b ≡ cpu.mem b
  kept_out work b out =
      ap (λ k. if in_page b then slice_index (page_in cpu.mem) (b - 0x10) else if in_code b then slice_index code
      (b - 0x6800) else k) (worked_out work cpu.mem b out)
      ∙ sym (ap (λ (m : ℕ → ℕ). m b) (known cpu.mem enters.loaded))

  pub refuses_so : Refusal → Refuses cpu
  refuses_so did = record {
    memory = laid (page_in cpu.mem) (worked did.0 cpu.mem);
    comes = did.2;
    loaded = loaded (page_in cpu.mem) (worked did.0 cpu.mem) (page_small cpu.mem enters.loaded)
        (worked_bytes did.0 cpu.mem did.1 enters.loaded.bytes);
    own = λ b is. kept_out did.0 b (own_not_work b is);
    far = λ b is. kept_out did.0 b (past_work b (omega (arith, is)));
    kept = λ b is. kept_out did.0 b (subst (λ entry. is_changed entry b ≡ false) enters.entry is);
  }

  -- there is no such vector, no frame is being built, or there is no room
  pub no_vector : put_by Vector cpu ≡ [] → Refusal
  no_vector is = refusal (λ two. absurd (let e = ap length is in omega (arith, e, two)))
      (λ four. absurd (let e = ap length is in omega (arith, e, four)))

  pub not_building_vector : nat_eq (cpu.mem 0x10) 7 ≡ false → Refusal
  not_building_vector other = refusal
      (λ two a x n z c v d i m log. put_refuses cpu.s a x cpu.y cpu.s n z c v d i (cpu.mem 0x11) (cpu.mem 0x12) (cpu.mem 0x13)
      (cpu.mem 0x14) (cpu.mem 0x15) (cpu.mem 0x16) (cpu.mem 0x17) (cpu.mem 0x18) (cpu.mem 0x19) (cpu.mem 0x1A) m cpu.flags
      log (cpu.mem 0x10) (enters.loaded.bytes 0x10) other)
      (λ four a x n z c v d i m log. pair_refuses cpu.s a x cpu.y cpu.s n z c v d i (cpu.mem 0x10) (cpu.mem 0x11) (cpu.mem 0x12)
      (cpu.mem 0x13) (cpu.mem 0x14) (cpu.mem 0x15) (cpu.mem 0x16) (cpu.mem 0x17) (cpu.mem 0x18) (cpu.mem 0x19)
      (cpu.mem 0x1A) m cpu.flags log (enters.loaded.bytes 0x10) other)

  module _ (is : cpu.mem 0x10 ≡ 7) (last : nat_le 3 (cpu.mem 0x16) ≡ true) where
    no_room : (length (put_by Vector cpu) ≡ 2 → nat_le 0xFE (cpu.mem 0x13) ≡ true)
        → (length (put_by Vector cpu) ≡ 4 → nat_le 0xFC (cpu.mem 0x13) ≡ true) → Refusal
    no_room late_one late_two = refusal
        (λ two a x n z c v d i m log. at_phase 0x6957 a x n z c v d i m log
        (put_full cpu.s a x cpu.y cpu.s n z c v d i (cpu.mem 0x11) (cpu.mem 0x12) (cpu.mem 0x13) (cpu.mem 0x14) (cpu.mem 0x15)
        (cpu.mem 0x16) (cpu.mem 0x17) (cpu.mem 0x18) (cpu.mem 0x19) (cpu.mem 0x1A) m cpu.flags log last (late_one two)))
        (λ four a x n z c v d i m log. at_phase 0x6989 a x n z c v d i m log
        (pair_full cpu.s a x cpu.y cpu.s n z c v d i (cpu.mem 0x11) (cpu.mem 0x12) (cpu.mem 0x13) (cpu.mem 0x14) (cpu.mem 0x15)
        (cpu.mem 0x16) (cpu.mem 0x17) (cpu.mem 0x18) (cpu.mem 0x19) (cpu.mem 0x1A) m cpu.flags log last (late_two four)))
      where
        at_phase : (entry a x : ℕ) (n z c v d i : Bool) (m : ℕ → ℕ) (log : List Access)
            → Comes cpu.s (at entry a x cpu.y cpu.s n z c v d i (laid (page 7) m) cpu.flags log) cpu.s true (laid (page 7) m)
            (seen log) []
            → Comes cpu.s (at entry a x cpu.y cpu.s n z c v d i (laid (page_in cpu.mem) m) cpu.flags log) cpu.s true
            (laid (page_in cpu.mem) m) (seen log) []
        at_phase entry a x n z c v d i m log did = subst (λ p. Comes cpu.s (at entry a x cpu.y cpu.s n z c v d i (laid (page p) m)
            cpu.flags log) cpu.s true (laid (page p) m) (seen log) []) (sym is) did

  -- a vector has one word, or two
  lengths : (length (put_by Vector cpu) ≡ 0) ⊎ ((length (put_by Vector cpu) ≡ 2) ⊎ (length (put_by Vector cpu) ≡ 4))
  lengths = which (coming 0)
    where
      which : Coming cpu.s cpu.y cpu.s (cpu.mem 0x1F) cpu.a cpu.v cpu.d cpu.i (page 0) cpu.mem cpu.flags (start 0) (put_by Vector cpu)
          → (length (put_by Vector cpu) ≡ 0) ⊎ ((length (put_by Vector cpu) ≡ 2) ⊎ (length (put_by Vector cpu) ≡ 4))
      which (no_word is out) = inl (ap length is)
      which (one_word b0 b1 work is b0_small b1_small small to) = inr (inl (ap length is))
      which (two_words b0 b1 b2 b3 is small to) = inr (inr (ap length is))

  pub full_vector : (left : ℕ) → cpu.mem 0x10 ≡ 7 → cpu.mem 0x13 % 2 ≡ 0 → 2 ≤ left → 256 * cpu.mem 0x16 + cpu.mem 0x13 + left ≤ 1024
      → 1022 < 256 * cpu.mem 0x16 + cpu.mem 0x13 + length (put_by Vector cpu) → Refusal
  full_vector left phase even some fits above =
      let small = enters.loaded.bytes 0x13 in
      no_room phase (le-leb 3 (cpu.mem 0x16) (pages small lengths))
      (λ two. le-leb 0xFE (cpu.mem 0x13) (omega (arith, small, even, some, fits, above, two)))
      (λ four. le-leb 0xFC (cpu.mem 0x13) (omega (arith, small, even, some, fits, above, four)))
    where
      pages : cpu.mem 0x13 < 256
          → (length (put_by Vector cpu) ≡ 0) ⊎ ((length (put_by Vector cpu) ≡ 2) ⊎ (length (put_by Vector cpu) ≡ 4))
          → 3 ≤ cpu.mem 0x16
      pages small (inl is) = omega (arith, small, above, is)
      pages small (inr (inl is)) = omega (arith, small, above, is)
      pages small (inr (inr is)) = omega (arith, small, above, is)

pub vector_takes : VectorTakes
vector_takes cpu half flipped rest enters some built more =
    (vector_steadily cpu enters half flipped rest more some built).0

pub vector_refuses : VectorRefuses
vector_refuses cpu enters (inl is) = refused_so cpu (refuses_so cpu enters (no_vector cpu enters is))
vector_refuses cpu enters (inr (inl other)) = refused_so cpu (refuses_so cpu enters (not_building_vector cpu enters other))
vector_refuses cpu enters (inr (inr room)) =
    let built = room.3 in
    refused_so cpu (refuses_so cpu enters
    (full_vector cpu enters (length room.2) built.phase built.even built.some built.fits room.4))
