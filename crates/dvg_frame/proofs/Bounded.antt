-- A draft without a fault and without a loop has a picture, and its fetches are bounded.
use Rattle.std.proofs.Common.{◌≡◌, ℕ, zero, suc, ◌+◌, ◌-◌, ◌*◌, ◌^◌, ◌<◌, ◌≤◌, inr, ⊎_elim, List, [], ◌++◌, refl, subst, arith}
use Rattle.std.proofs.Math.Nat.{suc-mul, mul-le-mul}
use Rattle.std.proofs.lemmas.Bool.{cases_lt}
use Rattle.std.proofs.lemmas.Option.{slice_get-get_or}
use Rattle.dvg_code.specs.declared.instr.Instr.{Instr}
use Rattle.dvg_code.specs.declared.instr.Instr.TheVariants.{Vctr, Labs, Halt, Jsrl, Rtsl, Jmpl, Svec}
use Rattle.dvg_code.specs.Spelling.{word_count}
use Rattle.dvg_code.specs.Words.{IsWord, word_in}
use Rattle.dvg_code.specs.Acts.{Act, Moves, Jumps, Calls, Returns, Halts}
use Rattle.dvg_code.proofs.Beginnings.{one_word, two_words}
use Rattle.dvg_mem.specs.Memory.{IsRom, first_word}
use Rattle.dvg_mem.proofs.Roms.{behind_ram, rom_there, word_fits, words_from_first, none_there}
use Rattle.dvg_gen.specs.declared.beam.Beam.{Beam}
use Rattle.dvg_gen.specs.declared.stroke.Stroke.{Stroke}
use Rattle.dvg_gen.specs.Drawing.{moved, drawn}
use Rattle.dvg_frame.specs.declared.op.OpKind.{OpKind}
use Rattle.dvg_frame.specs.declared.op.OpKind.TheVariants.{Return}
use Rattle.dvg_frame.specs.declared.place.Place.{Place}
use Rattle.dvg_frame.specs.declared.place.Place.TheVariants.{InFrame, InRom}
use Rattle.dvg_frame.specs.declared.fault.FrameFault.TheVariants.{OutOfRom, NoCaller}
use Rattle.dvg_frame.specs.Steps.{one, two, Stands, in_frame, in_rom, second, bare, IsFine, Leads, on, jump, call, back, Reached, begin, step, Closed, IsWellFormed}
use Rattle.dvg_frame.specs.own.Pairs.{pair_of}
use Rattle.dvg_frame.specs.own.Ways.{IsPlaceOf}
use Rattle.dvg_frame.specs.Picture.{End, AtHalt, AtReturn, Draws, halts, returns, moves, jumps, call_halts, calls, IsPicture, IsBound}
use Rattle.dvg_frame.specs.own.Tables.{places}
use Rattle.dvg_frame.specs.Loops.{Walks, none, more, HasLoop}
use Rattle.dvg_frame.proofs.Swept.{few_ops, pair_in, reached_pair}
use Rattle.dvg_frame.proofs.Pictures.{one_picture}

few_words : (instr : Instr) → word_count instr ≤ 2
few_words (Vctr scale dx dy z) = omega arith
few_words (Labs x y scale) = omega arith
few_words Halt = omega arith
few_words (Jsrl to) = omega arith
few_words Rtsl = omega arith
few_words (Jmpl to) = omega arith
few_words (Svec scale dx dy z) = omega arith

suc_times : (k cost : ℕ) → suc k * cost ≡ cost + k * cost
suc_times k cost = let is = suc-mul k cost in omega arith

module _ (F : List OpKind) (R : List ℕ) where
  -- from a place, whatever the beam, something is drawn to this end in this many fetches
  abbrev pub Drawn : Place → End → ℕ → Type 0
  Drawn p end n = (beam : Beam) → (strokes : List Stroke) × (last : Beam) × Draws F R p beam strokes last end n

  -- what a place draws, by what its targets draw
  pub drawn_moves : {p after : Place} {instr : Instr} (end : End) (n : ℕ) → Stands F R p (Moves instr) after → Drawn after end n → Drawn p end (word_count instr + n)
  drawn_moves {instr = instr} end n stands rest beam = let it = rest (moved beam instr) in (drawn beam instr ++ it.0, it.1, moves stands it.2)

  pub drawn_jumps : {p to after : Place} (end : End) (n : ℕ) → Stands F R p (Jumps to) after → Drawn to end n → Drawn p end (suc n)
  drawn_jumps end n stands rest beam = let it = rest beam in (it.0, it.1, jumps stands it.2)

  pub drawn_call_halts : {p to after : Place} (n : ℕ) → Stands F R p (Calls to) after → Drawn to AtHalt n → Drawn p AtHalt (suc n)
  drawn_call_halts n stands inside beam = let it = inside beam in (it.0, it.1, call_halts stands it.2)

  pub drawn_calls : {p to after : Place} (end : End) (n m : ℕ) → Stands F R p (Calls to) after → Drawn to AtReturn n → Drawn after end m → Drawn p end (suc (n + m))
  drawn_calls end n m stands inside rest beam =
      let first = inside beam in
      let next = rest first.1 in
      (first.0 ++ next.0, next.1, calls stands first.2 next.2)

  pub drawn_returns : {p after : Place} → Stands F R p Returns after → Drawn p AtReturn 1
  drawn_returns stands beam = ([], beam, returns stands)

  pub drawn_halts : {p after : Place} → Stands F R p Halts after → Drawn p AtHalt 1
  drawn_halts stands beam = ([], beam, halts stands)

module _ (F : List OpKind) (R : List ℕ) (image : IsRom R) (closed : Closed F R) where
  -- something stands at each reached place
  pub record Something (p : Place) : Type 0 where
    pub act : Act Place
    pub after : Place
    pub stands : Stands F R p act after

  in_rom_stands : (a d : ℕ) → IsPlaceOf F R (InRom a) → IsFine F R (InRom a) d → Something (InRom a)
  in_rom_stands a d inside fine =
      let low = inside.0 in
      let high = inside.1 in
      let first = word_in R (a - first_word R) in
      let there = rom_there R a low high in
      let fits : IsWord first = word_fits R a image low high in
      ⊎_elim
      (λ is_first.
      let next_in : a + 1 < 0xC00 = ⊎_elim (λ less. less) (λ far. absurd (fine (OutOfRom (InRom a)) (second there is_first (none_there R (a + 1) (inr far))))) (cases_lt (a + 1) 0xC00) in
      let next_there = rom_there R (a + 1) (omega arith) next_in in
      let spelled = two_words first (word_in R (a + 1 - first_word R)) is_first (word_fits R (a + 1) image (omega arith) next_in) in
      record { act = _; after = _; stands = in_rom (two there next_there spelled.1) refl })
      (λ alone.
      let spelled = one_word first alone fits in
      record { act = _; after = _; stands = in_rom (one there spelled.1) refl })
      (cases_lt first 0xB000)

  stands_in : (p : Place) (d : ℕ) → IsPlaceOf F R p → IsFine F R p d → Something p
  stands_in (InFrame i) d inside fine =
      record { act = _; after = _; stands = in_frame (slice_get-get_or F i Return inside.0) refl }
  stands_in (InRom a) d inside fine = in_rom_stands a d inside fine

  begins : IsWellFormed F
  begins = closed.begins

  pub something : (p : Place) (d : ℕ) → Reached F R p d → Something p
  something p d reached = stands_in p d (pair_in F R (few_ops F begins) begins (pair_of p d) reached) (closed.fine p d reached)

  -- the same, to some end in at most this many
  pub record Within (p : Place) (most : ℕ) : Type 0 where
    pub end : End
    pub count : ℕ
    pub drawn_so : Drawn F R p end count
    pub few : count ≤ most

  -- at one depth, where what is called draws in at most `inside` fetches: a place that begins no walk of k steps
  module _ (d cost inside : ℕ) (two : 2 ≤ cost) (call_cost : suc inside ≤ cost) (called : (q : Place) → Reached F R q (suc d) → Within q inside) where
    chain_call : (k : ℕ) (p to after : Place) → Stands F R p (Calls to) after → (end : End) (n : ℕ) → Drawn F R to end n → n ≤ inside → Within after (k * cost) → Within p (suc k * cost)
    chain_call k p to after stands AtHalt n drawn_so below rest =
        let each = suc_times k cost in
        record { end = AtHalt; count = suc n; drawn_so = drawn_call_halts F R n stands drawn_so; few = omega arith }
    chain_call k p to after stands AtReturn n drawn_so below rest =
        let each = suc_times k cost in
        let few = rest.few in
        record { end = rest.end; count = suc (n + rest.count); drawn_so = drawn_calls F R rest.end n rest.count stands drawn_so rest.drawn_so; few = omega arith }

    chain_at : (k : ℕ) (p : Place) → Reached F R p d → ((q : Place) → ¬ Walks F R d p k q) → (act : Act Place) (after : Place) → Stands F R p act after → Within p (k * cost)
    chain_at zero p reached ends act after stands = absurd (ends p none)
    chain_at (suc k) p reached ends (Moves instr) after stands =
        let leads : Leads F R p d after d = on stands in
        let next : Reached F R after d = step reached (closed.fine p d reached) leads in
        let it = something after d next in
        let rest = chain_at k after next (λ q walk. ends q (more leads walk)) it.act it.after it.stands in
        let words = few_words instr in
        let each = suc_times k cost in
        let few = rest.few in
        record { end = rest.end; count = word_count instr + rest.count; drawn_so = drawn_moves F R rest.end rest.count stands rest.drawn_so; few = omega arith }
    chain_at (suc k) p reached ends (Jumps to) after stands =
        let leads : Leads F R p d to d = jump stands in
        let next : Reached F R to d = step reached (closed.fine p d reached) leads in
        let it = something to d next in
        let rest = chain_at k to next (λ q walk. ends q (more leads walk)) it.act it.after it.stands in
        let each = suc_times k cost in
        let few = rest.few in
        record { end = rest.end; count = suc rest.count; drawn_so = drawn_jumps F R rest.end rest.count stands rest.drawn_so; few = omega arith }
    chain_at (suc k) p reached ends (Calls to) after stands =
        let leads : Leads F R p d after d = back stands in
        let next : Reached F R after d = step reached (closed.fine p d reached) leads in
        let it = something after d next in
        let rest = chain_at k after next (λ q walk. ends q (more leads walk)) it.act it.after it.stands in
        let first = called to (step reached (closed.fine p d reached) (call stands)) in
        chain_call k p to after stands first.end first.count first.drawn_so first.few rest
    chain_at (suc k) p reached ends Returns after stands =
        let each = suc_times k cost in
        record { end = AtReturn; count = 1; drawn_so = drawn_returns F R stands; few = omega arith }
    chain_at (suc k) p reached ends Halts after stands =
        let each = suc_times k cost in
        record { end = AtHalt; count = 1; drawn_so = drawn_halts F R stands; few = omega arith }

    pub chain : (k : ℕ) (p : Place) → Reached F R p d → ((q : Place) → ¬ Walks F R d p k q) → Within p (k * cost)
    chain k p reached ends = let it = something p d reached in chain_at k p reached ends it.act it.after it.stands

  -- the most fetches of one place of a chain, with this many depths below it
  abbrev pub cost : ℕ → ℕ → ℕ
  cost k zero = 2
  cost k (suc h) = 2 + k * cost k h

  two_at_least : (k h : ℕ) → 2 ≤ cost k h
  two_at_least k zero = omega arith
  two_at_least k (suc h) = omega arith

  -- a reached place that begins no walk of k steps, where no deeper reached one does
  pub bounded : (k h d : ℕ) → d + h ≡ 4 → ((e : ℕ) (p q : Place) → d < e → Reached F R p e → ¬ Walks F R e p k q) → (p : Place) → Reached F R p d → ((q : Place) → ¬ Walks F R d p k q) → Within p (k * cost k h)
  bounded k zero d deep_is deeper p reached own =
      chain d (cost k zero) 0 (two_at_least k zero) (omega arith)
      (λ q inside. let too_deep = (reached_pair F R (few_ops F begins) begins (pair_of q (suc d)) inside).depth in absurd (omega arith))
      k p reached own
  bounded k (suc h) d deep_is deeper p reached own =
      chain d (cost k (suc h)) (k * cost k h) (two_at_least k (suc h)) (omega arith)
      (λ q inside. bounded k h (suc d) (omega arith) (λ e p q below. deeper e p q (omega arith)) q inside (λ r. deeper (suc d) q r (omega arith) inside))
      k p reached own

  -- a run ends at a halt, since no call is open at depth 0
  pub at_depth_0 : {p : Place} {beam last : Beam} {strokes : List Stroke} {end : End} {n : ℕ} → Reached F R p 0 → Draws F R p beam strokes last end n → end ≡ AtHalt
  at_depth_0 reached (halts stands) = refl
  at_depth_0 reached (returns {p = p} stands) = absurd (closed.fine p 0 reached (NoCaller p) (bare stands refl))
  at_depth_0 reached (moves {p = p} stands draws) = at_depth_0 (step reached (closed.fine p 0 reached) (on stands)) draws
  at_depth_0 reached (jumps {p = p} stands draws) = at_depth_0 (step reached (closed.fine p 0 reached) (jump stands)) draws
  at_depth_0 reached (call_halts stands draws) = refl
  at_depth_0 reached (calls {p = p} stands inside draws) = at_depth_0 (step reached (closed.fine p 0 reached) (back stands)) draws

  few_places : places F R ≤ 2559
  few_places =
      let ops = few_ops F begins in
      let words = words_from_first R image in
      let behind = behind_ram R in
      omega arith

  cost_most : (k h : ℕ) → k ≤ 2560 → cost k h ≤ cost 2560 h
  cost_most k zero few = omega arith
  cost_most k (suc h) few = let each = mul-le-mul few (cost_most k h few) in omega arith

  -- the theorem: without a loop there is a picture
  pub some_picture : ¬ HasLoop F R → (strokes : List Stroke) × (n : ℕ) × IsPicture F R strokes n × (n < 2 ^ 63)
  some_picture no_loop =
      let k = 1 + places F R in
      let whole = bounded k 4 0 (omega arith) (λ e p q low reached walk. no_loop (record { place = p; depth = e; end = q; reached = reached; walk = walk })) (InFrame 0) begin
      (λ q walk. no_loop (record { place = InFrame 0; depth = 0; end = q; reached = begin; walk = walk })) in
      let it = whole.drawn_so (record { x = 0; y = 0; scale = 0 }) in
      let halted = at_depth_0 begin it.2 in
      let few = whole.few in
      let low : k ≤ 2560 = let all = few_places in omega arith in
      let most = mul-le-mul low (cost_most k 4 low) in
      (it.0, suc whole.count, record { last = it.1; rest = whole.count; draws = subst (λ e. Draws F R (InFrame 0) (record { x = 0; y = 0; scale = 0 }) it.0 it.1 e whole.count) halted it.2; count = refl }, omega arith)

  -- so the words of its picture are few
  pub bound_low : (n : ℕ) → ¬ HasLoop F R → IsBound F R n → n < 2 ^ 63
  bound_low n no_loop bound =
      let it = some_picture no_loop in
      let same = (one_picture F R it.0 bound.0 it.1 n it.2 bound.1).1 in
      let low = it.3 in
      omega arith
