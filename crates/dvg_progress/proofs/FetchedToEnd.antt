-- A run that begins can be fetched to its end.
use Rattle.std.proofs.Common.{◌≡◌, ℕ, suc, ◌+◌, ◌*◌, ◌/◌, ◌%◌, List, [], ◌∷◌, ◌++◌, length, Option, Some, None, true, false, refl, sym, ap, ◌∙◌, subst, arith}
use Rattle.std.specs.Prelude.{option_map, is_some, if◌then◌else◌}
use Rattle.dvg_gen.specs.declared.stroke.Stroke.{Stroke}
use Rattle.dvg_gen.specs.declared.beam.Beam.{Beam}
use Rattle.dvg_gen.specs.Bytes.{Waits, Whole, met, word_of}
use Rattle.dvg_gen.specs.Run.{Visit, Fate, Goes, Finished, beam_after, fate, strokes, wanted, Adds, Runs, begins, fetches}
use Rattle.dvg_gen.specs.Told.{Fed, Newest, begun, grown, goes_on, Leaves, new, starts, resets, takes, More, Drew, reply_by}
use Rattle.dvg_mem.specs.declared.half.Half.{Half}
use Rattle.dvg_mem.specs.Areas.{base, half_of_high}
use Rattle.dvg_mem.specs.Memory.{fetched, fetched_byte}
use Rattle.dvg_frame.specs.declared.op.OpKind.{OpKind}
use Rattle.dvg_frame.specs.Picture.{IsPicture}
use Rattle.dvg_frame.proofs.Bounded.{some_picture}
use Rattle.dvg_log.specs.declared.event.Event.TheVariants.{Strobe, Fetch, ResetGen, ResetAll}
use Rattle.dvg_log.specs.Entries.{Shown}
use Rattle.dvg_log.specs.declared.entry.Entry.TheVariants.{Started, Low, Fetched, Done, Broke}
use Rattle.dvg_log.specs.Log.{◌⟼◌, Log, ram, low_byte, meets, history, life, strobed, before_flip, published}
use Rattle.dvg_log.specs.Legal.{IsWanted, IsLegal}
use Rattle.dvg_theorem.proofs.DrawnHalfSpared.{kept, zero_jumps}
use Rattle.dvg_theorem.proofs.LeastMemory.{Checked, fits, frame_memory, least_draws, least_once, Lies, agrees}
use Rattle.dvg_theorem.proofs.Later.{shows}
use Rattle.dvg_theorem.proofs.Bytes.{byte}
use Rattle.dvg_theorem.proofs.Words.{words_are_whole}

-- each legal log leaves a run
pub leaves_of : (R image : List ℕ) (log : Log) → IsLegal R image log → (run : Newest) × Leaves (history R image log) run
leaves_of R image [] l = (_, new)
leaves_of R image ((event ⟼ Started) ∷ log) l = let before = leaves_of R image log l.2 in
    (begun before.0, starts before.1)
leaves_of R image ((ResetGen ⟼ entry) ∷ log) l = let before = leaves_of R image log l.2 in
    (_, resets before.1)
leaves_of R image ((ResetAll bytes ⟼ entry) ∷ log) l = let before = leaves_of R image log l.2 in
    (_, resets before.1)
leaves_of R image ((Fetch ⟼ Fetched a w) ∷ log) l = (l.0.1.later, l.0.1.leaves_later)
leaves_of R image ((Fetch ⟼ Done a w drew) ∷ log) l = (l.0.1.later, l.0.1.leaves_later)
leaves_of R image ((Fetch ⟼ Broke a fault) ∷ log) l = (
  l.0.2.later,
  subst (λ word. Leaves (Fed word ∷ history R image log) l.0.2.later) (sym (ap word_of l.0.1)) l.0.2.leaves_later,
)
leaves_of R image ((event ⟼ Fetched a w) ∷ log) l = absurd l.0
leaves_of R image ((event ⟼ Done a w drew) ∷ log) l = absurd l.0
leaves_of R image ((event ⟼ Broke a fault) ∷ log) l = absurd l.0
leaves_of R image ((event ⟼ entry) ∷ log) l = leaves_of R image log l.2

-- the two bytes of a word
low_met : (bytes R : List ℕ) (a w : ℕ) → fetched bytes R a ≡ Some w
    → met None (fetched_byte bytes R a false) ≡ Waits (w % 256)
low_met bytes R a w is = ap (λ word. met None (option_map (λ word. if false then word / 256 else word % 256) word)) is

high_met : (bytes R : List ℕ) (a w : ℕ) → fetched bytes R a ≡ Some w
    → met (Some (w % 256)) (fetched_byte bytes R a true) ≡ Whole (Some w)
high_met bytes R a w is =
    let sum : w % 256 + 256 * (w / 256) ≡ w = omega arith in
    ap (λ word. met (Some (w % 256)) (option_map (λ word. if true then word / 256 else word % 256)
    word)) is ∙ ap (λ word. Whole (Some word)) sum

more_by : (held : Option ℕ) (f : Fate) (s : List Stroke) → f ≡ Goes → reply_by held f s ≡ More
more_by None f s goes = ap (λ f. reply_by None f s) goes
more_by (Some w) f s goes = refl

drew_by : (f : Fate) (s : List Stroke) → f ≡ Finished → reply_by None f s ≡ Drew s
drew_by f s finished = ap (λ f. reply_by None f s) finished

-- fetches alone, which leave all but the run as it was
pub data Fetches : Log → Type 0 where
  no_fetches : Fetches []
  one_fetch : {log : Log} (entry : Shown) → Fetches log → Fetches ((Fetch ⟼ entry) ∷ log)

module _ (R image : List ℕ) (before : Log) where
  abbrev start : Log
  start = (Strobe ⟼ Started) ∷ before

  -- after this many words of a run
  record Followed (beam : Beam) (later : Log) (count : ℕ) (visits : List Visit)
      (held : Option ℕ) : Type 0 where
    legal : IsLegal R image (later ++ start)
    ram_is : ram image (later ++ start) ≡ ram image before
    life_is : life image (later ++ start) ≡ life image before
    strobed_is : strobed (later ++ start) ≡ strobed before
    flip_is : before_flip (later ++ start) ≡ before_flip before
    low_is : low_byte (later ++ start) ≡ None
    leaves : Leaves (history R image (later ++ start))
        (record { first = beam; visits = visits; held = held; is_open = true })
    fetched_all : Fetches later
    count_is : length later ≡ 2 * count

  -- one more word: its low byte, and how it is asked for
  record Asked (beam : Beam) (later : Log) (visits : List Visit) (held : Option ℕ) (w : ℕ) : Type 0
    where
      legal : IsLegal R image ((Fetch ⟼ Low (wanted visits held) (w % 256)) ∷ later ++ start)
      met_is : meets R image ((Fetch ⟼ Low (wanted visits held) (w % 256)) ∷ later ++ start)
          (wanted visits held) ≡ Whole (Some w)
      asked : IsWanted (history R image (later ++ start)) (wanted visits held)

  ask : (beam : Beam) (later : Log) (count : ℕ) (visits : List Visit) (held : Option ℕ) (w : ℕ)
      → Followed beam later count visits held → fetched (ram image before) R (wanted visits held) ≡ Some w
      → Asked beam later visits held w
  ask beam later count visits held w f is =
      let a = wanted visits held in
      let here : fetched (ram image (later ++ start)) R a ≡ Some w =
      ap (λ bytes. fetched bytes R a) f.ram_is ∙ is in
      let run : Newest = record { first = beam; visits = visits; held = held; is_open = true } in
      let wanted_now : IsWanted (history R image (later ++ start)) a =
      record { run = run; leaves = f.leaves; wanted = refl } in
      record {
        legal = (
          (
            ap (λ low. met low (fetched_byte (ram image (later ++ start)) R a (is_some low)))
                f.low_is ∙ low_met (ram image (later ++ start)) R a w here,
            wanted_now,
          ),
          tt,
          f.legal,
        );
        met_is = high_met (ram image (later ++ start)) R a w here;
        asked = wanted_now;
      }

  go_on : (beam : Beam) (later : Log) (count : ℕ) (visits visits' : List Visit)
      (held held' : Option ℕ) (w : ℕ) → Followed beam later count visits held
      → fetched (ram image before) R (wanted visits held) ≡ Some w
      → Adds visits held w visits' held' → fate visits' ≡ Goes
      → Followed beam ((Fetch ⟼ Fetched (wanted visits held) w) ∷ (Fetch ⟼ Low (wanted visits held)
      (w % 256)) ∷ later) (suc count) visits' held'
  go_on beam later count visits visits' held held' w f is adds goes =
      let asked = ask beam later count visits held w f is in
      let run : Newest = record { first = beam; visits = visits; held = held; is_open = true } in
      let leaves : Leaves (Fed (Some w) ∷ history R image (later ++ start))
      (grown run visits' held') = takes f.leaves refl adds in
      let longer = f.count_is in
      record {
        legal = (
          (
            asked.met_is,
            record {
              asked = asked.asked;
              later = grown run visits' held';
              leaves_later = leaves;
              replies = more_by held' (fate visits') (strokes beam visits') goes;
            },
          ),
          tt,
          asked.legal,
        );
        ram_is = f.ram_is;
        life_is = f.life_is;
        strobed_is = f.strobed_is;
        flip_is = f.flip_is;
        low_is = refl;
        leaves = subst (λ going. Leaves (Fed (Some w) ∷ history R image (later ++ start))
            (record { first = beam; visits = visits'; held = held'; is_open = going }))
            (ap goes_on goes) leaves;
        fetched_all = one_fetch (Fetched (wanted visits held) w)
            (one_fetch (Low (wanted visits held) (w % 256)) f.fetched_all);
        count_is = omega arith;
      }

  -- the run is over
  pub record Over (n : ℕ) (drew : List Stroke) : Type 0 where
    pub later : Log
    pub address : ℕ
    pub word : ℕ
    pub legal : IsLegal R image ((Fetch ⟼ Done address word drew) ∷ later ++ start)
    pub ram_is : ram image (later ++ start) ≡ ram image before
    pub life_is : life image (later ++ start) ≡ life image before
    pub strobed_is : strobed (later ++ start) ≡ strobed before
    pub flip_is : before_flip (later ++ start) ≡ before_flip before
    pub fetched_all : Fetches later
    pub count_is : suc (length later) ≡ 2 * n

  end_it : (beam : Beam) (later : Log) (count : ℕ) (visits visits' : List Visit) (held : Option ℕ)
      (w : ℕ) → Followed beam later count visits held
      → fetched (ram image before) R (wanted visits held) ≡ Some w
      → Adds visits held w visits' None → fate visits' ≡ Finished → Over (suc count) (strokes beam visits')
  end_it beam later count visits visits' held w f is adds finished =
      let asked = ask beam later count visits held w f is in
      let run : Newest = record { first = beam; visits = visits; held = held; is_open = true } in
      let longer = f.count_is in
      record {
        later = (Fetch ⟼ Low (wanted visits held) (w % 256)) ∷ later;
        address = wanted visits held;
        word = w;
        legal = (
          (
            asked.met_is,
            record {
              asked = asked.asked;
              later = grown run visits' None;
              leaves_later = takes f.leaves refl adds;
              replies = drew_by (fate visits') (strokes beam visits') finished;
            },
          ),
          tt,
          asked.legal,
        );
        ram_is = f.ram_is;
        life_is = f.life_is;
        strobed_is = f.strobed_is;
        flip_is = f.flip_is;
        fetched_all = one_fetch (Low (wanted visits held) (w % 256)) f.fetched_all;
        count_is = omega arith;
      }

  module _ (half : Half) (G : List OpKind) (checked : Checked G R)
      (lies : Lies half G (byte image before))
      (zero_is : Some (0xE000 + base half) ≡ fetched (ram image before) R 0)
      (begun_legal : IsLegal R image start) where
    abbrev memory : ℕ → Option ℕ
    memory = frame_memory half G R

    -- where the run goes on, the RAM has the word of the least memory
    there : (count : ℕ) (visits : List Visit) (held : Option ℕ) (w : ℕ)
        → Runs memory count visits held → fate visits ≡ Goes → memory (wanted visits held) ≡ Some w
        → fetched (ram image before) R (wanted visits held) ≡ Some w
    there count visits held w begins goes is = sym zero_is ∙ is
    there (suc count) visits held w (fetches runs goes0 is0 adds) goes is =
        agrees (ram image before) R half G (fits half G R checked) lies (wanted visits held) w
        (least_once half G R checked count visits held (fetches runs goes0 is0 adds) goes) is

    -- the beam with which the run begins
    abbrev first : Beam
    first = let run = (leaves_of R image before begun_legal.2).0 in beam_after run.first run.visits

    begin_it : Followed first [] 0 [] None
    begin_it = record {
      legal = begun_legal;
      ram_is = refl;
      life_is = refl;
      strobed_is = refl;
      flip_is = refl;
      low_is = refl;
      leaves = starts (leaves_of R image before begun_legal.2).1;
      fetched_all = no_fetches;
      count_is = refl;
    }

    follow : {count : ℕ} {visits : List Visit} {held : Option ℕ} → Runs memory count visits held
        → fate visits ≡ Goes → (later : Log) × Followed first later count visits held
    follow begins goes = ([], begin_it)
    follow {visits = visits} {held = held}
        (fetches {count = count} {word = w} {visits = visits0} {held = held0} runs goes0 is adds)
        goes =
        let before = follow runs goes0 in (
          _,
          go_on first before.0 count visits0 visits held0 held w before.1
              (there count visits0 held0 w runs goes0 is) adds goes,
        )

    over_by : (n : ℕ) (visits : List Visit) (held : Option ℕ) → Runs memory n visits held
        → held ≡ None → fate visits ≡ Finished → Over n (strokes first visits)
    over_by n visits held begins whole finished = absurd (let clash : Goes ≡ Finished = finished in cc)
    over_by n visits held (fetches {count = count} {word = w} {visits = visits0} {held = held0} runs
        goes0 is adds) whole finished =
        let before = follow runs goes0 in
        end_it first before.0 count visits0 visits held0 w before.1
        (there count visits0 held0 w runs goes0 is)
        (subst (λ k. Adds visits0 held0 w visits k) whole adds) finished

    pub over : (n : ℕ) (drew : List Stroke) → IsPicture G R drew n → Over n drew
    over n drew picture =
        let done = ((least_draws half G R checked).exact first drew n).1 picture in
        subst (λ s. Over n s) done.strokes (over_by n done.visits None done.runs refl done.finished)

-- once a strobe was sent, one that comes begins a run that can be fetched to its end
pub record Draws (R image : List ℕ) (log : Log) : Type 0 where
  pub draft : List OpKind
  pub newest : published log ≡ Some draft
  pub n : ℕ
  pub drew : List Stroke
  pub picture : IsPicture draft R drew n
  pub done : Over R image log n drew

pub can_draw : (R image : List ℕ) (log : Log) → IsLegal R image log → strobed log ≡ true → Draws R image log
can_draw R image log l sent =
    let whole = words_are_whole R image log l in
    let k = (kept R image log l whole).1 in
    let flips = k.flipped sent in
    let now = (shows R image log l whole).0.now flips in
    let half = half_of_high (byte image log 1) in
    let jumps = zero_jumps (byte image log 0) (byte image log 1) (k.jumps flips) in
    let it = some_picture now.draft R now.checked.rom now.checked.accepts.closed
    now.checked.accepts.ends in
    record {
      draft = now.draft;
      newest = now.newest;
      n = it.1;
      drew = it.0;
      picture = it.2;
      done = over R image log half now.draft now.checked now.holds (ap Some (sym jumps)) (sent, tt, l) it.1 it.0 it.2;
    }
