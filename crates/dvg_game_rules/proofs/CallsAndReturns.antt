-- Calls and returns, and what the driver and the NMI do.
use Rattle.std.proofs.Common.{◌⊎◌, inl, ◌≡◌, ℕ, ◌+◌, ◌*◌, ◌%◌, ◌≤◌, inr, Bool, true, false, refl, sym, ap, ◌∙◌}
use Rattle.std.proofs.Common.{List, [], ◌∷◌, subst, arith, eqb-true, leb-true}
use Rattle.std.specs.Prelude.{if◌then◌else◌, not, nat_eq, nat_le, ◌||◌, Option, None, Some}
use Rattle.dvg_calls_6502.specs.Code.{dvg_open, dvg_labs}
use Rattle.dvg_calls_6502.specs.Processor.{put, stack_place}
use Rattle.dvg_game_rules.specs.Machine.{within, goes_home, blank_after, State, Came, Choice, word_at, nmi_vector, is_reset}
use Rattle.dvg_game_rules.specs.Machine.{left_by, driven, rest_of}
use Rattle.dvg_game_rules.specs.Machine.{back_of, returned, pushed, called, resumed_at, interrupted}
use Rattle.dvg_game_rules.specs.Checker.{ends_of, all_serve, serve, unchanged, Level, Main, Sub, Nmi, Note, Notes, noted}
use Rattle.dvg_game_rules.specs.Checker.{leads, begun, spare, most, interrupts, same_level}
use Rattle.dvg_game_rules.proofs.Facts.{placed, both_true, not_true, same, leading}
use Rattle.dvg_game_rules.proofs.RunInvariant.{Fresh, fresh_less, Stands, Below, Runs, Handles, low, keeps}
use Rattle.dvg_game_rules.proofs.Memory.{here, other, word_pushed, above_pushed, left_stack}
use Rattle.dvg_game_rules.proofs.Saved.{holds_less, saved_less}
pub use Rattle.std.proofs.lemmas.Bool.{or_right}

-- a level at which a call is open
pub record Opened (notes : Notes) (w : Bool) (mem : ℕ → ℕ) (top : ℕ) (backs : List ℕ) : Type 0 where
  pub back : ℕ
  pub rest : List ℕ
  pub is : backs ≡ back ∷ rest
  pub new : Note
  pub noted : noted notes back ≡ Some new
  pub word : mem (stack_place (top + 1)) + 256 * mem (stack_place (top + 2)) + 1 ≡ back
  pub room : new.room + spare ≤ top + 2
  pub awake : new.awake ≡ true → w ≡ true
  pub below : Below notes w mem new.level (top + 2 + new.depth) rest

pub opened : (notes : Notes) (w : Bool) (mem : ℕ → ℕ) (level : Level) (top : ℕ) (backs : List ℕ) → level ≡ Sub
    → Below notes w mem level top backs → Opened notes w mem top backs
opened notes w mem Main top backs sub is = absurd (cc)
opened notes w mem Sub top [] sub is = absurd is
opened notes w mem Sub top (back ∷ rest) sub is = record {
  back = back;
  rest = rest;
  is = refl;
  new = is.0;
  noted = is.1;
  word = is.2;
  room = is.3;
  awake = is.4;
  below = is.5;
}
opened notes w mem Nmi top backs sub is = absurd is

-- the open call of a state that is at an RTS
pub open_call : (notes : Notes) (st : State) (stands : Stands notes st st.pc st.s) → stands.now.level ≡ Sub
    → stands.now.depth ≡ 0 → Opened notes st.awake st.mem st.s st.calls
open_call notes st stands sub none =
    let now = stands.now in
    let top : st.s + now.depth ≡ st.s = omega (arith, none) in
    opened notes st.awake st.mem now.level st.s st.calls sub
    (subst (λ t. Below notes st.awake st.mem now.level t st.calls) top stands.below)

-- which is where it leads
pub leads_back : (notes : Notes) (st : State) (stands : Stands notes st st.pc st.s) (sub : stands.now.level ≡ Sub)
    (none : stands.now.depth ≡ 0) → back_of st ≡ (open_call notes st stands sub none).back
leads_back notes st stands sub none =
    let call = open_call notes st stands sub none in
    let low = (placed notes call.back call.new call.noted).1 in
    let same : call.back % 65536 ≡ call.back = omega (arith, low) in ap (λ w. w % 65536) call.word ∙ same

-- two notes of one place are one
or_none : Option Note → Note → Note
or_none None other = other
or_none (Some note) other = note

one_note : (m n : Note) → Some m ≡ Some n → m ≡ n
unfolding or_none
one_note m n is = ap (λ o. or_none o m) is

-- what is fresh there
pub record Refreshed (notes : Notes) (ends : Bool) (new : Note) (rest : List ℕ) : Type 0 where
  pub blank : ends ≡ true → new.blank ≡ true
  pub fresh : Fresh notes new.ends new.level rest

refreshed : (notes : Notes) (ends : Bool) (back : ℕ) (rest : List ℕ) (new : Note) → noted notes back ≡ Some new
    → Fresh notes ends Sub (back ∷ rest) → Refreshed notes ends new rest
refreshed notes ends back rest new is fresh =
    let one = one_note fresh.0 new (sym fresh.1 ∙ is) in
    record {
      blank = λ e. sym (ap (λ (n : Note). n.blank) one) ∙ fresh.2 e;
      fresh = subst (λ (n : Note). Fresh notes n.ends n.level rest) one fresh.3;
    }

-- an RTS
pub returns : (notes : Notes) (st : State) (stands : Stands notes st st.pc st.s) → st.amid ≡ None → st.home ≡ None
    → stands.now.level ≡ Sub
    → stands.now.depth ≡ 0 → (st.blank ≡ true → stands.now.ends ≡ true) → Runs notes (returned st)
returns notes st stands outside homeless sub none ends =
    let call = open_call notes st stands sub none in
    let high = low notes st.awake st.mem call.new.level (st.s + 2 + call.new.depth) call.rest call.below in
    let s : (st.s + 2) % 256 ≡ st.s + 2 = omega (arith, high) in
    let room = call.room in
    let fresh = refreshed notes stands.now.ends call.back call.rest call.new call.noted
    (subst (λ c. Fresh notes stands.now.ends Sub c) call.is (subst
    (λ l. Fresh notes stands.now.ends l st.calls) sub stands.fresh)) in
    record {
      stands = record {
        now = call.new;
        is = ap (noted notes) (leads_back notes st stands sub none) ∙ call.noted;
        below = subst (λ t. Below notes st.awake st.mem call.new.level (t + call.new.depth) (rest_of st.calls)) (sym s)
            (subst (λ c. Below notes st.awake st.mem call.new.level (st.s + 2 + call.new.depth) (rest_of c))
            (sym call.is)
            call.below);
        fresh = subst (λ c. Fresh notes call.new.ends call.new.level (rest_of c)) (sym call.is) fresh.fresh;
        room = omega (arith, s, room);
        awake = call.awake;
      };
      outside = outside;
      homeless = homeless;
      blank = λ is. fresh.blank (ends is);
    }

-- a call of a subroutine
pub calls : (notes : Notes) (st : State) (to : ℕ) (runs : Runs notes st) → 2 ≤ runs.stands.now.room
    → leads notes to (begun (ends_of (noted notes to)) runs.stands.now) ≡ true
    → leads notes (st.pc + 3) (record runs.stands.now { blank = ends_of (noted notes to) }) ≡ true
    → Runs notes (called to st)
calls notes st to runs two begins goes_on =
    let now = runs.stands.now in
    let first = leading notes to (begun (ends_of (noted notes to)) now) begins in
    let back = leading notes (st.pc + 3) (record now { blank = ends_of (noted notes to) }) goes_on in
    let high = low notes st.awake st.mem now.level (st.s + now.depth) st.calls runs.stands.below in
    let room = runs.stands.room in
    let s_low : 1 ≤ st.s = omega (arith, two, room) in
    let s_high : st.s ≤ 255 = omega (arith, high) in
    let s : (st.s + 254) % 256 + 2 ≡ st.s = omega (arith, two, room, s_high) in
    let mem = pushed (st.pc + 2) st.s st.mem in
    let word = word_pushed (st.pc + 2) st.s st.mem s_low s_high in
    let one_place : stack_place ((st.s + 254) % 256 + 1) ≡ stack_place (st.s + 255) = omega (arith, s) in
    let two_place : stack_place ((st.s + 254) % 256 + 2) ≡ stack_place st.s = ap stack_place s in
    let again : mem (stack_place ((st.s + 254) % 256 + 1)) + 256 * mem (stack_place
    ((st.s + 254) % 256 + 2)) + 1 ≡ st.pc + 3 =
    ap (λ p. mem p + 256 * mem (stack_place ((st.s + 254) % 256 + 2)) + 1) one_place
    ∙ ap (λ p. mem (stack_place (st.s + 255)) + 256 * mem p + 1) two_place ∙ ap (λ w. w + 1) word ∙ omega arith in
    let kept = keeps notes st.awake st.awake st.mem mem now.level (st.s + now.depth) st.calls (λ is. is)
    (λ k above most. above_pushed (st.pc + 2) st.s st.mem (stack_place k) s_low s_high (inr (omega
    (arith, above, most))))
    runs.stands.below in
    let place : st.s + now.depth ≡ (st.s + 254) % 256 + 2 + back.new.depth =
    let depth = back.depth in omega (arith, s, depth) in
    let below = subst (λ l. Below notes st.awake mem l ((st.s + 254) % 256 + 2 + back.new.depth) st.calls)
    (sym back.level)
    (subst (λ t. Below notes st.awake mem now.level t st.calls) place kept) in
    let less = back.room in
    let frame : Below notes st.awake mem Sub ((st.s + 254) % 256) ((st.pc + 3) ∷ st.calls) =
    (back.new, back.is, again, omega (arith, s, less, room), (λ is. runs.stands.awake (back.awake is)), below) in
    let start : (st.s + 254) % 256 ≡ (st.s + 254) % 256 + first.new.depth = let depth =
    first.depth in omega (arith, depth) in
    let small = first.room in
    record {
      stands = record {
        now = first.new;
        is = first.is;
        below = subst (λ l. Below notes st.awake mem l ((st.s + 254) % 256 + first.new.depth) ((st.pc + 3) ∷ st.calls))
            (sym first.level) (subst (λ t. Below notes st.awake mem Sub t ((st.pc + 3) ∷ st.calls)) start frame);
        fresh = subst (λ l. Fresh notes first.new.ends l ((st.pc + 3) ∷ st.calls)) (sym first.level) (
          back.new,
          back.is,
          (λ e. back.blank (first.ends e)),
          subst (λ l. Fresh notes back.new.ends l st.calls) (sym back.level)
              (fresh_less notes now.ends back.new.ends now.level st.calls back.ends runs.stands.fresh),
        );
        room = omega (arith, small, two, room, s);
        awake = λ is. runs.stands.awake (first.awake is);
      };
      outside = runs.outside;
      homeless = runs.homeless;
      blank = λ is. first.blank (runs.blank is);
    }

pub or_more : (t u v : Bool) → (u ≡ true → v ≡ true) → (t || u) ≡ true → (t || v) ≡ true
or_more true u v up is = refl
or_more false u v up is = up is

-- a call of the driver, before it returns
unfoldable pub drives : (notes : Notes) (st : State) (to : ℕ) (choice : Choice) (stands : Stands notes st st.pc st.s)
    → Stands notes (driven to choice st) st.pc st.s
drives notes st to choice stands =
    let now = stands.now in
    record {
      now = now;
      is = stands.is;
      below = keeps notes st.awake (is_reset to || st.awake) st.mem (left_by st.s choice.left st.mem) now.level
          (st.s + now.depth) st.calls (or_right (is_reset to) st.awake)
          (λ k above most. left_stack st.s choice.left st.mem k (omega (arith, above)) most) stands.below;
      fresh = stands.fresh;
      room = stands.room;
      awake = λ is. or_right (is_reset to) st.awake (stands.awake is);
    }

pub blank_more : (to : ℕ) (u v : Bool) → (u ≡ true → v ≡ true) → blank_after to u ≡ true → blank_after to v ≡ true
blank_more to u v up is = by (nat_eq to dvg_open) (nat_eq to dvg_labs || is_reset to) is
  where
    by : (s t : Bool) → (if s then true else if t then false else u) ≡ true
        → (if s then true else if t then false else v) ≡ true
    by true t is = refl
    by false true is = is
    by false false is = up is

pub driver_call : (notes : Notes) (st : State) (to : ℕ) (choice : Choice) (runs : Runs notes st)
    → leads notes (st.pc + 3) (record runs.stands.now {
      awake = is_reset to || runs.stands.now.awake;
      blank = blank_after to runs.stands.now.blank;
    }) ≡ true
    → Runs notes (record (driven to choice st) { pc = st.pc + 3 })
unfolding drives
driver_call notes st to choice runs goes_on =
    let now = runs.stands.now in
    let back = leading notes (st.pc + 3) (record now {
      awake = is_reset to || now.awake;
      blank = blank_after to now.blank;
    }) goes_on in
    let done = drives notes st to choice runs.stands in
    let less = back.room in
    let room = runs.stands.room in
    record {
      stands = record {
        now = back.new;
        is = back.is;
        below = subst (λ l. Below notes (is_reset to || st.awake) (left_by st.s choice.left st.mem) l
            (st.s + back.new.depth) st.calls) (sym back.level)
            (subst (λ d. Below notes (is_reset to || st.awake) (left_by st.s choice.left st.mem) now.level
            (st.s + d) st.calls) (sym back.depth) done.below);
        fresh = subst (λ l. Fresh notes back.new.ends l st.calls) (sym back.level)
            (fresh_less notes now.ends back.new.ends now.level st.calls back.ends runs.stands.fresh);
        room = omega (arith, less, room);
        awake = λ is. or_more (is_reset to) now.awake st.awake runs.stands.awake (back.awake is);
      };
      outside = runs.outside;
      homeless = runs.homeless;
      blank = λ is. back.blank (blank_more to st.blank now.blank runs.blank is);
    }

-- an RTI
pub finishes : (notes : Notes) (st : State) (h : Handles notes st) → h.now.depth ≡ 0
    → Runs notes (goes_home st.home (record st { pc = resumed_at st; s = (st.s + 3) % 256; amid = None; home = None }))
finishes notes st h none = by h.home
  where
    pc : h.came.pc ≡ resumed_at st
    pc = sym (subst (λ t. st.mem (stack_place (t + 2)) + 256 * st.mem (stack_place (t + 3)) ≡ h.came.pc)
        (let e : st.s + h.now.depth ≡ st.s = omega (arith, none) in e) h.word)

    there : (q t : ℕ) → h.pc ≡ q → h.s ≡ t → Runs notes (record st { pc = q; s = t; amid = None; home = None })
    there q t one two = record {
      stands = record {
        now = h.stands.now;
        is = ap (noted notes) (sym one) ∙ h.stands.is;
        below = subst (λ u. Below notes st.awake st.mem h.stands.now.level
            (u + h.stands.now.depth) st.calls) two h.stands.below;
        fresh = h.stands.fresh;
        room = subst (λ u. h.stands.now.room + spare ≤ u) two h.stands.room;
        awake = h.stands.awake;
      };
      outside = refl;
      homeless = refl;
      blank = h.blank;
    }

    by : (((st.home ≡ None) × (h.came.pc ≡ h.pc) × (h.came.s ≡ h.s)) ⊎ (st.home ≡ Some (h.pc, h.s)))
        → Runs notes (goes_home st.home (record st { pc = resumed_at st; s = (st.s + 3) % 256; amid = None; home = None }))
    by (inl is) =
        let place = h.place in
        let near = h.near in
        let same = is.2 in
        let high = low notes st.awake st.mem h.stands.now.level (h.s + h.stands.now.depth) st.calls h.stands.below in
        subst (λ o. Runs notes (goes_home o (record st { pc = resumed_at st; s = (st.s + 3) % 256; amid = None; home = None })))
        (sym is.0) (there (resumed_at st) ((st.s + 3) % 256) (sym is.1 ∙ pc) (omega (arith, place, none, high, same)))
    by (inr is) =
        subst (λ o. Runs notes (goes_home o (record st { pc = resumed_at st; s = (st.s + 3) % 256; amid = None; home = None })))
        (sym is) (there h.pc h.s refl refl)

-- the note of the NMI's first instruction
pub record Enters (notes : Notes) (nmi : ℕ) : Type 0 where
  pub now : Note
  pub is : noted notes nmi ≡ Some now
  pub level : now.level ≡ Nmi
  pub depth : now.depth ≡ 0
  pub room : now.room + 3 ≤ spare
  pub fuel : now.fuel ≤ most
  pub awake : now.awake ≡ false
  pub held : all_serve now.held unchanged ≡ true
  pub slots : serve now.slots [] ≡ true

pub entering : (notes : Notes) (nmi : ℕ) → interrupts (noted notes nmi) ≡ true → Enters notes nmi
entering notes nmi fine = by (noted notes nmi) refl fine
  where
    by : (n : Option Note) → noted notes nmi ≡ n → interrupts n ≡ true → Enters notes nmi
    by None is fine = absurd (cc)
    by (Some now) is fine =
        let a = both_true (same_level now.level Nmi) _ fine in
        let b = both_true (nat_eq now.depth 0) _ a.1 in
        let c = both_true (nat_le (now.room + 3) spare) _ b.1 in
        let d = both_true (nat_le now.fuel most) _ c.1 in
        let e = both_true (not now.awake) _ d.1 in
        let f = both_true (all_serve now.held unchanged) _ e.1 in
        record {
          now = now;
          is = is;
          level = same now.level Nmi a.0;
          depth = eqb-true now.depth 0 b.0;
          room = leb-true (now.room + 3) spare c.0;
          fuel = leb-true now.fuel most d.0;
          awake = not_true now.awake e.0;
          held = f.0;
          slots = f.1;
        }

-- an NMI comes, at a place of the game, or in the driver
pub comes_so : (notes : Notes) (st : State) (choice : Choice) (pc s : ℕ) (stands : Stands notes st pc s)
    → ((st.home ≡ None) × (st.pc ≡ pc) × (st.s ≡ s)) ⊎ (st.home ≡ Some (pc, s)) → st.s ≤ s → spare ≤ st.s
    → (st.blank ≡ true → stands.now.blank ≡ true) → Enters notes (word_at st.mem nmi_vector)
    → Handles notes (interrupted choice st)
comes_so notes st choice pc s stands home near room blank enters =
    let now = stands.now in
    let new = enters.now in
    let came : Came = record { pc = st.pc; s = st.s; p = choice.byte; a = st.a; x = st.x; y = st.y } in
    let high = low notes st.awake st.mem now.level (s + now.depth) st.calls stands.below in
    let none = enters.depth in
    let fits = enters.room in
    let fuel = enters.fuel in
    let s_low : 3 ≤ st.s = omega (arith, room) in
    let s_high : st.s ≤ 255 = omega (arith, high, near) in
    let down : (st.s + 253) % 256 + 3 ≡ st.s = omega (arith, s_low, s_high) in
    let mem = put (stack_place (st.s + 254)) choice.byte (pushed st.pc st.s st.mem) in
    let last : stack_place st.s ≡ stack_place (st.s + 254) → ⊥ = λ is. omega (arith, is, s_low, s_high) in
    let next : stack_place (st.s + 255) ≡ stack_place (st.s + 254) → ⊥ = λ is. omega (arith, is, s_low, s_high) in
    let one = other (stack_place (st.s + 254)) choice.byte (pushed st.pc st.s st.mem) (stack_place (st.s + 255)) next in
    let two = other (stack_place (st.s + 254)) choice.byte (pushed st.pc st.s st.mem) (stack_place st.s) last in
    let word : mem (stack_place (st.s + 255)) + 256 * mem (stack_place st.s) ≡ st.pc =
    ap (λ b. b + 256 * mem (stack_place st.s)) one
    ∙ ap (λ b. pushed st.pc st.s st.mem (stack_place (st.s + 255)) + 256 * b) two
    ∙ word_pushed st.pc st.s st.mem (omega (arith, s_low)) s_high in
    let one_place : stack_place ((st.s + 253) % 256 + new.depth + 2) ≡ stack_place (st.s + 255) =
    omega (arith, down, none) in
    let two_place : stack_place ((st.s + 253) % 256 + new.depth + 3) ≡ stack_place st.s = omega (arith, down, none) in
    let kept = keeps notes st.awake st.awake st.mem mem now.level (s + now.depth) st.calls (λ is. is)
    (λ k above most. other (stack_place (st.s + 254)) choice.byte (pushed st.pc st.s st.mem) (stack_place k)
    (λ is. omega (arith, is, above, most, s_low, s_high, near))
    ∙ above_pushed st.pc st.s st.mem (stack_place k) (omega (arith, s_low)) s_high (inr (omega
    (arith, above, most, near))))
    stands.below in
    record {
      now = new;
      is = enters.is;
      level = enters.level;
      came = came;
      amid = refl;
      place = omega (arith, down, none);
      word = ap (λ p. mem p + 256 * mem (stack_place ((st.s + 253) % 256 + new.depth + 3))) one_place
          ∙ ap (λ p. mem (stack_place (st.s + 255)) + 256 * mem p) two_place ∙ word;
      flags = ap mem (let e : stack_place ((st.s + 253) % 256 + new.depth + 1) ≡ stack_place (st.s + 254) =
          omega (arith, down, none) in e) ∙ here (stack_place (st.s + 254)) choice.byte (pushed st.pc st.s st.mem);
      pc = pc;
      s = s;
      home = home;
      near = near;
      stands = record {
        now = now;
        is = stands.is;
        below = kept;
        fresh = stands.fresh;
        room = stands.room;
        awake = stands.awake;
      };
      blank = blank;
      holds = holds_less new.held unchanged came (interrupted choice st) enters.held (refl, refl, refl);
      saved = saved_less new.slots [] came mem ((st.s + 253) % 256) enters.slots tt;
      room = omega (arith, room, fits, down);
      time = omega (arith, fuel);
      awake = λ is. let not = enters.awake in absurd (cc);
    }

pub comes : (notes : Notes) (st : State) (choice : Choice) (runs : Runs notes st)
    → Enters notes (word_at st.mem nmi_vector)
    → Handles notes (interrupted choice st)
comes notes st choice runs enters = comes_so notes st choice st.pc st.s runs.stands (inl (runs.homeless, refl, refl))
    (omega arith) (let room = runs.stands.room in omega (arith, room)) runs.blank enters

-- amid a call of the driver, for which there is room
pub comes_within : (notes : Notes) (st : State) (choice : Choice) (runs : Runs notes st) → choice.deep ≤ 4
    → 4 ≤ runs.stands.now.room → Enters notes (word_at (within choice st).mem nmi_vector)
    → Handles notes (interrupted choice (within choice st))
comes_within notes st choice runs few four enters =
    let now = runs.stands.now in
    let room = runs.stands.room in
    comes_so notes (within choice st) choice st.pc st.s
    (record {
      now = now;
      is = runs.stands.is;
      below = keeps notes st.awake st.awake st.mem (left_by st.s choice.left st.mem) now.level
          (st.s + now.depth) st.calls
          (λ is. is) (λ k above most. left_stack st.s choice.left st.mem k (omega
          (arith, above)) most) runs.stands.below;
      fresh = runs.stands.fresh;
      room = room;
      awake = runs.stands.awake;
    }) (inr refl) (omega arith) (omega (arith, room, four, few)) runs.blank enters
