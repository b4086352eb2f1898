-- Runs of which one premise doesn't hold, and which have no log. The prover computes each cycle from the cells.
use Rattle.std.proofs.Common.{◌≡◌, ℕ, List, [], ◌∷◌, refl, lit<, arith}
use Rattle.dvg_calls_6502.specs.Calls as calls
use Rattle.dvg_cells_board.specs.Clocks.{after}
use Rattle.dvg_cells_board.specs.Example.{zeros}
use Rattle.dvg_calls_board.specs.Machine.{OfEachMachine, HaveRam}
use Rattle.dvg_calls_cells.specs.Cycles.{Turn}
use Rattle.dvg_calls_cells.specs.Played.{IsPlayed, alone, at_rest, begins_call, older_after, cells_after}
use Rattle.dvg_calls_cells.specs.Needed.{held, NeedsNoStrobe, NeedsNoWrite, NeedsRests, NeedsCount, NeedsAnswers}
use Rattle.dvg_calls_cells.proofs.Needed.{sent_by_none, has_ram}
use Rattle.dvg_calls_cells.proofs.ExampleCalls as made
use Rattle.dvg_calls_cells.proofs.NeededCalls as other
use Rattle.dvg_calls_cells.proofs.Example as example
use Rattle.dvg_calls_cells.proofs.CellsFollowCpu.{list_given, twos}

-- STA 3000, at power-up
pub needs_no_strobe : NeedsNoStrobe
needs_no_strobe = (
  example.at1.older,
  example.at1.cells,
  twos (0x8D ∷ 0x00 ∷ 0x30 ∷ 0x00 ∷ []),
  example.on1,
  list_given (0x8D ∷ 0x00 ∷ 0x30 ∷ 0x00 ∷ []) (at_rest held example.at1.older example.at1.cells) refl,
  (refl, tt),
  sent_by_none zeros zeros held _ _ _ refl refl refl refl,
)

module _ (shared : OfEachMachine (λ R image held list log clocks. HaveRam list (after held clocks))) where
  -- STA 4000, after dvg_reset, which leaves 3 in A
  pub needs_no_write : NeedsNoWrite
  needs_no_write = (
    made.reset 4,
    [],
    refl,
    (
      example.at8.older,
      example.at8.cells,
      twos (0x8D ∷ 0x00 ∷ 0x40 ∷ 0x00 ∷ []),
      example.on8,
      list_given (0x8D ∷ 0x00 ∷ 0x40 ∷ 0x00 ∷ []) (at_rest held example.at8.older example.at8.cells) refl,
      (refl, tt),
      λ keeps.
          let differs : 0 ≡ 3 = has_ram shared zeros zeros held (made.reset 4) [] _ keeps 0 (lit< tt) in
          absurd (omega (arith, differs)),
    ),
  )

  -- where dvg_tick has LDA 4001, memory answers with STA 4000
  pub needs_answers : NeedsAnswers
  needs_answers = (
    made.tick 3,
    made.reset 4 ∷ [],
    example.at11.older,
    example.at11.cells,
    twos (0x8D ∷ 0x00 ∷ 0x40 ∷ 0x00 ∷ []),
    example.on11,
    made.tick_session 4,
    record {
      unfinished = refl;
      goes = refl;
      rests = record { holds = record { a = refl; x = refl; y = refl; s = refl; pc = refl; n = refl; z = refl; c = refl; v = refl; d = refl; i = refl }; fetches = refl };
      free = refl;
      placed = record { pc = lit< tt; bytes = made.tick_bytes; flags = lit< tt; here = refl; first = refl; second = refl };
      single = refl;
      count = refl;
      answered = tt;
      given = list_given (0x8D ∷ 0x00 ∷ 0x40 ∷ 0x00 ∷ []) (at_rest held example.at11.older example.at11.cells) refl;
    },
    λ keeps.
        let differs : 0 ≡ 3 = has_ram shared zeros zeros held (made.tick 4) (made.reset 4 ∷ []) _ keeps 0 (lit< tt) in
        absurd (omega (arith, differs)),
  )

  -- amid dvg_reset the program jumps into its own STA 4000, whose last byte it reads where the code has 40
  abbrev strayed : List Turn
  strayed = twos (0x4C ∷ 0x88 ∷ 0x68 ∷ 0xA9 ∷ 0x05 ∷ 0x8D ∷ 0x00 ∷ [])

  strayed_on : IsPlayed zeros zeros held (made.reset 0 ∷ []) (older_after held example.at3.older example.at3.cells strayed)
      (cells_after held example.at3.older example.at3.cells strayed)
  strayed_on = alone strayed example.reset_on (list_given (0x4C ∷ 0x88 ∷ 0x68 ∷ 0xA9 ∷ 0x05 ∷ 0x8D ∷ 0x00 ∷ [])
      (at_rest held example.at3.older example.at3.cells) refl) tt

  pub needs_rests : NeedsRests
  needs_rests = (
    made.reset 0,
    [],
    older_after held example.at3.older example.at3.cells strayed,
    cells_after held example.at3.older example.at3.cells strayed,
    twos (0x40 ∷ 0x00 ∷ []),
    strayed_on,
    made.reset_session 1,
    record {
      unfinished = refl;
      goes = refl;
      rests = tt;
      free = refl;
      placed = record { pc = lit< tt; bytes = made.reset_bytes; flags = lit< tt; here = refl; first = refl; second = refl };
      single = refl;
      count = refl;
      answered = (refl, (tt, tt));
      given = list_given (0x40 ∷ 0x00 ∷ []) (at_rest held (older_after held example.at3.older example.at3.cells strayed)
          (cells_after held example.at3.older example.at3.cells strayed)) refl;
    },
    λ keeps.
        let differs : 0 ≡ 5 = has_ram shared zeros zeros held (made.reset 1) [] _ keeps 0 (lit< tt) in
        absurd (omega (arith, differs)),
  )

  -- in place of LDA alone, the cells do dvg_reset to its end, and STA 4000 after it
  abbrev boots : List ℕ
  boots = 0xA9 ∷ 0x00 ∷ 0x85 ∷ 0x10 ∷ 0x00 ∷ 0xA9 ∷ 0x03 ∷ 0x85 ∷ 0x12 ∷ 0x00 ∷ 0x60 ∷ 0x00 ∷ 0x00 ∷ 0x8D ∷ 0x00 ∷ 0x40 ∷ 0x00 ∷ []

  abbrev booted : List Turn
  booted = twos (0x00 ∷ 0x68 ∷ [])

  booted_on : IsPlayed zeros zeros held [] (older_after held [] example.at0.cells booted) (cells_after held [] example.at0.cells booted)
  booted_on = alone booted example.on0 (list_given (0x00 ∷ 0x68 ∷ []) (at_rest held [] example.at0.cells) refl) tt

  reset_on : IsPlayed zeros zeros held (other.reset 0 ∷ []) (older_after held [] example.at0.cells booted)
      (cells_after held [] example.at0.cells booted)
  reset_on = begins_call calls.Reset other.reset_from (made.others other.reset_from) booted_on
      (record { holds = record { a = refl; x = refl; y = refl; s = refl; pc = refl; n = refl; z = refl; c = refl; v = refl; d = refl; i = refl }; fetches = refl })
      (other.reset_session 0) tt other.shares

  pub needs_count : NeedsCount
  needs_count = (
    other.reset 0,
    [],
    older_after held [] example.at0.cells booted,
    cells_after held [] example.at0.cells booted,
    twos boots,
    reset_on,
    other.reset_session 1,
    record {
      unfinished = refl;
      goes = refl;
      rests = record { holds = record { a = refl; x = refl; y = refl; s = refl; pc = refl; n = refl; z = refl; c = refl; v = refl; d = refl; i = refl }; fetches = refl };
      free = refl;
      placed = record { pc = lit< tt; bytes = other.reset_bytes; flags = lit< tt; here = refl; first = refl; second = refl };
      single = refl;
      count = tt;
      answered = (refl, (refl, (refl, (refl, (tt, (refl, (refl, (refl, (refl, (tt, (refl, (refl, (refl, (refl, (refl, (refl, (tt, tt)))))))))))))))));
      given = list_given boots (at_rest held (older_after held [] example.at0.cells booted)
          (cells_after held [] example.at0.cells booted)) refl;
    },
    λ keeps.
        let differs : 0 ≡ 3 = has_ram shared zeros zeros held (other.reset 1) [] _ keeps 0 (lit< tt) in
        absurd (omega (arith, differs)),
  )
