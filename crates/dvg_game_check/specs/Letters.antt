-- Letters for the kinds of instructions.
use Rattle.std.specs.Prelude.{ℕ, nat_eq, if◌then◌else◌}
use Rattle.dvg_game_words.specs.Processor.{A, X, Y}
use Rattle.dvg_game_words.specs.Kinds.{Nothing, Only, Kind, Quiet, Reads, Transfer, Stores, Push, PushFlags, Pull, PullFlags}
use Rattle.dvg_game_words.specs.Kinds.{Branch, Jump, Call, Return, Finish, Wild, ZeroPage, ZeroPageIndexed, Absolute}
use Rattle.dvg_game_words.specs.Kinds.{AbsoluteIndexed}

abbrev pub lettered : ℕ → Kind
lettered letter =
    if nat_eq letter 97 then Quiet (Only A) 2 else
    if nat_eq letter 120 then Quiet (Only X) 2 else
    if nat_eq letter 121 then Quiet (Only Y) 2 else
    if nat_eq letter 113 then Quiet Nothing 2 else
    if nat_eq letter 65 then Quiet (Only A) 1 else
    if nat_eq letter 88 then Quiet (Only X) 1 else
    if nat_eq letter 89 then Quiet (Only Y) 1 else
    if nat_eq letter 81 then Quiet Nothing 1 else
    if nat_eq letter 108 then Reads (Only A) Absolute else
    if nat_eq letter 109 then Reads (Only X) Absolute else
    if nat_eq letter 110 then Reads (Only Y) Absolute else
    if nat_eq letter 111 then Reads Nothing Absolute else
    if nat_eq letter 76 then Reads (Only A) AbsoluteIndexed else
    if nat_eq letter 77 then Reads (Only X) AbsoluteIndexed else
    if nat_eq letter 78 then Reads (Only Y) AbsoluteIndexed else
    if nat_eq letter 79 then Reads Nothing AbsoluteIndexed else
    if nat_eq letter 122 then Stores ZeroPage else
    if nat_eq letter 119 then Stores ZeroPageIndexed else
    if nat_eq letter 115 then Stores Absolute else
    if nat_eq letter 118 then Stores AbsoluteIndexed else
    if nat_eq letter 49 then Transfer A X else
    if nat_eq letter 50 then Transfer A Y else
    if nat_eq letter 51 then Transfer X A else
    if nat_eq letter 52 then Transfer Y A else
    if nat_eq letter 80 then Push else
    if nat_eq letter 70 then PushFlags else
    if nat_eq letter 71 then Pull else
    if nat_eq letter 72 then PullFlags else
    if nat_eq letter 98 then Branch else
    if nat_eq letter 106 then Jump else
    if nat_eq letter 99 then Call else
    if nat_eq letter 114 then Return else
    if nat_eq letter 116 then Finish else
    Wild
