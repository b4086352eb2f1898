-- What the values of the code mean in the rules.
use Rattle.std.specs.Prelude.{ℕ}
use Rattle.dvg_game_words.specs.Processor
use Rattle.dvg_game_words.specs.Kinds
use Rattle.dvg_game_check.specs.declared.kind.Kind.{Kind}
use Rattle.dvg_game_check.specs.declared.kind.Kind.TheVariants.{Quiet, Reads, Transfer, Stores, Push, PushFlags}
use Rattle.dvg_game_check.specs.declared.kind.Kind.TheVariants.{Pull, PullFlags, Branch, Jump, Call, Return, Finish, Wild}
use Rattle.dvg_game_check.specs.declared.kind.Operand.{Operand}
use Rattle.dvg_game_check.specs.declared.kind.Operand.TheVariants.{ZeroPage, ZeroPageIndexed, Absolute, AbsoluteIndexed}
use Rattle.dvg_game_check.specs.declared.kind.Register.{Register}
use Rattle.dvg_game_check.specs.declared.kind.Register.TheVariants.{A, X, Y}
use Rattle.dvg_game_check.specs.declared.kind.Sets.{Sets}
use Rattle.dvg_game_check.specs.declared.kind.Sets.TheVariants.{Nothing, Only}

abbrev pub register_meant : Register → Processor.Register
register_meant A = Processor.A
register_meant X = Processor.X
register_meant Y = Processor.Y

abbrev pub place_meant : Operand → Kinds.Place
place_meant ZeroPage = Kinds.ZeroPage
place_meant ZeroPageIndexed = Kinds.ZeroPageIndexed
place_meant Absolute = Kinds.Absolute
place_meant AbsoluteIndexed = Kinds.AbsoluteIndexed

abbrev pub sets_meant : Sets → Kinds.Sets
sets_meant Nothing = Kinds.Nothing
sets_meant (Only register) = Kinds.Only (register_meant register)

abbrev pub kind_meant : Kind → Kinds.Kind
kind_meant (Quiet sets bytes) = Kinds.Quiet (sets_meant sets) bytes
kind_meant (Reads sets place) = Kinds.Reads (sets_meant sets) (place_meant place)
kind_meant (Transfer from to) = Kinds.Transfer (register_meant from) (register_meant to)
kind_meant (Stores place) = Kinds.Stores (place_meant place)
kind_meant Push = Kinds.Push
kind_meant PushFlags = Kinds.PushFlags
kind_meant Pull = Kinds.Pull
kind_meant PullFlags = Kinds.PullFlags
kind_meant Branch = Kinds.Branch
kind_meant Jump = Kinds.Jump
kind_meant Call = Kinds.Call
kind_meant Return = Kinds.Return
kind_meant Finish = Kinds.Finish
kind_meant Wild = Kinds.Wild
