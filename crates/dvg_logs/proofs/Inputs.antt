-- From what was read of a log to what the reader had.
use Rattle.std.proofs.Common.{◌≡◌, ◌<◌, ◌≤◌, ◌+◌, ◌-◌, ℕ, List, [], ◌∷◌, ◌++◌, Option, Some, None, IfSome, length, take, sym, ap, ◌∙◌, subst, arith, append_assoc, append-nil, length-append}
use Rattle.std.proofs.Math.Seq.{take-append-add}
use Rattle.std.proofs.lemmas.Grind.{flat_map-append}
use Rattle.std.specs.Io.KnownBytes.{Consumes, IsAtEnd}
use Rattle.std.specs.Prelude.{Result, Ok}
use Rattle.dvg_log.specs.Log.{Line, Log}
use Rattle.dvg_read.specs.Texts.{lines}
use Rattle.dvg_io.specs.declared.fault.ToolFault.{ToolFault}
use Rattle.dvg_logs.specs.declared.log_reading.LogStop.{LogStop}
use Rattle.dvg_logs.specs.declared.log_reading.LogStop.TheVariants.{Found, Syntax, TooLong}
use Rattle.dvg_logs.specs.declared.log_reading.LogReading.{LogReading}
use Rattle.dvg_logs.specs.Judging.{ReadsAs, answer_of}
use Rattle.dvg_logs.specs.LogReading.{HasRead, StopsAt, number_of}
use Rattle.dvg_logs.specs.LogTexts.{IsWhole}
use Rattle.dvg_logs.specs.Tears.{TakesUpTo, ended}

-- the bytes of the lines before line n are no fewer than those of fewer lines
ended_front : (before more : List (List ℕ)) (k : ℕ) → length before ≤ k → length (ended before) ≤ length (ended (take k (before ++ more)))
ended_front before more k fits =
    let rest = k - length before in
    let is : k ≡ length before + rest = omega arith in
    let same = ap (λ ls. length (ended ls)) (ap (λ k. take k (before ++ more)) is ∙ take-append-add before more rest) in
    let both = ap length (flat_map-append (λ line. line ++ 10 ∷ []) before (take rest more)) in
    omega (arith, same, both, length-append (ended before) (ended (take rest more)))

-- so many bytes were taken of an input, of which a piece was read last
pub taken_up_to : {J : Type 0} {base : Option ℕ} {Stands : J → Log → Type 0} {Passes : Log → Type 0} (reading : LogReading J) (n : ℕ) (text piece rest : List ℕ) (read : HasRead base Stands Passes reading text) → length piece ≤ 32768 → length read.texts < n
    → TakesUpTo n (text ++ (piece ++ rest)) (Some (text ++ (piece ++ rest))) (Some rest)
taken_up_to reading n text piece rest read short later =
    let input : List ℕ = text ++ (piece ++ rest) in
    let cut = read.cut (piece ++ rest) in
    let front = ended_front read.texts (lines (reading.unfinished.items ++ (piece ++ rest))) (n - 1) (omega arith) in
    let same = ap (λ ls. length (ended (take (n - 1) ls))) cut in
    let most : length (text ++ piece) ≤ length (ended (take (n - 1) (lines input))) + 32832 = omega (arith, same, front, read.size, read.short, length-append text piece) in
    (text ++ piece, most, sym (append_assoc text piece rest))

module _ {J V : Type 0} (base : Option ℕ) (Stands : J → Log → Type 0) (Passes : Log → Type 0) (Finds : V → Line → Log → Type 0) (Ends : V → Log → Type 0) where
  abbrev pub Reads : Result V ToolFault → (input : List ℕ) → Option (List ℕ) → Option (List ℕ) → Type 0
  Reads = ReadsAs base Passes Finds Ends

  read_as : (stop : LogStop V) (input : List ℕ) (old new : Option (List ℕ)) → StopsAt base Passes Finds stop (lines input) → TakesUpTo (number_of stop) input old new → Reads (answer_of stop) input old new
  read_as (Found n verdict) input old new found takes = (Some n, found, takes)
  read_as (Syntax n) input old new stops takes = (stops, takes)
  read_as TooLong input old new stops takes = (stops, takes)

  -- reading stops at a piece, of an input that is known to have been read so
  stops_known : (reading : LogReading J) (stop : LogStop V) (text piece rest : List ℕ) (read : HasRead base Stands Passes reading text) → length piece ≤ 32768 → length read.texts < number_of stop
      → StopsAt base Passes Finds stop (lines (text ++ (piece ++ rest))) → Reads (answer_of stop) (text ++ (piece ++ rest)) (Some (text ++ (piece ++ rest))) (Some rest)
  stops_known reading stop text piece rest read short later stops =
      read_as stop (text ++ (piece ++ rest)) (Some (text ++ (piece ++ rest))) (Some rest) stops (taken_up_to reading (number_of stop) text piece rest read short later)

  pub stops_input : (reading : LogReading J) (stop : LogStop V) (known now new : Option (List ℕ)) (text piece : List ℕ) (read : HasRead base Stands Passes reading text) → length piece ≤ 32768 → length read.texts < number_of stop
      → ((more : List ℕ) → StopsAt base Passes Finds stop (lines (text ++ (piece ++ more)))) → Consumes known now text → Consumes now new piece → IfSome known (λ input. Reads (answer_of stop) input known new)
  stops_input reading stop None now new text piece read short later stops before takes = tt
  stops_input reading stop (Some input) None new text piece read short later stops before takes = absurd before
  stops_input reading stop (Some input) (Some left) None text piece read short later stops before takes = absurd takes
  stops_input reading stop (Some input) (Some left) (Some rest) text piece read short later stops before takes =
      let is : input ≡ text ++ (piece ++ rest) = before ∙ ap (λ l. text ++ l) takes in
      subst (λ input. Reads (answer_of stop) input (Some input) (Some rest)) (sym is) (stops_known reading stop text piece rest read short later (stops rest))

  -- reading comes to the end, of which no byte is left
  pub ends_input : (verdict : V) (known now new : Option (List ℕ)) (text : List ℕ) → ((log : Log) × IsWhole base Passes (lines text) log × Ends verdict log) → Consumes known now text → Consumes now new [] → IsAtEnd new
      → IfSome known (λ input. Reads (Ok verdict) input known new)
  ends_input verdict None now new text said before takes at_end = tt
  ends_input verdict (Some input) None new text said before takes at_end = absurd before
  ends_input verdict (Some input) (Some left) None text said before takes at_end = absurd takes
  ends_input verdict (Some input) (Some left) (Some rest) text said before takes at_end =
      let is : text ≡ input = sym (before ∙ ap (λ l. text ++ l) (takes ∙ at_end) ∙ append-nil text) in
      let all : Consumes (Some text) (Some rest) text = sym (append-nil text) ∙ ap (λ l. text ++ l) (sym at_end) in
      let read : Reads (Ok verdict) text (Some text) (Some rest) = (None, said, (all, at_end)) in
      subst (λ input. Reads (Ok verdict) input (Some input) (Some rest)) is read

  pub stops_at_end : (reading : LogReading J) (stop : LogStop V) (known now new : Option (List ℕ)) (text : List ℕ) (read : HasRead base Stands Passes reading text) → length read.texts < number_of stop
      → StopsAt base Passes Finds stop (lines text) → Consumes known now text → Consumes now new [] → IsAtEnd new → IfSome known (λ input. Reads (answer_of stop) input known new)
  stops_at_end reading stop None now new text read later stops before takes at_end = tt
  stops_at_end reading stop (Some input) None new text read later stops before takes at_end = absurd before
  stops_at_end reading stop (Some input) (Some left) None text read later stops before takes at_end = absurd takes
  stops_at_end reading stop (Some input) (Some left) (Some rest) text read later stops before takes at_end =
      let is : input ≡ text ++ [] = before ∙ ap (λ l. text ++ l) (takes ∙ at_end) in
      let said = stops_known reading stop text [] [] read (omega arith) later (subst (λ l. StopsAt base Passes Finds stop (lines l)) (sym (append-nil text)) stops) in
      subst (λ input. Reads (answer_of stop) input (Some input) (Some rest)) (sym is) (subst (λ rest. Reads (answer_of stop) (text ++ []) (Some (text ++ [])) (Some rest)) (sym at_end) said)
