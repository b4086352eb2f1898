-- The judge's yes has the premises of the law of games.
use Rattle.std.proofs.Common.{◌≡◌, ℕ, ◌+◌, ◌*◌, ◌%◌, ◌/◌, ◌<◌, List, subst, arith}
use Rattle.dvg_game_content.specs.Law.{IsWordOf}
use Rattle.dvg_game_content.proofs.ContentFromBytes.{content_by_tests}
use Rattle.dvg_game_6502.specs.Games.{Content}
use Rattle.dvg_game_board.specs.Keeps.{GamesKeep}
use Rattle.dvg_game_check.specs.Brought.{has, has_word, ways_in}
use Rattle.dvg_game_check.specs.Offered.{IsFineWord}
use Rattle.dvg_game_check.specs.Rules.{HasBytes, notes_in}
use Rattle.dvg_game_check.specs.Verdicts.{IsSafe}
use Rattle.dvg_judged_board.proofs.Offers.{fine_table_is, word_is}
use Rattle.dvg_judged_board.specs.Judged.{JudgedKeeps}

-- two bytes, by their word
by_word : (R : List ℕ) (a x : ℕ) → a < 256 → IsFineWord R ((a + 256 * x) % 256) ((a + 256 * x) / 256) → IsWordOf R a x
by_word R a x small is =
    word_is R a x small (
    let low : (a + 256 * x) % 256 ≡ a = omega arith in
    let high : (a + 256 * x) / 256 ≡ x = omega arith in
    subst (λ y. IsFineWord R a y) high (subst (λ b. IsFineWord R b ((a + 256 * x) / 256)) low is))

-- what a safe program offers and puts
pub content_is : (bytes R : List ℕ) (start : ℕ) → IsSafe bytes R start → (rom : ℕ → ℕ) → HasBytes bytes rom
    → Content R rom start
content_is bytes R start safe rom at_bytes =
    content_by_tests R rom start (notes_in safe.notes) (ways_in safe.ways) (has safe.tables) (has_word safe.words)
    (safe.accepted rom at_bytes) (safe.only rom at_bytes) (λ t there. fine_table_is R bytes t rom (safe.tables_fine t there) at_bytes)
    (λ a x small there. by_word R a x small (safe.words_fine (a + 256 * x) there))

pub judged : GamesKeep → JudgedKeeps
judged law bytes R start safe image held rom at_bytes at clocks is =
    law R image held rom start (notes_in safe.notes) (safe.accepted rom at_bytes)
    (content_is bytes R start safe rom at_bytes) at clocks is
