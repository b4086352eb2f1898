use Rattle.std.proofs.Common.{◌≡◌, ◌<◌, ◌+◌, ◌∙◌, ℕ, List, length, take, sym, subst, arith}
use Rattle.std.specs.Prelude.{slice_index, slice_set}
use Rattle.std.proofs.lemmas.List.{length-set, take_all, take_more_set}
use Rattle.std.proofs.lemmas.Grind.{common_steps}
use Rattle.dvg_world.proofs.world.bytes_in.Goals as goal

-- one byte more was copied
copied_more : (bytes content : List ℕ) (a byte : ℕ) → a < length bytes → a < length content
    → byte ≡ slice_index content a → take a bytes ≡ take a content
    → take (a + 1) (slice_set bytes a byte) ≡ take (a + 1) content
copied_more bytes content a byte in_bytes in_content read before = grind (arith, common_steps, take_more_set)

-- all bytes were copied
copied_all : (bytes content : List ℕ) (a : ℕ) → 2048 ≡ length bytes → 2048 ≡ length content → a ≡ 2048
    → take a bytes ≡ take a content → bytes ≡ content
copied_all bytes content a in_bytes in_content all before = grind (arith, take_all)

pub loop-a-preserved : goal.loop-a-preserved
loop-a-preserved g c =
    let before = c.loop-a.invariant in
    let content = g.S.Store.content c.args.store.now in
    let inside = c.loop-a-test.true in (
      length-set c.loop-a.bytes c.loop-a.a c.read.result ∙ before.0,
      copied_more c.loop-a.bytes content c.loop-a.a c.read.result (subst (λ n. c.loop-a.a < n) (sym before.0) inside)
          (subst (λ n. c.loop-a.a < n) (sym c.read.ensures.image.count) inside) c.read.ensures.byte before.1,
    )

pub returns : goal.returns
returns g c =
    let before = c.loop-a.invariant in
    let past = c.loop-a-test.false in
    let end = c.loop-a.auto.a-end in
    copied_all c.loop-a.bytes (g.S.Store.content c.args.store.now) c.loop-a.a (sym before.0)
    (sym c.read-bytes.ensures.image.count) (omega (arith, past, end)) before.1
