use Rattle.std.proofs.lemmas.Bool.{cases_lt}
use Rattle.dvg_frame.specs.declared.checking.chain.TheConstants.{LONGEST}
use Rattle.std.proofs.Common.{length-append, [], ◌∷◌, ◌≡◌, ◌≤◌, ◌+◌, ◌*◌, ⊎_elim, ◌∙◌, sym, arith, ap, length}
use Rattle.std.proofs.Common.{Some, subst}
use Rattle.dvg_frame.specs.own.Tables.{Knows}
use Rattle.dvg_frame.proofs.Tabled.{IsTurn, not_within, popped, left_chain, turn_over, turn_into, turn_is, to_in}
use Rattle.dvg_frame.proofs.Tabled.{to_low, to_place, to_reached, here_place, keeps_same, keeps_both}
use Rattle.dvg_frame.proofs.checking.bounds.+settle.Goals as goal
use Rattle.dvg_frame.proofs.checking.bounds.+settle.Goals.{in-Over, in-Into, in-Some-at, in-None+in_ok-known-in-None}

pub span_at-requires-clause-inside : goal.span_at-requires-clause-inside
span_at-requires-clause-inside g t c =
    let base = c.len-base.ensures.value in
    let now = c.len.ensures.value in
    let i = c.loop-start.invariant in
    let out = popped _ _ c.requires.begins _ _ _ _ _ _ _ _ i.entries i.left c.pop-place.ensures.value (omega arith) in
    out.ready.good.inside

pub unreachable-requires : goal.unreachable-requires
unreachable-requires g t c =
    let base = c.len-base.ensures.value in
    let now = c.len.ensures.value in
    let i = c.loop-start.invariant in
    let out = popped _ _ c.requires.begins _ _ _ _ _ _ _ _ i.entries i.left c.pop-place.ensures.value (omega arith) in
    not_within _ _ _ _ out.ready.good.fine c.in_default.ensures

pub at-requires : goal.at-requires
at-requires g t c =
    let base = c.len-base.ensures.value in
    let now = c.len.ensures.value in
    let i = c.loop-start.invariant in
    let out = popped _ _ c.requires.begins _ _ _ _ _ _ _ _ i.entries i.left c.pop-place.ensures.value (omega arith) in
    let found = c.in-Some.ensures in
    to_place _ _ c.requires.begins _ _ _ _ out.ready _ found.1 _ (sym found.2 ∙ c.in-Into.is)

pub settle-requires : goal.settle-requires
settle-requires g t c κs within =
    let base = c.len-base.ensures.value in
    let now = c.len.ensures.value in
    let i = c.loop-start.invariant in
    let out = popped _ _ c.requires.begins _ _ _ _ _ _ _ _ i.entries i.left c.pop-place.ensures.value (omega arith) in
    let found = c.in-Some.ensures in
    let into = sym found.2 ∙ c.in-Into.is in
    let low = c.requires.depth in
    let not_deepest = to_low _ _ c.requires.begins _ _ _ _ out.ready _ found.1 _ into in
    let room : length c.pop-place.new.self ≤ (c.args.start.depth + 1) * LONGEST =
    let room = i.room in
    let before = c.requires.room in
    let taken = ap length c.pop-place.ensures.value in
    let sum = length-append c.pop-place.new.self (c.pop-place.result ∷ []) in
    omega arith in (
      omega arith,
      (
        within,
        (
          c.requires.rom,
          (
            c.requires.begins,
            (
              to_in _ _ c.requires.begins _ _ _ _ out.ready _ found.1 _ into,
              (
                ⊎_elim (λ less. omega arith) (λ deepest. absurd (not_deepest (omega arith)))
                    (cases_lt c.args.start.depth 4),
                (to_reached _ _ c.requires.begins _ _ _ _ out.ready _ found.1 _ into, (room, i.entries)),
              ),
            ),
          ),
        ),
      ),
    )

pub put_drawn-requires : goal.put_drawn-requires
put_drawn-requires g t c =
    let base = c.len-base.ensures.value in
    let now = c.len.ensures.value in
    let i = c.loop-start.invariant in
    let out = popped _ _ c.requires.begins _ _ _ _ _ _ _ _ i.entries i.left c.pop-place.ensures.value (omega arith) in
    here_place _ _ _ _ _ _ out.ready

pub loop-start-smaller : goal.loop-start-smaller
loop-start-smaller g t c =
    let chain : c.match-span.chain ≡ c.pop-place.new.self =
    elim c.match-span.branch [
      | in-Over w ↦ w.chain-is
      | in-Into w ↦ elim w.match-at.branch [
        | in-Some-at w' ↦ w.chain-is ∙ w'.chain-is
        | in-None+in_ok-known-in-None w' ↦ w.chain-is ∙ w'.chain-is ∙ w'.in_ok-known-in-None.ensures.settled.1
      ]
    ] in
    let same = ap length chain in
    let taken = ap length c.pop-place.ensures.value in
    let sum = length-append c.pop-place.new.self (c.pop-place.result ∷ []) in
    omega arith

pub loop-start-preserved : goal.loop-start-preserved
loop-start-preserved g t c =
    let base = c.len-base.ensures.value in
    let now = c.len.ensures.value in
    let i = c.loop-start.invariant in
    let out = popped _ _ c.requires.begins _ _ _ _ _ _ _ _ i.entries i.left c.pop-place.ensures.value (omega arith) in
    let found = c.in-Some.ensures in
    let both : IsTurn c.args.draft.now c.args.rom.now c.requires.begins c.args.start.depth c.loop-start.table
    c.match-span.table c.pop-place.result c.match-span.rest × (c.match-span.chain ≡ c.pop-place.new.self) =
    elim c.match-span.branch [
      | in-Over w ↦
          let turn = turn_over _ _ c.requires.begins _ _ _ _ out.ready _ found.1 _ _ (sym found.2 ∙ w.in-Over.is)
          w.lengthen.ensures in
          (turn_is _ _ c.requires.begins _ _ _ _ _ _ _ w.table-is w.rest-is turn, w.chain-is)
      | in-Into w ↦
          let into = sym found.2 ∙ w.in-Into.is in
          elim w.match-at.branch [
            | in-Some-at w' ↦
                let inside = to_place _ _ c.requires.begins _ _ _ _ out.ready _ found.1 _ into in
                let known : Knows c.loop-start.table w.in-Into.to w.match-at.known =
                (inside, w.at.ensures ∙ w'.in-Some-at.is ∙ ap Some (sym w'.known-is)) in
                let turn = turn_into _ _ c.requires.begins _ _ _ _ out.ready _ found.1 _ _ _ _ into (keeps_same _)
                i.entries known w.called-rest.ensures in (
                  turn_is _ _ c.requires.begins _ _ _ _ _ _ _ (w.table-is ∙ w'.table-is) w.rest-is turn,
                  w.chain-is ∙ w'.chain-is,
                )
            | in-None+in_ok-known-in-None w' ↦
                let settled = w'.in_ok-known-in-None.ensures in
                let known = subst (Knows _ _) (sym w'.known-is) settled.settled.0 in
                let turn = turn_into _ _ c.requires.begins _ _ _ _ out.ready _ found.1 _ _ _ _ into settled.kept
                settled.entries known w.called-rest.ensures in (
                  turn_is _ _ c.requires.begins _ _ _ _ _ _ _ (w.table-is ∙ w'.table-is) w.rest-is turn,
                  w.chain-is ∙ w'.chain-is ∙ settled.settled.1,
                )
          ]
    ] in
    let turn = both.0 in
    record {
      entries = c.put_drawn.ensures.entries _ _ turn.entries turn.known;
      kept = keeps_both _ _ _ i.kept (keeps_both _ _ _ turn.keeps c.put_drawn.ensures.kept);
      left = left_chain _ _ c.requires.begins _ _ _ _ _ _ _ _ _ _ out both.1 c.put_drawn.ensures.has;
      room =
          let room = i.room in
          let taken = ap length c.pop-place.ensures.value in
          let sum = length-append c.pop-place.new.self (c.pop-place.result ∷ []) in
          let same = ap length both.1 in
          omega arith;
    }
