use Rattle.std.proofs.Common.{◌∷◌, refl, subst, true, false}
use Rattle.std.specs.Prelude.{OnOk}
use Rattle.dvg_mem.specs.declared.half.Half.TheVariants.{H0}
use Rattle.dvg_driver.specs.declared.action.Action.TheVariants.{Peek, Read, Wrote, Sent, Idle}
use Rattle.dvg_driver.specs.Script.{Asked, Offered}
use Rattle.dvg_driver.specs.Stands.{StandsAfter}
use Rattle.dvg_driver.proofs.Shapes.{rests_whole}
use Rattle.test_facts.specs.Facts.{vector_frame}
use Rattle.test_facts.proofs.Redraws.{ticked, taken, not_whole_at, same_stage}
use Rattle.test_facts.proofs.Redraws.{offer_busy, redraw_busy, redraw_nothing}
use Rattle.test_facts.proofs.Redraws.{life0, life1, life2, life3, life4, life5, life6, life7}
use Rattle.test_facts.proofs.Redraws.{life8, life9, life10, life11, life12, life13, life14}
use Rattle.test_facts.proofs.Redraws.{life15, life16, life17, life18, life19, life20, life21}
use Rattle.test_facts.proofs.driver.redraws.Goals as goal

pub returns : goal.returns
returns c =
    let s1 =
    redraw_nothing 0 life0 (c.new-driver.ensures.stands 0) c.redraw.result
    (c.redraw.ensures.nothing 0 life0 (c.new-driver.ensures.stands 0)) (same_stage c.new-driver.result c.redraw.new.self c.redraw.result c.redraw.ensures.refused) refl in
    let s2 =
    offer_busy 0 life0 s1.1 c.offer_checked.result
    (c.offer_checked.ensures.accepted 0 life0 s1.1) c.offer_checked.ensures.busy
    (same_stage c.redraw.new.self c.offer_checked.new.self c.offer_checked.result c.offer_checked.ensures.refused) (not_whole_at life0 _ refl (λ first e. cc)) in
    let s3 =
    ticked 0 life0 s2.1 0xFF false Peek _ refl tt (c.tick.ensures.stands 0 life0)
    (c.tick.ensures.scripted 0 life0) c.tick.ensures.told in
    let s4 =
    ticked 0xFF life1 s3.1 0xFF false (Read false) _ refl refl
    (c.tick-2.ensures.stands 0xFF life1) (c.tick-2.ensures.scripted 0xFF life1)
    c.tick-2.ensures.told in
    let s5 =
    ticked 0xFF life2 s4.1 0xFF true (Read true) _ refl refl
    (c.tick-3.ensures.stands 0xFF life2) (c.tick-3.ensures.scripted 0xFF life2)
    c.tick-3.ensures.told in
    let s6 =
    ticked 0xFF life3 s5.1 0xFF true Idle _ refl tt (c.tick-4.ensures.stands 0xFF life3)
    (c.tick-4.ensures.scripted 0xFF life3) c.tick-4.ensures.told in
    let s7 =
    taken 0xFF life4 s6.1 c.offer_checked-2.result (Offered H0 vector_frame)
    ((c.offer_checked-2.ensures.accepted 0xFF life4 s6.1).1 (rests_whole life4 true refl))
    (subst
    (λ F. OnOk c.offer_checked-2.result
    (StandsAfter c.offer_checked-2.new.self.stage 0xFF (Offered H0 F ∷ life4)))
    c.requires (c.offer_checked-2.ensures.stands 0xFF life4 s6.1)) in
    let s8 =
    ticked 0xFF life5 s7.1 0xFF true (Wrote 0x002 0x90) _ refl tt
    (c.tick-5.ensures.stands 0xFF life5) (c.tick-5.ensures.scripted 0xFF life5)
    c.tick-5.ensures.told in
    let s9 =
    ticked 0xFF life6 s8.1 0xFF true (Wrote 0x003 0xA1) _ refl tt
    (c.tick-6.ensures.stands 0xFF life6) (c.tick-6.ensures.scripted 0xFF life6)
    c.tick-6.ensures.told in
    let s10 =
    ticked 0xFF life7 s9.1 0xFF true (Wrote 0x004 0x00) _ refl tt
    (c.tick-7.ensures.stands 0xFF life7) (c.tick-7.ensures.scripted 0xFF life7)
    c.tick-7.ensures.told in
    let s11 =
    ticked 0xFF life8 s10.1 0xFF true (Wrote 0x005 0x02) _ refl tt
    (c.tick-8.ensures.stands 0xFF life8) (c.tick-8.ensures.scripted 0xFF life8)
    c.tick-8.ensures.told in
    let s12 =
    ticked 0xFF life9 s11.1 0xFF true (Wrote 0x006 0x64) _ refl tt
    (c.tick-9.ensures.stands 0xFF life9) (c.tick-9.ensures.scripted 0xFF life9)
    c.tick-9.ensures.told in
    let s13 =
    ticked 0xFF life10 s12.1 0xFF true (Wrote 0x007 0x90) _ refl tt
    (c.tick-10.ensures.stands 0xFF life10) (c.tick-10.ensures.scripted 0xFF life10)
    c.tick-10.ensures.told in
    let s14 =
    ticked 0xFF life11 s13.1 0xFF true (Wrote 0x008 0x64) _ refl tt
    (c.tick-11.ensures.stands 0xFF life11) (c.tick-11.ensures.scripted 0xFF life11)
    c.tick-11.ensures.told in
    let s15 =
    ticked 0xFF life12 s14.1 0xFF true (Wrote 0x009 0x74) _ refl tt
    (c.tick-12.ensures.stands 0xFF life12) (c.tick-12.ensures.scripted 0xFF life12)
    c.tick-12.ensures.told in
    let s16 =
    ticked 0xFF life13 s15.1 0xFF true (Wrote 0x00A 0x00) _ refl tt
    (c.tick-13.ensures.stands 0xFF life13) (c.tick-13.ensures.scripted 0xFF life13)
    c.tick-13.ensures.told in
    let s17 =
    ticked 0xFF life14 s16.1 0xFF true (Wrote 0x00B 0xB0) _ refl tt
    (c.tick-14.ensures.stands 0xFF life14) (c.tick-14.ensures.scripted 0xFF life14)
    c.tick-14.ensures.told in
    let s18 =
    redraw_nothing 0xFF life15 s17.1 c.redraw-2.result
    (c.redraw-2.ensures.nothing 0xFF life15 s17.1) (same_stage c.tick-14.new.self c.redraw-2.new.self c.redraw-2.result c.redraw-2.ensures.refused) refl in
    let s19 =
    ticked 0xFF life15 s18.1 0xFF true (Wrote 0x000 0x01) _ refl tt
    (c.tick-15.ensures.stands 0xFF life15) (c.tick-15.ensures.scripted 0xFF life15)
    c.tick-15.ensures.told in
    let s20 =
    ticked 0xFF life16 s19.1 0xFF true (Wrote 0x001 0xE0) _ refl tt
    (c.tick-16.ensures.stands 0xFF life16) (c.tick-16.ensures.scripted 0xFF life16)
    c.tick-16.ensures.told in
    let s21 =
    redraw_busy 0xFF life17 s20.1 c.redraw-3.result
    (c.redraw-3.ensures.accepted 0xFF life17 s20.1)
    (c.redraw-3.ensures.nothing 0xFF life17 s20.1) (same_stage c.tick-16.new.self c.redraw-3.new.self c.redraw-3.result c.redraw-3.ensures.refused) refl
    (not_whole_at life17 _ refl (λ first e. cc)) in
    let s22 =
    ticked 0xFF life17 s21.1 0xE0 true (Read true) _ refl refl
    (c.tick-17.ensures.stands 0xFF life17) (c.tick-17.ensures.scripted 0xFF life17)
    c.tick-17.ensures.told in
    let s23 =
    ticked 0xFF life18 s22.1 0xE0 true Sent _ refl tt (c.tick-18.ensures.stands 0xFF life18)
    (c.tick-18.ensures.scripted 0xFF life18) c.tick-18.ensures.told in
    let s24 =
    taken 0xFF life19 s23.1 c.redraw-4.result Asked
    ((c.redraw-4.ensures.accepted 0xFF life19 s23.1).1 (refl, rests_whole life19 false refl))
    (c.redraw-4.ensures.stands 0xFF life19 s23.1) in
    let s25 =
    ticked 0xFF life20 s24.1 0xE0 true (Read true) _ refl refl
    (c.tick-19.ensures.stands 0xFF life20) (c.tick-19.ensures.scripted 0xFF life20)
    c.tick-19.ensures.told in
    let s26 =
    ticked 0xFF life21 s25.1 0xE0 true Sent _ refl tt (c.tick-20.ensures.stands 0xFF life21)
    (c.tick-20.ensures.scripted 0xFF life21) c.tick-20.ensures.told in
    rw (
      s1.0,
      s2.0,
      s3.0,
      s4.0,
      s5.0,
      s6.0,
      s7.0,
      s8.0,
      s9.0,
      s10.0,
      s11.0,
      s12.0,
      s13.0,
      s14.0,
      s15.0,
      s16.0,
      s17.0,
      s18.0,
      s19.0,
      s20.0,
      s21.0,
      s22.0,
      s23.0,
      s24.0,
      s25.0,
      s26.0,
    ) refl
