use Rattle.std.proofs.Common.{◌≡◌, ◌+◌, ◌<◌, ◌≤◌, sym, ap, ◌∙◌, subst, length, arith}
use Rattle.am_cluster.specs.Settling.{HasBacks}
use Rattle.am_cluster.proofs.Admitted.{can_be_back, late_among, late_not, late_too, none_marked, none_more, one_marked}
use Rattle.am_cluster.proofs.Lived.{found_at, told_less, told_not}
use Rattle.am_cluster.proofs.settle.mark_late.Goals as goal
use Rattle.am_cluster.proofs.settle.mark_late.Goals.{then-lt, else-lt}

pub loop-place-init : goal.loop-place-init
loop-place-init c = (none_marked c.args.journal.now c.args.now c.args.line, omega (arith, c.requires.room))

pub mark-requires-clause-room : goal.mark-requires-clause-room
mark-requires-clause-room c = let enough = c.loop-place.invariant.1 in omega arith

pub mark-requires-clause-possible : goal.mark-requires-clause-possible
mark-requires-clause-possible c =
    let found = found_at c.args.members.now c.loop-place.place c.index-members-place.result c.loop-place-test.true c.index-members-place.is in
    can_be_back c.args.journal.now c.loop-place.journal (late_among c.args.members.now c.args.now c.loop-place.place) c.args.now c.args.line c.loop-place.place c.last.result c.loop-place.invariant.0
    (c.last.ensures ∙ (ap (λ x. x.stand.last) c.member.view_is ∙ c.requires.told c.loop-place.place c.index-members-place.result found))
    (told_less c.args.now c.last.result c.lt.result c.lt.ensures c.if-lt.true)

pub loop-place-preserved : goal.loop-place-preserved
loop-place-preserved c =
    let members = c.args.members.now in
    let place = c.loop-place.place in
    let found = found_at members place c.index-members-place.result c.loop-place-test.true c.index-members-place.is in
    let last = c.last.ensures ∙ ap (λ x. x.stand.last) c.member.view_is in
    elim c.if-lt.branch [
      | then-lt w ↦ subst (λ j. HasBacks c.args.journal.now (late_among members c.args.now (place + 1)) c.args.now c.args.line j × (length members ≤ j.room + (place + 1))) (sym w.journal-is) (
        one_marked c.args.journal.now c.loop-place.journal w.mark.new.self (late_among members c.args.now place) (late_among members c.args.now (place + 1)) place c.args.now c.args.line c.loop-place.invariant.0
            (late_too members c.args.now place c.index-members-place.result found (subst (λ m. c.args.now < m) last (told_less c.args.now c.last.result c.lt.result c.lt.ensures w.if-lt.true)))
            w.mark.ensures.members w.mark.ensures.silences w.mark.ensures.log w.mark.ensures.lines w.mark.ensures.room,
        omega (arith, c.loop-place.invariant.1, w.mark.ensures.room),
      )
      | else-lt w ↦ subst (λ j. HasBacks c.args.journal.now (late_among members c.args.now (place + 1)) c.args.now c.args.line j × (length members ≤ j.room + (place + 1))) (sym w.journal-is) (
        none_more c.args.journal.now c.loop-place.journal (late_among members c.args.now place) (late_among members c.args.now (place + 1)) c.args.now c.args.line c.loop-place.invariant.0
            (late_not members c.args.now place c.index-members-place.result found (subst (λ m. m ≤ c.args.now) last (told_not c.args.now c.last.result c.lt.result c.lt.ensures w.if-lt.false))),
        omega (arith, c.loop-place.invariant.1),
      )
    ]

pub returns : goal.returns
returns c =
    let all : c.loop-place.place ≡ length c.args.members.now = omega arith in
    subst (λ n. HasBacks c.args.journal.now (late_among c.args.members.now c.args.now n) c.args.now c.args.line c.loop-place.journal) all c.loop-place.invariant.0
