use Rattle.std.proofs.Common.{◌≡◌, ◌⊎◌, ◌+◌, ◌<◌, ◌≤◌, [], ◌++◌, length, Some, None, refl, sym, ap, ◌∙◌, subst}
use Rattle.am_wire.specs.Writing.{delimited}
use Rattle.am_snapshot.specs.Pieces.{IsPiece}
use Rattle.am_snapshot.proofs.PieceRows.{IsFront, front_begins, front_grows, piece_stops, piece_ends}
use Rattle.am_snapshot.proofs.pieces.row_piece.Goals as goal

pub loop-version-init : goal.loop-version-init
loop-version-init g c =
    subst (IsFront g.V.Version.seen c.args.most c.args.versions c.into_iter-version-iterator.result) (sym c.new-bytes.ensures.items)
    (subst (λ left. IsFront g.V.Version.seen c.args.most c.args.versions left []) (sym c.into_iter-version-iterator.ensures.into_iter_gives) (front_begins g.V.Version.seen c.args.most c.args.versions))

pub loop-version-preserved : goal.loop-version-preserved
loop-version-preserved g c =
    let row = c.loop-version.bytes.items in
    let slice = c.as_slice.result.now in
    let content = (g.V.Version.seen c.in-Some.version.now).content in
    let front = subst (λ left. IsFront g.V.Version.seen c.args.most c.args.versions left row) c.in-Some.ensures.steps c.loop-version.invariant in
    let room = subst (λ bytes. (bytes ≡ []) ⊎ (length bytes + length (delimited content) ≤ c.args.most)) c.as_slice.ensures.value
    (subst (λ bytes. (slice ≡ []) ⊎ (length slice + length (delimited bytes) ≤ c.args.most)) c.canonical-content.ensures.content (c.if-is_full.ensures.room refl)) in
    subst (IsFront g.V.Version.seen c.args.most c.args.versions c.next.new.self) (sym (c.in_ok-append_delimited.ensures ∙ ap (λ bytes. row ++ delimited bytes) c.canonical-content.ensures.content))
    (front_grows g.V.Version.seen c.args.most c.args.versions c.in-Some.version.now c.next.new.self row room front)

pub returns-then-is_full : goal.returns-then-is_full
returns-then-is_full g c =
    let row = c.loop-version.bytes.items in
    let slice = c.as_slice.result.now in
    let content = (g.V.Version.seen c.in-Some.version.now).content in
    let front = subst (λ left. IsFront g.V.Version.seen c.args.most c.args.versions left row) c.in-Some.ensures.steps c.loop-version.invariant in
    let full = subst (λ bytes. (0 < length bytes) × (c.args.most < length bytes + length (delimited content))) c.as_slice.ensures.value
    (subst (λ bytes. (0 < length slice) × (c.args.most < length slice + length (delimited bytes))) c.canonical-content.ensures.content (c.if-is_full.ensures.full refl)) in
    subst (λ bytes. IsPiece g.V.Version.seen c.args.most c.args.versions (record { row = bytes; next = Some c.in_ok-next.next })) (sym c.new.ensures)
    (subst (λ key. IsPiece g.V.Version.seen c.args.most c.args.versions (record { row = row; next = Some key })) (sym c.in_ok-next.ensures)
    (piece_stops g.V.Version.seen c.args.most c.args.versions c.in-Some.version.now c.next.new.self row full.0 full.1 front))

pub returns : goal.returns
returns g c =
    let row = c.loop-version.bytes.items in
    let front = subst (λ left. IsFront g.V.Version.seen c.args.most c.args.versions left row) c.in-None.ensures.steps.0 c.loop-version.invariant in
    subst (λ bytes. IsPiece g.V.Version.seen c.args.most c.args.versions (record { row = bytes; next = None })) (sym c.new-2.ensures) (piece_ends g.V.Version.seen c.args.most c.args.versions row front)
