use Rattle.std.proofs.Common.{inl, inr, ap, subst, rules, is_ok, string_bytes}
use Rattle.am_snapshot.specs.Pieces.{IsPiece}
use Rattle.am_store.specs.Rewrites.{stretch}
use Rattle.am_store.proofs.Rewrites.{unwritten, wrote, wrote_all}
use Rattle.am_store.proofs.rewriting.write_stretch.Goals as goal

pub returns-in-Ok-Some : goal.returns-in-Ok-Some
returns-in-Ok-Some g c =
    let p = c.in-Ok-Some.ensures.piece in
    let is = subst (λ l. IsPiece g.V.Version.seen stretch l p.0) c.left_of.ensures p.1 in
    wrote g.V.Version.seen g.V.Key.Ord.cmp c.args.path.now c.args.most g.D.File.Write.contents c.args.held.now _ _ c.args.new _ c.args.from p.0 is p.3 p.4 p.5 c.write_piece.ensures.calls c.write_piece.ensures.name c.in-Ok-Some.key (search (rules, p.2))

pub returns-in-Ok-None : goal.returns-in-Ok-None
returns-in-Ok-None g c =
    let p = c.in-Ok-None.ensures.piece in
    let is = subst (λ l. IsPiece g.V.Version.seen stretch l p.0) c.left_of.ensures p.1 in
    wrote_all g.V.Version.seen g.V.Key.Ord.cmp c.args.path.now c.args.most g.D.File.Write.contents c.args.held.now _ _ c.args.new _ c.args.from p.0 is p.3 p.4 p.5 c.write_piece.ensures.calls c.write_piece.ensures.name (search (rules, p.2))

pub returns : goal.returns
returns g c =
    unwritten g.V.Version.seen g.V.Key.Ord.cmp c.args.path.now c.args.most g.D.File.Write.contents c.args.held.now _ _ _ c.args.new c.deref.result.now c.args.from (is_ok c.remove.result) _ c.write_piece.ensures.calls (search (rules, ap string_bytes c.write_piece.ensures.name)) c.remove.ensures.noted
    (elim c.in-Err.ensures.fault [
      | inl system ↦ inl system
      | inr large ↦ inr (large.0, large.1, subst (λ l. IsPiece g.V.Version.seen stretch l large.1) c.left_of.ensures large.2, large.3)
    ])
