use Rattle.std.proofs.Common.{◌≡◌, None, Option, [], sym, ap, ◌∙◌}
use Rattle.am_gossip.specs.declared.kind.FrameKind.{FrameKind}
use Rattle.am_gossip.specs.Kinds.{kind_at}
use Rattle.am_gossip.specs.Headers.{header_with_kind, header_of}
use Rattle.am_gossip.proofs.header.read_kind.Goals as goal

pub returns-in-None : goal.returns-in-None
unfolding header_of
returns-in-None c =
    let is : kind_at c.args.code ≡ None = sym c.from_code.ensures ∙ c.in-None.is in
    ap (λ (o : Option FrameKind). header_with_kind o []) is
