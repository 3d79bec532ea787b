use Rattle.std.proofs.Common.{None}
use Rattle.serde_json.specs.Written.{compact_text}
use Rattle.am_api_silences.proofs.Bodies.{written}
use Rattle.am_api_silences.proofs.replies.one.Goals as goal

pub returns : goal.returns
returns c =
    let shown = c.in_ok-body.ensures in (
      shown.0,
      shown.1,
      written 200 None c.in_ok-bytes.bytes.items c.deref.result.now c.in_ok-body.body.items c.new.result.items (compact_text shown.0)
          c.in_ok-bytes.ensures c.deref.ensures.value shown.2 c.new.ensures.items,
    )
