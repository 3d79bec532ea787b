use Rattle.std.specs.Option.{option_copied}
use Rattle.serde_json.specs.Data.{string}
use Rattle.serde_json.specs.Written.{compact_text}
use Rattle.am_api_silences.proofs.Bodies.{written_bare}
use Rattle.am_api_silences.proofs.replies.bare.Goals as goal

pub returns : goal.returns
returns c =
    written_bare c.args.line.now.status (option_copied c.args.line.now.allow) c.in_ok-bytes.bytes.items c.deref.result.now c.in_ok-body.body.items c.new.result.items
    (compact_text (string c.args.line.now.text.now)) c.in_ok-bytes.ensures c.deref.ensures.value c.in_ok-body.ensures c.new.ensures.items
