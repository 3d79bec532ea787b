use Rattle.am_nflog.specs.Spelled.{spelled}
use Rattle.am_nflog.proofs.Spelling.{read_anywhere}
use Rattle.am_nflog.proofs.encoded_entry.EncodedEntryFromEncoding.read.Goals as goal

pub returns-clause-spelled : goal.returns-clause-spelled
returns-clause-spelled c =
    let h = c.in_ok-entry.ensures in
    λ unknown at. read_anywhere (spelled c.args.encoding.now) c.args.encoding.now unknown at h.value h.canonical h.plain
