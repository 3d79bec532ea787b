use Rattle.std.proofs.Common.{refl}
use Rattle.am_silence_json.specs.Gettables.{gettable_data}
use Rattle.am_silence_json.proofs.Bodies.{chain}
use Rattle.am_silence_json.proofs.gettable.add_silence.Goals as goal

pub returns : goal.returns
returns c =
    let ends = rw c.ends_at.ensures at c.in_ok-add_moment.ensures in
    let starts = rw c.starts_at.ensures at c.in_ok-add_moment-2.ensures in
    let updated = rw c.updated_at.ensures at c.in_ok-add_moment-3.ensures in
    let comment = rw c.comment.ensures at c.in_ok-add_text.ensures in
    let author = rw c.created_by.ensures at c.in_ok-add_text-2.ensures in
    let id = rw (c.as_str.ensures.bytes, c.key.ensures) at c.in_ok-add_text-3.ensures in
    let matchers = rw c.matchers.ensures at c.in_ok-add_matchers.ensures in
    let last = chain c.in_ok-add_status.ensures (chain updated.2 c.in_ok-add-2.ensures) in (
      gettable_data c.args.version.now.silence c.args.state starts.0 ends.0 updated.0,
      record {
        starts = starts.0;
        ends = ends.0;
        updated = updated.0;
        starts_at = starts.1;
        ends_at = ends.1;
        updated_at = updated.1;
        value = refl;
      },
      chain c.in_ok-add.ensures (chain comment (chain author (chain ends.2 (chain id (chain matchers (chain starts.2 last)))))),
    )
