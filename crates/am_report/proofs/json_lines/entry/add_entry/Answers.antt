use Rattle.am_silence_json.proofs.Bodies.{chain}
use Rattle.am_report.specs.Json.Values.{entry_data}
use Rattle.am_report.proofs.json_lines.entry.add_entry.Goals as goal

pub returns : goal.returns
unfolding entry_data
returns c =
    let members = rw c.key.ensures at c.in_ok-add_key_members.ensures in
    let timestamp = rw c.timestamp.ensures at c.in_ok-add_moment.ensures in
    let expires = rw c.expires_at.ensures at c.in_ok-add_moment-2.ensures in
    let firing = rw c.firing_alerts.ensures at c.in_ok-add_hashes.ensures in
    let resolved = rw c.resolved_alerts.ensures at c.in_ok-add_hashes-2.ensures in
    chain c.in_ok-add.ensures (chain members (chain timestamp (chain expires (chain firing (chain resolved c.in_ok-add-2.ensures)))))
