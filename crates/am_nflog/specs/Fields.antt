-- The fields of an entry, with borrowed texts and lists.
use Rattle.am_nflog.specs.declared.entry.Entry.{Entry}
use Rattle.am_nflog.specs.declared.fields.EntryFields.{EntryFields}

-- the entry that these fields make
abbrev pub entry_in : EntryFields → Entry
entry_in fields = record {
  key = fields.key;
  group_hash = fields.group_hash.now;
  resolved = fields.resolved;
  timestamp = fields.timestamp;
  firing_alerts = fields.firing_alerts.now;
  resolved_alerts = fields.resolved_alerts.now;
}
