use Rattle.std.proofs.Common.{◌≡◌, take}
use Rattle.am_api_decisions.proofs.tally.copied_ids.Given as goal

-- the identifiers so far are copied
abbrev pub invariant-loop-id : goal.invariant-loop-id
invariant-loop-id l = l.copies.items ≡ take l.id-index l.ids
