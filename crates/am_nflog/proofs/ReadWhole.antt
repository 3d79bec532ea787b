-- A canonical encoding that was read to its end.
use Rattle.std.proofs.Common.{◌≡◌, ℕ, ◌-◌, ◌≤◌, ◌^◌, List, [], ◌++◌, length, sym, ap, subst, ◌∙◌}
use Rattle.am_version_order.specs.Moments.{greatest}
use Rattle.am_wire.proofs.Kept.{is_none}
use Rattle.am_wire.specs.RoundTrip.Plain.{writes_none}
use Rattle.am_wire.proofs.Offsets.{stands_grown}
use Rattle.am_wire.proofs.Passings.{both, whole}
use Rattle.am_wire.specs.Expiring.{writes_expiring}
use Rattle.am_wire.specs.Passing.{Passing, Passes}
use Rattle.am_wire.specs.Timestamps.{writes_moment}
use Rattle.am_wire.specs.Varint.{shortest}
use Rattle.am_wire.specs.Writing.{tag, writes_delimited}
use Rattle.am_nflog.proofs.Spelling.{spelled_is}
use Rattle.am_nflog.specs.declared.canonical.CanonicalEntry.{CanonicalEntry}
use Rattle.am_nflog.specs.declared.entry.Entry.{Entry}
use Rattle.am_nflog.specs.declared.offsets.Offsets.{Offsets}
use Rattle.am_nflog.specs.Canonical.{IsCanonical, PassesEntry}
use Rattle.am_nflog.specs.Entries.{writes_entry}
use Rattle.am_nflog.specs.Mesh.{Mesh, IsMesh, entry_numbers, plain_version, without_unknown, writes_mesh_entry}
use Rattle.am_nflog.specs.Offsets.{StandAt}

-- what stands in a text stands in a longer one
stand_grown : (entry : Entry) (places : Offsets) (text more grown : List ℕ) → StandAt entry places text → grown ≡ text ++ more → StandAt entry places grown
stand_grown entry places text more grown h is = record {
  group_hash = stands_grown h.group_hash more is;
  firing_alerts = stands_grown h.firing_alerts more is;
  resolved_alerts = stands_grown h.resolved_alerts more is;
}

module _ (text : List ℕ) (parts : CanonicalEntry) (moment size : ℕ) (start front mid done : Passing)
    (begins : start ≡ record { text = text; passed = [] })
    (prefix : Passes (tag 1 2 ++ shortest size) start front)
    (h : PassesEntry parts front mid)
    (counts : length mid.passed - length front.passed ≡ size)
    (expires : Passes (writes_delimited 2 (writes_moment moment)) mid done)
    (within : moment ≤ greatest)
    (over : done.passed ≡ done.text)
    (small : length text ≤ 2 ^ 63) where
  version : Mesh
  version = plain_version h.entry moment

  all : Passes (writes_expiring (writes_entry h.entry) moment) start done
  all = both (writes_delimited 1 (writes_entry h.entry)) (writes_delimited 2 (writes_moment moment)) start mid done
      (whole 1 size (writes_entry h.entry) start front mid prefix h.passes counts) expires

  passed : text ≡ done.passed
  passed = sym (ap (λ (p : Passing). p.text) begins) ∙ sym all.text ∙ sym over

  written : text ≡ writes_mesh_entry version
  unfolding version writes_mesh_entry
  written = passed ∙ all.passed ∙ ap (λ (p : Passing). p.passed ++ writes_expiring (writes_entry h.entry) moment) begins
      ∙ sym (writes_none (writes_entry h.entry) moment)

  is_mesh : IsMesh version
  unfolding version
  is_mesh = record { entry = h.value; expires_at = within; unknown = is_none entry_numbers; size = rw (← written) small }

  pub is_canonical : IsCanonical text parts moment
  unfolding version
  is_canonical =
      let back = sym (spelled_is version text is_mesh written) in
      let places = stand_grown h.entry parts.places mid.passed (writes_delimited 2 (writes_moment moment)) text h.places (passed ∙ expires.passed) in
      record {
        canonical = written ∙ ap writes_mesh_entry back;
        value = subst IsMesh back is_mesh;
        plain = ap without_unknown (sym back) ∙ back;
        key = h.key ∙ ap (λ (m : Mesh). m.entry.key) back;
        resolved = h.resolved ∙ ap (λ (m : Mesh). m.entry.resolved) back;
        timestamp = h.timestamp ∙ ap (λ (m : Mesh). m.entry.timestamp) back;
        expires_at = ap (λ (m : Mesh). m.expires_at) back;
        places = subst (λ (m : Mesh). StandAt m.entry parts.places text) back places;
      }
