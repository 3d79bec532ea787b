-- The order of log keys: group key, group name, integration, byte by byte, then the index as a number.
use Rattle.std.specs.Prelude.{◌≡◌, Bool, nat_eq}
use Rattle.std.specs.declared.cmp.Ordering.{Ordering}
use Rattle.std.specs.declared.cmp.Ordering.TheVariants.{Less, Equal, Greater}
use Rattle.std.specs.Ordering.{nat_cmp, ordering_then, on, then_cmp, eq_of_both}
use Rattle.std.specs.Cmp.Lexicographic.{pointwise, slice_cmp}
use Rattle.std.proofs.Common.{refl, sym}
use Rattle.std.proofs.lemmas.Cmp.{ranked}
use Rattle.std.proofs.lemmas.Map.Lookups.{exact_bytes}
use Rattle.am_nflog.specs.declared.receiver.Receiver.{Receiver}
use Rattle.am_nflog.specs.LogKeys.{LogKey}

-- the order of receivers
abbrev pub receiver_cmp : Receiver → Receiver → Ordering
receiver_cmp =
    then_cmp (on (λ r. r.group_name) (slice_cmp nat_cmp)) (then_cmp (on (λ r. r.integration) (slice_cmp nat_cmp)) (on (λ r. r.idx) nat_cmp))

-- the order of keys
abbrev pub key_cmp : LogKey → LogKey → Ordering
key_cmp =
    then_cmp (on (λ k. k.group_key) (slice_cmp nat_cmp))
    (then_cmp (on (λ k. k.receiver.group_name) (slice_cmp nat_cmp))
    (then_cmp (on (λ k. k.receiver.integration) (slice_cmp nat_cmp)) (on (λ k. k.receiver.idx) nat_cmp)))

-- the keys are equal, which means that all their parts are
abbrev pub key_eq : LogKey → LogKey → Bool
key_eq =
    eq_of_both (on (λ k. k.group_key) (pointwise nat_eq))
    (eq_of_both (on (λ k. k.receiver.group_name) (pointwise nat_eq))
    (eq_of_both (on (λ k. k.receiver.integration) (pointwise nat_eq)) (on (λ k. k.receiver.idx) nat_eq)))

then_equal : (a b : Ordering) → ordering_then a b ≡ Equal → (a ≡ Equal) × (b ≡ Equal)
then_equal Less b h = absurd cc
then_equal Equal b h = (refl, h)
then_equal Greater b h = absurd cc

-- keys that compare as equal are the same
pub exact_keys : (j k : LogKey) → key_cmp j k ≡ Equal → j ≡ k
exact_keys j k e =
    let a = then_equal _ _ e in
    let b = then_equal _ _ a.1 in
    let c = then_equal _ _ b.1 in
    let group_key = exact_bytes _ _ a.0 in
    let group_name = exact_bytes _ _ b.0 in
    let integration = exact_bytes _ _ c.0 in
    let idx : j.receiver.idx ≡ k.receiver.idx = ranked _ _ Equal (sym c.1) in
    λ i. record { group_key = group_key i; receiver = record { group_name = group_name i; integration = integration i; idx = idx i } }
